use Rattle.std.proofs.Common.{length, string_bytes, arith, ap, Global}
use Rattle.verifactu.proofs.Paired.{after_first, some_pairs}
use Rattle.verifactu.proofs.pairs.read_first.Goals as goal

pub returns-in-Ok-clause-some : goal.returns-in-Ok-clause-some
returns-in-Ok-clause-some c =
    some_pairs (string_bytes {Z = Global}) c.args.words.now c.in-Some.others.now c.in-Some-split_first.rest.now c.in-Some.file.now
    c.in-Some-split_first.nif.now c.in-Some.ensures.cases.0 c.in-Some-split_first.ensures.cases.0 c.as_str.result.now c.in-Ok.nif
    c.read_from.result (c.is_unnamed.ensures.no c.if-is_unnamed.false) c.as_str.ensures.value c.in-Ok.ensures
    c.read_from.ensures.some

pub returns-in-Ok-clause-none : goal.returns-in-Ok-clause-none
returns-in-Ok-clause-none c = λ no own are one few.
    let b = after_first (string_bytes {Z = Global}) c.args.words.now c.in-Some.others.now c.in-Some-split_first.rest.now
    c.in-Some.file.now c.in-Some-split_first.nif.now c.in-Some.ensures.cases.0 c.in-Some-split_first.ensures.cases.0 own are in
    let size = ap length b.is in
    c.read_from.ensures.none no b.more b.pairs (omega (arith, few, size))
