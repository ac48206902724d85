use Rattle.std.proofs.Common.{length, string_bytes, arith, ap, Global}
use Rattle.verifactu.proofs.Paired.{added, after_first, one_longer}
use Rattle.verifactu.proofs.pairs.+add_pairs.Goals as goal

pub add-requires : goal.add-requires
add-requires t c = c.is_full.ensures.room c.if-is_full.false

pub returns-in-Ok-clause-pairs : goal.returns-in-Ok-clause-pairs
returns-in-Ok-clause-pairs t c = λ yes.
    let h = c.add_pairs.ensures.pairs yes in
    added (string_bytes {Z = Global}) c.args.words.now c.in-Some.others.now c.in-Some-split_first.rest.now c.in-Some.file.now
    c.in-Some-split_first.nif.now c.in-Some.ensures.cases.0 c.in-Some-split_first.ensures.cases.0 c.as_str.result.now c.in-Ok.nif
    c.args.nifs.now c.add.new.self c.add_pairs.new.nifs h.0 (c.is_unnamed.ensures.no c.if-is_unnamed.false)
    c.as_str.ensures.value c.in-Ok.ensures c.add.ensures h.1 h.2

pub returns-in-Ok-clause-none : goal.returns-in-Ok-clause-none
returns-in-Ok-clause-none t c = λ no own are few.
    let b = after_first (string_bytes {Z = Global}) c.args.words.now c.in-Some.others.now c.in-Some-split_first.rest.now
    c.in-Some.file.now c.in-Some-split_first.nif.now c.in-Some.ensures.cases.0 c.in-Some-split_first.ensures.cases.0 own are in
    let longer = one_longer c.args.nifs.now c.add.new.self c.in-Ok.nif c.add.ensures in
    let size = ap length b.is in
    c.add_pairs.ensures.none no b.more b.pairs (omega (arith, few, longer, size))
