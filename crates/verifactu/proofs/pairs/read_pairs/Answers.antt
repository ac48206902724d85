use Rattle.std.proofs.Common.{◌∙◌, ap, length, map, string_bytes, subst, sym, arith, Global}
use Rattle.verifactu.specs.Pairs.{AreApart}
use Rattle.verifactu.proofs.Paired.{one_list}
use Rattle.verifactu.proofs.pairs.read_pairs.Goals as goal

pub returns-then-as_slice-lt2 : goal.returns-then-as_slice-lt2
returns-then-as_slice-lt2 c = λ issuers p.
    let same = one_list (map (string_bytes {Z = Global}) c.args.words.now) issuers c.in-Some.nifs p.pairs c.in-Some.ensures.some in
    let size = ap length (same ∙ sym c.as_slice.ensures.all) in
    let few = c.if-as_slice-lt2.true in
    let several = p.several in
    omega (arith, size, few, several)

pub returns-then-not-nifs_apart : goal.returns-then-not-nifs_apart
returns-then-not-nifs_apart c = λ issuers p.
    let same = one_list (map (string_bytes {Z = Global}) c.args.words.now) issuers c.in-Some.nifs p.pairs c.in-Some.ensures.some in
    let yes = c.nifs_apart.ensures.1 (subst AreApart (same ∙ sym c.as_slice-2.ensures.all) p.issuers_apart) in
    let no = c.if-not-nifs_apart.true in
    cc
