use Rattle.std.specs.Int.{w64}
use Rattle.std.proofs.Common.{append_assoc, rules}
use Rattle.std.proofs.lemmas.Int.{to_z-of_z}
use Rattle.report.proofs.summary.put_amounts.Goals as goal

pub returns : goal.returns
returns c =
    let bases = to_z-of_z w64 c.args.sums.bases (search rules) in
    let cuotas = to_z-of_z w64 c.args.sums.cuotas (search rules) in
    let told = rw (c.in_ok-put_amount-2.ensures, cuotas, c.in_ok-put-2.ensures, c.in_ok-put_amount.ensures, bases, c.in_ok-put.ensures) at c.put-3.ensures in
    simp append_assoc (simp append_assoc at told)
