use Rattle.std.specs.Int.{w64}
use Rattle.std.proofs.Common.{append_assoc, rules}
use Rattle.std.proofs.lemmas.Int.{to_z-of_z}
use Rattle.report.proofs.statements.put_amounts.Goals as goal

pub returns : goal.returns
returns c =
    let base = to_z-of_z w64 c.args.row.now.base (search rules) in
    let tax = to_z-of_z w64 c.args.row.now.tax (search rules) in
    let surcharge = to_z-of_z w64 c.args.row.now.surcharge (search rules) in
    let told = rw (surcharge, c.in_ok-put_spaced-2.ensures, tax, c.in_ok-put_spaced.ensures, base) at c.put_spaced-3.ensures in
    simp append_assoc (simp append_assoc at told)
