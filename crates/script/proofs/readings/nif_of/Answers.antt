use Rattle.std.proofs.Common.{ap, refl, Some}
use Rattle.script.proofs.Parties.{nif_yes, nif_no}
use Rattle.script.proofs.readings.nif_of.Goals as goal

pub returns-in-Ok : goal.returns-in-Ok
returns-in-Ok c = rw (nif_yes c.args.text.now c.in-Ok.ensures.0) (ap Some c.in-Ok.ensures.1)

pub returns-in-Err : goal.returns-in-Err
returns-in-Err c = rw (nif_no c.args.text.now c.in-Err.field-0 c.in-Err.ensures) refl
