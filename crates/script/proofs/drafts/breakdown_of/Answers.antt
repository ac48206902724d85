use Rattle.std.proofs.Common.{refl}
use Rattle.script.proofs.Parties.{lines_yes, lines_no}
use Rattle.script.proofs.drafts.breakdown_of.Goals as goal

pub returns-in-Ok : goal.returns-in-Ok
returns-in-Ok c = rw (lines_yes c.args.lines.now c.in-Ok.ensures.0, c.in-Ok.ensures.1) refl

pub returns-in_default : goal.returns-in_default
returns-in_default c = rw (lines_no c.args.lines.now c.in-Err.fault c.in_default.not-NoMemory c.in-Err.ensures) refl
