use Rattle.std.proofs.Common.{◌≡◌, drop}
use Rattle.sender.specs.Evidence.{said_in}
use Rattle.sender.proofs.evidence.said_of.Given as goal

-- what is said of it stands among the Huellas that are left
abbrev pub invariant-loop-i : goal.invariant-loop-i
invariant-loop-i l = said_in l.reply.huellas l.reply.lines l.huella ≡ said_in (drop l.i l.reply.huellas) (drop l.i l.reply.lines)
    l.huella
