use Rattle.std.proofs.Common.{◌≡◌, take}
use Rattle.agency_port.specs.Answers.{looked}
use Rattle.agency_port.proofs.delivering.look.Given as goal

abbrev pub invariant-loop-i : goal.invariant-loop-i
invariant-loop-i l = l.seen.items ≡ looked l.pairs (take l.i l.huellas)
