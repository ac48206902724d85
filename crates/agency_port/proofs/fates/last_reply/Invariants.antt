use Rattle.std.proofs.Common.{◌≡◌, length}
use Rattle.agency_port.specs.Practice.{last_reply}
use Rattle.agency_port.proofs.fates.last_reply.Given as goal

abbrev pub invariant-loop-last : goal.invariant-loop-last
invariant-loop-last l = last_reply l.rest ≡ last_reply l.log

abbrev pub decreases-loop-last : goal.decreases-loop-last
decreases-loop-last l = length l.rest
