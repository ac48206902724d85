use Rattle.std.proofs.Common.{map, take}
use Rattle.many_issuers.specs.Dones.{AllEndWell}
use Rattle.many_issuers.proofs.printing.first_bad.Given as goal

abbrev pub invariant-loop-index : goal.invariant-loop-index
invariant-loop-index g l = AllEndWell (map (λ d. d.end) (take l.index l.dones))
