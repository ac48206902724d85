use Rattle.std.proofs.Common.{◌≡◌, take}
use Rattle.agency_rules.proofs.pairs.Pairs.of.Given as goal

abbrev pub invariant-loop-i : goal.invariant-loop-i
invariant-loop-i l = l.list ≡ take l.i l.pairs
