use Rattle.std.proofs.Common.{◌≡◌, take, length}
use Rattle.agency_rules.specs.Pairs.{delivered_all}
use Rattle.agency_port.specs.Practice.{late_for}
use Rattle.agency_port.proofs.delivering.deliver_late.Given as goal

abbrev pub invariant-loop-i : goal.invariant-loop-i
invariant-loop-i l = record {
  so_far : l.pairs ≡ delivered_all l.verdicts l.initial.pairs (late_for l.call (take l.i l.log));
  front : take (length l.initial.pairs) l.pairs ≡ l.initial.pairs;
}
