use Rattle.std.proofs.Common.{◌≡◌, ◌≤◌, take}
use Rattle.agency_rules.specs.Judging.{past_of}
use Rattle.agency_rules.proofs.pairs.past_in.Given as goal

abbrev pub invariant-loop-i : goal.invariant-loop-i
invariant-loop-i l = record {
  same : l.past ≡ past_of (take l.i l.pairs) l.id;
  few : l.past.count ≤ l.i;
}
