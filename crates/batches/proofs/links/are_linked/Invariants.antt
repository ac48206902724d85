use Rattle.std.proofs.Common.{◌≤◌, ◌-◌, drop}
use Rattle.record_fields.specs.Links.{LinkedRun}
use Rattle.batches.proofs.links.are_linked.Given as goal

abbrev pub invariant-loop-i : goal.invariant-loop-i
invariant-loop-i l = record {
  from_1 : 1 ≤ l.i;
  so_far : LinkedRun (drop (l.i - 1) l.records) → LinkedRun l.records;
}
