use Rattle.std.proofs.Common.{◌≡◌, ◌≤◌, vec_capacity}
use Rattle.std.specs.List.{range_with_len}
use Rattle.dialogue_loop.proofs.held.all_numbers.Given as goal

abbrev pub invariant-loop-before : goal.invariant-loop-before
invariant-loop-before l = record {
  items : l.list.items ≡ range_with_len 1 l.before;
  room : 64 ≤ vec_capacity l.list;
}
