use Rattle.std.proofs.Common.{◌≡◌, ◌≤◌, ◌+◌, ◌++◌, length, map, vec_capacity, All}
use Rattle.std.specs.Prelude.{reverse, vec_len}
use Rattle.till_calls.specs.Shop.{tills_know, numbers, till_knows, till_number, till_shop, tills_shop, made_tills}
use Rattle.dialogue_loop.proofs.held.hold_all.Given as goal

abbrev pub invariant-loop-till : goal.invariant-loop-till
invariant-loop-till g l = record {
  shop : tills_shop l.tills ≡ tills_shop l.fn.tills;
  made : made_tills l.tills ≡ made_tills l.fn.tills;
  row : numbers l.tills ++ reverse (map till_number l.held.items) ≡ numbers l.fn.tills;
  knows : tills_know l.tills ++ reverse (map till_knows l.held.items) ≡ tills_know l.fn.tills;
  space : length (numbers l.tills) + vec_len l.held ≤ vec_capacity l.held;
  own : All (λ t. till_shop t ≡ tills_shop l.fn.tills) l.held.items;
}

abbrev pub decreases-loop-till : goal.decreases-loop-till
decreases-loop-till g l = length (numbers l.tills)
