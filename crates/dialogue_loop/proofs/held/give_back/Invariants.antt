use Rattle.std.proofs.Common.{◌≡◌, ◌≤◌, ◌+◌, ◌++◌, List, length, map, All}
use Rattle.std.specs.Prelude.{reverse, vec_len}
use Rattle.till_calls.specs.declared.tills.Till.{Till}
use Rattle.till_calls.specs.Shop.{seat_knows, seat_shop, tills_know, numbers, till_knows, till_shop, tills_shop, made_tills}
use Rattle.dialogue_loop.proofs.held.give_back.Given as goal

abbrev pub invariant-loop-till : goal.invariant-loop-till
invariant-loop-till g l = record {
  shop : tills_shop l.tills ≡ tills_shop l.fn.tills;
  made : made_tills l.tills ≡ made_tills l.fn.tills;
  back : (out : List (Till g.row.D.Denot g.row.C.Denot)) × (l.fn.held.items ≡ l.held.items ++ out) × (tills_know l.tills ≡ reverse (map till_knows out));
  count : length (numbers l.tills) + vec_len l.held ≤ made_tills l.tills;
  seat : (seat_shop l.seat ≡ seat_shop l.fn.seat) ×
      (seat_knows l.seat ≡ record (seat_knows l.fn.seat) { least = (seat_knows l.seat).least });
  told : All (λ k. k.least ≤ (seat_knows l.seat).least) (tills_know l.tills);
  own : All (λ t. till_shop t ≡ tills_shop l.tills) l.held.items;
}

abbrev pub decreases-loop-till : goal.decreases-loop-till
decreases-loop-till g l = goal.left-loop-till g l
