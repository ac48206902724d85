use Rattle.std.proofs.Common.{◌≡◌, ◌≤◌, length, map, take, vec_capacity}
use Rattle.shop_day.proofs.tills.numbers_of.Given as goal

abbrev pub invariant-loop-day : goal.invariant-loop-day
invariant-loop-day l = record {
  items : l.list.items ≡ map (λ d. d.till) (take l.day-index l.days);
  room : length l.days ≤ vec_capacity l.list;
}
