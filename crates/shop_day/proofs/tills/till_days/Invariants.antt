use Rattle.std.proofs.Common.{◌≡◌, map, All}
use Rattle.std.specs.Prelude.{filter}
use Rattle.std.specs.List.{range_with_len}
use Rattle.sender_beside.specs.Tills.{has_asks}
use Rattle.shop_day.specs.TillJobs.{HasRoom}
use Rattle.shop_day.proofs.tills.till_days.Given as goal

abbrev pub invariant-loop-before : goal.invariant-loop-before
invariant-loop-before l = record {
  tills : map (λ d. d.till) l.days.items ≡ filter (has_asks l.asks) (range_with_len 1 l.before);
  room : All (HasRoom l.asks) l.days.items;
}
