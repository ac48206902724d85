use Rattle.std.proofs.Common.{◌≡◌, ◌+◌, ℕ, List}
use Rattle.chain_lock.specs.Lists.{EachOf, placed, times, total}
use Rattle.chain_lock.specs.Rule.{FitsAll, IsAtRest}
use Rattle.chain_lock.proofs.close.join_all.Given as goal

abbrev pub invariant-loop-seat : goal.invariant-loop-seat
invariant-loop-seat g l = record {
  table : l.place.table_id ≡ l.board.shared.table_id;
  rest : IsAtRest l.place.me;
  list : EachOf (λ p. p.place.table_id ≡ l.board.shared.table_id) l.list.items;
  fits : (log : List g.row.V-Item.Denot) → FitsAll log l.place.me.0
      → FitsAll log l.fn.place.me.0 × (EachOf (λ p. FitsAll log p.place.me.0) l.list.items →
      EachOf (λ p. FitsAll log p.place.me.0) l.fn.list.items);
  numbers : (n : ℕ) → times n l.place.me.0.numbers + total (λ p. times n p.place.me.0.numbers) l.list.items ≡ times n
      l.fn.place.me.0.numbers + total (λ p. times n p.place.me.0.numbers) l.fn.list.items;
  places : (n : ℕ) → placed n l.place.me.0.own + total (λ p. placed n p.place.me.0.own) l.list.items ≡ placed n
      l.fn.place.me.0.own + total (λ p. placed n p.place.me.0.own) l.fn.list.items;
}

abbrev pub decreases-loop-seat : goal.decreases-loop-seat
decreases-loop-seat g l = goal.left-loop-seat g l
