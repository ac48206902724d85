use Rattle.std.proofs.Common.{◌≡◌, ◌<◌, ◌+◌, [], false, length, vec_len, vec_capacity, ℕ}
use Rattle.chain_lock.specs.Lists.{EachOf, times, total}
use Rattle.chain_lock.specs.Known.{IsNew}
use Rattle.chain_lock.specs.Rule.{known_of}
use Rattle.chain_lock.proofs.open.deal.Given as goal

abbrev pub invariant-loop-made : goal.invariant-loop-made
invariant-loop-made g l = record {
  table : l.place.table_id ≡ l.board.shared.table_id;
  rest : (l.place.me.1 ≡ []) × (l.place.me.0.turning ≡ false);
  left : length l.place.me.0.numbers + l.made ≡ l.fn.passes + 1;
  new : IsNew (g.V.Recorded.items l.value.value) (g.V.Recorded.root l.value.value) (known_of l.place.me.0);
  count : vec_len l.list + 1 ≡ l.made;
  room : vec_capacity l.list ≡ vec_capacity l.fn.list;
  each : EachOf (λ p. (p.place.table_id ≡ l.board.shared.table_id) × IsNew (g.V.Recorded.items l.value.value)
      (g.V.Recorded.root l.value.value) (known_of p.place.me.0)) l.list.items;
  whole : (n : ℕ) → n < l.fn.passes → total (λ p. times n p.place.me.0.numbers) l.list.items + times n l.place.me.0.numbers ≡ 1;
}
