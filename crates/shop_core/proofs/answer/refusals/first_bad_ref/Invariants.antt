use Rattle.std.proofs.Common.{◌≡◌, ◌+◌, ◌≤◌, length, not}
use Rattle.std.specs.List.{position_from}
use Rattle.series.specs.declared.numbers.InvoiceId.{InvoiceId}
use Rattle.shop_core.specs.Standing.{is_simplified_held}
use Rattle.shop_core.proofs.answer.refusals.first_bad_ref.Given as goal

abbrev pub invariant-loop-rest : goal.invariant-loop-rest
invariant-loop-rest l = record {
  same : position_from (λ (id : InvoiceId). not (is_simplified_held l.state.entries id)) l.index l.rest
      ≡ position_from (λ (id : InvoiceId). not (is_simplified_held l.state.entries id)) 0 l.refs;
  room : l.index + length l.rest ≤ 8;
}

abbrev pub decreases-loop-rest : goal.decreases-loop-rest
decreases-loop-rest l = length l.rest
