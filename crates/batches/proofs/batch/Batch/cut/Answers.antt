use Rattle.std.proofs.Common.{List, sym, ◌∙◌, subst}
use Rattle.record_fields.specs.declared.records.Sealed.{Sealed}
use Rattle.batches.specs.Batches.{IsBatch}
use Rattle.batches.proofs.Runs.{cut_is_batch, some_of}
use Rattle.batches.proofs.batch.Batch.cut.Goals as goal

pub invariant_of-result : goal.invariant_of-result
invariant_of-result c = subst (λ (xs : List Sealed). IsBatch xs) (sym (c.in_ok-copied_records.ensures ∙ c.first_of.ensures))
    (cut_is_batch c.args.waiting.now (some_of _ (sym c.if-is_empty.ensures)) c.requires)
