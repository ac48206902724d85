use Rattle.std.proofs.Common.{◌∙◌, sym, ap, length}
use Rattle.std.proofs.lemmas.List.{length-map}
use Rattle.record_fields.specs.declared.records.Sealed.{Sealed}
use Rattle.agency_port.proofs.Deliveries.{length-answers}
use Rattle.agency_port.proofs.fates.reply_to.Goals as goal

pub of-requires-2 : goal.of-requires-2
of-requires-2 c =
    ap length c.in_ok-lines.ensures.said ∙ length-answers c.args.plan.now.verdicts c.args.pairs.now c.as_slice-2.result.now
    ∙ ap length (c.as_slice-2.ensures.value ∙ sym c.as_slice.ensures.value)
    ∙ sym (ap length c.in_ok-huellas.ensures ∙ length-map c.as_slice.result.now (λ (s : Sealed). s.huella))
