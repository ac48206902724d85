use Rattle.std.proofs.Common.{sym, ◌∙◌, ap, false, Option}
use Rattle.std.specs.Option.{option_map_or}
use Rattle.record_fields.specs.declared.lines.Line.{Line}
use Rattle.series.specs.declared.numbers.InvoiceId.{InvoiceId}
use Rattle.shop_core.specs.History.{recs}
use Rattle.shop_core.specs.Places.{is_place, last_place}
use Rattle.shop_core.specs.Standing.{is_incorrecto}
use Rattle.report.proofs.Choosing.{answered_by_none}
use Rattle.report.proofs.chosen.is_chosen.Goals as goal

pub returns-then-is_refusal : goal.returns-then-is_refusal
returns-then-is_refusal c =
    let entries = c.args.state.now.entries in
    answered_by_none c.args.choice entries c.args.place c.args.sealed.now c.is_last.result c.in-Refused.is
    (ap (λ (line : Option Line). option_map_or is_incorrecto line false) (sym c.line-in-Refused.ensures)
    ∙ sym c.is_refusal.ensures ∙ c.if-is_refusal.true)
    c.requires
    (c.is_last.ensures ∙ ap (λ (id : InvoiceId). is_place (last_place (recs entries) id.num) c.args.place) c.id.ensures)
