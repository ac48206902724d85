use Rattle.std.proofs.Common.{ℕ, ◌∙◌, sym, ap, Option, option_map}
use Rattle.std.specs.Option.{option_map_or}
use Rattle.huella.specs.Texts.{sealed_of}
use Rattle.record_codec.specs.declared.entry.Entry.TheVariants.{Rec}
use Rattle.shop_core.specs.Answer.Requests.{Asked}
use Rattle.shop_core.specs.Answer.Making.{record_at}
use Rattle.shop_core.specs.Answer.Plans.{kept}
use Rattle.shop_core.specs.Answer.Refusals.{unknown}
use Rattle.shop_core.specs.declared.answer.Planned.TheVariants.{Refused, Made}
use Rattle.shop_core.specs.declared.answer.refusals.Refusal.TheVariants.{HuellaTwice}
use Rattle.shop_core.proofs.Legality.{no_early}
use Rattle.shop_core.proofs.Planning.{Seen, seen_answer}
use Rattle.shop_core.proofs.Remade.{room_left, made_continues}
use Rattle.shop_core.proofs.answer.plans.plan_asking.Goals as goal

pub next_moment-moment-requires-clause-in_range : goal.next_moment-moment-requires-clause-in_range
next_moment-moment-requires-clause-in_range c =
    (no_early c.args.state.now.version c.args.state.now.entries c.args.ask.now c.args.seconds (sym c.early_refusal.ensures ∙
    c.in_default-early_refusal.is)).in_time

pub made_sealed-requires-clause-room : goal.made_sealed-requires-clause-room
made_sealed-requires-clause-room c =
    room_left c.args.state.now.entries (no_early c.args.state.now.version c.args.state.now.entries c.args.ask.now c.args.seconds
    (sym c.early_refusal.ensures ∙ c.in_default-early_refusal.is)).not_full

pub made_sealed-requires-clause-known : goal.made_sealed-requires-clause-known
made_sealed-requires-clause-known c =
    ap (λ (a : Asked). unknown c.args.state.now.entries a.request) c.ask.view_is
    ∙ (no_early c.args.state.now.version c.args.state.now.entries c.args.ask.now c.args.seconds (sym c.early_refusal.ensures ∙
    c.in_default-early_refusal.is)).known

pub returns-in-Some-place_of-clause-answer : goal.returns-in-Some-place_of-clause-answer
returns-in-Some-place_of-clause-answer c =
    let s = c.args.state.now in
    let ask = c.args.ask.now in
    let sealed = c.in_ok-sealed.sealed in
    let seen : Seen s.version s.issuer s.entries ask c.args.seconds sealed c.place_of.result = record {
      not_kept = sym (c.kept.ensures ∙ ap (λ (a : Asked). kept s.entries a.till a.serial) c.ask.view_is) ∙ c.in_default.is;
      no_early = sym c.early_refusal.ensures ∙ c.in_default-early_refusal.is;
      moment = c.next_moment-moment.result;
      at = c.next_moment-moment.ensures;
      made = c.in_ok-sealed.ensures ∙ ap (λ (a : Asked). sealed_of (record_at s.issuer s.entries a.request
          c.next_moment-moment.result.seconds)) c.ask.view_is;
      found = c.place_of.ensures;
    } in
    ap (λ (o : Option ℕ). option_map_or Refused (option_map HuellaTwice o) (Made (Rec ask.till ask.serial sealed)))
    (sym c.in-Some-place_of.is)
    ∙ seen_answer s.version s.issuer s.entries ask c.args.seconds sealed c.place_of.result seen

pub returns-clause-answer : goal.returns-clause-answer
returns-clause-answer c =
    let s = c.args.state.now in
    let ask = c.args.ask.now in
    let sealed = c.in_ok-sealed.sealed in
    let seen : Seen s.version s.issuer s.entries ask c.args.seconds sealed c.place_of.result = record {
      not_kept = sym (c.kept.ensures ∙ ap (λ (a : Asked). kept s.entries a.till a.serial) c.ask.view_is) ∙ c.in_default.is;
      no_early = sym c.early_refusal.ensures ∙ c.in_default-early_refusal.is;
      moment = c.next_moment-moment.result;
      at = c.next_moment-moment.ensures;
      made = c.in_ok-sealed.ensures ∙ ap (λ (a : Asked). sealed_of (record_at s.issuer s.entries a.request
          c.next_moment-moment.result.seconds)) c.ask.view_is;
      found = c.place_of.ensures;
    } in
    ap (λ (a : Asked). Made (Rec a.till a.serial sealed)) c.ask.view_is
    ∙ ap (λ (o : Option ℕ). option_map_or Refused (option_map HuellaTwice o) (Made (Rec ask.till ask.serial sealed)))
    (sym c.in_default-place_of.is)
    ∙ seen_answer s.version s.issuer s.entries ask c.args.seconds sealed c.place_of.result seen

pub returns-clause-continues : goal.returns-clause-continues
returns-clause-continues c entry e =
    made_continues c.series_is_read_back.ensures c.args.state.now.version c.args.state.now.issuer c.args.state.now.entries
    c.args.ask.now c.args.seconds entry c.is_legal.ensures c.is_valid.ensures
    (sym (returns-clause-answer c) ∙ e)
