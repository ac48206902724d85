use Rattle.std.proofs.Common.{◌∙◌, ℕ, ap, sym, subst, max}
use Rattle.std.proofs.lemmas.Bool.{false≢true}
use Rattle.stamps.specs.Clock.{IsStampSeconds}
use Rattle.shop_core.specs.Answer.Refusals.{in_range}
use Rattle.shop_core.specs.History.{last_seconds}
use Rattle.shop_core.specs.declared.answer.refusals.Refusal.TheVariants.{ClockRange}
use Rattle.shop_core.proofs.Legality.{unless_none}
use Rattle.shop_core.proofs.Remade.{in_range_then, is_stamp_seconds}
use Rattle.shop_core.proofs.answer.plans.next_moment.Goals as goal

pub unreachable-requires : goal.unreachable-requires
unreachable-requires c =
    let s = c.args.state.now in
    let reading = unless_none (in_range c.args.seconds) (ClockRange c.args.seconds) c.requires.in_range in
    let top = is_stamp_seconds (max c.args.seconds (last_seconds s.entries))
    (in_range_then s.version s.issuer s.entries c.args.seconds c.is_legal.ensures reading) in
    let at = c.max.ensures ∙ ap (max c.args.seconds) c.requires.last in
    false≢true (c.in_default.ensures.range.1 (subst (λ (n : ℕ). IsStampSeconds n) (sym at) top))
