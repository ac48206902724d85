use Rattle.std.proofs.Common.{◌∙◌, sym, ap}
use Rattle.agency_rules.specs.declared.judging.Past.{Past}
use Rattle.agency_rules.specs.Judging.{past_after}
use Rattle.agency_rules.proofs.Pasts.{past_next, after_refused, after_accepted}
use Rattle.agency_rules.proofs.judging.Past.after.Goals as goal

pub returns-then-not-is_accepted-clause-next : goal.returns-then-not-is_accepted-clause-next
returns-then-not-is_accepted-clause-next c processed s same here =
    after_refused c.args.self c.args.body.now c.args.line.now (sym c.is_accepted.ensures ∙ c.if-not-is_accepted.true)
    ∙ ap (λ (p : Past). past_after p c.args.body.now c.args.line.now) here ∙ past_next processed s c.args.line.now c.args.body.now
    same

pub returns-clause-next : goal.returns-clause-next
returns-clause-next c processed s same here =
    after_accepted c.args.self c.args.body.now c.args.line.now c.is_alta-held.result (sym c.is_accepted.ensures ∙
    c.if-not-is_accepted.false) c.is_alta-held.ensures
    ∙ ap (λ (p : Past). past_after p c.args.body.now c.args.line.now) here ∙ past_next processed s c.args.line.now c.args.body.now
    same
