use Rattle.std.proofs.Common.{sym, subst, List}
use Rattle.agency_rules.specs.declared.plans.PlannedFate.{PlannedFate}
use Rattle.script.specs.Tables.{AreCallsOf}
use Rattle.script.proofs.Tabling.{one_more_call}
use Rattle.script.proofs.planned.FateLines.add.Goals as goal

pub invariant_of-self-2 : goal.invariant_of-self-2
invariant_of-self-2 c =
    let before = c.reserve.new.self.items in
    let kept = subst (λ (fates : List PlannedFate). AreCallsOf fates c.self.inside.calls) (sym c.reserve.ensures.items)
    c.self.invariant in
    rw c.push_reserved.ensures.items (one_more_call before c.args.fate c.self.inside.calls c.insert.new.self kept
    c.in_ok-insert.ensures.updates)
