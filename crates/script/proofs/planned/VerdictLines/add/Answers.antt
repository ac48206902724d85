use Rattle.std.proofs.Common.{sym, subst, List}
use Rattle.agency_rules.specs.declared.plans.PlannedVerdict.{PlannedVerdict}
use Rattle.script.specs.Tables.{AreRecordsOf}
use Rattle.script.proofs.Tabling.{one_more_record}
use Rattle.script.proofs.planned.VerdictLines.add.Goals as goal

pub invariant_of-self-2 : goal.invariant_of-self-2
invariant_of-self-2 c =
    let before = c.reserve.new.self.items in
    let kept = subst (λ (verdicts : List PlannedVerdict). AreRecordsOf verdicts c.self.inside.records)
    (sym c.reserve.ensures.items) c.self.invariant in
    rw c.push_reserved.ensures.items (one_more_record before c.args.verdict c.self.inside.records c.insert.new.self kept
    c.in_ok-insert.ensures.updates)
