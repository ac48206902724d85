use Rattle.std.proofs.Common.{◌≡◌, ◌∙◌, ℕ, ap, subst, List, Option}
use Rattle.record_fields.specs.declared.lines.Line.{Line}
use Rattle.record_fields.specs.declared.records.Sealed.{Sealed}
use Rattle.agency_rules.specs.Plans.{fate_at}
use Rattle.agency_rules.specs.declared.plans.Fate.{Fate}
use Rattle.agency_port.specs.Practice.{Practice, number, seen_by, consultation_answer}
use Rattle.agency_port.proofs.Submissions.{same_fate, same_before}
use Rattle.agency_port.proofs.practice.PracticeAgency.try_consultation.Goals as goal

pub returns-clause-said : goal.returns-clause-said
returns-clause-said c =
    let s = c.self.inside in
    let log = s.entries.items in
    let fate = c.in_ok-fate.fate in
    let found = c.in_ok-fate.ensures in
    let now = c.fate_before.new.pairs in
    let huellas = c.args.huellas.now.huellas in
    subst (λ (x : Practice). c.in_ok-answer.answer ≡ consultation_answer x huellas) c.self.view_is (
    c.in_ok-answer.ensures ∙ ap (λ (hs : List (List ℕ)). seen_by fate now hs) c.list.ensures
    ∙ ap (λ (f : Option Fate). seen_by f now huellas) (same_fate s.plan log s.calls fate c.self.invariant found.fate)
    ∙ ap (λ (ps : List (Sealed × Line)). seen_by (fate_at s.plan.fates (number log)) ps huellas)
    (same_before s.plan s.pairs now log c.deref.result.now s.fault_count s.calls fate c.self.invariant c.deref.ensures.value
    found.fate found.ok))
