-- The judgement by its parts.
use Rattle.std.proofs.Common.{◌≡◌, ◌+◌, ◌∙◌, ap, List, Option}
use Rattle.series.specs.declared.numbers.InvoiceId.{InvoiceId}
use Rattle.record_fields.specs.Records.{id_of, num_of}
use Rattle.record_fields.specs.declared.lines.Line.{Line}
use Rattle.record_fields.specs.declared.records.Record.{Record}
use Rattle.record_fields.specs.declared.records.Sealed.{Sealed}
use Rattle.agency_rules.specs.declared.judging.Past.{Past}
use Rattle.agency_rules.specs.declared.plans.PlannedVerdict.{PlannedVerdict}
use Rattle.agency_rules.specs.declared.plans.Verdict.{Verdict}
use Rattle.agency_rules.specs.Judging.{past_of, verdict_for, judge, judgement}

pub judged_by : (verdicts : List PlannedVerdict) (processed : List (Sealed × Line)) (body : Record) (id : InvoiceId) (past : Past)
    (verdict : Option Verdict) (line : Line) →
    id ≡ id_of body → past ≡ past_of processed id → verdict ≡ verdict_for verdicts id.num (past.count + 1) →
    line ≡ judge past verdict body →
    line ≡ judgement verdicts processed body
judged_by verdicts processed body id past verdict line i p v l =
    l ∙ ap (λ (w : Option Verdict). judge past w body) (v ∙ ap (λ (d : InvoiceId). verdict_for verdicts d.num (past.count + 1)) i)
    ∙ ap (λ (q : Past). judge q (verdict_for verdicts (num_of body) (q.count + 1)) body)
    (p ∙ ap (λ (d : InvoiceId). past_of processed d) i)
