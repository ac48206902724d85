-- What follows from a consultation's row, and from a session's opening.
use Rattle.std.proofs.Common.{◌≡◌, ℕ, ◌^◌, ◌<◌, ◌≤◌, List, [], ◌∷◌, ◌++◌, refl, sym, ◌∙◌, ap, subst, inl, arith, None, Result, Ok}
use Rattle.std.proofs.Common.{Err, IfOk, Bool, true, false, cond, length, append-nil}
use Rattle.ports.specs.Causes.{Rose}
use Rattle.std.proofs.lemmas.List.{length-map}
use Rattle.record_fields.specs.declared.lines.Line.{Line}
use Rattle.record_fields.specs.declared.records.Sealed.{Sealed}
use Rattle.agency_rules.specs.Pairs.{delivered_all, line_of}
use Rattle.agency_rules.specs.declared.plans.Plan.{Plan}
use Rattle.agency_port.specs.Answers.{looked, seen_of}
use Rattle.batches.specs.Batches.{Named}
use Rattle.agency_port.specs.Ledger.{counted, HasCause, IsAsked, Consults, Begins}
use Rattle.agency_port.specs.Rules.{ConsultKeeps}
use Rattle.agency_port.specs.Practice.{Practice, messages_of, sent_in, ledger_of, fate_of, is_faulty, processed_before}
use Rattle.agency_port.specs.Practice.{consultation_answer, faults_by, consulted, opened, IsRow}
use Rattle.agency_port.specs.declared.answers.Seen.{Seen}
use Rattle.agency_port.specs.declared.answers.AgencyFault.{AgencyFault}
use Rattle.agency_port.specs.declared.answers.AgencyFault.TheVariants.{Failed, NoMemory}
use Rattle.agency_port.specs.declared.messages.Message.TheVariants.{Begun, Consulted}
use Rattle.agency_port.specs.declared.messages.Logged.{Logged}
use Rattle.agency_port.proofs.Logs.{messages-append, sent-append}
use Rattle.agency_port.proofs.Counts.{faults_later, faults_rose}
use Rattle.agency_port.proofs.Submissions.{before_of, before_is, before_among}

never_by : (t : Bool) (seen : List Seen) → cond t (Err Failed) (Ok seen) ≡ Err NoMemory → ⊥
never_by true seen e = cc
never_by false seen e = cc

pub never_memory : (a : Practice) (huellas : List (List ℕ)) → consultation_answer a huellas ≡ Err NoMemory → ⊥
never_memory a huellas e = never_by (is_faulty (fate_of a)) (looked (processed_before a) huellas) e

failed_by : (t : Bool) (seen : List Seen) → Err Failed ≡ cond t (Err Failed) (Ok seen) → t ≡ true
failed_by true seen e = refl
failed_by false seen e = absurd cc

ok_by : (t : Bool) (seen is : List Seen) → Ok seen ≡ cond t (Err Failed) (Ok is) → seen ≡ is
ok_by true seen is e = absurd cc
ok_by false seen is e = cc

seen_is : (a : Practice) (huellas : List (List ℕ)) (seen : List Seen) → Ok seen ≡ consultation_answer a huellas →
    seen ≡ looked (processed_before a) huellas
seen_is a huellas seen e = ok_by (is_faulty (fate_of a)) seen (looked (processed_before a) huellas) e

faults_are : (a new : Practice) (asked : Named) → new ≡ consulted a asked → new.faults ≡ faults_by (fate_of a)
    a.faults
faults_are a new asked is = ap (λ (x : Practice). x.faults) is

later_count : (a new : Practice) (asked : Named) → new ≡ consulted a asked → counted a.faults ≤ counted new.faults
later_count a new asked is = subst (λ (m : ℕ). counted a.faults ≤ counted m) (sym (faults_are a new asked is))
    (faults_later (fate_of a) a.faults)

pub consult_cause : (a : Practice) (asked : Named) (r : Result (List Seen) AgencyFault) (new : Practice) →
    IsRow r (consultation_answer a asked.huellas) a new (consulted a asked) → HasCause (counted a.faults) (counted new.faults) r
consult_cause a asked (Ok seen) new row = record {
  later = later_count a new asked row.1;
  failed = tt;
  no_memory = λ none. absurd cc;
}
consult_cause a asked (Err Failed) new row = record {
  later = later_count a new asked row.1;
  failed = subst (λ (m : ℕ). Rose (counted a.faults) (counted m)) (sym (faults_are a new asked row.1))
      (faults_rose (fate_of a) a.faults (failed_by (is_faulty (fate_of a)) (looked (processed_before a) asked.huellas) row.0));
  no_memory = λ none. absurd cc;
}
consult_cause a asked (Err NoMemory) new row = record {
  later = (let e : counted new.faults ≡ counted a.faults =
      ap (λ (x : Practice). counted x.faults) row in omega arith);
  failed = tt;
  no_memory = λ none. ap (λ (x : Practice). counted x.faults) row;
}

pub consult_count : (a : Practice) (asked : Named) (r : Result (List Seen) AgencyFault) (new : Practice) →
    IsRow r (consultation_answer a asked.huellas) a new (consulted a asked) →
    IfOk r (λ (seen : List Seen). length seen ≡ length asked.huellas)
consult_count a asked (Ok seen) new row = ap length (seen_is a asked.huellas seen row.0) ∙ length-map asked.huellas
    (λ (h : List ℕ). seen_of (line_of (processed_before a) h))
consult_count a asked (Err why) new row = tt

is_asked : (a new : Practice) (asked : Named) (r : Result (List Seen) AgencyFault) → r ≡ consultation_answer a asked.huellas →
    new ≡ consulted a asked → IsAsked (ledger_of a) (ledger_of new) asked r
is_asked a new asked r e is =
    let entry : Logged = record { message = Consulted asked (consultation_answer a asked.huellas); comes = None } in
    record {
      sent = ap (λ (x : Practice). sent_in x.log) is ∙ sent-append a.log (entry ∷ []) ∙ append-nil (sent_in a.log);
      messages = ap (λ (x : Practice). messages_of x.log) is ∙ messages-append a.log (entry ∷ [])
          ∙ ap (λ (answer : Result (List Seen) AgencyFault). messages_of a.log ++ Consulted asked answer ∷ []) (sym e);
    }

pub consult_lists : (a : Practice) (asked : Named) (r : Result (List Seen) AgencyFault) (new : Practice) →
    IsRow r (consultation_answer a asked.huellas) a new (consulted a asked) → Consults (ledger_of a) (ledger_of new) asked r
consult_lists a asked (Ok seen) new row = is_asked a new asked (Ok seen) row.0 row.1
consult_lists a asked (Err Failed) new row = is_asked a new asked (Err Failed) row.0 row.1
consult_lists a asked (Err NoMemory) new row = ap ledger_of row

processed_is : (a new : Practice) (asked : Named) → new ≡ consulted a asked → new.processed ≡ delivered_all
    a.plan.verdicts a.processed (before_of a)
processed_is a new asked is = ap (λ (x : Practice). x.processed) is ∙ before_is a

pub consult_rules : (a : Practice) (asked : Named) (r : Result (List Seen) AgencyFault) (new : Practice) →
    IsRow r (consultation_answer a asked.huellas) a new (consulted a asked) → ConsultKeeps (ledger_of a) (ledger_of new) asked.huellas r
consult_rules a asked (Ok seen) new row = record {
  verdicts = ap (λ (x : Practice). x.plan.verdicts) row.1;
  delivers = record { batches = before_of a; among = before_among a; is = processed_is a new asked row.1 };
  answered = record {
    before = before_of a;
    after = [];
    among_before = before_among a;
    among_after = tt;
    is = processed_is a new asked row.1 ∙ ap (delivered_all a.plan.verdicts a.processed) (sym (append-nil (before_of a)));
    said = seen_is a asked.huellas seen row.0 ∙ ap (λ (ps : List (Sealed × Line)). looked ps asked.huellas) (before_is a);
  };
}
consult_rules a asked (Err Failed) new row = record {
  verdicts = ap (λ (x : Practice). x.plan.verdicts) row.1;
  delivers = record { batches = before_of a; among = before_among a; is = processed_is a new asked row.1 };
  answered = tt;
}
consult_rules a asked (Err NoMemory) new row = record {
  verdicts = ap (λ (x : Practice). x.plan.verdicts) row;
  delivers = record { batches = []; among = tt; is = ap (λ (x : Practice). x.processed) row };
  answered = tt;
}

pub begin_lists : (a new : Practice) (plan : Plan) (noted : List (Sealed × Line)) → new ≡ opened a plan noted →
    Begins (ledger_of a) (ledger_of new) plan (length noted)
begin_lists a new plan noted is =
    let entry : Logged = record { message = Begun plan (length noted); comes = None } in
    record {
      sent = ap (λ (x : Practice). sent_in x.log) is ∙ sent-append a.log (entry ∷ []) ∙ append-nil (sent_in a.log);
      messages = ap (λ (x : Practice). messages_of x.log) is ∙ messages-append a.log (entry ∷ []);
    }
