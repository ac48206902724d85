-- What follows from the rows of an agency that was told its answers.
use Rattle.std.proofs.Common.{◌≡◌, ℕ, ◌+◌, ◌^◌, ◌<◌, ◌≤◌, List, [], ◌∷◌, ◌++◌, refl, sym, ◌∙◌, ap, subst, inl, arith, Result, Ok}
use Rattle.std.proofs.Common.{Err, IfOk, OnOk, Bool, true, false, cond, ◌==◌, eqb-true, length, drop, append-nil}
use Rattle.ports.specs.Causes.{Rose}
use Rattle.std.proofs.lemmas.List.{drop-drop}
use Rattle.std.proofs.lemmas.List.Elements.{filter_map-append}
use Rattle.record_fields.specs.declared.records.Sealed.{Sealed}
use Rattle.agency_rules.specs.declared.plans.Plan.{Plan}
use Rattle.agency_port.specs.Reply.{Replied}
use Rattle.agency_port.specs.Messages.{batch_in, batches_in}
use Rattle.batches.specs.Batches.{Named}
use Rattle.agency_port.specs.Ledger.{counted, HasCause, StaleShows, Names, HandsOver, Submits, IsAsked, Consults, Begins}
use Rattle.agency_port.specs.Practice.{is_reply_to, IsRow}
use Rattle.agency_port.specs.Telling.{Telling, ledger_of, submission_answer, consultation_answer, faults_after, submitted}
use Rattle.agency_port.specs.Telling.{consulted, opened, used_up}
use Rattle.agency_port.specs.declared.answers.Seen.{Seen}
use Rattle.agency_port.specs.declared.answers.AgencyFault.{AgencyFault}
use Rattle.agency_port.specs.declared.answers.AgencyFault.TheVariants.{Failed, NoMemory}
use Rattle.agency_port.specs.declared.messages.Message.{Message}
use Rattle.agency_port.specs.declared.messages.Message.TheVariants.{Begun, Submitted, Consulted}
use Rattle.agency_port.specs.declared.told.ToldAnswer.{ToldAnswer}
use Rattle.agency_port.specs.declared.told.ToldAnswer.TheVariants as told
use Rattle.agency_port.proofs.Replies.{decides}
use Rattle.agency_port.proofs.Counts.{counted_later, counted_rose}

pub sent_then : (messages : List Message) (m : Message) → batches_in (messages ++ m ∷ []) ≡ batches_in messages ++ batches_in
    (m ∷ [])
sent_then messages m = filter_map-append batch_in messages (m ∷ [])

-- the answers that are left after one more
pub left_after : (answers : List ToldAnswer) (at : ℕ) → drop (at + 1) answers ≡ drop 1 (drop at answers)
left_after answers at = sym (drop-drop 1 at answers)

count_later : {A : Type 0} (r : Result A AgencyFault) (n : ℕ) → counted n ≤ counted (faults_after r n)
count_later (Ok value) n = omega arith
count_later (Err why) n = counted_later n

fits_by : (t : Bool) (kept reply : Replied) → Ok reply ≡ cond t (Ok kept) (Err Failed) → (reply ≡ kept) × (t ≡ true)
fits_by true kept reply e = let s : reply ≡ kept = cc in (s, refl)
fits_by false kept reply e = absurd cc

ok_named : (answers : List ToldAnswer) (batch : List Sealed) (reply : Replied) → Ok reply ≡ submission_answer answers batch →
    Names reply batch
ok_named [] batch reply e = absurd cc
ok_named (told.Consulted seen ∷ rest) batch reply e = absurd cc
ok_named (told.Submitted kept ∷ rest) batch reply e =
    let f = fits_by (is_reply_to kept batch) kept reply e in
    subst (λ (r : Replied). Names r batch) (sym f.0) ((decides kept batch).0 f.1)

counts_by : (t : Bool) (n m : ℕ) (kept seen : List Seen) → t ≡ (n == m) → n ≡ length kept → Ok seen ≡ cond t (Ok kept)
    (Err Failed) → length seen ≡ m
counts_by true n m kept seen is len e =
    let s : seen ≡ kept = cc in ap length s ∙ sym len ∙ eqb-true n m (sym is)
counts_by false n m kept seen is len e = absurd cc

ok_counted : (answers : List ToldAnswer) (huellas : List (List ℕ)) (seen : List Seen) → Ok seen ≡ consultation_answer answers
    huellas → length seen ≡ length huellas
ok_counted [] huellas seen e = absurd cc
ok_counted (told.Submitted reply ∷ rest) huellas seen e = absurd cc
ok_counted (told.Consulted kept ∷ rest) huellas seen e = counts_by (length kept == length huellas) (length kept) (length huellas)
    kept seen refl refl e

-- the count after an answer that isn't lack of memory
count_cause : {A : Type 0} (r answer : Result A AgencyFault) (n m : ℕ) → r ≡ answer → m ≡ faults_after answer n →
    (r ≡ Err NoMemory → ⊥) → HasCause (counted n) (counted m) r
count_cause (Ok value) answer n m e is other = record {
  later = subst (λ (k : ℕ). counted n ≤ counted k) (sym is)
      (count_later answer n);
  failed = tt;
  no_memory = λ none. absurd (other none);
}
count_cause (Err Failed) answer n m e is other = record {
  later = subst (λ (k : ℕ). counted n ≤ counted k) (sym is) (count_later answer n);
  failed = subst (λ (k : ℕ). Rose (counted n) (counted k)) (ap (λ (x : Result _ AgencyFault). faults_after x n) e ∙ sym is)
      (counted_rose n);
  no_memory = λ none. absurd (other none);
}
count_cause (Err NoMemory) answer n m e is other = absurd (other refl)

pub submit_cause : (a : Telling) (batch : List Sealed) (r : Result Replied AgencyFault) (new : Telling) →
    IsRow r (submission_answer a.answers batch) a new (submitted a batch) → HasCause (counted a.faults) (counted new.faults) r
submit_cause a batch (Ok reply) new row = count_cause (Ok reply) (submission_answer a.answers batch) a.faults new.faults row.0
    (ap (λ (x : Telling). x.faults) row.1) (λ none. cc)
submit_cause a batch (Err Failed) new row = count_cause (Err Failed) (submission_answer a.answers batch) a.faults new.faults row.0
    (ap (λ (x : Telling). x.faults) row.1) (λ none. cc)
submit_cause a batch (Err NoMemory) new row = record {
  later = (let e : counted new.faults ≡ counted a.faults =
      ap (λ (x : Telling). counted x.faults) row in omega arith);
  failed = tt;
  no_memory = λ none. ap (λ (x : Telling). counted x.faults) row;
}

pub submit_stale : (a : Telling) (batch : List Sealed) (r : Result Replied AgencyFault) (new : Telling) →
    IsRow r (submission_answer a.answers batch) a new (submitted a batch) → StaleShows (counted a.faults) (counted new.faults)
    batch r
submit_stale a batch (Ok reply) new row = λ other. absurd (other (ok_named a.answers batch reply row.0))
submit_stale a batch (Err why) new row = tt

handed : (a new : Telling) (batch : List Sealed) (r : Result Replied AgencyFault) → r ≡ submission_answer a.answers batch →
    new ≡ submitted a batch → HandsOver (ledger_of a) (ledger_of new) batch r
handed a new batch r e is = record {
  sent = ap (λ (x : Telling). batches_in x.messages) is ∙ sent_then a.messages
      (Submitted batch (submission_answer a.answers batch));
  messages = ap (λ (x : Telling). x.messages) is ∙ ap (λ (answer : Result Replied AgencyFault). a.messages ++ Submitted batch
      answer ∷ []) (sym e);
}

pub submit_lists : (a : Telling) (batch : List Sealed) (r : Result Replied AgencyFault) (new : Telling) →
    IsRow r (submission_answer a.answers batch) a new (submitted a batch) → Submits (ledger_of a) (ledger_of new) batch r
submit_lists a batch (Ok reply) new row = handed a new batch (Ok reply) row.0 row.1
submit_lists a batch (Err Failed) new row = handed a new batch (Err Failed) row.0 row.1
submit_lists a batch (Err NoMemory) new row = inl (record {
  sent = ap (λ (x : Telling). batches_in x.messages) row;
  messages = ap (λ (x : Telling). x.messages) row;
})

pub consult_cause : (a : Telling) (asked : Named) (r : Result (List Seen) AgencyFault) (new : Telling) →
    IsRow r (consultation_answer a.answers asked.huellas) a new (consulted a asked) → HasCause (counted a.faults) (counted new.faults)
    r
consult_cause a asked (Ok seen) new row = count_cause (Ok seen) (consultation_answer a.answers asked.huellas) a.faults new.faults
    row.0 (ap (λ (x : Telling). x.faults) row.1) (λ none. cc)
consult_cause a asked (Err Failed) new row = count_cause (Err Failed) (consultation_answer a.answers asked.huellas) a.faults
    new.faults row.0 (ap (λ (x : Telling). x.faults) row.1) (λ none. cc)
consult_cause a asked (Err NoMemory) new row = record {
  later = (let e : counted new.faults ≡ counted a.faults =
      ap (λ (x : Telling). counted x.faults) row in omega arith);
  failed = tt;
  no_memory = λ none. ap (λ (x : Telling). counted x.faults) row;
}

pub consult_count : (a : Telling) (asked : Named) (r : Result (List Seen) AgencyFault) (new : Telling) →
    IsRow r (consultation_answer a.answers asked.huellas) a new (consulted a asked) →
    IfOk r (λ (seen : List Seen). length seen ≡ length asked.huellas)
consult_count a asked (Ok seen) new row = ok_counted a.answers asked.huellas seen row.0
consult_count a asked (Err why) new row = tt

is_asked : (a new : Telling) (asked : Named) (r : Result (List Seen) AgencyFault) → r ≡ consultation_answer a.answers
    asked.huellas → new ≡ consulted a asked → IsAsked (ledger_of a) (ledger_of new) asked r
is_asked a new asked r e is = record {
  sent = ap (λ (x : Telling). batches_in x.messages) is ∙ sent_then a.messages
      (Consulted asked (consultation_answer a.answers asked.huellas)) ∙ append-nil (batches_in a.messages);
  messages = ap (λ (x : Telling). x.messages) is ∙ ap (λ (answer : Result (List Seen) AgencyFault). a.messages ++ Consulted
      asked answer ∷ []) (sym e);
}

pub consult_lists : (a : Telling) (asked : Named) (r : Result (List Seen) AgencyFault) (new : Telling) →
    IsRow r (consultation_answer a.answers asked.huellas) a new (consulted a asked) → Consults (ledger_of a) (ledger_of new) asked r
consult_lists a asked (Ok seen) new row = is_asked a new asked (Ok seen) row.0 row.1
consult_lists a asked (Err Failed) new row = is_asked a new asked (Err Failed) row.0 row.1
consult_lists a asked (Err NoMemory) new row = ap ledger_of row

pub begin_lists : (a new : Telling) (plan : Plan) (pairs : ℕ) → new ≡ opened a plan pairs → Begins (ledger_of a) (ledger_of new)
    plan pairs
begin_lists a new plan pairs is = record {
  sent = ap (λ (x : Telling). batches_in x.messages) is ∙ sent_then a.messages (Begun plan pairs) ∙
      append-nil (batches_in a.messages);
  messages = ap (λ (x : Telling). x.messages) is;
}

-- what follows from an Ok, and an Ok follows on
pub on_ok : {E : Type 0} (r : Result (Unit {0}) E) (P Q : Type 0) → (P → Q) → OnOk r P → OnOk r Q
on_ok (Ok done) P Q f h = f h
on_ok (Err why) P Q f h = tt

pub left_record : (answers : List ToldAnswer) (at : ℕ) (messages : List Message) (faults : ℕ) →
    record { answers = drop (at + 1) answers; messages = messages; faults = faults } ≡ used_up
    (record { answers = drop at answers; messages = messages; faults = faults })
left_record answers at messages faults = ap (λ (l : List ToldAnswer). record {
  answers = l;
  messages = messages;
  faults = faults;
}) (left_after answers at)
