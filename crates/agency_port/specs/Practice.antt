-- The practice agency: what each of its calls delivers and answers.
use Rattle.std.specs.Prelude.{◌≡◌, ℕ, ◌+◌, List, [], ◌∷◌, ◌++◌, length, map, take, filter_map, max, Option, Some, None, unwrap_or}
use Rattle.std.specs.Prelude.{Result, Ok, Err, ⊤, Bool, true, false, ◌==◌, bytes_eq, count_by, if◌then◌else◌}
use Rattle.std.specs.Option.{option_map_or}
use Rattle.std.specs.Cmp.Lexicographic.{pointwise}
use Rattle.ports.specs.Memory.{counted_up}
use Rattle.ports.specs.declared.faults.NoMemory.{NoMemory as NoMemoryAt}
use Rattle.record_fields.specs.Picks.{last_of}
use Rattle.record_fields.specs.declared.records.Sealed.{Sealed}
use Rattle.record_fields.specs.declared.lines.Line.{Line}
use Rattle.agency_rules.specs.Plans.{fate_at}
use Rattle.agency_rules.specs.Pairs.{delivered_all}
use Rattle.agency_rules.specs.declared.plans.Plan.{Plan}
use Rattle.agency_rules.specs.declared.plans.Fate.{Fate}
use Rattle.agency_rules.specs.declared.plans.Fate.TheVariants.{Lost, Stale, Again, Late}
use Rattle.batches.specs.Batches.{Named, huellas_of}
use Rattle.agency_port.specs.Reply.{Replied}
use Rattle.agency_port.specs.Answers.{answers, looked}
use Rattle.agency_port.specs.Messages.{batch_in, batches_in}
use Rattle.agency_port.specs.Ledger.{Ledger}
use Rattle.agency_port.specs.declared.answers.Seen.{Seen}
use Rattle.agency_port.specs.declared.answers.AgencyFault.{AgencyFault}
use Rattle.agency_port.specs.declared.answers.AgencyFault.TheVariants.{Failed, NoMemory}
use Rattle.agency_port.specs.declared.messages.Message.{Message}
use Rattle.agency_port.specs.declared.messages.Message.TheVariants.{Begun, Submitted, Consulted}
use Rattle.agency_port.specs.declared.messages.Logged.{Logged}

-- its plan, what it has processed, all its messages, and the count of its faults
pub record Practice : Type 0 where
  pub plan : Plan
  pub processed : List (Sealed × Line)
  pub log : List Logged
  pub faults : ℕ

abbrev pub messages_of : List Logged → List Message
messages_of log = map (λ (l : Logged). l.message) log

-- the batches that were handed over
abbrev pub sent_in : List Logged → List (List Sealed)
sent_in log = batches_in (messages_of log)

abbrev pub ledger_of : Practice → Ledger
ledger_of a = record { processed = a.processed; sent = sent_in a.log; verdicts = a.plan.verdicts; messages = messages_of a.log }

abbrev pub is_call_message : Message → Bool
is_call_message (Begun plan pairs) = false
is_call_message other = true

abbrev pub is_call : Logged → Bool
is_call l = is_call_message l.message

-- submissions and consultations are counted together, from 1
abbrev pub number : List Logged → ℕ
number log = count_by is_call log + 1

-- the batch of a message that comes late, at the start of this call
abbrev pub is_late : ℕ → Logged → Bool
is_late call l = option_map_or (λ (at : ℕ). at == call) l.comes false

abbrev pub late_in : ℕ → Logged → Option (List Sealed)
late_in call l = if is_late call l then batch_in l.message else None

abbrev pub late_for : ℕ → List Logged → List (List Sealed)
late_for call log = filter_map (late_in call) log

abbrev pub fate_of : Practice → Option Fate
fate_of a = fate_at a.plan.fates (number a.log)

-- with `again` all that was handed over before comes once more
abbrev pub again_before : Option Fate → List (List Sealed) → List (List Sealed)
again_before (Some Again) sent = sent
again_before other sent = []

-- whether the batch itself comes in its own call
abbrev pub arrives : Option Fate → Bool
arrives (Some Lost) = false
arrives (Some (Late calls)) = false
arrives other = true

-- the fates of which the caller learns by the count of faults
abbrev pub is_faulty : Option Fate → Bool
is_faulty None = false
is_faulty (Some Again) = false
is_faulty other = true

-- the call at whose start a batch that is late by this many calls comes: at the next one at least
abbrev pub comes_at : Option Fate → ℕ → Option ℕ
comes_at (Some (Late calls)) call = Some (call + max calls 1)
comes_at other call = None

abbrev pub own_of : Option Fate → List Sealed → List (List Sealed)
own_of fate batch = if arrives fate then batch ∷ [] else []

-- what has been processed when those have come that come before the call's own batch, and when that has come too
abbrev pub processed_before : Practice → List (Sealed × Line)
processed_before a = delivered_all a.plan.verdicts
    (delivered_all a.plan.verdicts a.processed (late_for (number a.log) a.log))
    (again_before (fate_of a) (sent_in a.log))

abbrev pub processed_after : Practice → List Sealed → List (Sealed × Line)
processed_after a batch = delivered_all a.plan.verdicts (processed_before a) (own_of (fate_of a) batch)

-- the reply to a batch that comes
abbrev pub reply_by : Plan → List (Sealed × Line) → List Sealed → Replied
reply_by plan processed batch = record {
  huellas = huellas_of batch;
  lines = answers plan.verdicts processed batch;
  wait = plan.wait;
}

abbrev pub ok_of : Result Replied AgencyFault → Option Replied
ok_of (Ok reply) = Some reply
ok_of (Err why) = None

abbrev pub reply_in_message : Message → Option Replied
reply_in_message (Submitted batch answer) = ok_of answer
reply_in_message other = None

abbrev pub reply_in : Logged → Option Replied
reply_in l = reply_in_message l.message

-- the reply that it gave last
abbrev pub last_reply : List Logged → Option Replied
last_reply log = last_of (filter_map reply_in log)

-- a reply without lines
abbrev pub empty_reply : ℕ → Replied
empty_reply wait = record { huellas = []; lines = []; wait = wait }

-- the same Huellas, in the same order
abbrev pub is_reply_to : Replied → List Sealed → Bool
is_reply_to reply batch = pointwise bytes_eq reply.huellas (huellas_of batch)

-- a stale reply, unless it would be taken for the batch's own
abbrev pub unless_own : Replied → List Sealed → Result Replied AgencyFault
unless_own reply batch = if is_reply_to reply batch then Err Failed else Ok reply

-- the reply that was given last, or one without lines
abbrev pub stale_by : List Logged → ℕ → List Sealed → Result Replied AgencyFault
stale_by log wait batch = unless_own (unwrap_or (last_reply log) (empty_reply wait)) batch

-- the answer to a batch, by what has been processed before it
abbrev pub answer_by : Option Fate → Plan → List (Sealed × Line) → List Logged → List Sealed → Result Replied AgencyFault
answer_by None plan processed log batch = Ok (reply_by plan processed batch)
answer_by (Some Again) plan processed log batch = Ok (reply_by plan processed batch)
answer_by (Some Stale) plan processed log batch = stale_by log plan.wait batch
answer_by other plan processed log batch = Err Failed

-- the answer to a submission
abbrev pub submission_answer : Practice → List Sealed → Result Replied AgencyFault
submission_answer a batch = answer_by (fate_of a) a.plan (processed_before a) a.log batch

abbrev pub faults_by : Option Fate → ℕ → ℕ
faults_by fate faults = if is_faulty fate then counted_up faults else faults

-- the agency after a submission
abbrev pub submitted : Practice → List Sealed → Practice
submitted a batch = record {
  plan = a.plan;
  processed = processed_after a batch;
  log = a.log ++ record {
    message = Submitted batch (submission_answer a batch);
    comes = comes_at (fate_of a) (number a.log);
  } ∷ [];
  faults = faults_by (fate_of a) a.faults;
}

abbrev pub seen_by : Option Fate → List (Sealed × Line) → List (List ℕ) → Result (List Seen) AgencyFault
seen_by fate processed huellas = if is_faulty fate then Err Failed else Ok (looked processed huellas)

-- the answer to a consultation
abbrev pub consultation_answer : Practice → List (List ℕ) → Result (List Seen) AgencyFault
consultation_answer a huellas = seen_by (fate_of a) (processed_before a) huellas

abbrev pub consulted : Practice → Named → Practice
consulted a asked = record {
  plan = a.plan;
  processed = processed_before a;
  log = a.log ++ record { message = Consulted asked (consultation_answer a asked.huellas); comes = None } ∷ [];
  faults = faults_by (fate_of a) a.faults;
}

-- what has been processed once a session is open: the noted pairs where there was none
abbrev pub begun : List (Sealed × Line) → List (Sealed × Line) → List (Sealed × Line)
begun [] noted = noted
begun (p ∷ processed) noted = p ∷ processed

abbrev pub opened : Practice → Plan → List (Sealed × Line) → Practice
opened a plan noted = record {
  plan = plan;
  processed = begun a.processed noted;
  log = a.log ++ record { message = Begun plan (length noted); comes = None } ∷ [];
  faults = a.faults;
}

-- Lack of memory leaves all as it was; else this is the answer, and the agency is then the next one.
abbrev pub IsRow : {A S : Type 0} → Result A AgencyFault → Result A AgencyFault → S → S → S → Type 0
IsRow (Err NoMemory) answer old new next = new ≡ old
IsRow (Err Failed) answer old new next = (Err Failed ≡ answer) × (new ≡ next)
IsRow (Ok value) answer old new next = (Ok value ≡ answer) × (new ≡ next)

-- A call that found no memory on its way: pairs may have been added.
pub record IsCutShort (old new : Practice) : Type 0 where
  pub plan : new.plan ≡ old.plan
  pub log : new.log ≡ old.log
  pub faults : new.faults ≡ old.faults
  pub front : take (length old.processed) new.processed ≡ old.processed

-- A session is open. Lack of memory leaves all as it was.
abbrev pub IsOpened : {S : Type 0} → Result ⊤ NoMemoryAt → S → S → S → Type 0
IsOpened (Ok done) old new next = new ≡ next
IsOpened (Err why) old new next = new ≡ old

-- the first pairs alone
abbrev pub cut : Practice → ℕ → Practice
cut a count = record { plan = a.plan; processed = take count a.processed; log = a.log; faults = a.faults }
