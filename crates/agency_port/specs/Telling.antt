-- An agency that was told its answers.
use Rattle.std.specs.Prelude.{ℕ, List, [], ◌∷◌, ◌++◌, drop, length, Result, Ok, Err, ◌==◌, if◌then◌else◌}
use Rattle.ports.specs.Memory.{counted_up}
use Rattle.record_fields.specs.declared.records.Sealed.{Sealed}
use Rattle.batches.specs.Batches.{Named}
use Rattle.agency_rules.specs.declared.plans.Plan.{Plan}
use Rattle.agency_port.specs.Reply.{Replied}
use Rattle.agency_port.specs.Messages.{batches_in}
use Rattle.agency_port.specs.Ledger.{Ledger}
use Rattle.agency_port.specs.Practice.{is_reply_to}
use Rattle.agency_port.specs.declared.answers.Seen.{Seen}
use Rattle.agency_port.specs.declared.answers.AgencyFault.{AgencyFault}
use Rattle.agency_port.specs.declared.answers.AgencyFault.TheVariants.{Failed}
use Rattle.agency_port.specs.declared.messages.Message.{Message}
use Rattle.agency_port.specs.declared.messages.Message.TheVariants.{Begun, Submitted, Consulted}
use Rattle.agency_port.specs.declared.told.ToldAnswer.{ToldAnswer}
use Rattle.agency_port.specs.declared.told.ToldAnswer.TheVariants as told

-- the answers that are left, all messages, and the count of its faults
pub record Telling : Type 0 where
  pub answers : List ToldAnswer
  pub messages : List Message
  pub faults : ℕ

-- it tells nothing of what it has processed
abbrev pub ledger_of : Telling → Ledger
ledger_of a = record { processed = []; sent = batches_in a.messages; verdicts = []; messages = a.messages }

-- the next answer, where it is a reply that names the batch
abbrev pub submission_answer : List ToldAnswer → List Sealed → Result Replied AgencyFault
submission_answer [] batch = Err Failed
submission_answer (told.Consulted seen ∷ rest) batch = Err Failed
submission_answer (told.Submitted reply ∷ rest) batch = if is_reply_to reply batch then Ok reply else Err Failed

-- the next answer, where it is one for this many Huellas
abbrev pub consultation_answer : List ToldAnswer → List (List ℕ) → Result (List Seen) AgencyFault
consultation_answer [] huellas = Err Failed
consultation_answer (told.Submitted reply ∷ rest) huellas = Err Failed
consultation_answer (told.Consulted seen ∷ rest) huellas = if length seen == length huellas then Ok seen else Err Failed

abbrev pub faults_after : {A : Type 0} → Result A AgencyFault → ℕ → ℕ
faults_after (Ok value) faults = faults
faults_after (Err why) faults = counted_up faults

abbrev pub used_up : Telling → Telling
used_up a = record { answers = drop 1 a.answers; messages = a.messages; faults = a.faults }

abbrev pub saying : Telling → Message → Telling
saying a message = record { answers = a.answers; messages = a.messages ++ message ∷ []; faults = a.faults }

-- an answer is used up, also one that doesn't fit
abbrev pub submitted : Telling → List Sealed → Telling
submitted a batch = record {
  answers = drop 1 a.answers;
  messages = a.messages ++ Submitted batch (submission_answer a.answers batch) ∷ [];
  faults = faults_after (submission_answer a.answers batch) a.faults;
}

abbrev pub consulted : Telling → Named → Telling
consulted a asked = record {
  answers = drop 1 a.answers;
  messages = a.messages ++ Consulted asked (consultation_answer a.answers asked.huellas) ∷ [];
  faults = faults_after (consultation_answer a.answers asked.huellas) a.faults;
}

abbrev pub opened : Telling → Plan → ℕ → Telling
opened a plan pairs = saying a (Begun plan pairs)
