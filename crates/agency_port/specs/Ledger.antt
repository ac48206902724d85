-- What an agency tells, and what each call adds to it.
use Rattle.std.specs.Prelude.{◌≡◌, ◌⊎◌, ℕ, ◌≤◌, min, List, [], ◌∷◌, ◌++◌, ⊤, Result, Ok, Err, IfOk}
use Rattle.ports.specs.Causes.{Rose}
use Rattle.record_fields.specs.declared.records.Sealed.{Sealed}
use Rattle.record_fields.specs.declared.lines.Line.{Line}
use Rattle.agency_rules.specs.declared.plans.Plan.{Plan}
use Rattle.agency_rules.specs.declared.plans.PlannedVerdict.{PlannedVerdict}
use Rattle.batches.specs.Batches.{Named, huellas_of}
use Rattle.agency_port.specs.Reply.{Replied}
use Rattle.agency_port.specs.declared.answers.Seen.{Seen}
use Rattle.agency_port.specs.declared.answers.AgencyFault.{AgencyFault}
use Rattle.agency_port.specs.declared.answers.AgencyFault.TheVariants.{Failed, NoMemory}
use Rattle.agency_port.specs.declared.messages.Message.{Message}
use Rattle.agency_port.specs.declared.messages.Message.TheVariants.{Begun, Submitted, Consulted}
use Rattle.ports.specs.Causes.{greatest_u64}

-- the processed records with their lines, the batches that were ever handed over, the verdicts, and all messages
pub record Ledger : Type 0 where
  pub processed : List (Sealed × Line)
  pub sent : List (List Sealed)
  pub verdicts : List PlannedVerdict
  pub messages : List Message

-- a count of faults as a u64 holds it
abbrev pub counted : ℕ → ℕ
counted faults = min faults greatest_u64

-- the fact holds where the answer is Failed
abbrev pub OnFailed : {T : Type 0} → Result T AgencyFault → Type 0 → Type 0
OnFailed (Err Failed) P = P
OnFailed other P = ⊤

-- The count of faults never falls, and Failed shows in it. Lack of memory leaves it as it was.
pub record HasCause {T : Type 0} (before now : ℕ) (result : Result T AgencyFault) : Type 0 where
  pub later : before ≤ now
  pub failed : OnFailed result (Rose before now)
  pub no_memory : result ≡ Err NoMemory → now ≡ before

-- the reply names exactly the batch's Huellas, in order
abbrev pub Names : Replied → List Sealed → Type 0
Names reply batch = reply.huellas ≡ huellas_of batch

-- a reply that names another list shows in the count
abbrev pub StaleShows : ℕ → ℕ → List Sealed → Result Replied AgencyFault → Type 0
StaleShows before now batch result = IfOk result (λ (reply : Replied). (Names reply batch → ⊥) → Rose before now)

-- a session was opened
pub record Begins (old new : Ledger) (plan : Plan) (pairs : ℕ) : Type 0 where
  pub sent : new.sent ≡ old.sent
  pub messages : new.messages ≡ old.messages ++ Begun plan pairs ∷ []

-- nothing was said
pub record IsSilent (old new : Ledger) : Type 0 where
  pub sent : new.sent ≡ old.sent
  pub messages : new.messages ≡ old.messages

-- a batch was handed over, and answered so
pub record HandsOver (old new : Ledger) (batch : List Sealed) (answer : Result Replied AgencyFault) : Type 0 where
  pub sent : new.sent ≡ old.sent ++ batch ∷ []
  pub messages : new.messages ≡ old.messages ++ Submitted batch answer ∷ []

-- a batch for whose submission memory ran out counts as handed over, or not
abbrev pub Submits : Ledger → Ledger → List Sealed → Result Replied AgencyFault → Type 0
Submits old new batch (Ok reply) = HandsOver old new batch (Ok reply)
Submits old new batch (Err Failed) = HandsOver old new batch (Err Failed)
Submits old new batch (Err NoMemory) = IsSilent old new ⊎ HandsOver old new batch (Err NoMemory)

-- it was asked for these Huellas, each by its record's id, and answered so
pub record IsAsked (old new : Ledger) (asked : Named) (answer : Result (List Seen) AgencyFault) : Type 0 where
  pub sent : new.sent ≡ old.sent
  pub messages : new.messages ≡ old.messages ++ Consulted asked answer ∷ []

-- a consultation for which memory ran out changes nothing
abbrev pub Consults : Ledger → Ledger → Named → Result (List Seen) AgencyFault → Type 0
Consults old new asked (Ok seen) = IsAsked old new asked (Ok seen)
Consults old new asked (Err Failed) = IsAsked old new asked (Err Failed)
Consults old new asked (Err NoMemory) = new ≡ old
