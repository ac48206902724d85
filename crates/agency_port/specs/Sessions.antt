-- What the messages to an agency say of its session, of the records that were handed over, and of the last reply.
use Rattle.std.specs.Prelude.{◌≡◌, ℕ, List, [], ◌∷◌, ◌++◌, filter_map, ◌⊎◌, Option, Some, None, option_map, unwrap_or, Result, Ok}
use Rattle.std.specs.Prelude.{Err, Bool, true, false, not, ◌&&◌, ◌||◌, bytes_eq, if◌then◌else◌}
use Rattle.std.specs.List.{AllByRecursion, list_any, zip}
use Rattle.record_fields.specs.Picks.{last_of, when}
use Rattle.record_fields.specs.declared.records.Sealed.{Sealed}
use Rattle.agency_rules.specs.Pairs.{names}
use Rattle.batches.specs.Batches.{Named}
use Rattle.agency_port.specs.Reply.{Replied}
use Rattle.agency_port.specs.Ledger.{Names}
use Rattle.agency_port.specs.Practice.{is_reply_to}
use Rattle.agency_port.specs.declared.answers.AgencyFault.{AgencyFault}
use Rattle.agency_port.specs.declared.answers.Seen.{Seen}
use Rattle.agency_port.specs.declared.answers.Seen.TheVariants.{NotSeen, Was}
use Rattle.agency_port.specs.declared.messages.Message.{Message}
use Rattle.agency_port.specs.declared.messages.Message.TheVariants.{Begun, Submitted, Consulted}

abbrev pub is_begin : Message → Bool
is_begin (Begun plan pairs) = true
is_begin other = false

-- the session: the messages after the last opening, or all where none was opened
abbrev pub session_of : List Message → List Message
session_of [] = []
session_of (m ∷ messages) = if list_any is_begin (m ∷ messages) then session_of messages else m ∷ messages

-- the message hands a record with this Huella over
abbrev pub hands_over : List ℕ → Message → Bool
hands_over huella (Submitted batch answer) = names batch huella
hands_over huella other = false

abbrev pub is_unseen : Seen → Bool
is_unseen NotSeen = true
is_unseen (Was line) = false

-- the answers to these Huellas say of this one that it wasn't seen
abbrev pub says_unseen : List (List ℕ) → List Seen → List ℕ → Bool
says_unseen huellas seen huella =
    list_any (λ (answer : List ℕ × Seen). is_unseen answer.1 && bytes_eq answer.0 huella) (zip huellas seen)

-- a consultation after the last submission that named the Huella answered NotSeen for it
pub record AnsweredSince (huella : List ℕ) (messages : List Message) : Type 0 where
  pub before : List Message
  pub asked : Named
  pub seen : List Seen
  pub after : List Message
  pub is : messages ≡ before ++ Consulted asked (Ok seen) ∷ after
  pub unseen : says_unseen asked.huellas seen huella ≡ true
  pub since : AllByRecursion (λ (m : Message). hands_over huella m ≡ false) after

-- a record with this Huella may be handed over: it never was, or was answered for since
abbrev pub MayGo : List ℕ → List Message → Type 0
MayGo huella messages = AllByRecursion (λ (m : Message). hands_over huella m ≡ false) messages ⊎ AnsweredSince huella messages

-- whether the Huella is in the dark after a message, by whether it was before: handed over, and not answered for since
abbrev pub dark_after : List ℕ → Bool → Message → Bool
dark_after huella before (Submitted batch answer) = names batch huella || before
dark_after huella before (Consulted asked (Ok seen)) = before && not (says_unseen asked.huellas seen huella)
dark_after huella before other = before

abbrev pub dark_from : List ℕ → Bool → List Message → Bool
dark_from huella before [] = before
dark_from huella before (m ∷ messages) = dark_from huella (dark_after huella before m) messages

abbrev pub dark : List Message → List ℕ → Bool
dark messages huella = dark_from huella false messages

-- the reply to a batch, where it names it
abbrev pub named_reply : List Sealed → Result Replied AgencyFault → Option Replied
named_reply batch (Ok reply) = when (is_reply_to reply batch) reply
named_reply batch (Err why) = None

-- what a message makes of the reply that is kept: a reply that names its batch is kept from now on, and a consultation that
-- answers leaves none
abbrev pub keeps : Message → Option (Option Replied)
keeps (Submitted batch answer) = option_map Some (named_reply batch answer)
keeps (Consulted asked (Ok seen)) = Some None
keeps other = None

-- the last reply that named its batch, until a consultation answers
abbrev pub kept_reply : List Message → Option Replied
kept_reply messages = unwrap_or (last_of (filter_map keeps messages)) None

-- This reply named its batch, none has since, and no consultation has answered: the next one that does is the first after it.
pub record IsKept (messages : List Message) (reply : Replied) : Type 0 where
  pub before : List Message
  pub batch : List Sealed
  pub after : List Message
  pub is : messages ≡ before ++ Submitted batch (Ok reply) ∷ after
  pub named : Names reply batch
  pub since : AllByRecursion (λ (m : Message). keeps m ≡ None) after
