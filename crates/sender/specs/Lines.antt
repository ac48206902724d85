-- What is told of a turn, by the message that it said to the agency.
use Rattle.std.specs.Prelude.{◌≡◌, ◌⊎◌, ℕ, List, [], ◌∷◌, ◌++◌, length, map, ⊤, Option, Some, None, Result, Ok, Err}
use Rattle.std.specs.List.{AllByRecursion}
use Rattle.record_fields.specs.declared.records.Sealed.{Sealed}
use Rattle.record_fields.specs.declared.lines.Line.{Line}
use Rattle.agency_port.specs.Reply.{Replied}
use Rattle.agency_port.specs.Ledger.{Names}
use Rattle.agency_port.specs.declared.answers.Seen.{Seen}
use Rattle.agency_port.specs.declared.answers.ReplyLine.TheVariants.{First}
use Rattle.agency_port.specs.declared.answers.AgencyFault.TheVariants as agency
use Rattle.agency_port.specs.declared.messages.Message.{Message}
use Rattle.agency_port.specs.declared.messages.Message.TheVariants.{Begun, Submitted, Consulted}
use Rattle.agency_port.specs.declared.turns.Evidence.{Evidence}
use Rattle.agency_port.specs.declared.turns.Told.{Told}
use Rattle.agency_port.specs.declared.turns.Told.TheVariants as told
use Rattle.agency_replies.specs.Sorting.{IsFirstAgain}
use Rattle.consultation.specs.Sorting.{IsFront}
use Rattle.sender.specs.declared.answers.Turn.{Turn}
use Rattle.sender.specs.declared.answers.SendFault.{SendFault}
use Rattle.sender.specs.Evidence.{Shows}
use Rattle.sender.specs.declared.answers.DrainFault.{DrainFault}
use Rattle.sender.specs.declared.answers.DrainFault.TheVariants as drain
use Rattle.sender.specs.Draining.{told_in, list_of}

-- all records of the batch are new
abbrev pub AreAllNew : List Sealed → Replied → Type 0
AreAllNew batch reply = Names reply batch × ((lines : List Line) × (reply.lines ≡ map First lines))

-- the line of lines that were handed to the shop: P holds of them, and Q of their count where they were noted
abbrev pub NotedLineOf : Type 0 → (ℕ → Type 0) → Told → Type 0
NotedLineOf P Q (told.Noted n) = Q n
NotedLineOf P Q told.Disk = P
NotedLineOf P Q (told.Stopped faults) = P
NotedLineOf P Q told.Memory = ⊤
NotedLineOf P Q _ = ⊥

-- the line of a submission that was replied to
abbrev pub ReplyLineOf : List Sealed → Replied → Told → Type 0
ReplyLineOf batch reply told.Link = Names reply batch → ⊥
ReplyLineOf batch reply (told.Doubt place) = Names reply batch × ((index : ℕ) × IsFirstAgain reply.lines index)
ReplyLineOf batch reply line = NotedLineOf (AreAllNew batch reply) (λ (n : ℕ). AreAllNew batch reply × (n ≡ length batch)) line

-- the line of a consultation that was answered; what contradicts may contradict an earlier reply
abbrev pub SeenLineOf : List (List ℕ) → List Seen → Told → Type 0
SeenLineOf huellas seen told.Cleared = IsFront seen []
SeenLineOf huellas seen told.Contradiction =
    (said : Option Replied) × (first : ℕ) × (evidence : Evidence) × Shows said first huellas seen (Err evidence)
SeenLineOf huellas seen line = NotedLineOf ((lines : List Line) × IsFront seen lines)
    (λ (n : ℕ). (lines : List Line) × IsFront seen lines × (n ≡ length lines)) line

abbrev pub IsLineOf : Message → Told → Type 0
IsLineOf (Begun plan pairs) printed = ⊥
IsLineOf (Submitted batch (Ok reply)) printed = ReplyLineOf batch reply printed
IsLineOf (Submitted batch (Err agency.Failed)) printed = printed ≡ told.Link
IsLineOf (Submitted batch (Err agency.NoMemory)) printed = printed ≡ told.Memory
IsLineOf (Consulted asked (Ok seen)) printed = SeenLineOf asked.huellas seen printed
IsLineOf (Consulted asked (Err agency.Failed)) printed = printed ≡ told.Link
IsLineOf (Consulted asked (Err agency.NoMemory)) printed = printed ≡ told.Memory

-- nothing was said to the agency
abbrev pub IsQuiet : Option Told → Type 0
IsQuiet None = ⊤
IsQuiet (Some (told.Wait at)) = ⊤
IsQuiet (Some told.Memory) = ⊤
IsQuiet _ = ⊥

-- one message more, and its line
pub record Spoke (old new : List Message) (answer : Result Turn SendFault) : Type 0 where
  pub message : Message
  pub line : Told
  pub said : new ≡ old ++ message ∷ []
  pub told : told_in answer ≡ Some line
  pub of_it : IsLineOf message line

-- what is told of a turn is the line of its one message; without one it waits, rests or found no memory
abbrev pub TellsOf : List Message → List Message → Result Turn SendFault → Type 0
TellsOf old new answer = ((new ≡ old) × IsQuiet (told_in answer)) ⊎ Spoke old new answer

-- lines of messages, one after another; some lines are of none
pub data LinesOf : List Message → List Told → Type 0 where
  no_line : LinesOf [] []
  quiet_line : (messages : List Message) (lines : List Told) (line : Option Told) → LinesOf messages lines → IsQuiet line →
      LinesOf messages (lines ++ list_of line)
  line_of : (messages : List Message) (lines : List Told) (message : Message) (line : Told) → LinesOf messages lines →
      IsLineOf message line → LinesOf (messages ++ message ∷ []) (lines ++ line ∷ [])

-- What a drain tells are the lines of its messages, in order; without memory the last one may be untold.
pub record DrainTells (old new : List Message) (told_old told_new : List Told)
    (result : Result (Unit {0}) DrainFault) : Type 0 where
  pub messages : List Message
  pub said : new ≡ old ++ messages
  pub lines : List Told
  pub of_them : LinesOf messages lines
  pub told : (told_new ≡ told_old ++ lines)
      ⊎ ((result ≡ Err drain.NoMemory) × ((last : List Told) × (told_new ++ last ≡ told_old ++ lines)))

-- a submission or a consultation
abbrev pub IsCall : Message → Type 0
IsCall (Begun plan pairs) = ⊥
IsCall _ = ⊤

-- submissions and consultations alone were said
pub record SaysCalls (old new : List Message) : Type 0 where
  pub session : List Message
  pub is : new ≡ old ++ session
  pub calls : AllByRecursion IsCall session
