-- What a consultation shows, and the last reply that named its batch.
use Rattle.std.specs.Prelude.{◌≡◌, ℕ, ◌+◌, List, [], ◌∷◌, Option, Some, None, Result, Ok, Err, bytes_eq, if◌then◌else◌, ⊤}
use Rattle.record_fields.specs.declared.lines.Line.{Line}
use Rattle.agency_port.specs.Reply.{Replied}
use Rattle.agency_port.specs.declared.answers.ReplyLine.{ReplyLine}
use Rattle.agency_port.specs.declared.answers.Seen.{Seen}
use Rattle.agency_port.specs.declared.answers.Seen.TheVariants.{NotSeen, Was}
use Rattle.agency_port.specs.declared.turns.Evidence.{Evidence}
use Rattle.agency_port.specs.declared.turns.Evidence.TheVariants.{Hole, Forgotten}
use Rattle.consultation.specs.Sorting.{IsHole, IsFront}
use Rattle.sender.specs.declared.answers.SendFault.{SendFault}
use Rattle.sender.specs.declared.answers.SendFault.TheVariants.{Contradiction, NoMemory}

-- what was said of the record with this Huella
abbrev pub said_in : List (List ℕ) → List ReplyLine → List ℕ → Option ReplyLine
said_in [] lines huella = None
said_in (h ∷ huellas) [] huella = None
said_in (h ∷ huellas) (line ∷ lines) huella = if bytes_eq h huella then Some line else said_in huellas lines huella

-- what was said of the record at this place, if anything was, else what was of a later one
abbrev pub said_at : ℕ → Option ReplyLine → Option (ℕ × ReplyLine) → Option (ℕ × ReplyLine)
said_at place (Some said) later = Some (place, said)
said_at place None later = later

-- of the records from this place on the first that the agency says it hasn't seen, and of which it said something before
abbrev pub forgotten_in : Replied → ℕ → List (List ℕ) → List Seen → Option (ℕ × ReplyLine)
forgotten_in reply place [] answers = None
forgotten_in reply place (h ∷ huellas) [] = None
forgotten_in reply place (h ∷ huellas) (Was line ∷ answers) = forgotten_in reply (place + 1) huellas answers
forgotten_in reply place (h ∷ huellas) (NotSeen ∷ answers) =
    said_at place (said_in reply.huellas reply.lines h) (forgotten_in reply (place + 1) huellas answers)

-- the same, where there was such a reply
abbrev pub forgotten : Option Replied → ℕ → List (List ℕ) → List Seen → Option (ℕ × ReplyLine)
forgotten None place huellas answers = None
forgotten (Some reply) place huellas answers = forgotten_in reply place huellas answers

-- a hole at these places, where the first record that was asked for stands at this one
pub record IsHoleAt (first : ℕ) (answers : List Seen) (unseen seen : ℕ) : Type 0 where
  pub i : ℕ
  pub j : ℕ
  pub hole : IsHole answers i j
  pub unseen_at : unseen ≡ first + i
  pub seen_at : seen ≡ first + j

abbrev pub hole : ℕ → ℕ → SendFault
hole unseen seen = Contradiction (Hole unseen seen)

-- What the answers show of these records, the first of which stands at this place: the lines in front, or a contradiction.
abbrev pub Shows : Option Replied → ℕ → List (List ℕ) → List Seen → Result (List Line) Evidence → Type 0
Shows said first huellas answers (Ok lines) = IsFront answers lines × (forgotten said first huellas answers ≡ None)
Shows said first huellas answers (Err (Hole unseen seen)) = IsHoleAt first answers unseen seen
Shows said first huellas answers (Err (Forgotten place line)) = ((lines : List Line) × IsFront answers lines)
    × (forgotten said first huellas answers ≡ Some (place, line))

-- the same, of a call that may find no memory
abbrev pub Learns : Option Replied → ℕ → List (List ℕ) → List Seen → Result (List Line) SendFault → Type 0
Learns said first huellas answers (Ok lines) = Shows said first huellas answers (Ok lines)
Learns said first huellas answers (Err (Contradiction evidence)) = Shows said first huellas answers (Err evidence)
Learns said first huellas answers (Err NoMemory) = ⊤
Learns said first huellas answers _ = ⊥
