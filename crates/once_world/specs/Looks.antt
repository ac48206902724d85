-- What a consultation of records says of them, one after another.
use Rattle.std.specs.Prelude.{◌≡◌, List, [], ◌∷◌, ◌++◌}
use Rattle.std.specs.List.{AllByRecursion}
use Rattle.record_fields.specs.declared.records.Sealed.{Sealed}
use Rattle.record_fields.specs.declared.lines.Line.{Line}
use Rattle.batches.specs.Batches.{huellas_of}
use Rattle.agency_port.specs.Answers.{looked}
use Rattle.agency_port.specs.declared.answers.Seen.{Seen}
use Rattle.agency_port.specs.declared.answers.Seen.TheVariants.{NotSeen, Was}

-- the answers to a consultation of these records
abbrev pub answers_for : List (Sealed × Line) → List Sealed → List Seen
answers_for processed records = looked processed (huellas_of records)

-- the lines in front of the first record that isn't seen
abbrev pub lines_in_front : List Seen → List Line
lines_in_front [] = []
lines_in_front (NotSeen ∷ answers) = []
lines_in_front (Was line ∷ answers) = line ∷ lines_in_front answers

-- past a record that isn't seen none is
abbrev pub HasNoHole : List Seen → Type 0
HasNoHole answers = (before after : List Seen) → answers ≡ before ++ NotSeen ∷ after →
    AllByRecursion (λ (answer : Seen). answer ≡ NotSeen) after
