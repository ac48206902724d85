-- What the agency answers, by what it has processed. The three states, and that a refused record that comes again is
-- answered Duplicado too, are this project's own.
use Rattle.std.specs.Prelude.{ℕ, List, map, Option, Some, None, Bool, true, false}
use Rattle.record_fields.specs.declared.records.Sealed.{Sealed}
use Rattle.record_fields.specs.declared.lines.Line.{Line}
use Rattle.record_fields.specs.declared.lines.Line.TheVariants as line_of_kind
use Rattle.agency_rules.specs.declared.plans.PlannedVerdict.{PlannedVerdict}
use Rattle.agency_rules.specs.declared.pairs.Delivered.{Delivered}
use Rattle.agency_rules.specs.declared.pairs.Delivered.TheVariants as delivered_as
use Rattle.agency_rules.specs.Pairs.{line_of, meetings}
use Rattle.agency_port.specs.declared.answers.State3.{State3}
use Rattle.agency_port.specs.declared.answers.State3.TheVariants.{Correcto, ConErrores, Incorrecto}
use Rattle.agency_port.specs.declared.answers.ReplyLine.{ReplyLine}
use Rattle.agency_port.specs.declared.answers.ReplyLine.TheVariants.{First, Duplicado}
use Rattle.agency_port.specs.declared.answers.Seen.{Seen}
use Rattle.agency_port.specs.declared.answers.Seen.TheVariants.{NotSeen, Was}

abbrev pub state_of : Line → State3
state_of line_of_kind.Correcto = Correcto
state_of (line_of_kind.ConErrores code) = ConErrores
state_of (line_of_kind.Incorrecto why) = Incorrecto

abbrev pub reply_line : Delivered → ReplyLine
reply_line (delivered_as.First line) = First line
reply_line (delivered_as.Again line) = Duplicado (state_of line)

abbrev pub is_duplicado : ReplyLine → Bool
is_duplicado (First line) = false
is_duplicado (Duplicado state) = true

-- the answers to a batch, by what its records meet
abbrev pub answers : List PlannedVerdict → List (Sealed × Line) → List Sealed → List ReplyLine
answers verdicts processed batch = map reply_line (meetings verdicts processed batch)

abbrev pub seen_of : Option Line → Seen
seen_of None = NotSeen
seen_of (Some line) = Was line

-- the answers to a consultation
abbrev pub looked : List (Sealed × Line) → List (List ℕ) → List Seen
looked processed huellas = map (λ (h : List ℕ). seen_of (line_of processed h)) huellas
