-- What hearing one line leaves.
use Rattle.std.specs.Prelude.{◌≡◌, ℕ, ◌+◌, List, [], ◌++◌, min, None, true, false}
use Rattle.script.specs.Forms.{has_clock}
use Rattle.script.specs.Heard.{known_of}
use Rattle.script.specs.Lines.{above_of}
use Rattle.script.specs.declared.forms.Form.{Form}
use Rattle.script.specs.declared.forms.Form.TheVariants.{First, Later}
use Rattle.script.specs.declared.lines.Meaning.{Meaning}
use Rattle.script.specs.declared.lines.Meaning.TheVariants as line
use Rattle.dialogue.specs.Protocol.{Reading, answer_text, asks_of, clock_of, form_after, is_question, leaves, question}
use Rattle.dialogue.specs.Protocol.{reading_of, says}
use Rattle.line_reader.specs.Lists.{InputLine}
use Rattle.dialogue.specs.declared.speaker.Speaker.{Speaker}
use Rattle.dialogue.specs.declared.speaker.Action.{Action}
use Rattle.dialogue.specs.declared.speaker.Action.TheVariants.{Write, Clock, Ask, Look}
use Rattle.ports.specs.Causes.{greatest_u64}

-- what may be said next: at first also a clock line
abbrev pub form_of : Speaker → Form
form_of s = s.form

-- nothing was said
pub record Begins (s : Speaker) : Type 0 where
  pub heard : known_of s.heard ≡ above_of []
  pub form : s.form ≡ First
  pub number : s.number ≡ 1

-- what a line that was read so asks of its reader: to write its answer, to set the clock too, to ask, or to look
abbrev pub IsAction : ℕ → Reading → Action → Type 0
IsAction number reading (Write text) =
    (asks_of reading ≡ []) × (clock_of reading ≡ None) × (is_question reading ≡ false) × (text ≡ answer_text number reading [])
IsAction number reading (Clock start step text) = (reading ≡ says (line.Clock start step)) × (text ≡ answer_text number reading [])
IsAction number reading (Ask ask) = reading ≡ says (line.Command ask)
IsAction number reading (Look asked) = reading ≡ question asked

-- a clock line is the first, and stands where it may
abbrev pub IsAhead : Speaker → Action → Type 0
IsAhead old (Write text) = Unit {0}
IsAhead old (Clock start step text) = (has_clock old.form ≡ true) × ((known_of old.heard).clock ≡ None)
IsAhead old (Ask ask) = Unit {0}
IsAhead old (Look asked) = Unit {0}

-- the next line has the next number
abbrev pub IsNext : Speaker → Speaker → Type 0
IsNext old new = new.number ≡ min (old.number + 1) greatest_u64

-- a line that was read so, under this number, was heard after those that said this
pub record HeardAs (number : ℕ) (before : List Meaning) (old new : Speaker) (reading : Reading) (action : Action) : Type 0 where
  pub heard : known_of new.heard ≡ above_of (before ++ leaves reading)
  pub form : new.form ≡ form_after old.form reading
  pub action_is : IsAction number reading action

-- the line was heard after those that said this
pub record HeardAfter (before : List Meaning) (old new : Speaker) (line : InputLine) (action : Action) : Type 0 where
  pub reading : Reading
  pub is : reading_of old.form before line ≡ reading
  pub heard : HeardAs old.number before old new reading action

pub record LineRead (old new : Speaker) (line : InputLine) (action : Action) : Type 0 where
  pub next : IsNext old new
  pub ahead : IsAhead old action
  pub after : (before : List Meaning) → known_of old.heard ≡ above_of before → HeardAfter before old new line action

-- a line was passed over and told of as this, whatever stands in it
pub record PassesOver (old new : Speaker) (reading : Reading) (action : Action) : Type 0 where
  pub next : IsNext old new
  pub ahead : IsAhead old action
  pub heard : new.heard ≡ old.heard
  pub form : new.form ≡ Later
  pub action_is : IsAction old.number reading action
