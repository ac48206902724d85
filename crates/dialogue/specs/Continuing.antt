-- How far a dialogue is, and one line more of it.
use Rattle.std.specs.Prelude.{◌≡◌, ◌≢◌, ℕ, List, [], ◌∷◌, ◌++◌, length, Some, None, Result}
use Rattle.journal.specs.declared.faults.StoreFault.{StoreFault}
use Rattle.shop_core.specs.Answer.Requests.{Asked}
use Rattle.shop_core.specs.declared.answer.Reply.{Reply}
use Rattle.script.specs.Heard.{known_of}
use Rattle.script.specs.Lines.{above_of}
use Rattle.script.specs.declared.forms.Form.{Form}
use Rattle.script.specs.declared.forms.Form.TheVariants.{First, Later}
use Rattle.script.specs.declared.lines.Meaning.{Meaning}
use Rattle.script.specs.declared.lines.Meaning.TheVariants as meaning
use Rattle.line_reader.specs.Lists.{InputLine}
use Rattle.questions.specs.Answers.{IsAnswer}
use Rattle.questions.specs.declared.questions.TillQuestion.{TillQuestion}
use Rattle.record_codec.specs.declared.entry.Entry.{Entry}
use Rattle.dialogue.specs.Protocol.{Dialogue, Transcript, clock_said, look_at, number_of, reply_text, written_for}
use Rattle.dialogue.specs.OneLine.{form_of}
use Rattle.dialogue.specs.declared.speaker.Speaker.{Speaker}
use Rattle.dialogue.specs.declared.speaker.Action.{Action}
use Rattle.dialogue.specs.declared.speaker.Action.TheVariants.{Write, Clock, Ask, Look}

-- no line was answered, and no clock was said
pub record IsQuiet (t : Transcript) : Type 0 where
  pub asks_none : t.asks ≡ []
  pub looks_none : t.looks ≡ []
  pub text_none : written_for t.answers ≡ []
  pub clock_none : clock_said t.before ≡ None

-- this was said, and the speaker knows it
pub record SpeakerKnows (s : Speaker) (t : Transcript) : Type 0 where
  pub dialogue : Dialogue t
  pub form : t.form ≡ form_of s
  pub heard : known_of s.heard ≡ above_of t.before
  pub number : s.number ≡ number_of (length t.lines)
  pub pairs : length t.replies ≡ length t.asks
  pub quiet : form_of s ≡ First → IsQuiet t

-- one line more that was answered so, in this form
abbrev pub with_answer : Transcript → InputLine → Form → List ℕ → Transcript
with_answer t line form answer = record t { lines = t.lines ++ line ∷ []; form = form; answers = t.answers ++ answer ∷ [] }

-- the line asks for no more than its answer, which is empty where the form stays the first
pub record WritesOn (old new : Speaker) (t : Transcript) (line : InputLine) (answer : List ℕ) : Type 0 where
  pub left : List Meaning
  pub so_far : SpeakerKnows new (record (with_answer t line (form_of new) answer) { before = t.before ++ left })
  pub clock : clock_said (t.before ++ left) ≡ clock_said t.before
  pub later : form_of old ≡ Later → form_of new ≡ Later

-- it is the clock line
pub record ClocksOn (old new : Speaker) (t : Transcript) (line : InputLine) (start step : ℕ) (answer : List ℕ) : Type 0 where
  pub ahead : form_of old ≢ Later
  pub so_far : SpeakerKnows new
      (record (with_answer t line (form_of new) answer) { before = t.before ++ meaning.Clock start step ∷ [] })
  pub clock : clock_said (t.before ++ meaning.Clock start step ∷ []) ≡ Some (start, step)
  pub later : form_of new ≡ Later

-- it is a command; what is written for it is for its reply
pub record AsksOn (new : Speaker) (t : Transcript) (line : InputLine) (ask : Asked) : Type 0 where
  pub so_far : (replied : Result Reply StoreFault) →
      SpeakerKnows new (record (with_answer t line (form_of new) (reply_text ask replied)) {
        asks = t.asks ++ ask ∷ [];
        replies = t.replies ++ replied ∷ [];
      })
  pub later : form_of new ≡ Later

-- it is a question; what is written for it answers it at a history
pub record LooksOn (new : Speaker) (t : Transcript) (line : InputLine) (asked : TillQuestion) : Type 0 where
  pub so_far : (history : List Entry) (answer : List ℕ) → IsAnswer asked history answer →
      SpeakerKnows new (record (with_answer t line (form_of new) answer) { looks = t.looks ++ look_at t history ∷ [] })
  pub later : form_of new ≡ Later

abbrev pub ContinuesBy : Speaker → Speaker → Transcript → InputLine → Action → Type 0
ContinuesBy old new t line (Write answer) = WritesOn old new t line answer
ContinuesBy old new t line (Clock start step answer) = ClocksOn old new t line start step answer
ContinuesBy old new t line (Ask ask) = AsksOn new t line ask
ContinuesBy old new t line (Look asked) = LooksOn new t line asked

-- what a line makes of each dialogue that has come so far
abbrev pub Continues : Speaker → Speaker → InputLine → Action → Type 0
Continues old new line action = (t : Transcript) → SpeakerKnows old t → ContinuesBy old new t line action
