-- What each line is answered, given the lines before it and the replies to the commands among them.
use Rattle.std.specs.Prelude.{◌≡◌, ℕ, ◌+◌, List, [], ◌∷◌, ◌++◌, codes, decimal, length, map, min, nat_lt, zip}
use Rattle.std.specs.Prelude.{if◌then◌else◌, Bool, true, false, Option, Some, None, Result, Ok, Err, filter, flat_map, ◌==◌}
use Rattle.std.specs.Str.Lines.{strip_carriage_return}
use Rattle.journal.specs.declared.faults.StoreFault.{StoreFault}
use Rattle.questions.specs.Answers.{IsAnswer}
use Rattle.questions.specs.Reading.{fault_text, question_of}
use Rattle.questions.specs.declared.faults.QuestionFault.{QuestionFault}
use Rattle.questions.specs.declared.questions.TillQuestion.{TillQuestion}
use Rattle.record_codec.specs.declared.entry.Entry.{Entry}
use Rattle.record_fields.specs.Picks.{first_of}
use Rattle.shop_core.specs.Answer.Requests.{Asked}
use Rattle.shop_core.specs.declared.answer.Reply.{Reply}
use Rattle.shop_core.specs.declared.words.Word.{Word}
use Rattle.report.specs.Answers.{answers_text}
use Rattle.report.specs.Faults.{word_text}
use Rattle.report.specs.declared.answers.AnswerLine.{AnswerLine}
use Rattle.report.specs.declared.answers.AnswerLine.TheVariants.{Answered}
use Rattle.script.specs.Heard.{kept_in}
use Rattle.script.specs.Lines.{clock_in, said}
use Rattle.script.specs.declared.forms.Form.{Form}
use Rattle.script.specs.declared.forms.Form.TheVariants.{First, Later}
use Rattle.script.specs.declared.lines.Meaning.{Meaning}
use Rattle.script.specs.declared.lines.Meaning.TheVariants.{Skip, Clock, Customer, Command}
use Rattle.line_reader.specs.Lists.{InputLine, text_of, with_lf, without_lf}
use Rattle.line_reader.specs.declared.reader.TheConstants.{MAX_LINE}
use Rattle.ports.specs.Causes.{greatest_u64}

-- the replies of a run, one an ask
abbrev pub Replies : Type 0
Replies = List (Result Reply StoreFault)

-- what a line is: one of a script's grammar or a wrong one, a question or one with a fault, one that is too long, or the last one,
-- which has no LF
pub data Reading : Type 0 where
  says : Meaning → Reading
  wrong : Word → Reading
  question : TillQuestion → Reading
  wrong_question : QuestionFault → Reading
  too_long : Reading
  unended : Reading

abbrev pub question_reading : Result TillQuestion QuestionFault → Reading
question_reading (Ok asked) = question asked
question_reading (Err fault) = wrong_question fault

abbrev pub script_reading : Result Meaning Word → Reading
script_reading (Ok meaning) = says meaning
script_reading (Err word) = wrong word

-- a line that is no question's is one of a script
abbrev pub read_as : Option (Result TillQuestion QuestionFault) → Result Meaning Word → Reading
read_as (Some asked) by_script = question_reading asked
read_as None by_script = script_reading by_script

-- a line without the carriage return at its end
abbrev pub line_reading : Form → List Meaning → List ℕ → Reading
line_reading form before text = read_as (question_of text) (said form before text)

-- a line that isn't too long: what stands in one without an LF is never looked at
abbrev pub short_reading : Form → List Meaning → InputLine → Reading
short_reading form before (with_lf text) = line_reading form before (strip_carriage_return text)
short_reading form before (without_lf text) = unended

-- a line, after what those before it leave: what they said in order, without their commands
abbrev pub reading_of : Form → List Meaning → InputLine → Reading
reading_of form before line = if nat_lt MAX_LINE (length (text_of line)) then too_long else short_reading form before line

-- what later lines look at of it: a command, a question, and a line that is only told of, leave nothing
abbrev pub leaves : Reading → List Meaning
leaves (says meaning) = kept_in meaning
leaves other = []

-- a clock line may stand ahead of every line that is answered
abbrev pub form_after : Form → Reading → Form
form_after form (says Skip) = form
form_after form other = Later

abbrev pub asks_of : Reading → List Asked
asks_of (says (Command ask)) = ask ∷ []
asks_of other = []

-- START and STEP of a clock line
abbrev pub clock_of : Reading → Option (ℕ × ℕ)
clock_of (says meaning) = clock_in meaning
clock_of other = None

abbrev pub is_question : Reading → Bool
is_question (question asked) = true
is_question other = false

-- numbers of lines stand still at the greatest u64
abbrev pub number_of : ℕ → ℕ
number_of before = min (before + 1) greatest_u64

abbrev pub numbered : ℕ → List ℕ → List ℕ
numbered number word = codes "line " ++ decimal number ++ codes " " ++ word ++ codes "\n"

abbrev pub answered : Asked × Result Reply StoreFault → AnswerLine
answered a = Answered a.0.till a.0.serial a.1

-- what is written for a line with this number that is no question, given the reply to its command
abbrev pub answer_text : ℕ → Reading → Replies → List ℕ
answer_text number (says (Clock start step)) replies = codes "clock " ++ decimal start ++ codes " " ++ decimal step ++ codes "\n"
answer_text number (says (Customer key party)) replies = codes "customer " ++ key ++ codes "\n"
answer_text number (says (Command ask)) replies = answers_text (map answered (zip (ask ∷ []) replies))
answer_text number (says other) replies = []
answer_text number (wrong word) replies = numbered number (word_text word)
answer_text number (question asked) replies = []
answer_text number (wrong_question fault) replies = numbered number (fault_text fault)
answer_text number too_long replies = numbered number (codes "too-long")
answer_text number unended replies = numbered number (codes "unended")

-- the line of answer to a command
abbrev pub reply_text : Asked → Result Reply StoreFault → List ℕ
reply_text ask replied = answer_text 0 (says (Command ask)) (replied ∷ [])

-- START and STEP of the clock line, where one was said
abbrev pub clock_said : List Meaning → Option (ℕ × ℕ)
clock_said before = first_of (map clock_in before)

-- a question that was answered: how many commands were answered before it, and the history at which it was
pub record Look : Type 0 where
  pub after : ℕ
  pub history : List Entry

-- What was said: the lines, what may come after them, what they leave, the commands among them, the replies to these, the
-- looks of the questions among them, and what was written for each line.
pub record Transcript : Type 0 where
  pub lines : List InputLine
  pub form : Form
  pub before : List Meaning
  pub asks : List Asked
  pub replies : Replies
  pub looks : List Look
  pub answers : List (List ℕ)

abbrev pub nothing_said : Transcript
nothing_said = record { lines = []; form = First; before = []; asks = []; replies = []; looks = []; answers = [] }

-- the look of a question that comes now, at this history
abbrev pub look_at : Transcript → List Entry → Look
look_at t history = record { after = length t.replies; history = history }

-- What is written for a line after these, given the reply to its command or the look of its question: a question's answer is that
-- at the history of its look.
abbrev pub IsAnsweredBy : Transcript → Reading → Replies → List Look → List ℕ → Type 0
IsAnsweredBy t (question asked) replied looked answer =
    (history : List Entry) × (looked ≡ look_at t history ∷ []) × IsAnswer asked history answer
IsAnsweredBy t other replied looked answer = (looked ≡ []) × (answer ≡ answer_text (number_of (length t.lines)) other replied)

-- the same with one line more
abbrev pub with_line : Transcript → InputLine → Reading → Replies → List Look → List ℕ → Transcript
with_line t line reading replied looked answer = record {
  lines = t.lines ++ line ∷ [];
  form = form_after t.form reading;
  before = t.before ++ leaves reading;
  asks = t.asks ++ asks_of reading;
  replies = t.replies ++ replied;
  looks = t.looks ++ looked;
  answers = t.answers ++ answer ∷ [];
}

-- Lines that were said one by one, each read after what those before it leave, and answered.
pub data Dialogue : Transcript → Type 0 where
  silence : Dialogue nothing_said
  line : (t : Transcript) (line : InputLine) (reading : Reading) (replied : Replies) (looked : List Look) (answer : List ℕ) →
      Dialogue t → reading_of t.form t.before line ≡ reading → length replied ≡ length (asks_of reading) →
      IsAnsweredBy t reading replied looked answer → Dialogue (with_line t line reading replied looked answer)

-- what is written for all of them
abbrev pub written_for : List (List ℕ) → List ℕ
written_for answers = flat_map (λ (answer : List ℕ). answer) answers

-- the replies to one till's commands, in order
abbrev pub replies_of : ℕ → List Asked → Replies → Replies
replies_of till asks replies = map (λ (a : Asked × Result Reply StoreFault). a.1)
    (filter (λ (a : Asked × Result Reply StoreFault). a.0.till == till) (zip asks replies))
