-- What a line asks. The grammar is this project's own.
use Rattle.std.specs.Prelude.{ℕ, List, [], ◌∷◌, codes, bytes_eq, if◌then◌else◌, option_map, Option, None, Result, Ok, Err}
use Rattle.std.specs.Option.{ok_or}
use Rattle.std.specs.Str.{is_utf8}
use Rattle.record_codec.specs.declared.entry.TheConstants.{LAST_TILL}
use Rattle.record_fields.specs.Picks.{first_of, when}
use Rattle.report.specs.Faults.{word_text}
use Rattle.script.specs.Fields.{fields_of, field_at, ends_at, past, such}
use Rattle.script.specs.Numbers.{cents_of, number_in}
use Rattle.script.specs.Readings.{class_of}
use Rattle.series.specs.Numbers.{is_num_serie}
use Rattle.shop_core.specs.declared.words.Word.{Word}
use Rattle.shop_core.specs.declared.words.Word.TheVariants as word
use Rattle.verify_link.specs.declared.parts.Host.{Host}
use Rattle.verify_link.specs.declared.parts.Host.TheVariants.{Real, Practice}
use Rattle.questions.specs.declared.faults.QuestionFault.{QuestionFault}
use Rattle.questions.specs.declared.faults.QuestionFault.TheVariants as fault
use Rattle.questions.specs.declared.questions.TillQuestion.{TillQuestion}
use Rattle.questions.specs.declared.questions.TillQuestion.TheVariants.{Ticket, Record, Serial, Last, Lines, Chain}
use Rattle.questions.specs.declared.reading.Verb.{Verb}
use Rattle.questions.specs.declared.reading.Verb.TheVariants as verb

-- the word that is printed of a fault
abbrev pub fault_text : QuestionFault → List ℕ
fault_text (fault.Word word) = word_text word
fault_text fault.Host = codes "Host"

-- what is asked, or the first fault
abbrev pub Said : Type 0
Said = Result TillQuestion QuestionFault

abbrev pub worded : {A : Type 0} → Result A Word → Result A QuestionFault
worded (Ok x) = Ok x
worded (Err word) = Err (fault.Word word)

-- the first, and then what its value leads to
abbrev pub then_on : {A : Type 0} → Result A QuestionFault → (A → Said) → Said
then_on (Ok x) next = next x
then_on (Err fault) next = Err fault

-- the question, where no field is left past the first k
abbrev pub alone : ℕ → List (List ℕ) → TillQuestion → Said
alone k fields question = worded (ends_at k fields (Ok question))

abbrev pub host_in : List ℕ → Option Host
host_in text = first_of (when (bytes_eq text (codes "real")) Real ∷ when (bytes_eq text (codes "test")) Practice ∷ [])

-- the host that the first field names
abbrev pub host_at : List (List ℕ) → Result Host QuestionFault
host_at [] = Err (fault.Word word.Fields)
host_at (name ∷ fields) = ok_or (host_in name) fault.Host

-- `ticket NUM HOST`, after its first field
abbrev pub ticket_said : List (List ℕ) → Said
ticket_said fields =
    then_on (worded (field_at 0 fields (such is_num_serie) word.Num)) (λ (num : List ℕ).
    then_on (host_at (past 1 fields)) (λ (host : Host). alone 2 fields (Ticket num host)))

-- `record PLACE`
abbrev pub record_said : List (List ℕ) → Said
record_said fields =
    then_on (worded (field_at 0 fields (number_in 1 4_294_967_295) word.Number)) (λ (place : ℕ). alone 1 fields (Record place))

-- `serial TILL SERIAL`
abbrev pub serial_said : List (List ℕ) → Said
serial_said fields =
    then_on (worded (field_at 0 fields (number_in 1 LAST_TILL) word.Till)) (λ (till : ℕ).
    then_on (worded (field_at 1 fields (number_in 1 4_294_967_295) word.Number)) (λ (serial : ℕ). alone 2 fields (Serial till serial)))

-- `last TILL`
abbrev pub last_said : List (List ℕ) → Said
last_said fields =
    then_on (worded (field_at 0 fields (number_in 1 LAST_TILL) word.Till)) (λ (till : ℕ). alone 1 fields (Last till))

-- `lines CLASS TOTAL`, the total in cents
abbrev pub lines_said : List (List ℕ) → Said
lines_said fields =
    then_on (worded (field_at 0 fields class_of word.Class)) (λ key.
    then_on (worded (field_at 1 fields cents_of word.Number)) (λ total. alone 2 fields (Lines key total)))

-- `chain`
abbrev pub chain_said : List (List ℕ) → Said
chain_said fields = alone 0 fields Chain

-- the first words of questions
abbrev pub verb_in : List ℕ → Option Verb
verb_in text = first_of (
    when (bytes_eq text (codes "ticket")) verb.Ticket ∷ when (bytes_eq text (codes "record")) verb.Record
    ∷ when (bytes_eq text (codes "serial")) verb.Serial ∷ when (bytes_eq text (codes "last")) verb.Last
    ∷ when (bytes_eq text (codes "lines")) verb.Lines ∷ when (bytes_eq text (codes "chain")) verb.Chain ∷ [])

abbrev pub said_by : Verb → List (List ℕ) → Said
said_by verb.Ticket fields = ticket_said fields
said_by verb.Record fields = record_said fields
said_by verb.Serial fields = serial_said fields
said_by verb.Last fields = last_said fields
said_by verb.Lines fields = lines_said fields
said_by verb.Chain fields = chain_said fields

-- what the fields of a line ask, where the first is a question's
abbrev pub in_fields : List (List ℕ) → Option Said
in_fields [] = None
in_fields (first ∷ fields) = option_map (λ verb. said_by verb fields) (verb_in first)

-- what a line asks, where it is a question's
abbrev pub question_of : List ℕ → Option Said
question_of text = if is_utf8 text then in_fields (fields_of text) else None
