-- What one call leaves of the sink and the source, and what it is answered.
use Rattle.std.specs.Prelude.{◌≡◌, ◌≤◌, ◌⊎◌, ◌++◌, ℕ, List, [], take, Bool, true, false, Option, Result, Ok, Err}
use Rattle.ports.specs.Sinks.{Sinks, FailedIn, Wrote, WroteNothing}
use Rattle.ports.specs.Memory.{counted_up}
use Rattle.ports.specs.Causes.{Rose}
use Rattle.ports.specs.Sources.{Sources, SourceRose}
use Rattle.std.specs.Io.KnownBytes.{Appends, Consumes}
use Rattle.verify_link.specs.declared.parts.Host.{Host}
use Rattle.serde_json.specs.Data.{Data}
use Rattle.serde_json.specs.declared.value.Value.{Value}
use Rattle.agency_port.specs.declared.answers.AgencyFault.{AgencyFault}
use Rattle.agency_port.specs.declared.answers.AgencyFault.TheVariants.{Failed, NoMemory}
use Rattle.agency_pipe.specs.Answers.{Answers, IsOther}
use Rattle.agency_pipe.specs.Greeting.{Began, FailedToOpen, Greets, NotBegun, openings, rest_of}
use Rattle.agency_pipe.specs.Hearing.{Behind, Gave, Hears}
use Rattle.agency_pipe.specs.Lines.{with_lf}
use Rattle.agency_pipe.specs.declared.faults.Unheard.{Unheard}
use Rattle.agency_pipe.specs.declared.faults.Unheard.TheVariants as unheard
use Rattle.agency_pipe.specs.declared.answer_reader.Deaf.{Deaf}
use Rattle.agency_pipe.specs.declared.answer_reader.Deaf.TheVariants as deaf
use Rattle.agency_pipe.specs.declared.exchange.Quiet.{Quiet}
use Rattle.agency_pipe.specs.declared.exchange.Quiet.TheVariants as quiet

abbrev pub KnockFails : Sources → Sinks → Result (Unit {0}) Quiet → Type 0
KnockFails s k (Ok done) = Unit {0}
KnockFails s k (Err quiet.Sink) = Rose k.faults k.faults_after
KnockFails s k (Err quiet.Closed) = SourceRose s
KnockFails s k (Err (quiet.Unbegun why)) = ⊥
KnockFails s k (Err (quiet.Deaf why)) = ⊥

-- both ends were opened, and nothing moved; or one of them failed
pub record Knocks (s : Sources) (k : Sinks) (result : Result (Unit {0}) Quiet) : Type 0 where
  pub read : Consumes s.left s.left_after []
  pub wrote : WroteNothing k
  pub source_later : s.faults ≤ s.faults_after
  pub sink_later : k.faults ≤ k.faults_after
  pub failed : KnockFails s k result

-- It is begun with the opening, which the number is of, and the message has the number after that.
pub record Call : Type 0 where
  pub opening : List ℕ
  pub number : ℕ
  pub message : List ℕ

abbrev pub call_of : List ℕ → ℕ → List ℕ → Call
call_of opening number message = record { opening = opening; number = number; message = message }

-- The sink took the openings, and then all of the message, exactly where the begin was answered; what comes after that is said of the rest
-- of the source.
abbrev pub Told : Sources → Sinks → Call → (Sources → Type 0) → Type 0
Told s k c Then =
    (mid : Option (List ℕ)) × (b : Began c.number s.left mid) × Wrote k (openings c.opening c.number b.passed ++ c.message) × Then (rest_of s mid)

-- the begin was answered, and then the sink failed: it took the openings and a front of the message
abbrev pub FailedToTell : Sources → Sinks → Call → Type 0
FailedToTell s k c =
    (b : Began c.number s.left s.left_after) × Rose k.faults k.faults_after
    × ((n : ℕ) × Appends k.taken k.taken_after (openings c.opening c.number b.passed ++ take n c.message))

-- a write failed, of an opening or of the message
abbrev pub FailedToWrite : Sources → Sinks → Call → Type 0
FailedToWrite s k c = FailedToOpen s k c.number c.opening ⊎ FailedToTell s k c

-- an end couldn't be opened, and nothing was written
abbrev pub Closed : Sources → Sinks → Type 0
Closed s k = WroteNothing k × SourceRose s

-- the message was written and the answer's value came; or a write failed; or the source couldn't be opened; or the begin wasn't
-- answered, and nothing of the message was written; or no answer was heard
abbrev pub Exchanges : Sources → Sinks → Call → Result Value Quiet → Type 0
Exchanges s k c (Ok value) = Told s k c (λ rest. Gave rest (counted_up c.number) (Ok value))
Exchanges s k c (Err quiet.Sink) = FailedToWrite s k c
Exchanges s k c (Err quiet.Closed) = Closed s k
Exchanges s k c (Err (quiet.Unbegun why)) = NotBegun s k c.number c.opening why
Exchanges s k c (Err (quiet.Deaf why)) = Told s k c (λ rest. Hears rest (counted_up c.number) (Err why))

-- the begin was answered, or why it wasn't; both files were opened first, where they weren't open
abbrev pub Meets : Sources → Sinks → ℕ → List ℕ → Result (Unit {0}) Quiet → Type 0
Meets s k n opening (Err quiet.Closed) = Closed s k
Meets s k n opening other = Greets s k n opening other

-- the same of the message alone, once the begin was answered
abbrev pub SendsAndReads : Sources → Sinks → ℕ → List ℕ → Result Value Quiet → Type 0
SendsAndReads s k n message (Ok value) = Wrote k message × Gave s n (Ok value)
SendsAndReads s k n message (Err quiet.Sink) = FailedIn k message × Consumes s.left s.left_after []
SendsAndReads s k n message (Err quiet.Closed) = ⊥
SendsAndReads s k n message (Err (quiet.Unbegun why)) = ⊥
SendsAndReads s k n message (Err (quiet.Deaf why)) = Wrote k message × Hears s n (Err why)

abbrev pub is_no_memory : Unheard → Bool
is_no_memory unheard.Json = false
is_no_memory unheard.Earlier = false
is_no_memory unheard.Fault = false
is_no_memory unheard.Hello = false
is_no_memory unheard.Shape = false
is_no_memory unheard.NoMemory = true

-- there was no memory to read a line
abbrev pub lacks_memory : Deaf → Bool
lacks_memory (deaf.Line why) = is_no_memory why
lacks_memory deaf.Source = false
lacks_memory deaf.End = false
lacks_memory deaf.TooLong = false
lacks_memory deaf.Earlier = false

abbrev pub wants_memory : Quiet → Bool
wants_memory quiet.Sink = false
wants_memory quiet.Closed = false
wants_memory (quiet.Unbegun why) = lacks_memory why
wants_memory (quiet.Deaf why) = lacks_memory why

-- it is another trouble
abbrev pub IsTrouble : Deaf → Type 0
IsTrouble (deaf.Line unheard.NoMemory) = ⊥
IsTrouble other = Unit {0}

-- whether the files stay open after a call without an answer: where one failed or ended both are opened anew
abbrev pub goes_on : Deaf → Bool
goes_on deaf.Source = false
goes_on deaf.End = false
goes_on other = true

-- the same, where a file may have failed
abbrev pub stays_open : Quiet → Bool
stays_open quiet.Sink = false
stays_open quiet.Closed = false
stays_open (quiet.Unbegun why) = goes_on why
stays_open (quiet.Deaf why) = goes_on why

-- the begin wasn't answered, and nothing of the message was written
abbrev pub Unbegun : Sources → Sinks → Call → Bool → Type 0
Unbegun s k c is = (why : Deaf) × IsTrouble why × NotBegun s k c.number c.opening why × (is ≡ goes_on why)

-- no answer was heard
abbrev pub NotHeard : Sources → ℕ → Bool → Type 0
NotHeard rest n is = (why : Deaf) × IsTrouble why × Hears rest n (Err why) × (is ≡ goes_on why)

-- nothing was written; or the begin wasn't answered; or the message was written
abbrev pub WithoutMemory : Sources → Sinks → Call → Bool → Bool → Type 0
WithoutMemory s k c was is =
    (WroteNothing k × (is ≡ was))
    ⊎ ((NotBegun s k c.number c.opening (deaf.Line unheard.NoMemory) × (is ≡ true)) ⊎ Told s k c (λ rest. is ≡ true))

-- The value of the answer's line, or why there is none, and whether the files are open then, by whether they were.
abbrev pub Asks : Sources → Sinks → Call → Bool → Bool → Result Value AgencyFault → Type 0
Asks s k c was is (Ok value) = Told s k c (λ rest. Gave rest (counted_up c.number) (Ok value) × (is ≡ true))
Asks s k c was is (Err Failed) =
    ((FailedToWrite s k c ⊎ Closed s k) × (is ≡ false))
    ⊎ (Unbegun s k c is ⊎ Told s k c (λ rest. NotHeard rest (counted_up c.number) is))
Asks s k c was is (Err NoMemory) = WithoutMemory s k c was is

-- no answer was heard; or a line was read as no answer to this message
abbrev pub Unanswered : {A : Type 0} → (A → Data → Type 0) → ℕ → Bool → Sources → Type 0
Unanswered gives n is rest = NotHeard rest n is ⊎ ((line : List ℕ) × Behind rest n (with_lf line) × IsOther gives n line × (is ≡ true))

-- a line came that gives the answer
abbrev pub Answered : {A : Type 0} → (A → Data → Type 0) → ℕ → Bool → A → Sources → Type 0
Answered gives n is answer rest = ((line : List ℕ) × Behind rest n (with_lf line) × Answers gives n line answer) × (is ≡ true)

-- The answer, exactly. Of an Ok the begin was answered, then the whole message was written, and a line came that gives it. Failed
-- comes where an end failed, or the begin wasn't answered, with nothing of the message written, or no answer was heard, or a line
-- gives none. And whether the files are open then, by whether they were.
--= A call writes its begin, once more for each `hello` that came, and the message exactly where a line answered that
--= begin; an answer comes exactly where one came behind fewer than 1024 lines that are empty or answer earlier
--= messages, and a failure exactly where an end failed, the begin wasn't answered, no answer was heard, or a line
--= gives none.
abbrev pub Speaks : {A : Type 0} → (A → Data → Type 0) → Call → Sources → Sinks → Bool → Bool → Result A AgencyFault → Type 0
Speaks gives c s k was is (Ok answer) = Told s k c (Answered gives (counted_up c.number) is answer)
Speaks gives c s k was is (Err Failed) =
    ((FailedToWrite s k c ⊎ Closed s k) × (is ≡ false))
    ⊎ (Unbegun s k c is ⊎ Told s k c (Unanswered gives (counted_up c.number) is))
Speaks gives c s k was is (Err NoMemory) = WithoutMemory s k c was is

-- what an agency keeps of its calls: the number of the next one's begin, the session, and the count of its faults
pub record PipeState : Type 0 where
  pub number : ℕ
  pub issuer : List ℕ
  pub host : Host
  pub noted : ℕ
  pub faults : ℕ

abbrev pub kept : ℕ → List ℕ → Host → ℕ → ℕ → PipeState
kept number issuer host noted faults = record { number = number; issuer = issuer; host = host; noted = noted; faults = faults }

-- a failure is counted, and nothing else
abbrev pub faults_by : {A : Type 0} → Result A AgencyFault → ℕ → ℕ
faults_by (Ok answer) faults = faults
faults_by (Err Failed) faults = counted_up faults
faults_by (Err NoMemory) faults = faults

-- what a call makes of it: its begin and its message have a number each
--= A call uses up two numbers, and a failure is counted.
--= No body: it is one step of the agency's state behind each answer
abbrev pub after : {A : Type 0} → PipeState → Result A AgencyFault → PipeState
after old result = kept (counted_up (counted_up old.number)) old.issuer old.host old.noted (faults_by result old.faults)
