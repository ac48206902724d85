-- How a call begins. The opening is written, and once more for each hello; each line that comes is passed over until one answers it.
use Rattle.std.specs.Prelude.{◌≡◌, ◌<◌, ℕ, List, [], ◌++◌, length, flat_map, Bool, true, false, if◌then◌else◌, Option, None, Some, Result, Ok, Err}
use Rattle.std.specs.Io.KnownBytes.{Consumes, IsAtEnd}
use Rattle.std.specs.List.{AllByRecursion}
use Rattle.ports.specs.Sinks.{Sinks, FailedIn, Wrote, WroteNothing}
use Rattle.ports.specs.Sources.{Sources, SourceRose}
use Rattle.serde_json.specs.Data.{Data}
use Rattle.export.specs.Lines.{value_read}
use Rattle.agency_pipe.specs.Lines.{has_lf, with_lf}
use Rattle.agency_pipe.specs.Standing.{standing_of, tells_begun}
use Rattle.agency_pipe.specs.declared.faults.Unheard.TheVariants as unheard
use Rattle.agency_pipe.specs.declared.answer_reader.Deaf.{Deaf}
use Rattle.agency_pipe.specs.declared.answer_reader.Deaf.TheVariants as deaf
use Rattle.agency_pipe.specs.declared.answer_reader.TheConstants.{MOST_EARLIER}
use Rattle.agency_pipe.specs.declared.reader.TheConstants.{MAX_ANSWER}
use Rattle.agency_pipe.specs.declared.standing.Standing.{Standing}
use Rattle.agency_pipe.specs.declared.standing.Standing.TheVariants as standing
use Rattle.agency_pipe.specs.declared.exchange.Quiet.{Quiet}
use Rattle.agency_pipe.specs.declared.exchange.Quiet.TheVariants as quiet
use Rattle.agency_pipe.specs.declared.greet.Greeting.{Greeting}
use Rattle.agency_pipe.specs.declared.greet.Greeting.TheVariants.{Begun, Fault, Hello, Other}

-- What comes in one go: a line, or a piece of a line that is longer than an answer may be. A piece is as long as that.
pub record Piece : Type 0 where
  pub text : List ℕ
  pub whole : Bool

-- its bytes in the source
abbrev pub bytes_of : Piece → List ℕ
bytes_of p = if p.whole then with_lf p.text else p.text

pub record IsPiece (p : Piece) : Type 0 where
  pub clean : has_lf p.text ≡ false
  pub long : p.whole ≡ false → length p.text ≡ MAX_ANSWER

abbrev pub greeting_by : Standing → Bool → Greeting
greeting_by standing.Hello begun = Hello
greeting_by standing.Fault begun = Fault
greeting_by standing.Ours begun = if begun then Begun else Other
greeting_by standing.Earlier begun = Other
greeting_by standing.Odd begun = Other

-- what a value is to the begin of this number: a fault of that number, begun of that number, or a hello; all else is passed over
abbrev pub greeting_in : ℕ → Data → Greeting
greeting_in n d = greeting_by (standing_of n d) (tells_begun d)

abbrev pub greeting_if : ℕ → Option Data → Greeting
greeting_if n None = Other
greeting_if n (Some d) = greeting_in n d

-- the same of a line or a piece of one
abbrev pub greeting_of : ℕ → Piece → Greeting
greeting_of n p = if p.whole then greeting_if n (value_read p.text) else Other

abbrev pub passes : Greeting → Bool
passes Begun = false
passes Fault = false
passes Hello = true
passes Other = true

abbrev pub is_hello : Greeting → Bool
is_hello Begun = false
is_hello Fault = false
is_hello Hello = true
is_hello Other = false

-- a piece that doesn't settle the begin of this number
pub record IsPassed (n : ℕ) (p : Piece) : Type 0 where
  pub piece : IsPiece p
  pub passed : passes (greeting_of n p) ≡ true

-- what is written at a piece: the opening once more at a hello
abbrev pub again : List ℕ → ℕ → Piece → List ℕ
again opening n p = if is_hello (greeting_of n p) then opening else []

-- all that is written of openings where these pieces came
abbrev pub openings : List ℕ → ℕ → List Piece → List ℕ
openings opening n passed = opening ++ flat_map (again opening n) passed

-- The source gave these pieces, which are passed over; this is left then.
pub record Passed (n : ℕ) (left mid : Option (List ℕ)) (passed : List Piece) : Type 0 where
  pub over : AllByRecursion (IsPassed n) passed
  pub consumed : Consumes left mid (flat_map bytes_of passed)

-- it gave a piece that is this to the begin of this number
pub record GivesPiece (s : Sources) (n : ℕ) (is : Greeting) : Type 0 where
  pub came : Piece
  pub piece : IsPiece came
  pub greeting : greeting_of n came ≡ is
  pub consumed : Consumes s.left s.left_after (bytes_of came)

-- The begin of this number was answered: after fewer pieces than the most that are passed over a line came that says so. This is
-- left then.
pub record Began (n : ℕ) (left mid : Option (List ℕ)) : Type 0 where
  pub passed : List Piece
  pub few : length passed < MOST_EARLIER
  pub before : Option (List ℕ)
  pub after : Passed n left before passed
  pub begun : GivesPiece (record { left = before; left_after = mid; faults = 0; faults_after = 0 }) n Begun

-- the source from there on
abbrev pub rest_of : Sources → Option (List ℕ) → Sources
rest_of s left = record { left = left; left_after = s.left_after; faults = s.faults; faults_after = s.faults_after }

-- it gave a front of a line
abbrev pub GivesFront : Sources → Type 0
GivesFront s = (front : List ℕ) × (has_lf front ≡ false) × Consumes s.left s.left_after front

-- why what came next ends the wait: the source failed, or ended; a line tells a fault of that number; or there was no memory to read one
abbrev pub Stops : Sources → ℕ → Deaf → Type 0
Stops s n deaf.Source = GivesFront s × SourceRose s
Stops s n deaf.End = GivesFront s × IsAtEnd s.left_after
Stops s n deaf.TooLong = ⊥
Stops s n (deaf.Line unheard.Json) = ⊥
Stops s n (deaf.Line unheard.Earlier) = ⊥
Stops s n (deaf.Line unheard.Fault) = GivesPiece s n Fault
Stops s n (deaf.Line unheard.Hello) = ⊥
Stops s n (deaf.Line unheard.Shape) = ⊥
Stops s n (deaf.Line unheard.NoMemory) = (is : Greeting) × GivesPiece s n is
Stops s n deaf.Earlier = ⊥

-- the piece that came next, or why the wait ends
abbrev pub Heeds : Sources → ℕ → Result Greeting Deaf → Type 0
Heeds s n (Ok is) = GivesPiece s n is
Heeds s n (Err why) = Stops s n why

-- The begin of this number wasn't answered: something else ended the wait after these pieces. What was written by then is openings.
pub record Stopped (s : Sources) (k : Sinks) (n : ℕ) (opening : List ℕ) (why : Deaf) : Type 0 where
  pub passed : List Piece
  pub few : length passed < MOST_EARLIER
  pub mid : Option (List ℕ)
  pub after : Passed n s.left mid passed
  pub wrote : Wrote k (openings opening n passed)
  pub stops : Stops (rest_of s mid) n why

-- as many lines came as are passed over, and none answered it
pub record TooMany (s : Sources) (k : Sinks) (n : ℕ) (opening : List ℕ) : Type 0 where
  pub passed : List Piece
  pub all : length passed ≡ MOST_EARLIER
  pub after : Passed n s.left s.left_after passed
  pub wrote : Wrote k (openings opening n passed)

abbrev pub NotBegun : Sources → Sinks → ℕ → List ℕ → Deaf → Type 0
NotBegun s k n opening deaf.Earlier = TooMany s k n opening
NotBegun s k n opening other = Stopped s k n opening other

-- the sink failed at an opening
pub record FailedToOpen (s : Sources) (k : Sinks) (n : ℕ) (opening : List ℕ) : Type 0 where
  pub passed : List Piece
  pub after : Passed n s.left s.left_after passed
  pub failed : FailedIn k (openings opening n passed)

-- The begin was answered; or a write failed; or it wasn't answered.
abbrev pub Greets : Sources → Sinks → ℕ → List ℕ → Result (Unit {0}) Quiet → Type 0
Greets s k n opening (Ok done) = (b : Began n s.left s.left_after) × Wrote k (openings opening n b.passed)
Greets s k n opening (Err quiet.Sink) = FailedToOpen s k n opening
Greets s k n opening (Err quiet.Closed) = ⊥
Greets s k n opening (Err (quiet.Unbegun why)) = NotBegun s k n opening why
Greets s k n opening (Err (quiet.Deaf why)) = ⊥

-- The same of what came next: true where that answers it.
abbrev pub Steps : Sources → Sinks → ℕ → List ℕ → Result Bool Quiet → Type 0
Steps s k n opening (Ok true) = GivesPiece s n Begun × WroteNothing k
Steps s k n opening (Ok false) = (p : Piece) × IsPassed n p × Consumes s.left s.left_after (bytes_of p) × Wrote k (again opening n p)
Steps s k n opening (Err quiet.Sink) = (p : Piece) × IsPassed n p × Consumes s.left s.left_after (bytes_of p) × FailedIn k (again opening n p)
Steps s k n opening (Err quiet.Closed) = ⊥
Steps s k n opening (Err (quiet.Unbegun why)) = WroteNothing k × Stops s n why
Steps s k n opening (Err (quiet.Deaf why)) = ⊥
