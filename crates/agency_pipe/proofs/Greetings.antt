-- How a call begins, step by step.
use Rattle.std.proofs.Common.{◌≡◌, ◌∙◌, ◌≤◌, ◌<◌, ◌^◌, ◌-◌, ◌+◌, ℕ, List, [], ◌∷◌, ◌++◌, Option, Some, None, Result, Ok, Err, true, false, ap, append-nil, append_assoc, arith, flat_map, inl, inr, length, le_trans, subst, sym, take}
use Rattle.std.proofs.KnownBytes.{Appends-trans, Consumes-trans}
use Rattle.std.proofs.lemmas.List.Concat.{flat_map-append}
use Rattle.std.specs.Io.KnownBytes.{Appends, Consumes}
use Rattle.ports.specs.Causes.{Rose}
use Rattle.ports.specs.Memory.{counted_up}
use Rattle.ports.specs.Sinks.{Sinks, FailedIn}
use Rattle.ports.specs.Sources.{Sources}
use Rattle.serde_json.specs.declared.value.Value.{Value}
use Rattle.agency_pipe.specs.Greeting.{Began, FailedToOpen, GivesPiece, Greets, IsPassed, NotBegun, Passed, Piece, Steps, Stopped, Stops, TooMany, again, bytes_of, openings, rest_of}
use Rattle.agency_pipe.specs.Hearing.{Behind, Gave, GaveFront, Hears}
use Rattle.agency_pipe.specs.Lines.{with_lf}
use Rattle.agency_pipe.specs.Speaking.{Call, SendsAndReads, Exchanges, Knocks, Meets, call_of}
use Rattle.agency_pipe.specs.declared.exchange.Quiet.{Quiet}
use Rattle.agency_pipe.specs.declared.exchange.Quiet.TheVariants as quiet
use Rattle.agency_pipe.specs.declared.faults.Unheard.{Unheard}
use Rattle.agency_pipe.specs.declared.faults.Unheard.TheVariants as unheard
use Rattle.agency_pipe.specs.declared.answer_reader.Deaf.{Deaf}
use Rattle.agency_pipe.specs.declared.answer_reader.TheConstants.{MOST_EARLIER}
use Rattle.agency_pipe.specs.declared.answer_reader.Deaf.TheVariants as deaf
use Rattle.agency_pipe.proofs.Bytewise.{failed_after}
use Rattle.agency_pipe.proofs.ListLemmas.{small_more}

abbrev pub source_of : Option (List ℕ) → Option (List ℕ) → ℕ → ℕ → Sources
source_of left after f h = record { left = left; left_after = after; faults = f; faults_after = h }

abbrev pub sink_of : Option (List ℕ) → Option (List ℕ) → ℕ → ℕ → Sinks
sink_of taken after f h = record { taken = taken; taken_after = after; faults = f; faults_after = h }

pub one_more : {A : Type 0} (f : A → List ℕ) (xs : List A) (x : A) → flat_map f xs ++ f x ≡ flat_map f (xs ++ x ∷ [])
one_more f xs x = sym (flat_map-append f xs (x ∷ []) ∙ ap (λ l. flat_map f xs ++ l) (append-nil (f x)))

pub passed_more : (n : ℕ) (left mid after : Option (List ℕ)) (passed : List Piece) (p : Piece) → Passed n left mid passed
    → IsPassed n p → Consumes mid after (bytes_of p) → Passed n left after (passed ++ p ∷ [])
passed_more n left mid after passed p before is came = record {
  over = small_more (IsPassed n) passed p before.over is;
  consumed = subst (Consumes left after) (one_more bytes_of passed p) (Consumes-trans left mid after (flat_map bytes_of passed) (bytes_of p) before.consumed came);
}

openings_more : (opening : List ℕ) (n : ℕ) (passed : List Piece) (p : Piece)
    → openings opening n passed ++ again opening n p ≡ openings opening n (passed ++ p ∷ [])
openings_more opening n passed p =
    append_assoc opening (flat_map (again opening n) passed) (again opening n p) ∙ ap (λ l. opening ++ l) (one_more (again opening n) passed p)

pub wrote_more : (opening : List ℕ) (n : ℕ) (a b c : Option (List ℕ)) (passed : List Piece) (p : Piece)
    → Appends a b (openings opening n passed) → Appends b c (again opening n p) → Appends a c (openings opening n (passed ++ p ∷ []))
wrote_more opening n a b c passed p before now =
    subst (Appends a c) (openings_more opening n passed p) (Appends-trans a b c (openings opening n passed) (again opening n p) before now)

pub rose_from : (a b c : ℕ) → a ≤ b → Rose b c → Rose a c
rose_from a b c later rose below = let risen = rose below in omega (arith, later, risen)

pub failed_more : (opening : List ℕ) (n : ℕ) (a b c : Option (List ℕ)) (f g h : ℕ) (passed : List Piece) (p : Piece)
    → Appends a b (openings opening n passed) → f ≤ g → FailedIn (sink_of b c g h) (again opening n p)
    → FailedIn (sink_of a c f h) (openings opening n (passed ++ p ∷ []))
failed_more opening n a b c f g h passed p before later failed =
    subst (FailedIn (sink_of a c f h)) (openings_more opening n passed p)
    (failed_after a b c f g h (openings opening n passed) (again opening n p) before later failed)

-- ---- after calls that moved nothing

passed_from : (n : ℕ) (left mid after : Option (List ℕ)) (passed : List Piece) → Consumes left mid [] → Passed n mid after passed
    → Passed n left after passed
passed_from n left mid after passed still is =
    record { over = is.over; consumed = Consumes-trans left mid after [] (flat_map bytes_of passed) still is.consumed }

wrote_from : (a b c : Option (List ℕ)) (text : List ℕ) → Appends a b [] → Appends b c text → Appends a c text
wrote_from a b c text still now = Appends-trans a b c [] text still now

stops_from : (n : ℕ) (mid after : Option (List ℕ)) (f g h : ℕ) (why : Deaf) → f ≤ g → Stops (source_of mid after g h) n why
    → Stops (source_of mid after f h) n why
stops_from n mid after f g h deaf.Source later s = (s.0, rose_from f g h later s.1)
stops_from n mid after f g h deaf.End later s = s
stops_from n mid after f g h deaf.TooLong later s = s
stops_from n mid after f g h (deaf.Line unheard.Json) later s = s
stops_from n mid after f g h (deaf.Line unheard.Earlier) later s = s
stops_from n mid after f g h (deaf.Line unheard.Fault) later s =
    record { came = s.came; piece = s.piece; greeting = s.greeting; consumed = s.consumed }
stops_from n mid after f g h (deaf.Line unheard.Hello) later s = s
stops_from n mid after f g h (deaf.Line unheard.Shape) later s = s
stops_from n mid after f g h (deaf.Line unheard.NoMemory) later s =
    (s.0, record { came = s.1.came; piece = s.1.piece; greeting = s.1.greeting; consumed = s.1.consumed })
stops_from n mid after f g h deaf.Earlier later s = s

-- ---- what came next, after the pieces that were passed over

wrote_still : (a b c : Option (List ℕ)) (text : List ℕ) → Appends a b text → Appends b c [] → Appends a c text
wrote_still a b c text before still = subst (Appends a c) (append-nil text) (Appends-trans a b c text [] before still)

-- it answers the begin
pub began_here : (n : ℕ) (opening : List ℕ) (left mid after : Option (List ℕ)) (f g h : ℕ) (taken tmid tafter : Option (List ℕ)) (p q r : ℕ)
    (passed : List Piece) → length passed < MOST_EARLIER → Passed n left mid passed → Appends taken tmid (openings opening n passed)
    → Steps (source_of mid after g h) (sink_of tmid tafter q r) n opening (Ok true)
    → Greets (source_of left after f h) (sink_of taken tafter p r) n opening (Ok tt)
began_here n opening left mid after f g h taken tmid tafter p q r passed few before wrote step = (
  record {
    passed = passed;
    few = few;
    before = mid;
    after = before;
    begun = record { came = step.0.came; piece = step.0.piece; greeting = step.0.greeting; consumed = step.0.consumed };
  },
  wrote_still taken tmid tafter (openings opening n passed) wrote step.1,
)

stopped_here : (n : ℕ) (opening : List ℕ) (left mid after : Option (List ℕ)) (f g h : ℕ) (taken tmid tafter : Option (List ℕ)) (p q r : ℕ)
    (passed : List Piece) → length passed < MOST_EARLIER → Passed n left mid passed → Appends taken tmid (openings opening n passed)
    → f ≤ g → (why : Deaf) → Appends tmid tafter [] → Stops (source_of mid after g h) n why
    → Stopped (source_of left after f h) (sink_of taken tafter p r) n opening why
stopped_here n opening left mid after f g h taken tmid tafter p q r passed few before wrote later why still stops = record {
  passed = passed;
  few = few;
  mid = mid;
  after = before;
  wrote = wrote_still taken tmid tafter (openings opening n passed) wrote still;
  stops = stops_from n mid after f g h why later stops;
}

not_begun_here : (n : ℕ) (opening : List ℕ) (s : Sources) (k : Sinks) (mid : Sources) (why : Deaf) → Stops mid n why
    → Stopped s k n opening why → NotBegun s k n opening why
not_begun_here n opening s k mid deaf.Source stops is = is
not_begun_here n opening s k mid deaf.End stops is = is
not_begun_here n opening s k mid deaf.TooLong stops is = is
not_begun_here n opening s k mid (deaf.Line w) stops is = is
not_begun_here n opening s k mid deaf.Earlier stops is = absurd stops

-- it ends the wait, or the opening couldn't be written once more
pub not_here : (n : ℕ) (opening : List ℕ) (left mid after : Option (List ℕ)) (f g h : ℕ) (taken tmid tafter : Option (List ℕ)) (p q r : ℕ)
    (passed : List Piece) → length passed < MOST_EARLIER → Passed n left mid passed → Appends taken tmid (openings opening n passed)
    → f ≤ g → p ≤ q → (why : Quiet) → Steps (source_of mid after g h) (sink_of tmid tafter q r) n opening (Err why)
    → Greets (source_of left after f h) (sink_of taken tafter p r) n opening (Err why)
not_here n opening left mid after f g h taken tmid tafter p q r passed few before wrote later sink_later quiet.Sink step = record {
  passed = passed ++ step.0 ∷ [];
  after = passed_more n left mid after passed step.0 before step.1 step.2;
  failed = failed_more opening n taken tmid tafter p q r passed step.0 wrote sink_later step.3;
}
not_here n opening left mid after f g h taken tmid tafter p q r passed few before wrote later sink_later quiet.Closed step = step
not_here n opening left mid after f g h taken tmid tafter p q r passed few before wrote later sink_later (quiet.Unbegun why) step =
    not_begun_here n opening (source_of left after f h) (sink_of taken tafter p r) (source_of mid after g h) why step.1
    (stopped_here n opening left mid after f g h taken tmid tafter p q r passed few before wrote later why step.0 step.1)
not_here n opening left mid after f g h taken tmid tafter p q r passed few before wrote later sink_later (quiet.Deaf why) step = step

-- ---- the files were opened before it

stopped_from : (n : ℕ) (opening : List ℕ) (left mid after : Option (List ℕ)) (f g h : ℕ) (taken tmid tafter : Option (List ℕ)) (p q r : ℕ)
    (why : Deaf) → Consumes left mid [] → Appends taken tmid [] → f ≤ g
    → Stopped (source_of mid after g h) (sink_of tmid tafter q r) n opening why
    → Stopped (source_of left after f h) (sink_of taken tafter p r) n opening why
stopped_from n opening left mid after f g h taken tmid tafter p q r why still silent later s = record {
  passed = s.passed;
  few = s.few;
  mid = s.mid;
  after = passed_from n left mid s.mid s.passed still s.after;
  wrote = wrote_from taken tmid tafter (openings opening n s.passed) silent s.wrote;
  stops = stops_from n s.mid after f g h why later s.stops;
}

not_begun_from : (n : ℕ) (opening : List ℕ) (left mid after : Option (List ℕ)) (f g h : ℕ) (taken tmid tafter : Option (List ℕ)) (p q r : ℕ)
    (why : Deaf) → Consumes left mid [] → Appends taken tmid [] → f ≤ g
    → NotBegun (source_of mid after g h) (sink_of tmid tafter q r) n opening why
    → NotBegun (source_of left after f h) (sink_of taken tafter p r) n opening why
not_begun_from n opening left mid after f g h taken tmid tafter p q r deaf.Source still silent later s =
    stopped_from n opening left mid after f g h taken tmid tafter p q r deaf.Source still silent later s
not_begun_from n opening left mid after f g h taken tmid tafter p q r deaf.End still silent later s =
    stopped_from n opening left mid after f g h taken tmid tafter p q r deaf.End still silent later s
not_begun_from n opening left mid after f g h taken tmid tafter p q r deaf.TooLong still silent later s =
    stopped_from n opening left mid after f g h taken tmid tafter p q r deaf.TooLong still silent later s
not_begun_from n opening left mid after f g h taken tmid tafter p q r (deaf.Line w) still silent later s =
    stopped_from n opening left mid after f g h taken tmid tafter p q r (deaf.Line w) still silent later s
not_begun_from n opening left mid after f g h taken tmid tafter p q r deaf.Earlier still silent later s = record {
  passed = s.passed;
  all = s.all;
  after = passed_from n left mid after s.passed still s.after;
  wrote = wrote_from taken tmid tafter (openings opening n s.passed) silent s.wrote;
}

-- the files were opened, and then the call began
pub greets_from : (n : ℕ) (opening : List ℕ) (left mid after : Option (List ℕ)) (f g h : ℕ) (taken tmid tafter : Option (List ℕ)) (p q r : ℕ)
    (result : Result (Unit {0}) Quiet) → Consumes left mid [] → Appends taken tmid [] → f ≤ g → p ≤ q
    → Greets (source_of mid after g h) (sink_of tmid tafter q r) n opening result
    → Meets (source_of left after f h) (sink_of taken tafter p r) n opening result
greets_from n opening left mid after f g h taken tmid tafter p q r (Ok u) still silent later sink_later s = (
  record {
    passed = s.0.passed;
    few = s.0.few;
    before = s.0.before;
    after = passed_from n left mid s.0.before s.0.passed still s.0.after;
    begun = s.0.begun;
  },
  wrote_from taken tmid tafter (openings opening n s.0.passed) silent s.1,
)
greets_from n opening left mid after f g h taken tmid tafter p q r (Err quiet.Sink) still silent later sink_later s = record {
  passed = s.passed;
  after = passed_from n left mid after s.passed still s.after;
  failed = failed_after taken tmid tafter p q r [] (openings opening n s.passed) silent sink_later s.failed;
}
greets_from n opening left mid after f g h taken tmid tafter p q r (Err quiet.Closed) still silent later sink_later s = absurd s
greets_from n opening left mid after f g h taken tmid tafter p q r (Err (quiet.Unbegun why)) still silent later sink_later s =
    not_begun_from n opening left mid after f g h taken tmid tafter p q r why still silent later s
greets_from n opening left mid after f g h taken tmid tafter p q r (Err (quiet.Deaf why)) still silent later sink_later s = s

-- the files were open
pub greets_at_once : (s : Sources) (k : Sinks) (n : ℕ) (opening : List ℕ) (result : Result (Unit {0}) Quiet) → Greets s k n opening result
    → Meets s k n opening result
greets_at_once s k n opening (Ok u) is = is
greets_at_once s k n opening (Err quiet.Sink) is = is
greets_at_once s k n opening (Err quiet.Closed) is = absurd is
greets_at_once s k n opening (Err (quiet.Unbegun why)) is = is
greets_at_once s k n opening (Err (quiet.Deaf why)) is = is

-- the files couldn't be opened
pub closed : (s : Sources) (k : Sinks) (n : ℕ) (opening : List ℕ) (why : Quiet) → Knocks s k (Err why) → Meets s k n opening (Err why)
closed s k n opening quiet.Sink is = record {
  passed = [];
  after = record { over = tt; consumed = is.read };
  failed = record { risen = is.failed; part = (0, is.wrote) };
}
closed s k n opening quiet.Closed is = (is.wrote, is.failed)
closed s k n opening (quiet.Unbegun why) is = absurd is.failed
closed s k n opening (quiet.Deaf why) is = is.failed

-- ---- a message after it

pub not_met : (s : Sources) (k : Sinks) (c : Call) (why : Quiet) → Meets s k c.number c.opening (Err why) → Exchanges s k c (Err why)
not_met s k c quiet.Sink is = inl is
not_met s k c quiet.Closed is = is
not_met s k c (quiet.Unbegun why) is = is
not_met s k c (quiet.Deaf why) is = absurd is

behind_from : (mid after : Option (List ℕ)) (f g h : ℕ) (n : ℕ) (bytes : List ℕ) → Behind (source_of mid after g h) n bytes
    → Behind (source_of mid after f h) n bytes
behind_from mid after f g h n bytes b =
    record { passed = b.passed; few = b.few; after = record { over = b.after.over; consumed = b.after.consumed } }

gave_from : (mid after : Option (List ℕ)) (f g h : ℕ) (n : ℕ) (met : Result Value Unheard) → Gave (source_of mid after g h) n met
    → Gave (source_of mid after f h) n met
gave_from mid after f g h n met is =
    record { line = is.line; clean = is.clean; behind = behind_from mid after f g h n (with_lf is.line) is.behind; meets = is.meets }

front_from : (mid after : Option (List ℕ)) (f g h : ℕ) (n : ℕ) (front : List ℕ) → GaveFront (source_of mid after g h) n front
    → GaveFront (source_of mid after f h) n front
front_from mid after f g h n front is = record { clean = is.clean; behind = behind_from mid after f g h n front is.behind }

hears_from : (mid after : Option (List ℕ)) (f g h : ℕ) (n : ℕ) (why : Deaf) → f ≤ g → Hears (source_of mid after g h) n (Err why)
    → Hears (source_of mid after f h) n (Err why)
hears_from mid after f g h n deaf.Source later is =
    ((is.0.0, front_from mid after f g h n is.0.0 is.0.1), rose_from f g h later is.1)
hears_from mid after f g h n deaf.End later is = ((is.0.0, front_from mid after f g h n is.0.0 is.0.1), is.1)
hears_from mid after f g h n deaf.TooLong later is = (is.0, front_from mid after f g h n is.0 is.1, is.2)
hears_from mid after f g h n (deaf.Line why) later is = gave_from mid after f g h n (Err why) is
hears_from mid after f g h n deaf.Earlier later is =
    (is.0, record { over = is.1.over; consumed = is.1.consumed }, is.2)

abbrev began_still : (n : ℕ) (left mid after : Option (List ℕ)) → Began n left mid → Consumes mid after [] → Began n left after
began_still n left mid after b still = record {
  passed = b.passed;
  few = b.few;
  before = b.before;
  after = b.after;
  begun = record {
    came = b.begun.came;
    piece = b.begun.piece;
    greeting = b.begun.greeting;
    consumed = subst (Consumes b.before after) (append-nil (bytes_of b.begun.came)) (Consumes-trans b.before mid after (bytes_of b.begun.came) [] b.begun.consumed still);
  };
}

-- the begin was answered, and then the message was written and an answer waited for
pub conversed : (c : Call) (left mid after : Option (List ℕ)) (f g h : ℕ) (taken tmid tafter : Option (List ℕ)) (p q r : ℕ)
    (result : Result Value Quiet) → (b : Began c.number left mid) → Appends taken tmid (openings c.opening c.number b.passed) → f ≤ g → p ≤ q
    → SendsAndReads (source_of mid after g h) (sink_of tmid tafter q r) (counted_up c.number) c.message result
    → Exchanges (source_of left after f h) (sink_of taken tafter p r) c result
conversed c left mid after f g h taken tmid tafter p q r (Ok value) b wrote later sink_later is = (
  mid,
  b,
  Appends-trans taken tmid tafter (openings c.opening c.number b.passed) c.message wrote is.0,
  gave_from mid after f g h (counted_up c.number) (Ok value) is.1,
)
conversed c left mid after f g h taken tmid tafter p q r (Err quiet.Sink) b wrote later sink_later is = inr (
  began_still c.number left mid after b is.1,
  rose_from p q r sink_later is.0.risen,
  (
    is.0.part.0,
    Appends-trans taken tmid tafter (openings c.opening c.number b.passed) (take is.0.part.0 c.message) wrote is.0.part.1,
  ),
)
conversed c left mid after f g h taken tmid tafter p q r (Err quiet.Closed) b wrote later sink_later is = absurd is
conversed c left mid after f g h taken tmid tafter p q r (Err (quiet.Unbegun why)) b wrote later sink_later is = absurd is
conversed c left mid after f g h taken tmid tafter p q r (Err (quiet.Deaf why)) b wrote later sink_later is = (
  mid,
  b,
  Appends-trans taken tmid tafter (openings c.opening c.number b.passed) c.message wrote is.0,
  hears_from mid after f g h (counted_up c.number) why later is.1,
)
