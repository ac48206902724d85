-- Turns until no record waits.
use Rattle.std.specs.Prelude.{◌≡◌, ◌⊎◌, ℕ, ◌+◌, ◌*◌, ◌<◌, ◌≤◌, List, [], ◌∷◌, ◌++◌, length, max, filter_map, count_by, Bool}
use Rattle.std.specs.Prelude.{true, false, IsTrue, ⊤, Option, Some, None, Result, Ok, Err}
use Rattle.journal.specs.declared.faults.StoreFault.TheVariants as store
use Rattle.shop_core.specs.History.{recs, noted}
use Rattle.agency_port.specs.declared.turns.Told.{Told}
use Rattle.agency_port.specs.declared.turns.Told.TheVariants as told
use Rattle.once_world.specs.Outbox.{Sight, history_of}
use Rattle.sender.specs.declared.answers.Turn.{Turn}
use Rattle.sender.specs.declared.answers.Turn.TheVariants.{Idle, WaitUntil, Noted, Cleared, Doubt}
use Rattle.sender.specs.declared.answers.SendFault.{SendFault}
use Rattle.sender.specs.declared.answers.SendFault.TheVariants.{LinkFault, Contradiction, Store, NoMemory}
use Rattle.sender.specs.declared.answers.DrainFault.{DrainFault}
use Rattle.sender.specs.declared.answers.DrainFault.TheVariants as drain
use Rattle.sender.specs.declared.draining.Counted.{Counted}
use Rattle.sender.specs.declared.draining.TheConstants.{MAX_LINK_FAULTS}
use Rattle.sender.specs.Sending.{Sending}
use Rattle.sender.specs.Turning.{AgencyKind, AgencyState, TurnCall, Turned, turn_call}

-- what is told of a turn: nothing where no record waited
abbrev pub told_in : Result Turn SendFault → Option Told
told_in (Ok (Idle records)) = None
told_in (Ok (WaitUntil at)) = Some (told.Wait at)
told_in (Ok (Noted n)) = Some (told.Noted n)
told_in (Ok Cleared) = Some told.Cleared
told_in (Ok (Doubt place)) = Some (told.Doubt place)
told_in (Err LinkFault) = Some told.Link
told_in (Err (Contradiction evidence)) = Some told.Contradiction
told_in (Err (Store store.DiskFault)) = Some told.Disk
told_in (Err (Store (store.Stopped faults))) = Some (told.Stopped faults)
told_in _ = Some told.Memory

abbrev pub list_of : {A : Type 0} → Option A → List A
list_of None = []
list_of (Some x) = x ∷ []

abbrev pub told_list : Result Turn SendFault → List Told
told_list answer = list_of (told_in answer)

-- the sleeper's moment after a turn with this answer
abbrev pub moment_after : ℕ → Result Turn SendFault → ℕ
moment_after moment (Ok (WaitUntil at)) = max moment at
moment_after moment _ = moment

-- the turns go on after this answer
abbrev pub GoesOn : Result Turn SendFault → Type 0
GoesOn (Ok (WaitUntil at)) = ⊤
GoesOn (Ok (Noted n)) = ⊤
GoesOn (Ok Cleared) = ⊤
GoesOn (Ok (Doubt place)) = ⊤
GoesOn (Err LinkFault) = ⊤
GoesOn _ = ⊥

-- the count of link faults after this answer
abbrev pub links_with : ℕ → Result Turn SendFault → ℕ
links_with links (Err LinkFault) = links + 1
links_with links _ = links

-- the counts of a shop in which some record waits
pub record CountsOf (seen : Sight) (noted_count records_count : ℕ) : Type 0 where
  pub noted_is : noted_count ≡ length (noted (history_of seen))
  pub records_is : records_count ≡ length (recs (history_of seen))
  pub some : noted_count < records_count

-- what a drain makes of its last turn
abbrev pub EndsWith : ℕ → Sight → Result Turn SendFault → Result (Unit {0}) DrainFault → Type 0
EndsWith links after answer (Ok done) = (records : ℕ) × (answer ≡ Ok (Idle records))
EndsWith links after answer (Err (drain.Undelivered noted_count records_count)) =
    (answer ≡ Err LinkFault) × (links + 1 ≡ MAX_LINK_FAULTS) × CountsOf after noted_count records_count
EndsWith links after answer (Err (drain.Contradiction evidence)) = answer ≡ Err (Contradiction evidence)
EndsWith links after answer (Err (drain.Store fault)) = answer ≡ Err (Store fault)
EndsWith links after answer (Err drain.NoMemory) = answer ≡ Err NoMemory

-- the same by the counts at the turn's look
abbrev pub LinksAfter : Counted → ℕ → ℕ → Result Bool DrainFault → Type 0
LinksAfter made links then (Ok true) = (records : ℕ) × (made.answer ≡ Ok (Idle records))
LinksAfter made links then (Ok false) = GoesOn made.answer × (then ≡ links_with links made.answer) × (then < MAX_LINK_FAULTS)
LinksAfter made links then (Err (drain.Undelivered noted_count records_count)) =
    (made.answer ≡ Err LinkFault) × (links + 1 ≡ MAX_LINK_FAULTS) × (noted_count ≡ made.noted) × (records_count ≡ made.records)
LinksAfter made links then (Err (drain.Contradiction evidence)) = made.answer ≡ Err (Contradiction evidence)
LinksAfter made links then (Err (drain.Store fault)) = made.answer ≡ Err (Store fault)
LinksAfter made links then (Err drain.NoMemory) = made.answer ≡ Err NoMemory

-- all that turns change: agency, shop, sender and the sleeper's moment
pub record Scene : Type 0 where
  pub agency_state : AgencyState
  pub sight : Sight
  pub sending : Sending
  pub moment : ℕ

abbrev pub scene_of : AgencyState → Sight → Sending → ℕ → Scene
scene_of agency_state sight sending moment = record { agency_state = agency_state; sight = sight; sending = sending; moment = moment }

-- the call of a turn between them
abbrev pub turn_between : AgencyKind → Scene → Scene → ℕ → Result Turn SendFault → TurnCall
turn_between kind before after now answer =
    turn_call kind before.agency_state after.agency_state before.sight after.sight before.sending after.sending now answer

-- one turn at the sleeper's second
pub record IsTurn (kind : AgencyKind) (exact : Bool) (before after : Scene) (answer : Result Turn SendFault) : Type 0 where
  pub now : ℕ
  pub later : before.moment ≤ now
  pub told : IsTrue exact → now ≡ before.moment
  pub turned : Turned (turn_between kind before after now answer)
  pub moment : after.moment ≡ moment_after before.moment answer

-- turns that go on, one after another, with this many link faults among them
pub data Turns (kind : AgencyKind) (exact : Bool) (start : Scene) : List (Result Turn SendFault) → ℕ → Scene → Type 0 where
  none : Turns kind exact start [] 0 start
  more : (answers : List (Result Turn SendFault)) (links : ℕ) (scene : Scene) (answer : Result Turn SendFault) (then : Scene) →
      Turns kind exact start answers links scene → IsTurn kind exact scene then answer → GoesOn answer →
      links_with links answer < MAX_LINK_FAULTS →
      Turns kind exact start (answers ++ answer ∷ []) (links_with links answer) then

-- whether that turn was the last
abbrev pub Next : ℕ → ℕ → Sight → List Told → List Told → Result Turn SendFault → Result Bool DrainFault → Type 0
Next links then after old new answer (Ok true) = (new ≡ old ++ told_list answer) × EndsWith links after answer (Ok tt)
Next links then after old new answer (Ok false) = (new ≡ old ++ told_list answer) × GoesOn answer
    × (then ≡ links_with links answer) × (then < MAX_LINK_FAULTS)
Next links then after old new answer (Err fault) = ((new ≡ old ++ told_list answer) × EndsWith links after answer (Err fault))
    ⊎ ((fault ≡ drain.NoMemory) × (new ≡ old))

pub record Made (kind : AgencyKind) (exact : Bool) (before after : Scene) (old new : List Told) (links then : ℕ)
    (result : Result Bool DrainFault) : Type 0 where
  pub answer : Result Turn SendFault
  pub turn : IsTurn kind exact before after answer
  pub next : Next links then after.sight old new answer result

-- A drain: turns that go on, and the last one. Each is told, in order, unless memory ran out for the last.
pub record Drained (kind : AgencyKind) (exact : Bool) (before after : Scene) (old new : List Told)
    (result : Result (Unit {0}) DrainFault) : Type 0 where
  pub answers : List (Result Turn SendFault)
  pub links : ℕ
  pub scene : Scene
  pub made : Turns kind exact before answers links scene
  pub answer : Result Turn SendFault
  pub turn : IsTurn kind exact scene after answer
  pub ends : ((new ≡ old ++ filter_map told_in (answers ++ answer ∷ [])) × EndsWith links after.sight answer result)
      ⊎ ((result ≡ Err drain.NoMemory) × (new ≡ old ++ filter_map told_in answers))

-- a turn that had a link fault
abbrev pub is_link : Told → Bool
is_link told.Link = true
is_link _ = false

-- What was told, and one turn more, is no more than two turns for each batch that waited, six for each link fault, and eight.
pub record IsBounded (batches : ℕ) (old new : List Told) : Type 0 where
  pub added : List Told
  pub is : new ≡ old ++ added
  pub within : length added + 1 ≤ 2 * batches + 6 * count_by is_link added + 8

-- the sleeper's moment after turns with these answers: that at the start, or the greatest second of a `WaitUntil` where that
-- is greater
abbrev pub moment_by : ℕ → List (Result Turn SendFault) → ℕ
moment_by moment [] = moment
moment_by moment (answer ∷ answers) = moment_by (moment_after moment answer) answers

-- over a sleeper that tells its moment each turn is made at the moment that the answers before it leave
abbrev pub KeepsTime : Type 0
KeepsTime =
    (kind : AgencyKind) (begin : Scene) (answers : List (Result Turn SendFault)) (links : ℕ) (scene then : Scene)
    (answer : Result Turn SendFault) →
    Turns kind true begin answers links scene → (turn : IsTurn kind true scene then answer) →
    turn.now ≡ moment_by begin.moment answers
