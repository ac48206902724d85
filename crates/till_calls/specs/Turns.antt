-- What a turn of a till does, and one of the sender's seat.
use Rattle.std.specs.Prelude.{◌≡◌, ℕ, ◌+◌, ◌≤◌, List, [], ◌∷◌, ◌++◌, map, length, take, Option, Result, Ok, Err, IfOk}
use Rattle.chain_lock.specs.Lists.{StartsWith}
use Rattle.journal.specs.declared.faults.StoreFault.{StoreFault}
use Rattle.journal.specs.declared.faults.StoreFault.TheVariants.{DiskFault, Stopped, NoMemory}
use Rattle.ports.specs.Causes.{Rose}
use Rattle.ports.specs.Readings.{IsTold}
use Rattle.ports.specs.declared.faults.NoMemory.{NoMemory as NoRoom}
use Rattle.record_codec.specs.declared.entry.Entry.{Entry}
use Rattle.record_codec.specs.declared.entry.Entry.TheVariants.{Notes}
use Rattle.record_fields.specs.declared.lines.Line.{Line}
use Rattle.record_fields.specs.declared.versions.Version.{Version}
use Rattle.shop_core.specs.History.{noted, recs, waiting}
use Rattle.shop_core.specs.declared.waiting.Waiting.{Waiting}
use Rattle.shop_core.specs.Answer.Plans.{answer}
use Rattle.shop_core.specs.Answer.Requests.{Asked}
use Rattle.shop_core.specs.Items.{entries_of}
use Rattle.shop_core.specs.declared.items.Item.{Item}
use Rattle.shop_core.specs.declared.items.Item.TheVariants as item
use Rattle.shop_core.specs.Legal.{Legal}
use Rattle.shop_core.specs.Answer.Replies.{Tells}
use Rattle.shop_core.specs.declared.answer.Planned.TheVariants.{Made}
use Rattle.shop_core.specs.declared.answer.Reply.{Reply}
use Rattle.till_calls.specs.Root.{Root}

-- a coming answer of the clock as it was at the start
pub record IsReading {C : Type 0} (coming : C → ℕ → Option ℕ) (root : Root C) (seconds : ℕ) : Type 0 where
  pub number : ℕ
  pub told : IsTold (coming root.clock number) seconds

-- nothing has stopped the shop: each item is an entry
pub record GoesOn (items : List Item) : Type 0 where
  pub history : List Entry
  pub entries : items ≡ map item.Entry history

-- the last item is a stop with this count
pub record EndsInStop (count : ℕ) (items : List Item) : Type 0 where
  pub history : List Entry
  pub torn : Entry
  pub items_are : items ≡ map item.Entry history ++ item.Stop count torn ∷ []

-- the entries are a legal history of the root's issuer that begins with the root's
pub record IsShopList {C : Type 0} (root : Root C) (items : List Item) : Type 0 where
  pub legal : Legal root.version root.issuer (entries_of items)
  pub begins : StartsWith (entries_of items) root.history

-- The reply is the answer at the history so far and at a reading, and what it makes is added. Nothing had stopped.
pub record Answers {C : Type 0} (coming : C → ℕ → Option ℕ) (ask : Asked) (reply : Reply) (root : Root C)
    (before after : List Item) : Type 0 where
  pub history : List Entry
  pub going_on : before ≡ map item.Entry history
  pub seconds : ℕ
  pub reading : IsReading coming root seconds
  pub gained : List Entry
  pub tells : Tells history (answer root.version root.issuer history ask seconds) reply gained
  pub after_is : after ≡ map item.Entry (history ++ gained)

-- The disk failed while this record was added, which stops the shop. Nothing had stopped it before.
pub record Tears {C : Type 0} (coming : C → ℕ → Option ℕ) (ask : Asked) (root : Root C) (before after : List Item) :
    Type 0 where
  pub history : List Entry
  pub going_on : before ≡ map item.Entry history
  pub seconds : ℕ
  pub reading : IsReading coming root seconds
  pub torn : Entry
  pub made : answer root.version root.issuer history ask seconds ≡ Made torn
  pub count : ℕ
  pub rose : Rose root.faults count
  pub after_is : after ≡ map item.Entry history ++ item.Stop count torn ∷ []

-- what a till's ask does, by its reply
abbrev pub TillDoes : {C : Type 0} → (C → ℕ → Option ℕ) → Asked → Result Reply StoreFault → Root C → List Item → List Item →
    Type 0
TillDoes coming ask (Ok reply) root before after = Answers coming ask reply root before after
TillDoes coming ask (Err DiskFault) root before after = Tears coming ask root before after
TillDoes coming ask (Err (Stopped count)) root before after = (after ≡ before) × EndsInStop count before
TillDoes coming ask (Err NoMemory) root before after = (after ≡ before) × GoesOn before

-- the turn of a till that asks
pub record TillTurn {C : Type 0} (coming : C → ℕ → Option ℕ) (ask : Asked) (reply : Result Reply StoreFault) (root : Root C)
    (before after : List Item) : Type 0 where
  pub list : IsShopList root after
  pub does : TillDoes coming ask reply root before after

-- these lines as the next ones after these items
abbrev pub Notes_behind : List Item → List Line → Entry
Notes_behind items lines = Notes (length (noted (entries_of items))) lines

-- The lines were added as the next ones. Nothing had stopped
pub record AddsNotes (lines : List Line) (before after : List Item) : Type 0 where
  pub history : List Entry
  pub going_on : before ≡ map item.Entry history
  pub after_is : after ≡ before ++ item.Entry (Notes_behind before lines) ∷ []

-- The disk failed while they were added, which stops the shop. Nothing had stopped it before, and they were no more than waited
pub record TearsNotes {C : Type 0} (lines : List Line) (root : Root C) (before after : List Item) : Type 0 where
  pub history : List Entry
  pub going_on : before ≡ map item.Entry history
  pub count : ℕ
  pub rose : Rose root.faults count
  pub fits : length (noted history) + length lines ≤ length (recs history)
  pub after_is : after ≡ before ++ item.Stop count (Notes_behind before lines) ∷ []

-- what a note of these lines does, by its answer
abbrev pub SeatDoes : {C : Type 0} → List Line → Result (Unit {0}) StoreFault → Root C → List Item → List Item → Type 0
SeatDoes lines (Ok done) root before after = AddsNotes lines before after
SeatDoes lines (Err DiskFault) root before after = TearsNotes lines root before after
SeatDoes lines (Err (Stopped count)) root before after = (after ≡ before) × EndsInStop count before
SeatDoes lines (Err NoMemory) root before after = (after ≡ before) × GoesOn before

-- the turn of the seat that notes
pub record SeatTurn {C : Type 0} (lines : List Line) (answered : Result (Unit {0}) StoreFault) (root : Root C)
    (before after : List Item) : Type 0 where
  pub list : IsShopList root after
  pub does : SeatDoes lines answered root before after

-- the counts of a history, and the first of its waiting records
pub record Shows (history : List Entry) (max : ℕ) (shown : Waiting) : Type 0 where
  pub noted_count : shown.noted ≡ length (noted history)
  pub records_count : shown.records ≡ length (recs history)
  pub first : shown.list ≡ take max (waiting history)

-- the turn of the seat that looks
pub record LookTurn {C : Type 0} (max : ℕ) (shown : Result Waiting NoRoom) (root : Root C) (before after : List Item) :
    Type 0 where
  pub list : IsShopList root after
  pub same : after ≡ before
  pub shows : IfOk shown (Shows (entries_of before) max)

-- The turn of a till that asks a question: nothing is added, and the answer is that at the history which stands there, by its
-- version, its issuer and its entries
pub record LearnTurn {C L : Type 0} (learns : Version → List ℕ → List Entry → L → Type 0) (learnt : Result L NoRoom)
    (root : Root C) (before after : List Item) : Type 0 where
  pub list : IsShopList root after
  pub same : after ≡ before
  pub answer : IfOk learnt (learns root.version root.issuer (entries_of before))
