-- A store and its standby, which note together.
use Rattle.std.specs.Prelude.{◌≡◌, ◌⊎◌, ◌-◌, ◌+◌, ◌++◌, ◌∷◌, [], ℕ, zero, suc, List, length, map, Bool, Option, Some, None, Result, Ok, Err}
use Rattle.std.specs.Prelude.{false}
use Rattle.std.specs.List.{AllByRecursion}
use Rattle.chain_disk.specs.OnDisk.{OnDisk}
use Rattle.chain_disk.specs.declared.disk.Disk.{Ghosts}
use Rattle.chain_store.specs.Ready.{noted_next}
use Rattle.chain_store.specs.Store.{clock_of}
use Rattle.chain_store.specs.declared.store.Store.{Store}
use Rattle.journal.specs.declared.faults.StoreFault.{StoreFault}
use Rattle.journal.specs.declared.faults.StoreFault.TheVariants.{DiskFault, Stopped, NoMemory}
use Rattle.once_world.specs.Outbox.{Sight}
use Rattle.ports.specs.Causes.{Rose}
use Rattle.record_codec.specs.declared.entry.Entry.{Entry}
use Rattle.record_fields.specs.declared.lines.Line.{Line}
use Rattle.shop_core.specs.History.{is_record}
use Rattle.shop_core.specs.declared.items.Item.{Item}
use Rattle.shop_core.specs.declared.items.Item.TheVariants as item
use Rattle.standby.specs.Arriving.{KeepsEntry}
use Rattle.standby.specs.Chains.{ChainOnDisk, GoesTo, IsRoomy, IsSoundChain, chain_of}

-- a store's chain and clock, and the standby's chain
pub record Both (D C M : Type 0) : Type 0 where
  pub shop : ChainOnDisk D
  pub clock : C
  pub standby : ChainOnDisk M

abbrev pub both_of : {D C M : Type 0} {g : Ghosts D} → Store D C g → ChainOnDisk M → Both D C M
both_of store standby = record { shop = chain_of store; clock = clock_of store; standby = standby }

-- what contracts see of a pair: both as they were at its start, and as they are at present
pub record Paired (D C M : Type 0) : Type 0 where
  pub start : Both D C M
  pub present : Both D C M

-- the history is this one with its next lines after it, and they are the torn entry
pub record IsAheadByNotes (entries : List Entry) (torn : Option Entry) (ahead : List Entry) : Type 0 where
  pub lines : List Line
  pub torn_is : torn ≡ Some (noted_next entries lines)
  pub is : ahead ≡ entries ++ noted_next entries lines ∷ []

-- What the shop's history is compared with the standby's, by which of the two has stopped: the same; or, where the standby stopped while
-- lines arrived, that with these lines. They never both stop.
abbrev pub AreBeside : Option ℕ → List Entry → Option ℕ → Option Entry → List Entry → Type 0
AreBeside None shop None torn standby = shop ≡ standby
AreBeside (Some faults) shop None torn standby = shop ≡ standby
AreBeside None shop (Some faults) torn standby = IsAheadByNotes standby torn shop
AreBeside (Some faults) shop (Some more) torn standby = ⊥

-- notes alone came after the history before
pub record AddsNotes (before after : List Entry) : Type 0 where
  pub more : List Entry
  pub is : after ≡ before ++ more
  pub are : AllByRecursion (λ (entry : Entry). is_record entry ≡ false) more

-- A pair: both chains are sound, and come from those at its start, by notes alone. While neither has stopped their histories
-- are equal.
pub record IsPair {D C M : Type 0} (tells : Bool) (on_disk : D → OnDisk) (faults : D → ℕ) (others_tell : Bool)
    (others_on_disk : M → OnDisk) (others_faults : M → ℕ) (start present : Both D C M) : Type 0 where
  pub shop : IsSoundChain tells on_disk faults present.shop
  pub shop_goes : GoesTo tells on_disk faults start.shop present.shop
  pub standby : IsSoundChain others_tell others_on_disk others_faults present.standby
  pub standby_goes : GoesTo others_tell others_on_disk others_faults start.standby present.standby
  pub clock : present.clock ≡ start.clock
  pub issuer : present.standby.history.issuer ≡ present.shop.history.issuer
  pub version : present.standby.history.version ≡ present.shop.history.version
  pub equal : start.standby.history.entries ≡ start.shop.history.entries
  --= While neither disk has failed a shop and its copy hold one history; after a stop the copy's is it, or it without
  --= its last lines.
  pub beside : AreBeside present.shop.stopped present.shop.history.entries present.standby.stopped present.standby.torn
      present.standby.history.entries
  --= A pair's shop gained notes alone since its start.
  --= No body: it is of `Outbox::note`
  pub notes : AddsNotes start.shop.history.entries present.shop.history.entries
  -- a stop came by a fault since the start
  pub shop_rose : (count : ℕ) → present.shop.stopped ≡ Some count → Rose (faults start.shop.disk) count
  pub standby_rose : (count : ℕ) → present.standby.stopped ≡ Some count → Rose (others_faults start.standby.disk) count

-- the count of the one that has stopped
abbrev pub first_stop : Option ℕ → Option ℕ → Option ℕ
first_stop (Some faults) other = Some faults
first_stop None other = other

abbrev pub stop_of : {D C M : Type 0} → Both D C M → Option ℕ
stop_of both = first_stop both.shop.stopped both.standby.stopped

-- the stop as an item, by the torn entry of the one that has stopped
abbrev pub stop_in : Option ℕ → Option Entry → List Item
stop_in (Some faults) (Some torn) = item.Stop faults torn ∷ []
stop_in (Some faults) None = []
stop_in None torn = []

-- what a pair has recorded: the entries that both hold, and the stop of either after them
abbrev pub items_in : {D C M : Type 0} → Both D C M → List Item
items_in both = map item.Entry both.standby.history.entries
    ++ (stop_in both.shop.stopped both.shop.torn ++ stop_in both.standby.stopped both.standby.torn)

-- n, n + 1 and so on, k of them
abbrev pub places_from : ℕ → ℕ → List ℕ
places_from n zero = []
places_from n (suc k) = places_from n k ++ (n + k) ∷ []

-- What the sender sees of a pair. All that came since its start is the sender's own.
abbrev pub sight_of : {D C M : Type 0} → Paired D C M → Sight
sight_of pair = record {
  issuer = pair.present.standby.history.issuer;
  version = pair.present.standby.history.version;
  items = items_in pair.present;
  own = places_from (length pair.start.standby.history.entries)
      (length (items_in pair.present) - length pair.start.standby.history.entries);
}

-- neither has stopped
pub record GoOn {D C M : Type 0} (both : Both D C M) : Type 0 where
  pub shop : both.shop.stopped ≡ None
  pub standby : both.standby.stopped ≡ None

-- the count of the one whose disk failed in between, which rose
abbrev pub RoseTo : {D C M : Type 0} → (D → ℕ) → (M → ℕ) → Both D C M → Both D C M → ℕ → Type 0
RoseTo faults others_faults old new count =
    (Rose (faults old.shop.disk) count × (count ≡ faults new.shop.disk))
    ⊎ (Rose (others_faults old.standby.disk) count × (count ≡ others_faults new.standby.disk))

-- the disk of one of the two failed while lines were noted, which stops the pair at its count: what both hold is as it was
pub record TearsNotes {D C M : Type 0} (faults : D → ℕ) (others_faults : M → ℕ) (old new : Both D C M) (lines : List Line) :
    Type 0 where
  pub going_on : GoOn old
  pub count : ℕ
  pub rose : RoseTo faults others_faults old new count
  pub stop : stop_in new.shop.stopped new.shop.torn ++ stop_in new.standby.stopped new.standby.torn
      ≡ item.Stop count (noted_next old.standby.history.entries lines) ∷ []
  pub stopped : stop_of new ≡ Some count
  pub entries : new.standby.history.entries ≡ old.standby.history.entries

-- lack of memory: both are as they were
pub record IsUnmoved {D C M : Type 0} (old new : Both D C M) : Type 0 where
  pub shop : IsRoomy old.shop new.shop
  pub standby : IsRoomy old.standby new.standby

-- What keeping an entry in both makes of them, in the store first. A fault of the store's disk comes before the standby's is
-- called.
abbrev pub KeepsBoth : {D C M : Type 0} → Bool → (D → OnDisk) → (D → ℕ) → Bool → (M → OnDisk) → (M → ℕ) → Both D C M → Both D C M →
    Entry → Result (Unit {0}) StoreFault → Type 0
KeepsBoth tells on_disk faults others_tell others_on_disk others_faults old new entry (Ok done) =
    KeepsEntry {E = StoreFault} tells on_disk faults old.shop new.shop entry (Ok tt)
    × KeepsEntry {E = StoreFault} others_tell others_on_disk others_faults old.standby new.standby entry (Ok tt)
KeepsBoth tells on_disk faults others_tell others_on_disk others_faults old new entry (Err DiskFault) =
    (KeepsEntry {E = StoreFault} tells on_disk faults old.shop new.shop entry (Err DiskFault) × (new.standby ≡ old.standby))
    ⊎ (KeepsEntry {E = StoreFault} tells on_disk faults old.shop new.shop entry (Ok tt)
    × KeepsEntry {E = StoreFault} others_tell others_on_disk others_faults old.standby new.standby entry (Err DiskFault))
KeepsBoth tells on_disk faults others_tell others_on_disk others_faults old new entry (Err (Stopped count)) = ⊥
KeepsBoth tells on_disk faults others_tell others_on_disk others_faults old new entry (Err NoMemory) = ⊥

-- what a note of these lines does to a pair, by its answer
abbrev pub NotesBoth : {D C M : Type 0} → (D → ℕ) → (M → ℕ) → Both D C M → Both D C M → List Line →
    Result (Unit {0}) StoreFault → Type 0
NotesBoth faults others_faults old new lines (Ok done) = GoOn old × GoOn new
    × (new.standby.history.entries ≡ old.standby.history.entries ++ noted_next old.standby.history.entries lines ∷ [])
NotesBoth faults others_faults old new lines (Err DiskFault) = TearsNotes faults others_faults old new lines
NotesBoth faults others_faults old new lines (Err (Stopped count)) = (stop_of old ≡ Some count) × (new ≡ old)
NotesBoth faults others_faults old new lines (Err NoMemory) = GoOn old × IsUnmoved old new
