-- What a shop's lock guards: the parts of its store, and how they were at the start.
use Rattle.std.specs.Prelude.{ℕ, List, [], ◌∷◌, ◌++◌, map, Option, Some, None}
use Rattle.record_fields.specs.declared.versions.Version.{Version}
use Rattle.chain_disk.specs.OnDisk.{OnDisk}
use Rattle.chain_disk.specs.declared.disk.Disk.{Ghosts}
use Rattle.chain_store.specs.Store.{clock_of, journal_of, state_of, torn_of}
use Rattle.chain_store.specs.declared.store.Store.{Store}
use Rattle.journal.specs.Journal.{disk_of, end_of, stopped_of}
use Rattle.record_codec.specs.declared.entry.Entry.{Entry}
use Rattle.shop_core.specs.History.{History}
use Rattle.shop_core.specs.declared.items.Item.{Item}
use Rattle.shop_core.specs.declared.items.Item.TheVariants as item

-- the shop at its start: no turn changes it
pub record Root (C : Type 0) : Type 0 where
  pub issuer : List ℕ
  pub version : Version
  pub history : List Entry
  -- what was on the disk
  pub on_disk : OnDisk
  -- its count of faults
  pub faults : ℕ
  pub clock : C

-- what a store holds
pub record Parts (D C : Type 0) : Type 0 where
  pub state : History
  pub disk : D
  pub gate : ℕ
  pub stopped : Option ℕ
  pub torn : Option Entry
  pub clock : C

abbrev pub parts_of : {D C : Type 0} {g : Ghosts D} → Store D C g → Parts D C
parts_of store = record {
  state = state_of store;
  disk = disk_of (journal_of store);
  gate = end_of (journal_of store);
  stopped = stopped_of (journal_of store);
  torn = torn_of store;
  clock = clock_of store;
}

-- the stop, where the store has stopped
abbrev pub stop_in : Option ℕ → Option Entry → List Item
stop_in (Some faults) (Some torn) = item.Stop faults torn ∷ []
stop_in (Some faults) None = []
stop_in None torn = []

-- what a store has recorded: the entries of its history, and the stop after them
abbrev pub items_in : {D C : Type 0} → Parts D C → List Item
items_in p = map item.Entry p.state.entries ++ stop_in p.stopped p.torn

-- the history, with the torn entry where the store has stopped
abbrev pub with_torn : List Entry → Option ℕ → Option Entry → List Entry
with_torn history (Some faults) (Some torn) = history ++ torn ∷ []
with_torn history (Some faults) None = history
with_torn history None torn = history

-- the root of a shop that starts with this store
abbrev pub root_of : {D C : Type 0} → (D → OnDisk) → (D → ℕ) → Parts D C → Root C
root_of on_disk faults p =
    record {
      issuer = p.state.issuer;
      version = p.state.version;
      history = p.state.entries;
      on_disk = on_disk p.disk;
      faults = faults p.disk;
      clock = p.clock;
    }

-- what contracts see of the lock's value
pub record Guarded (D C : Type 0) : Type 0 where
  pub root : Root C
  pub parts : Parts D C
