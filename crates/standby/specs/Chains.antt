-- A chain on a disk: its history, and what crashes leave of it.
use Rattle.std.specs.Prelude.{◌≡◌, ◌⊎◌, ◌≤◌, ◌++◌, ◌∷◌, [], ℕ, List, Bool, IsTrue, Option, Some, None}
use Rattle.chain_disk.specs.OnDisk.{OnDisk, LeavesNow, LeavesOnly}
use Rattle.chain_disk.specs.declared.disk.Disk.{Ghosts}
use Rattle.chain_store.specs.Crashes.{StandsBetween}
use Rattle.chain_store.specs.Losing.{NeverLoses}
use Rattle.chain_store.specs.Ready.{IsReady}
use Rattle.chain_store.specs.Store.{journal_of, state_of, torn_of}
use Rattle.chain_store.specs.declared.store.Store.{Store}
use Rattle.journal.specs.Journal.{disk_of, end_of, stopped_of}
use Rattle.journal.specs.Written.{AppendsFrom}
use Rattle.journal.specs.declared.journal.Journal.{Journal}
use Rattle.shop_core.specs.Prefix.{IsPrefix}
use Rattle.record_codec.specs.declared.entry.Entry.{Entry}
use Rattle.record_fields.specs.declared.versions.Version.{Version}
use Rattle.shop_core.specs.File.Files.{StandsFor}
use Rattle.shop_core.specs.History.{History}
use Rattle.shop_core.specs.Legal.{Continues, Legal}

-- a history, its disk, the place of the file's closing gate, the disk's count of faults where it stopped the journal, and the
-- entry whose append failed
pub record ChainOnDisk (D : Type 0) : Type 0 where
  pub history : History
  pub disk : D
  pub gate : ℕ
  pub stopped : Option ℕ
  pub torn : Option Entry

-- of a history and its journal
abbrev pub chain_by : {D : Type 0} {g : Ghosts D} → History → Journal D g → Option Entry → ChainOnDisk D
chain_by history journal torn = record {
  history = history;
  disk = disk_of journal;
  gate = end_of journal;
  stopped = stopped_of journal;
  torn = torn;
}

-- of a store
abbrev pub chain_of : {D C : Type 0} {g : Ghosts D} → Store D C g → ChainOnDisk D
chain_of store = chain_by (state_of store) (journal_of store) (torn_of store)

-- its entries
abbrev pub entries_in : {D : Type 0} → ChainOnDisk D → List Entry
entries_in chain = chain.history.entries

-- the history, with the torn entry where the journal has stopped
abbrev pub with_torn : List Entry → Option ℕ → Option Entry → List Entry
with_torn entries (Some faults) (Some torn) = entries ++ torn ∷ []
with_torn entries (Some faults) None = entries
with_torn entries None torn = entries

-- the longest history that its file may stand for
abbrev pub longest : {D : Type 0} → ChainOnDisk D → List Entry
longest chain = with_torn chain.history.entries chain.stopped chain.torn

-- the file stands for the one history or for the other
abbrev pub StandsForEither : Version → List ℕ → List Entry → List Entry → List ℕ → Type 0
StandsForEither version issuer entries longer file = StandsFor version issuer entries file ⊎ StandsFor version issuer longer file

-- a stop: the torn entry would have continued the history
pub record IsStop {D : Type 0} (faults : D → ℕ) (chain : ChainOnDisk D) (count : ℕ) : Type 0 where
  pub torn : Entry
  pub torn_is : chain.torn ≡ Some torn
  pub continues : Continues chain.history.version chain.history.issuer chain.history.entries torn
  pub within : count ≤ faults chain.disk

-- A legal history on its disk. Where its disk tells what it holds, a crash now leaves the whole history; where its journal has
-- stopped, that or that with the torn entry.
pub record IsSoundChain {D : Type 0} (tells : Bool) (on_disk : D → OnDisk) (faults : D → ℕ) (chain : ChainOnDisk D) : Type 0 where
  pub ready : IsReady tells chain.history chain.stopped chain.gate (on_disk chain.disk)
  pub legal : Legal chain.history.version chain.history.issuer chain.history.entries
  pub images : IsTrue tells →
      LeavesNow (on_disk chain.disk) (StandsForEither chain.history.version chain.history.issuer chain.history.entries (longest chain))
  pub stop : (count : ℕ) → chain.stopped ≡ Some count → IsStop faults chain count

-- Calls led from one to the other. The history begins with the one before, and each crash since leaves a history between the
-- two, with the torn entry where the journal has stopped. What was made sure of at any moment stays.
pub record GoesTo {D : Type 0} (tells : Bool) (on_disk : D → OnDisk) (faults : D → ℕ) (old new : ChainOnDisk D) : Type 0 where
  pub issuer : new.history.issuer ≡ old.history.issuer
  pub version : new.history.version ≡ old.history.version
  pub begins : IsPrefix old.history.entries new.history.entries
  pub longer : IsPrefix (longest old) (longest new)
  pub since : IsTrue tells → LeavesOnly (on_disk old.disk) (on_disk new.disk)
      (StandsBetween old.history.version old.history.issuer old.history.entries (longest new))
  pub never_loses : IsTrue tells → NeverLoses (on_disk old.disk) (on_disk new.disk)
  pub later : faults old.disk ≤ faults new.disk

-- Where the one goes on and its disk tells what it holds, its file was only appended to: the bytes before the closing gate stay, in
-- the file and in each that a crash leaves.
abbrev pub IsAppended : {D : Type 0} → Bool → (D → OnDisk) → ChainOnDisk D → ChainOnDisk D → Type 0
IsAppended tells on_disk old new =
    old.stopped ≡ None → IsTrue tells → AppendsFrom old.gate (on_disk old.disk) (on_disk new.disk)

-- as it was, but for the room
pub record IsRoomy {D : Type 0} (old new : ChainOnDisk D) : Type 0 where
  pub issuer : new.history.issuer ≡ old.history.issuer
  pub version : new.history.version ≡ old.history.version
  pub entries : new.history.entries ≡ old.history.entries
  pub disk : new.disk ≡ old.disk
  pub gate : new.gate ≡ old.gate
  pub stopped : new.stopped ≡ old.stopped
  pub torn : new.torn ≡ old.torn
