-- The words in which contracts above speak of a store.
use Rattle.std.specs.Prelude.{◌≡◌, ◌≤◌, ◌++◌, ◌∷◌, [], ℕ, Bool, IsTrue, Option, Some, None, option_map, Result, OnOk, OnErr}
use Rattle.std.specs.Prelude.{IsErrOf}
use Rattle.ports.specs.Causes.{Rose}
use Rattle.record_codec.specs.declared.entry.Entry.{Entry}
use Rattle.chain_disk.specs.OnDisk.{OnDisk, LeavesNow, LeavesOnly}
use Rattle.chain_disk.specs.declared.disk.Disk.{Ghosts}
use Rattle.shop_core.specs.File.Files.{StandsBeforeOrWith, StandsFor}
use Rattle.shop_core.specs.History.{History}
use Rattle.journal.specs.declared.faults.StoreFault.{StoreFault}
use Rattle.journal.specs.declared.journal.Journal.{Journal}
use Rattle.journal.specs.Journal.{disk_of, end_of, stopped_of}
use Rattle.journal.specs.Written.{AppendsFrom}
use Rattle.chain_store.specs.Losing.{NeverLoses}
use Rattle.chain_store.specs.Ready.{IsReady, StoreCall, WritesEntry}
use Rattle.chain_store.specs.declared.store.Store.{Store}

-- its history
abbrev pub state_of : {D C : Type 0} {g : Ghosts D} → Store D C g → History
state_of store = store.state

-- its journal
abbrev pub journal_of : {D C : Type 0} {g : Ghosts D} → Store D C g → Journal D g
journal_of store = store.journal

-- its clock
abbrev pub clock_of : {D C : Type 0} {g : Ghosts D} → Store D C g → C
clock_of store = store.clock

-- the entry whose append failed
abbrev pub torn_of : {D C : Type 0} {g : Ghosts D} → Store D C g → Option Entry
torn_of store = option_map (λ s. s.value) store.torn

-- where its journal isn't stopped and its disk tells what it holds, that is its history
abbrev pub Ready : {D C : Type 0} {g : Ghosts D} → Bool → (D → OnDisk) → Store D C g → Type 0
Ready tells on_disk store =
    IsReady tells store.state (stopped_of store.journal) (end_of store.journal) (on_disk (disk_of store.journal))

-- this call of a store: of its kinds of disk and clock, before and after
abbrev pub this_call : {D C : Type 0} {g : Ghosts D} → Bool → (D → OnDisk) → (C → ℕ → Option ℕ) → Store D C g → Store D C g →
    StoreCall
this_call tells on_disk coming old new = record {
  old = old.state;
  new = new.state;
  coming = coming old.clock;
  coming_after = coming new.clock;
  tells = tells;
  disk = on_disk (disk_of old.journal);
  disk_after = on_disk (disk_of new.journal);
}

-- where its disk tells what it holds, every crash from now on leaves its whole history
abbrev pub Acknowledged : {D C : Type 0} {g : Ghosts D} → Bool → (D → OnDisk) → Store D C g → Type 0
Acknowledged tells on_disk store = IsTrue tells →
    LeavesNow (on_disk (disk_of store.journal)) (StandsFor store.state.version store.state.issuer store.state.entries)

-- Where its journal went on and its disk tells what it holds, its file was only appended to: the bytes before the closing gate
-- stay, in the file and in each that a crash leaves.
abbrev pub IsAppended : {D C : Type 0} {g : Ghosts D} → Bool → (D → OnDisk) → Store D C g → Store D C g → Type 0
IsAppended tells on_disk old new = stopped_of old.journal ≡ None → IsTrue tells →
    AppendsFrom (end_of old.journal) (on_disk (disk_of old.journal)) (on_disk (disk_of new.journal))

-- where its disk tells what it holds, nothing that was made sure of is lost
abbrev pub LosesNothing : {D C : Type 0} {g : Ghosts D} → Bool → (D → OnDisk) → Store D C g → Store D C g → Type 0
LosesNothing tells on_disk old new = IsTrue tells →
    NeverLoses (on_disk (disk_of old.journal)) (on_disk (disk_of new.journal))

-- where its disk tells what it holds, a frame of this entry's bytes is all that was written
abbrev pub Writes : {D C : Type 0} {g : Ghosts D} → Bool → (D → OnDisk) → Store D C g → Store D C g → Entry → Type 0
Writes tells on_disk old new entry = IsTrue tells →
    WritesEntry old.state.version entry (end_of old.journal) (on_disk (disk_of old.journal)) (on_disk (disk_of new.journal))

-- its journal went on, and goes on
abbrev pub GoesOn : {D C : Type 0} {g : Ghosts D} → Store D C g → Store D C g → Type 0
GoesOn old new = (stopped_of old.journal ≡ None) × (stopped_of new.journal ≡ None)

-- its disk failed, and stopped its journal
abbrev pub IsStoppedByFault : {D C : Type 0} {g : Ghosts D} → (D → ℕ) → Store D C g → Store D C g → Type 0
IsStoppedByFault faults old new = Rose (faults (disk_of old.journal)) (faults (disk_of new.journal))
    × (stopped_of new.journal ≡ Some (faults (disk_of new.journal)))

-- its disk's count of faults never falls
abbrev pub IsLater : {D C : Type 0} {g : Ghosts D} → (D → ℕ) → Store D C g → Store D C g → Type 0
IsLater faults old new = faults (disk_of old.journal) ≤ faults (disk_of new.journal)

-- What adding this entry leaves of a store that goes on. At Ok the history has it, and every crash leaves it; otherwise the
-- history is as it was, and after a fault of the disk the entry is the torn one, which may be in the file.
pub record Adds {D C X : Type 0} {g : Ghosts D} (tells : Bool) (on_disk : D → OnDisk) (faults : D → ℕ) (old new : Store D C g)
    (entry : Entry) (result : Result X StoreFault) : Type 0 where
  pub ready : Ready tells on_disk new
  pub issuer : new.state.issuer ≡ old.state.issuer
  pub version : new.state.version ≡ old.state.version
  pub clock : new.clock ≡ old.clock
  pub added : OnOk result ((stopped_of new.journal ≡ None) × (new.state.entries ≡ old.state.entries ++ entry ∷ []))
  pub same : OnErr result (new.state.entries ≡ old.state.entries)
  pub any_moment : IsTrue tells → LeavesOnly (on_disk (disk_of old.journal)) (on_disk (disk_of new.journal))
      (StandsBeforeOrWith old.state.version old.state.issuer old.state.entries entry)
  pub never_loses : LosesNothing tells on_disk old new
  pub appended : IsAppended tells on_disk old new
  pub content : OnOk result (Writes tells on_disk old new entry)
  pub acknowledged : OnOk result (Acknowledged tells on_disk new)
  pub no_memory : IsErrOf result StoreFault.NoMemory → new.journal ≡ old.journal
  pub fault : IsErrOf result StoreFault.DiskFault → IsStoppedByFault faults old new
  pub torn : IsErrOf result StoreFault.DiskFault → torn_of new ≡ Some entry
  pub room : IsErrOf result StoreFault.DiskFault → new.state.room ≡ Some entry
  pub not_stopped : (count : ℕ) → IsErrOf result (StoreFault.Stopped count) → ⊥
  pub later : IsLater faults old new
