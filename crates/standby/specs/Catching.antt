-- A copy and the history that it is of, and what is left once it was brought up to it.
use Rattle.std.specs.Prelude.{◌≡◌, ◌≢◌, ◌+◌, ◌<◌, ℕ, List, length, take, slice_get, None, Some, Result, Ok, Err}
use Rattle.journal.specs.declared.faults.StoreFault.{StoreFault}
use Rattle.journal.specs.declared.faults.StoreFault.TheVariants.{DiskFault, Stopped, NoMemory}
use Rattle.ports.specs.Causes.{Rose}
use Rattle.record_codec.specs.declared.entry.Entry.{Entry}
use Rattle.standby.specs.Chains.{ChainOnDisk}

-- the first index, from 0, at which the copy has an entry that isn't the other's
pub record IsFirstApart (entries copy : List Entry) (at : ℕ) : Type 0 where
  pub within : at < length copy
  pub same : take at copy ≡ take at entries
  pub apart : slice_get copy at ≢ slice_get entries at

-- What letting its next piece arrive ends with: at Ok it has one entry more.
abbrev pub CatchesOne : {D : Type 0} → (D → ℕ) → ChainOnDisk D → ChainOnDisk D → Result (Unit {0}) StoreFault → Type 0
CatchesOne faults old new (Ok done) =
    (new.stopped ≡ None) × (length new.history.entries ≡ length old.history.entries + 1)
CatchesOne faults old new (Err DiskFault) =
    Rose (faults old.disk) (faults new.disk) × (new.stopped ≡ Some (faults new.disk))
CatchesOne faults old new (Err (Stopped count)) = ⊥
CatchesOne faults old new (Err NoMemory) = new.stopped ≡ None

-- What bringing a copy up to these entries ends with: at Ok it has them all, this many of them new; after a fault of its disk, whose
-- count rose, it is stopped at that count. It never was stopped before.
abbrev pub CatchesUp : {D : Type 0} → (D → ℕ) → ChainOnDisk D → ChainOnDisk D → List Entry → Result ℕ StoreFault → Type 0
CatchesUp faults old new entries (Ok kept) =
    (new.stopped ≡ None) × (new.history.entries ≡ entries) × (length old.history.entries + kept ≡ length entries)
CatchesUp faults old new entries (Err DiskFault) =
    Rose (faults old.disk) (faults new.disk) × (new.stopped ≡ Some (faults new.disk))
CatchesUp faults old new entries (Err (Stopped count)) = ⊥
CatchesUp faults old new entries (Err NoMemory) = new.stopped ≡ None
