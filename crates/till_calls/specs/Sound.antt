-- What holds of a shop's store whenever no turn is under way.
use Rattle.std.specs.Prelude.{◌≡◌, ◌⊎◌, ◌≤◌, ℕ, List, ◌++◌, Bool, IsTrue, Option, Some}
use Rattle.chain_disk.specs.OnDisk.{OnDisk, LeavesOnly, LeavesNow}
use Rattle.chain_lock.specs.Lists.{StartsWith}
use Rattle.chain_store.specs.Crashes.{StandsBetween}
use Rattle.chain_store.specs.Losing.{NeverLoses}
use Rattle.chain_store.specs.Ready.{IsReady}
use Rattle.shop_core.specs.File.Files.{StandsFor}
use Rattle.ports.specs.Causes.{Rose}
use Rattle.ports.specs.Readings.{MovedBy}
use Rattle.record_codec.specs.declared.entry.Entry.{Entry}
use Rattle.record_fields.specs.declared.versions.Version.{Version}
use Rattle.shop_core.specs.Legal.{Legal, Continues}
use Rattle.till_calls.specs.InTurn.{ReadInTurn}
use Rattle.till_calls.specs.Root.{Root, Parts, with_torn}

-- the file stands for the one history or for the other
abbrev pub StandsForEither : Version → List ℕ → List Entry → List Entry → List ℕ → Type 0
StandsForEither version issuer history longer file = StandsFor version issuer history file ⊎ StandsFor version issuer longer file

-- Each crash since the start leaves a front of the history, or of that with the torn entry; now it leaves the whole. What was made
-- sure of at any moment since then stays.
pub record Leaves {C : Type 0} (root : Root C) (history longer : List Entry) (now : OnDisk) : Type 0 where
  pub since : LeavesOnly root.on_disk now (StandsBetween root.version root.issuer root.history longer)
  pub never_loses : NeverLoses root.on_disk now
  pub whole : LeavesNow now (StandsForEither root.version root.issuer history longer)

-- a stop: its count, and the entry whose append failed
pub record HasStopped {D C : Type 0} (faults : D → ℕ) (root : Root C) (p : Parts D C) (count : ℕ) : Type 0 where
  pub torn : Entry
  pub torn_is : p.torn ≡ Some torn
  pub continues : Continues root.version root.issuer p.state.entries torn
  pub rose : Rose root.faults count
  pub within : count ≤ faults p.disk

-- the clock is this one after some readings
pub record IsLater {C : Type 0} (coming : C → ℕ → Option ℕ) (start now : C) : Type 0 where
  pub number : ℕ
  pub moved : MovedBy number (coming start) (coming now)

-- the clock is the root's after some readings; the records since then were stamped by these, each by one of its own, in turn
pub record StampedSince {C : Type 0} (coming : C → ℕ → Option ℕ) (root : Root C) (now : C) (entries : List Entry) : Type 0 where
  pub number : ℕ
  pub moved : MovedBy number (coming root.clock) (coming now)
  pub since : List Entry
  pub since_is : entries ≡ root.history ++ since
  pub in_turn : ReadInTurn (coming root.clock) 0 number root.history since

-- what a shop's store keeps
pub record IsSound {D C : Type 0} (tells : Bool) (on_disk : D → OnDisk) (faults : D → ℕ) (coming : C → ℕ → Option ℕ)
    (root : Root C) (p : Parts D C) : Type 0 where
  -- where it hasn't stopped, its file stands for its history
  pub ready : IsReady tells p.state p.stopped p.gate (on_disk p.disk)
  pub issuer : p.state.issuer ≡ root.issuer
  pub version : p.state.version ≡ root.version
  pub legal : Legal root.version root.issuer p.state.entries
  pub begins : StartsWith p.state.entries root.history
  pub clock : StampedSince coming root p.clock p.state.entries
  pub crashes : IsTrue tells → Leaves root p.state.entries (with_torn p.state.entries p.stopped p.torn) (on_disk p.disk)
  pub stop : (count : ℕ) → p.stopped ≡ Some count → HasStopped faults root p count
  pub later : root.faults ≤ faults p.disk
