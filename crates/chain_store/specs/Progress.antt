-- How far a run of a store has come.
use Rattle.std.specs.Prelude.{◌≡◌, ℕ, ◌≤◌, List, [], length, Bool, IsTrue, IsSome, OnOk, Option, Some, None, Result, Err, ◌↔◌}
use Rattle.std.specs.List.{AllByRecursion}
use Rattle.chain_disk.specs.OnDisk.{OnDisk, LeavesOnly, LeavesNow}
use Rattle.chain_disk.specs.declared.disk.Disk.{Ghosts}
use Rattle.chain_store.specs.Ready.{StoreCall, Takes, Tears}
use Rattle.chain_store.specs.Store.{clock_of, journal_of, state_of}
use Rattle.chain_store.specs.declared.store.Store.{Store}
use Rattle.journal.specs.Journal.{disk_of, stopped_of}
use Rattle.journal.specs.declared.faults.StoreFault.{StoreFault}
use Rattle.journal.specs.declared.faults.StoreFault.TheVariants.{DiskFault, Stopped, NoMemory}
use Rattle.ports.specs.Causes.{Rose}
use Rattle.ports.specs.Readings.{MovedBy}
use Rattle.record_fields.specs.declared.versions.Version.{Version}
use Rattle.record_codec.specs.declared.entry.Entry.{Entry}
use Rattle.shop_core.specs.Answer.Requests.{Asked}
use Rattle.shop_core.specs.History.{History}
use Rattle.shop_core.specs.Answer.Replies.{ChainRun}
use Rattle.shop_core.specs.declared.answer.Reply.{Reply}
use Rattle.shop_core.specs.Prefix.{IsPrefix}
use Rattle.chain_store.specs.Crashes.{IsCutOff, StandsUpTo, StandsForEnd}
use Rattle.chain_store.specs.Losing.{NeverLoses}
use Rattle.chain_store.specs.Readings.{IsComing, readings}
use Rattle.chain_store.specs.Replies.{AllGoOn, StopsByFault}

-- where the run began
pub record Origin : Type 0 where
  pub issuer : List ℕ
  pub version : Version
  pub start : List Entry
  pub tells : Bool
  pub since : OnDisk
  pub at_faults : ℕ
  pub coming : ℕ → Option ℕ

-- what the store is now
pub record Point : Type 0 where
  pub history : History
  pub now : OnDisk
  pub faults : ℕ
  pub stopped : Option ℕ
  pub next : ℕ → Option ℕ

-- the journal goes on
pub record GoingOn (o : Origin) (replies : List (Result Reply StoreFault)) (p : Point) : Type 0 where
  pub go_on : AllGoOn replies
  pub only : IsTrue o.tells → LeavesOnly o.since p.now (StandsUpTo o.version o.issuer o.start p.history.entries [])

-- what a torn entry leaves
pub record Torn (o : Origin) (asks : List Asked) (replies : List (Result Reply StoreFault)) (p : Point) : Type 0 where
  pub torn : List Entry
  pub at_most_one : length torn ≤ 1
  pub made : AllByRecursion (IsCutOff o.version o.issuer (IsComing o.coming) asks p.history.entries replies) torn
  pub only : LeavesOnly o.since p.now (StandsUpTo o.version o.issuer o.start p.history.entries torn)
  pub here : LeavesNow p.now (StandsForEnd o.version o.issuer p.history.entries torn)

-- the journal has stopped
pub record Halted (o : Origin) (asks : List Asked) (replies : List (Result Reply StoreFault)) (p : Point) (count : ℕ) : Type 0
  where
    pub stops : StopsByFault o.at_faults count replies
    pub at_this : count ≡ p.faults
    pub left : IsTrue o.tells → Torn o asks replies p

abbrev pub Progress : Origin → List Asked → List (Result Reply StoreFault) → Point → Option ℕ → Type 0
Progress o asks replies p None = GoingOn o replies p
Progress o asks replies p (Some count) = Halted o asks replies p count

-- one call of a store, from this point to that
abbrev pub call_at : Bool → Point → Point → StoreCall
call_at tells p q = record {
  old = p.history;
  new = q.history;
  coming = p.next;
  coming_after = q.next;
  tells = tells;
  disk = p.now;
  disk_after = q.now;
}

-- these asks got these replies, up to this point
pub record SoFar (o : Origin) (asks : List Asked) (replies : List (Result Reply StoreFault)) (p : Point) : Type 0 where
  pub own : p.history.issuer ≡ o.issuer
  pub version : p.history.version ≡ o.version
  pub run : ChainRun o.version o.issuer (IsComing o.coming) o.start asks replies p.history.entries
  pub moved : MovedBy (readings replies) o.coming p.next
  pub begins : IsPrefix o.start p.history.entries
  pub later : o.at_faults ≤ p.faults
  pub never_loses : IsTrue o.tells → NeverLoses o.since p.now
  pub progress : Progress o asks replies p p.stopped

-- one ask more
pub record Step (tells : Bool) (p : Point) (ask : Asked) (replied : Result Reply StoreFault) (q : Point) : Type 0 where
  pub takes : p.stopped ≡ None → Takes (call_at tells p q) ask replied
  pub going_on : OnOk replied ((p.stopped ≡ None) × (q.stopped ≡ None))
  pub no_memory : replied ≡ Err NoMemory → (q.now ≡ p.now) × (q.stopped ≡ p.stopped)
  pub fault : replied ≡ Err DiskFault → Rose p.faults q.faults × (q.stopped ≡ Some q.faults)
  pub tears : replied ≡ Err DiskFault → (torn : Option Entry) × Tears (call_at tells p q) ask torn
  pub stops : (count : ℕ) → (replied ≡ Err (Stopped count)) ↔ (p.stopped ≡ Some count)
  pub untouched : IsSome p.stopped → q ≡ p
  pub later : p.faults ≤ q.faults
  pub never_loses : IsTrue tells → NeverLoses p.now q.now

abbrev pub origin_of : {D C : Type 0} {g : Ghosts D} → Bool → (D → OnDisk) → (D → ℕ) → (C → ℕ → Option ℕ) → Store D C g → Origin
origin_of tells on_disk faults coming store = record {
  issuer = (state_of store).issuer;
  version = (state_of store).version;
  start = (state_of store).entries;
  tells = tells;
  since = on_disk (disk_of (journal_of store));
  at_faults = faults (disk_of (journal_of store));
  coming = coming (clock_of store);
}

abbrev pub point_of : {D C : Type 0} {g : Ghosts D} → (D → OnDisk) → (D → ℕ) → (C → ℕ → Option ℕ) → Store D C g → Point
point_of on_disk faults coming store = record {
  history = state_of store;
  now = on_disk (disk_of (journal_of store));
  faults = faults (disk_of (journal_of store));
  stopped = stopped_of (journal_of store);
  next = coming (clock_of store);
}
