-- What keeping an entry leaves of a history and of the journal that keeps it.
use Rattle.std.specs.Prelude.{◌≡◌, ◌≤◌, ◌++◌, ◌∷◌, [], ℕ, Bool, IsTrue, Some, None, Result, OnOk, OnErr}
use Rattle.ports.specs.Causes.{Rose}
use Rattle.record_codec.specs.declared.entry.Entry.{Entry}
use Rattle.chain_disk.specs.OnDisk.{OnDisk, LeavesNow, LeavesOnly}
use Rattle.chain_disk.specs.declared.disk.Disk.{Ghosts}
use Rattle.shop_core.specs.File.Files.{StandsBeforeOrWith, StandsFor}
use Rattle.shop_core.specs.History.{History}
use Rattle.journal.specs.declared.journal.Journal.{Journal}
use Rattle.journal.specs.Journal.{disk_of, end_of, stopped_of}
use Rattle.journal.specs.Written.{AppendsFrom}
use Rattle.chain_store.specs.Losing.{NeverLoses}
use Rattle.chain_store.specs.Ready.{IsReady, WritesEntry}

-- At Ok the history has the entry, and every crash leaves it. After a fault of the disk the history is as it was, the journal
-- is stopped, and the file may have the entry. A crash at any moment of the call leaves the history before it, or that with
-- the entry, and what was made sure of stays. The bytes before the closing gate stay, and at Ok the entry's frame is all that was
-- written.
pub record Keeps {D E : Type 0} {g : Ghosts D} (tells : Bool) (on_disk : D → OnDisk) (faults : D → ℕ) (old new : History)
    (journal after : Journal D g) (entry : Entry) (result : Result (Unit {0}) E) : Type 0 where
  pub ready : IsReady tells new (stopped_of after) (end_of after) (on_disk (disk_of after))
  pub issuer : new.issuer ≡ old.issuer
  pub version : new.version ≡ old.version
  pub added : OnOk result ((stopped_of after ≡ None) × (new.entries ≡ old.entries ++ entry ∷ []))
  pub same : OnErr result (new ≡ old)
  pub any_moment : IsTrue tells → LeavesOnly (on_disk (disk_of journal)) (on_disk (disk_of after))
      (StandsBeforeOrWith old.version old.issuer old.entries entry)
  pub never_loses : IsTrue tells → NeverLoses (on_disk (disk_of journal)) (on_disk (disk_of after))
  pub appended : IsTrue tells → AppendsFrom (end_of journal) (on_disk (disk_of journal)) (on_disk (disk_of after))
  pub content : OnOk result (IsTrue tells →
      WritesEntry old.version entry (end_of journal) (on_disk (disk_of journal)) (on_disk (disk_of after)))
  pub acknowledged : OnOk result (IsTrue tells →
      LeavesNow (on_disk (disk_of after)) (StandsFor new.version new.issuer new.entries))
  pub fault : OnErr result (Rose (faults (disk_of journal)) (faults (disk_of after))
      × (stopped_of after ≡ Some (faults (disk_of after))))
  pub later : faults (disk_of journal) ≤ faults (disk_of after)
