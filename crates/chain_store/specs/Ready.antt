-- What a store keeps, and what one call of it leaves.
use Rattle.std.specs.Prelude.{◌≡◌, ◌≤◌, ◌++◌, ℕ, List, length, Bool, IsTrue, Option, None, Some, Result}
use Rattle.chain_disk.specs.OnDisk.{OnDisk, LeavesOnly}
use Rattle.journal.specs.File.{IsAt}
use Rattle.journal.specs.Written.{with_frame}
use Rattle.journal.specs.declared.faults.StoreFault.{StoreFault}
use Rattle.ports.specs.Readings.{IsTold, MovedBy}
use Rattle.record_codec.specs.Writing.{entry_bytes}
use Rattle.record_codec.specs.declared.entry.Entry.{Entry}
use Rattle.record_codec.specs.declared.entry.Entry.TheVariants.{Notes}
use Rattle.record_fields.specs.declared.lines.Line.{Line}
use Rattle.record_fields.specs.declared.versions.Version.{Version}
use Rattle.shop_core.specs.Answer.Plans.{answer}
use Rattle.shop_core.specs.Answer.Requests.{Asked}
use Rattle.shop_core.specs.History.{History, noted}
use Rattle.shop_core.specs.Answer.Replies.{IsReply}
use Rattle.shop_core.specs.declared.answer.Reply.{Reply}
use Rattle.shop_core.specs.declared.answer.Reply.TheVariants.{Taken, Again, Refused}
use Rattle.shop_core.specs.Legal.{Continues}
use Rattle.shop_core.specs.declared.answer.Planned.TheVariants.{Made}
use Rattle.shop_core.specs.File.Files.{AreEncoded, bodies_of, furthest_gate, StandsAround, StandsBeforeOrWith}

-- the disk reads as this history's file, of its version, with nothing pending, and its closing gate is at this place
pub record Holds (history : History) (gate : ℕ) (t : OnDisk) : Type 0 where
  pub file : IsAt history.version history.issuer (bodies_of history.version history.entries) gate t
  pub encoded : AreEncoded history.version history.issuer history.entries

-- where the journal isn't stopped and its disk tells what it holds, that is this history
pub record IsReady (tells : Bool) (history : History) (stopped : Option ℕ) (gate : ℕ) (t : OnDisk) : Type 0 where
  pub place : gate ≤ furthest_gate history.entries
  pub holds : stopped ≡ None → IsTrue tells → Holds history gate t

-- the file is the one before with a frame of this entry's bytes at this gate, and nothing else was written
abbrev pub WritesEntry : Version → Entry → ℕ → OnDisk → OnDisk → Type 0
WritesEntry version entry gate old new = new.content ≡ with_frame old.content gate (entry_bytes version entry)

-- one call of a store: its history, its clock's answers to come and what its disk tells, before the call and after it
pub record StoreCall : Type 0 where
  pub old : History
  pub new : History
  pub coming : ℕ → Option ℕ
  pub coming_after : ℕ → Option ℕ
  pub tells : Bool
  pub disk : OnDisk
  pub disk_after : OnDisk

-- at any moment of the call a crash leaves a file of which this holds
abbrev pub CrashesLeave : StoreCall → (List ℕ → Type 0) → Type 0
CrashesLeave k P = IsTrue k.tells → LeavesOnly k.disk k.disk_after P

-- One ask at a journal that goes on. The clock is read once. The reply is the answer at that reading, the history gains
-- what it makes, and a crash at any moment of the call leaves the history before it, or that with the entry made.
pub record Takes (k : StoreCall) (ask : Asked) (replied : Result Reply StoreFault) : Type 0 where
  pub seconds : ℕ
  pub reading : IsTold (k.coming 0) seconds
  pub moved : MovedBy 1 k.coming k.coming_after
  pub issuer : k.new.issuer ≡ k.old.issuer
  pub version : k.new.version ≡ k.old.version
  pub gained : List Entry
  pub entries : k.new.entries ≡ k.old.entries ++ gained
  pub reply : IsReply k.old.version k.old.issuer k.old.entries ask seconds replied gained
  pub any_moment : CrashesLeave k (StandsAround k.old.version k.old.issuer k.old.entries
      (answer k.old.version k.old.issuer k.old.entries ask seconds))

-- One ask that the disk's failure cut off. Its entry was made at the history and a reading of the clock, room was made for it,
-- and it may be on the disk.
pub record Tears (k : StoreCall) (ask : Asked) (torn : Option Entry) : Type 0 where
  pub entry : Entry
  pub entry_is : torn ≡ Some entry
  pub seconds : ℕ
  pub reading : IsTold (k.coming 0) seconds
  pub made : answer k.old.version k.old.issuer k.old.entries ask seconds ≡ Made entry
  pub continues : Continues k.old.version k.old.issuer k.old.entries entry
  pub room : k.new.room ≡ Some entry
  pub any_moment : CrashesLeave k (StandsBeforeOrWith k.old.version k.old.issuer k.old.entries entry)

-- these lines, as the next ones of a history
abbrev pub noted_next : List Entry → List Line → Entry
noted_next entries lines = Notes (length (noted entries)) lines

-- lines whose append the disk's failure cut off: they continue the history, room was made for them, and they may be on the disk
pub record TearsLines (k : StoreCall) (lines : List Line) (torn : Option Entry) : Type 0 where
  pub entry_is : torn ≡ Some (noted_next k.old.entries lines)
  pub continues : Continues k.old.version k.old.issuer k.old.entries (noted_next k.old.entries lines)
  pub room : k.new.room ≡ Some (noted_next k.old.entries lines)
  pub any_moment : CrashesLeave k (StandsBeforeOrWith k.old.version k.old.issuer k.old.entries (noted_next k.old.entries lines))

-- P, where the reply tells of no new record
abbrev pub IfNothingTaken : Reply → Type 0 → Type 0
IfNothingTaken (Taken receipt) P = Unit {0}
IfNothingTaken (Again receipt) P = P
IfNothingTaken (Refused why) P = P
