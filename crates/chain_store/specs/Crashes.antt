-- What a crash leaves of a run.
use Rattle.std.specs.Prelude.{◌≡◌, ◌⊎◌, ◌≤◌, ℕ, List, [], ◌∷◌, ◌++◌, length, slice_get, IsTrue, Some, Err}
use Rattle.std.specs.List.{AllByRecursion}
use Rattle.record_fields.specs.declared.versions.Version.{Version}
use Rattle.chain_disk.specs.Disks.{Disks}
use Rattle.chain_disk.specs.OnDisk.{OnDisk, LeavesOnly, LeavesNow}
use Rattle.journal.specs.declared.faults.StoreFault.TheVariants.{DiskFault}
use Rattle.ports.specs.Causes.{Rose}
use Rattle.record_codec.specs.declared.entry.Entry.{Entry}
use Rattle.shop_core.specs.Prefix.{IsPrefix}
use Rattle.shop_core.specs.File.Files.{StandsFor}
use Rattle.shop_core.specs.Answer.Plans.{answer}
use Rattle.shop_core.specs.Answer.Requests.{Asked}
use Rattle.shop_core.specs.declared.answer.Planned.TheVariants.{Made}
use Rattle.chain_store.specs.Losing.{NeverLoses}
use Rattle.chain_store.specs.Replies.{Replies, AllGoOn}

-- the file stands for a legal history that begins with this one and is a front of that one
pub record StandsBetween (version : Version) (issuer : List ℕ) (start end : List Entry) (file : List ℕ) : Type 0 where
  pub history : List Entry
  pub stands : StandsFor version issuer history file
  pub begins : IsPrefix start history
  pub within : IsPrefix history end

-- the same of a run: its history at the end, with the torn entry after it
abbrev pub StandsUpTo : Version → List ℕ → List Entry → List Entry → List Entry → List ℕ → Type 0
StandsUpTo version issuer start end torn file = StandsBetween version issuer start (end ++ torn) file

-- the file stands for the history at the end, or for that with the torn entry
abbrev pub StandsForEnd : Version → List ℕ → List Entry → List Entry → List ℕ → Type 0
StandsForEnd version issuer end torn file = StandsFor version issuer end file ⊎ StandsFor version issuer (end ++ torn) file

-- An entry whose append failed: what the answer made, at the history before it and at the clock's reading, for the ask that
-- was told of the fault.
pub record IsCutOff (version : Version) (issuer : List ℕ) (IsReading : Replies → ℕ → Type 0) (asks : List Asked)
    (history : List Entry)
    (replies : Replies) (entry : Entry) : Type 0 where
  pub before : Replies
  pub behind : Replies
  pub told : replies ≡ before ++ Err DiskFault ∷ behind
  pub ask : Asked
  pub asked : slice_get asks (length before) ≡ Some ask
  pub seconds : ℕ
  pub reading : IsReading before seconds
  pub made : answer version issuer history ask seconds ≡ Made entry

-- Since some moment each crash leaves a file with P, and what was made sure of at any moment stays; now it leaves the history at
-- the end, or that with the torn entry, and so reads the disk.
pub record SurvivesCrashes (P : List ℕ → Type 0) (version : Version) (issuer : List ℕ) (end torn : List Entry) (since now : OnDisk) :
    Type 0 where
  pub each_moment : LeavesOnly since now P
  pub never_loses : NeverLoses since now
  pub every_crash : LeavesNow now (StandsForEnd version issuer end torn)
  pub reads : StandsForEnd version issuer end torn now.content

-- what a run keeps: an entry is torn only where the disk failed while it was added, and is then as IsTorn says
pub record KeptByRun (P : List Entry → List ℕ → Type 0) (IsTorn : Entry → Type 0) (version : Version) (issuer : List ℕ)
    (end : List Entry) (replies : Replies) (since now : OnDisk) : Type 0 where
  pub torn : List Entry
  pub at_most_one : length torn ≤ 1
  pub by_a_fault : AllGoOn replies → torn ≡ []
  pub made : AllByRecursion IsTorn torn
  pub kept : SurvivesCrashes (P torn) version issuer end torn since now

-- The disk as the call found it in which it failed first, and as that call left it. The disk that was found held this history,
-- and in the call the count of faults rose.
pub record FailsIn {D : Type 0} (k : Disks D) (version : Version) (issuer : List ℕ) (history : List Entry) : Type 0 where
  pub found : D
  pub left : D
  pub held : IsTrue k.tells → LeavesNow (k.on_disk found) (StandsFor version issuer history)
  pub early : k.faults k.disk ≤ k.faults found
  pub risen : Rose (k.faults found) (k.faults left)
  pub late : k.faults left ≤ k.faults k.disk_after
