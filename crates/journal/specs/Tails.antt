-- What is written behind a closing gate.
use Rattle.std.specs.Prelude.{◌≡◌, ◌<◌, ◌≤◌, ◌+◌, ℕ, Bool, true, false, IsTrue, List, length, take, drop, slice_get, Some, Result, Ok, Err}
use Rattle.chain_disk.specs.Disks.{Disks, DiskRose}
use Rattle.chain_disk.specs.OnDisk.{OnDisk, IsCovered, IsSettled, LeavesOnly, written}
use Rattle.record_fields.specs.declared.versions.Version.{Version}
use Rattle.journal.specs.File.{IsAt, IsFile, NeverLosesFrames}
use Rattle.journal.specs.Written.{AppendsFrom, KeepsFront}
use Rattle.journal.specs.declared.tails.TailFault.{TailFault}
use Rattle.journal.specs.declared.tails.TailFault.TheVariants.{First, Second, OtherGate}

-- the content has a byte at this gate, and nothing is pending
pub record HasGate (gate : ℕ) (t : OnDisk) : Type 0 where
  pub within : gate < length t.content
  pub nothing_pending : IsSettled t

-- Calls led from the one to the other, and wrote from this place on alone: the bytes before it stay, in what a read gives, in what was
-- made sure of and in each file that a crash leaves.
pub record WritesFrom (place : ℕ) (old new : OnDisk) : Type 0 where
  pub inside : place ≤ length new.content
  pub long : place ≤ length new.now.synced
  pub file : KeepsFront place old.content new.content
  pub sure : KeepsFront place old.content new.now.synced
  pub behind : (i : ℕ) → i < place → IsCovered new.now.ranges i → ⊥
  pub each_crash : LeavesOnly old new (KeepsFront place old.content)

-- Only bytes behind this gate were written. So each file that a crash leaves since stands for the same bodies, and what was made sure of
-- stays.
pub record KeepsGate (gate : ℕ) (old new : OnDisk) : Type 0 where
  pub front : AppendsFrom (gate + 1) old new
  pub any_moment : (version : Version) (issuer : List ℕ) (bodies : List (List ℕ)) → IsAt version issuer bodies gate old →
      LeavesOnly old new (IsFile version issuer bodies)
  pub never_loses : (version : Version) (issuer : List ℕ) (bodies : List (List ℕ)) → IsAt version issuer bodies gate old →
      NeverLosesFrames old new

-- the disk still reads as that file, with nothing pending
abbrev pub StaysAt : ℕ → OnDisk → OnDisk → Type 0
StaysAt gate old new = (version : Version) (issuer : List ℕ) (bodies : List (List ℕ)) → IsAt version issuer bodies gate old →
    IsAt version issuer bodies gate new

-- whether both have the same byte at this place
abbrev pub HaveOneByte : List ℕ → List ℕ → ℕ → Bool → Type 0
HaveOneByte first second at true = (byte : ℕ) × (slice_get first at ≡ Some byte) × (slice_get second at ≡ Some byte)
HaveOneByte first second at false = (byte : ℕ) → slice_get first at ≡ Some byte → slice_get second at ≡ Some byte → ⊥

-- so many bytes were written at this place
pub record WritesPiece (at size : ℕ) (old new : OnDisk) : Type 0 where
  pub bytes : List ℕ
  pub count : length bytes ≡ size
  pub writes : new ≡ written at bytes old

-- the same of those that this content has there, where its disk tells it
pub record CopiesPiece (tells : Bool) (content : List ℕ) (at size : ℕ) (old new : OnDisk) : Type 0 where
  pub bytes : List ℕ
  pub count : length bytes ≡ size
  pub writes : new ≡ written at bytes old
  pub copies : IsTrue tells → bytes ≡ take size (drop at content)

-- the disk that is named failed
abbrev pub Blames : {T D M : Type 0} → Disks D → Disks M → Result T TailFault → Type 0
Blames first second (Ok done) = Unit {0}
Blames first second (Err First) = DiskRose first
Blames first second (Err Second) = DiskRose second
Blames first second (Err OtherGate) = Unit {0}

-- the counts of faults never fall, and that of the disk that is named rose
pub record HasTailCause {T D M : Type 0} (first : Disks D) (second : Disks M) (result : Result T TailFault) : Type 0 where
  pub first_later : first.faults first.disk ≤ first.faults first.disk_after
  pub second_later : second.faults second.disk ≤ second.faults second.disk_after
  pub blames : Blames first second result
