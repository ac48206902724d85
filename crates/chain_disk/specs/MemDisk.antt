-- What contracts see of a disk in memory.
use Rattle.std.specs.Prelude.{◌≡◌, ◌⊎◌, ◌<◌, ◌≤◌, ◌-◌, ℕ, List, [], take, vec_capacity, vec_len, Contains, Result, MatchResult}
use Rattle.ports.specs.Memory.{counted_up}
use Rattle.ports.specs.Reasons.{count_of}
use Rattle.chain_disk.specs.OnDisk.{OnDisk, IsLeft, moment, ranged}
use Rattle.chain_disk.specs.Memory.{on_disk_by, fresh}
use Rattle.chain_disk.specs.Fill.{IsFilled}
use Rattle.chain_disk.specs.declared.image.Fill.{Fill}
use Rattle.chain_disk.specs.declared.memory.MemDisk.{MemDisk}

-- what it tells
abbrev pub on_disk_of : MemDisk → OnDisk
on_disk_of disk = on_disk_by disk.first.items disk.events.items

-- what it told at this moment
abbrev pub told_at : MemDisk → ℕ → OnDisk
told_at disk m = on_disk_by disk.first.items (take m disk.events.items)

-- the numbers of the calls that fail
abbrev pub failing_of : MemDisk → List ℕ
failing_of disk = disk.failing.items

-- how many calls were made
abbrev pub calls_of : MemDisk → ℕ
calls_of disk = disk.calls

-- the coming call is one of those that fail
abbrev pub FailsNext : MemDisk → Type 0
FailsNext disk = Contains (failing_of disk) (counted_up (calls_of disk))

-- for how many records there is room without growth
abbrev pub room_of : MemDisk → ℕ
room_of disk = vec_capacity disk.events - vec_len disk.events

-- a write that failed, as it is recorded: this range may hold any bytes after a crash, and a read gives what it gave
abbrev pub torn : ℕ → ℕ → OnDisk → OnDisk
torn at n t = ranged at n t.content t

-- a failure that is listed is recorded so where there is room, and else is so or not at all
pub record IsRecorded (old new : MemDisk) (recorded : OnDisk) : Type 0 where
  pub with_room : 0 < room_of old → on_disk_of new ≡ recorded
  pub or_not : (on_disk_of new ≡ on_disk_of old) ⊎ (on_disk_of new ≡ recorded)

-- how often it has failed
abbrev pub faults_of : MemDisk → ℕ
faults_of disk = count_of disk.faults

-- one call was made, which is a fault exactly where it failed
pub record IsOneCall {T E : Type 0} (old new : MemDisk) (result : Result T E) : Type 0 where
  pub failing : failing_of new ≡ failing_of old
  pub calls : calls_of new ≡ counted_up (calls_of old)
  pub faults : MatchResult result (λ _. faults_of new ≡ faults_of old) (λ _. faults_of new ≡ counted_up (faults_of old))

-- the moment of now
abbrev pub latest : MemDisk → ℕ
latest disk = moment (on_disk_of disk)

-- A disk that holds the image of a moment, so filled, with nothing pending. It is one that a crash then may leave.
pub record IsImageAt (disk : MemDisk) (m : ℕ) (fill : Fill) (image : MemDisk) : Type 0 where
  pub already : m ≤ latest disk
  pub told : on_disk_of image ≡ fresh (on_disk_of image).content
  pub filled : IsFilled fill (told_at disk m).content (told_at disk m).now (on_disk_of image).content
  pub left : IsLeft (on_disk_of disk) m (on_disk_of image).content
  pub failing : failing_of image ≡ []
  pub calls : calls_of image ≡ 0
  pub faults : faults_of image ≡ 0
