-- Why a migration ends early.
use Rattle.std.specs.Prelude.{◌≡◌, ℕ, List, IsTrue}
use Rattle.chain_disk.specs.Disks.{Disks, DiskRose, LeftDisk, OnlyRead}
use Rattle.chain_disk.specs.OnDisk.{synced}
use Rattle.journal.specs.File.{IsNotBegun}
use Rattle.record_fields.specs.declared.versions.Version.TheVariants.{One, Two}
use Rattle.record_codec.specs.declared.entry.Entry.{Entry}
use Rattle.shop_core.specs.File.Files.{IsDamagedFile, StandsFor}
use Rattle.recovery.specs.Moving.{IsOccupied, MayBeMoved}
use Rattle.recovery.specs.declared.moving.MoveCause.{MoveCause}
use Rattle.recovery.specs.declared.moving.MoveCause.TheVariants.{Damaged, NotOld, Occupied, OldFault, NewFault, NoMemory}

-- a file isn't begun (0), or stands for a history of version Two (2)
pub data IsNotOld (file : List ℕ) : ℕ → Type 0 where
  not_begun : IsNotBegun file → IsNotOld file 0
  newer : (issuer : List ℕ) (entries : List Entry) → StandsFor Two issuer entries file → IsNotOld file 2

-- the old file stands for a history of version One, and the new one is occupied by something else than its migration
pub record IsOccupiedOf (old new : List ℕ) (size : ℕ) : Type 0 where
  pub issuer : List ℕ
  pub entries : List Entry
  pub stands : StandsFor One issuer entries old
  pub occupied : IsOccupied issuer new size

-- what an old file and a new one hold gives this cause
abbrev pub Prevents : List ℕ → List ℕ → MoveCause → Type 0
Prevents old new (Damaged at) = IsDamagedFile old at
Prevents old new (NotOld held) = IsNotOld old held
Prevents old new (Occupied size) = IsOccupiedOf old new size
Prevents old new OldFault = ⊥
Prevents old new NewFault = ⊥
Prevents old new NoMemory = ⊥

-- two files give one such cause at most
abbrev pub OneCause : Type 0
OneCause = (old new : List ℕ) (cause other : MoveCause) → Prevents old new cause → Prevents old new other → cause ≡ other

-- and none where the one may be moved onto the other
abbrev pub NoCause : Type 0
NoCause = (old new : List ℕ) (cause : MoveCause) → Prevents old new cause → MayBeMoved old new → ⊥

-- Why a migration ended early. Where the old file can't be moved or read, no call of the new disk was made; where the new file
-- is occupied, its disk was synced and nothing else.
abbrev pub IsMoveCause : {D M : Type 0} → Disks D → Disks M → MoveCause → Type 0
IsMoveCause old new (Damaged at) = (IsTrue old.tells → IsDamagedFile (old.on_disk old.disk).content at) × LeftDisk new
IsMoveCause old new (NotOld held) = (IsTrue old.tells → IsNotOld (old.on_disk old.disk).content held) × LeftDisk new
IsMoveCause old new (Occupied size) = IsTrue new.tells →
    (IsTrue old.tells → IsOccupiedOf (old.on_disk old.disk).content (new.on_disk new.disk).content size)
    × (new.on_disk new.disk_after ≡ synced (new.on_disk new.disk))
IsMoveCause old new OldFault = DiskRose old × LeftDisk new
IsMoveCause old new NewFault = DiskRose new
IsMoveCause old new NoMemory = Unit {0}

-- the same of the parts of a migration: while the old file is read
abbrev pub IsReadCause : {D : Type 0} → Disks D → MoveCause → Type 0
IsReadCause k (Damaged at) = IsTrue k.tells → IsDamagedFile (k.on_disk k.disk).content at
IsReadCause k (NotOld held) = IsTrue k.tells → IsNotOld (k.on_disk k.disk).content held
IsReadCause k (Occupied size) = ⊥
IsReadCause k OldFault = DiskRose k
IsReadCause k NewFault = ⊥
IsReadCause k NoMemory = Unit {0}

-- while a disk is looked at and its header made sure of, for this issuer
abbrev pub IsPrepareCause : {M : Type 0} → List ℕ → Disks M → MoveCause → Type 0
IsPrepareCause issuer k (Damaged at) = ⊥
IsPrepareCause issuer k (NotOld held) = ⊥
IsPrepareCause issuer k (Occupied size) = (IsTrue k.tells → IsOccupied issuer (k.on_disk k.disk).content size) × OnlyRead k
IsPrepareCause issuer k OldFault = ⊥
IsPrepareCause issuer k NewFault = DiskRose k
IsPrepareCause issuer k NoMemory = ⊥

-- while the history is written after the header
abbrev pub IsWriteCause : {M : Type 0} → Disks M → MoveCause → Type 0
IsWriteCause k (Damaged at) = ⊥
IsWriteCause k (NotOld held) = ⊥
IsWriteCause k (Occupied size) = ⊥
IsWriteCause k OldFault = ⊥
IsWriteCause k NewFault = DiskRose k
IsWriteCause k NoMemory = Unit {0}

-- from the first sync of the new disk on
abbrev pub IsMoveStateCause : {M : Type 0} → List ℕ → Disks M → MoveCause → Type 0
IsMoveStateCause issuer k (Damaged at) = ⊥
IsMoveStateCause issuer k (NotOld held) = ⊥
IsMoveStateCause issuer k (Occupied size) = IsTrue k.tells →
    IsOccupied issuer (k.on_disk k.disk).content size × (k.on_disk k.disk_after ≡ synced (k.on_disk k.disk))
IsMoveStateCause issuer k OldFault = ⊥
IsMoveStateCause issuer k NewFault = DiskRose k
IsMoveStateCause issuer k NoMemory = Unit {0}
