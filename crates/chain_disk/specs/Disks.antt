-- What a call leaves of a disk.
use Rattle.std.specs.Prelude.{◌≡◌, ℕ, Bool}
use Rattle.ports.specs.Causes.{Rose}
use Rattle.chain_disk.specs.OnDisk.{OnDisk}

-- a disk and what its kind tells of it, before the call and after it
pub record Disks (D : Type 0) : Type 0 where
  pub tells : Bool
  pub on_disk : D → OnDisk
  pub faults : D → ℕ
  pub disk : D
  pub disk_after : D

-- this disk in this call: of its kind, before and after
abbrev pub this_disk : {D : Type 0} → Bool → (D → OnDisk) → (D → ℕ) → D → D → Disks D
this_disk tells on_disk faults old new = record { tells = tells; on_disk = on_disk; faults = faults; disk = old; disk_after = new }

-- no call of the disk was made
abbrev pub LeftDisk : {D : Type 0} → Disks D → Type 0
LeftDisk k = k.disk_after ≡ k.disk

-- the disk failed in the call
abbrev pub DiskRose : {D : Type 0} → Disks D → Type 0
DiskRose k = Rose (k.faults k.disk) (k.faults k.disk_after)

-- it was read and not written
abbrev pub OnlyRead : {D : Type 0} → Disks D → Type 0
OnlyRead k = k.on_disk k.disk_after ≡ k.on_disk k.disk
