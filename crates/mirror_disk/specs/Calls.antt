-- What a call of a mirror does to its halves.
use Rattle.std.specs.Prelude.{◌≡◌, ◌⊎◌, ℕ, IsTrue, List, length, Result, OnErr}
use Rattle.ports.specs.Causes.{Rose}
use Rattle.chain_disk.specs.Disks.{Disks, DiskRose, LeftDisk}
use Rattle.chain_disk.specs.OnDisk.{OnDisk, IsSyncFailed, IsWriteFailed, synced, written}
use Rattle.mirror_disk.specs.Mirror.{Mirrored}
use Rattle.mirror_disk.specs.declared.standing.Standing.{Standing}
use Rattle.mirror_disk.specs.declared.standing.Standing.TheVariants.{Whole, Broken, HalfSynced}

-- these bytes were written at this place
abbrev pub WroteHalf : {D : Type 0} → Disks D → ℕ → List ℕ → Type 0
WroteHalf k at bytes = IsTrue k.tells → k.on_disk k.disk_after ≡ written at bytes (k.on_disk k.disk)

-- the half failed in a write of n bytes at this place
pub record FailedToWrite {D : Type 0} (k : Disks D) (at n : ℕ) : Type 0 where
  pub rose : DiskRose k
  pub failed : IsTrue k.tells → IsWriteFailed at n (k.on_disk k.disk) (k.on_disk k.disk_after)

-- What a write of a whole mirror does to its halves, by how the mirror then stands. The second half is called where the first
-- was written.
abbrev pub WritesBoth : {D M : Type 0} → Disks D → Disks M → ℕ → List ℕ → Standing → Type 0
WritesBoth first second at bytes Whole = WroteHalf first at bytes × WroteHalf second at bytes
WritesBoth first second at bytes Broken = (FailedToWrite first at (length bytes) × LeftDisk second)
    ⊎ (WroteHalf first at bytes × FailedToWrite second at (length bytes))
WritesBoth first second at bytes HalfSynced = ⊥

-- it was synced
abbrev pub SyncedHalf : {D : Type 0} → Disks D → Type 0
SyncedHalf k = IsTrue k.tells → k.on_disk k.disk_after ≡ synced (k.on_disk k.disk)

-- the half failed in a sync
pub record FailedToSync {D : Type 0} (k : Disks D) : Type 0 where
  pub rose : DiskRose k
  pub failed : IsTrue k.tells → IsSyncFailed (k.on_disk k.disk) (k.on_disk k.disk_after)

-- what a sync of a whole mirror does to its halves, in the same way
abbrev pub SyncsBoth : {D M : Type 0} → Disks D → Disks M → Standing → Type 0
SyncsBoth first second Whole = SyncedHalf first × SyncedHalf second
SyncsBoth first second Broken = FailedToSync first × LeftDisk second
SyncsBoth first second HalfSynced = SyncedHalf first × FailedToSync second

-- neither half was called, and it stands as it stood
pub record IsUntouched {D M : Type 0} (old new : Mirrored D M) : Type 0 where
  pub first : new.first ≡ old.first
  pub second : new.second ≡ old.second
  pub standing : new.standing ≡ old.standing

-- The first half was read, and the second wasn't called. A failure is the first half's.
pub record IsReadBy {D M T E : Type 0} (on_disk : D → OnDisk) (faults : D → ℕ) (old new : Mirrored D M) (result : Result T E) :
    Type 0 where
  pub first : on_disk new.first ≡ on_disk old.first
  pub second : new.second ≡ old.second
  pub made : (new.first_made ≡ old.first_made) × (new.second_made ≡ old.second_made)
  pub standing : new.standing ≡ old.standing
  pub rose : OnErr result (Rose (faults old.first) (faults new.first))
