-- What a file holds that is to be written whole.
use Rattle.std.specs.Prelude.{ℕ, List}
use Rattle.record_fields.specs.declared.versions.Version.{Version}
use Rattle.journal.specs.File.{IsNotBegun}
use Rattle.journal.specs.Whole.{IsOccupied, IsUnfinished}
use Rattle.journal.specs.declared.whole.Held.{Held}
use Rattle.journal.specs.declared.whole.Held.TheVariants.{NotBegun, Unfinished, Other}
use Rattle.journal.specs.declared.whole.ShutFault.{ShutFault}
use Rattle.journal.specs.declared.whole.ShutFault.TheVariants.{DiskFault, Occupied}
use Rattle.chain_disk.specs.Disks.{Disks, DiskRose, OnlyRead}
use Rattle.std.specs.Prelude.{IsTrue}

abbrev pub IsHeldAs : Version → List ℕ → List ℕ → Held → Type 0
IsHeldAs version issuer file NotBegun = IsNotBegun file
IsHeldAs version issuer file Unfinished = IsUnfinished version issuer file
IsHeldAs version issuer file (Other size) = IsOccupied version issuer file size

-- why such a file could not be begun
abbrev pub IsShutCause : {D : Type 0} → Version → List ℕ → Disks D → ShutFault → Type 0
IsShutCause version issuer k DiskFault = DiskRose k
IsShutCause version issuer k (Occupied size) =
    (IsTrue k.tells → IsOccupied version issuer (k.on_disk k.disk).content size) × OnlyRead k
