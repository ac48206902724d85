-- A fault's count.
use Rattle.std.proofs.Common.{◌≡◌, ◌≤◌, ℕ, refl, arith}
use Rattle.chain_disk.specs.Disks.{Disks, DiskRose}
use Rattle.ports.specs.Causes.{Rose}
use Rattle.chain_store.specs.declared.causes.OpenCause.{OpenCause}
use Rattle.chain_store.specs.declared.causes.OpenCause.TheVariants as opening
use Rattle.standby.specs.declared.causes.StandbyCause.{StandbyCause}
use Rattle.standby.specs.declared.causes.StandbyCause.TheVariants as starting
use Rattle.second_disk.specs.Causes.{opened_cause, started_cause}
use Rattle.second_disk.specs.Level.{BlamesHalf}
use Rattle.second_disk.specs.declared.causes.Half.TheVariants.{First, Second}

-- a rise stays one from an earlier count on
pub rose_since : (before then now : ℕ) → before ≤ then → Rose then now → Rose before now
rose_since before then now later rose few = omega (arith, later, rose few)

module _ {D M : Type 0} (first : Disks D) (second : Disks M) where
  pub opened_first : (cause : OpenCause) → (cause ≡ opening.DiskFault → DiskRose first) →
      BlamesHalf first second (opened_cause First cause)
  opened_first opening.DiskFault rose = rose refl
  opened_first (opening.Damaged at) rose = tt
  opened_first (opening.OtherIssuer held) rose = tt
  opened_first opening.NoMemory rose = tt

  pub opened_second : (cause : OpenCause) → (cause ≡ opening.DiskFault → DiskRose second) →
      BlamesHalf first second (opened_cause Second cause)
  opened_second opening.DiskFault rose = rose refl
  opened_second (opening.Damaged at) rose = tt
  opened_second (opening.OtherIssuer held) rose = tt
  opened_second opening.NoMemory rose = tt

  pub started_first : (cause : StandbyCause) → (cause ≡ starting.DiskFault → DiskRose first) →
      BlamesHalf first second (started_cause First cause)
  started_first starting.DiskFault rose = rose refl
  started_first (starting.Damaged at) rose = tt
  started_first (starting.OtherIssuer held) rose = tt
  started_first (starting.OtherVersion held) rose = tt
  started_first starting.NoMemory rose = tt

  pub started_second : (cause : StandbyCause) → (cause ≡ starting.DiskFault → DiskRose second) →
      BlamesHalf first second (started_cause Second cause)
  started_second starting.DiskFault rose = rose refl
  started_second (starting.Damaged at) rose = tt
  started_second (starting.OtherIssuer held) rose = tt
  started_second (starting.OtherVersion held) rose = tt
  started_second starting.NoMemory rose = tt
