-- How a standby starts.
use Rattle.std.specs.Prelude.{◌≡◌, ◌≢◌, ℕ, List}
use Rattle.chain_disk.specs.OnDisk.{OnDisk, synced}
use Rattle.record_fields.specs.declared.versions.Version.{Version}
use Rattle.record_codec.specs.declared.entry.Entry.{Entry}
use Rattle.shop_core.specs.File.Files.{IsDamagedFile, StandsFor}
use Rattle.chain_store.specs.Opening.{IsDiskLost, IsOthers}
use Rattle.chain_store.specs.declared.causes.OpenCause.{OpenCause}
use Rattle.chain_store.specs.declared.causes.OpenCause.TheVariants as opening
use Rattle.standby.specs.declared.causes.StandbyCause.{StandbyCause}
use Rattle.standby.specs.declared.causes.StandbyCause.TheVariants.{DiskFault, Damaged, OtherIssuer, OtherVersion, NoMemory}

-- why a file that can't be opened starts no standby
abbrev pub standby_cause : OpenCause → StandbyCause
standby_cause opening.DiskFault = DiskFault
standby_cause (opening.Damaged at) = Damaged at
standby_cause (opening.OtherIssuer held) = OtherIssuer held
standby_cause opening.NoMemory = NoMemory

-- the file stands for a chain of this issuer in another version
pub record IsOtherVersion (version held : Version) (issuer file : List ℕ) : Type 0 where
  pub other : held ≢ version
  pub entries : List Entry
  pub stands : StandsFor held issuer entries file

-- What a start that failed says of the file, and leaves of it: what the sync at the start left, and nothing more, unless the
-- disk failed.
abbrev pub IsLeftUnstarted : Version → List ℕ → StandbyCause → OnDisk → OnDisk → Type 0
IsLeftUnstarted version issuer DiskFault old new = IsDiskLost version issuer old new
IsLeftUnstarted version issuer (Damaged at) old new = IsDamagedFile old.content at × (new ≡ synced old)
IsLeftUnstarted version issuer (OtherIssuer held) old new = IsOthers issuer held old.content × (new ≡ synced old)
IsLeftUnstarted version issuer (OtherVersion held) old new = IsOtherVersion version held issuer old.content × (new ≡ synced old)
IsLeftUnstarted version issuer NoMemory old new = new ≡ synced old
