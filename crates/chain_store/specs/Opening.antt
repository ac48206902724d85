-- What an opening finds, where a file that isn't begun is begun in this version.
use Rattle.std.specs.Prelude.{◌≡◌, ◌≢◌, ◌⊎◌, ℕ, List, []}
use Rattle.chain_disk.specs.OnDisk.{OnDisk, IsSyncFailed, LeavesOnly, synced}
use Rattle.journal.specs.File.{IsNotBegun, IsNotBegunOrEmpty}
use Rattle.journal.specs.Written.{CreationTakes, empty_file}
use Rattle.record_fields.specs.declared.versions.Version.{Version}
use Rattle.record_codec.specs.declared.entry.Entry.{Entry}
use Rattle.shop_core.specs.File.Files.{IsDamagedFile, StandsFor}
use Rattle.chain_store.specs.declared.causes.OpenCause.{OpenCause}
use Rattle.chain_store.specs.declared.causes.OpenCause.TheVariants.{DiskFault, Damaged, OtherIssuer, NoMemory}

-- the file isn't begun, and then the history is empty and of the version in which it is begun; or it stands for this history of
-- this version and issuer
abbrev pub IsFound : Version → Version → List ℕ → List Entry → List ℕ → Type 0
IsFound created version issuer entries file =
    (IsNotBegun file × (entries ≡ []) × (version ≡ created)) ⊎ StandsFor version issuer entries file

-- a file that wasn't begun is still none, or is begun and empty; so is each that a crash since this moment may leave
pub record IsBegunInPart (created : Version) (issuer : List ℕ) (settled new : OnDisk) : Type 0 where
  pub not_begun : IsNotBegun settled.content
  pub reads : IsNotBegunOrEmpty created issuer new.content
  pub any_moment : LeavesOnly settled new (IsNotBegunOrEmpty created issuer)

-- nothing was written of a file that was begun already: what the disk tells is what a sync leaves
abbrev pub IsOnlySynced : OnDisk → OnDisk → Type 0
IsOnlySynced old new = (IsNotBegun old.content → ⊥) → new ≡ synced old

-- or what a sync leaves that failed
abbrev pub IsAtMostSynced : OnDisk → OnDisk → Type 0
IsAtMostSynced old new = (IsNotBegun old.content → ⊥) → (new ≡ synced old) ⊎ IsSyncFailed old new

-- a file that wasn't begun has its twenty bytes, of this version, and was written for that alone
pub record IsCreation (created : Version) (issuer : List ℕ) (settled new : OnDisk) : Type 0 where
  pub content : new.content ≡ empty_file created issuer
  pub takes : CreationTakes settled new

-- the file stands for a chain of another issuer
pub record IsOthers (issuer held file : List ℕ) : Type 0 where
  pub other : held ≢ issuer
  pub version : Version
  pub entries : List Entry
  pub stands : StandsFor version held entries file

-- What is left where the disk failed: by the sync at the start, which then did nothing or left all pending; by a reading,
-- after that sync; or while the file was begun.
pub data IsDiskLost (created : Version) (issuer : List ℕ) (old new : OnDisk) : Type 0 where
  not_synced : IsSyncFailed old new → IsDiskLost created issuer old new
  not_read : new ≡ synced old → IsDiskLost created issuer old new
  in_part : IsBegunInPart created issuer (synced old) new → IsDiskLost created issuer old new

-- What an opening that failed says of the file, and leaves of it: what the sync at the start left, and nothing more, unless
-- the disk failed.
abbrev pub IsLeftUnopened : Version → List ℕ → OpenCause → OnDisk → OnDisk → Type 0
IsLeftUnopened created issuer DiskFault old new = IsDiskLost created issuer old new
IsLeftUnopened created issuer (Damaged at) old new = IsDamagedFile old.content at × (new ≡ synced old)
IsLeftUnopened created issuer (OtherIssuer held) old new = IsOthers issuer held old.content × (new ≡ synced old)
IsLeftUnopened created issuer NoMemory old new = new ≡ synced old
