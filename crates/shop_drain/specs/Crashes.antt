-- What a crash leaves of a file, said since it was opened.
use Rattle.std.specs.Prelude.{◌≡◌, ◌⊎◌, ℕ, List, []}
use Rattle.chain_disk.specs.OnDisk.{OnDisk, IsSyncFailed, LeavesOnly, synced}
use Rattle.chain_store.specs.Crashes.{StandsUpTo}
use Rattle.journal.specs.File.{IsNotBegun, IsNotBegunOrEmpty}
use Rattle.record_codec.specs.declared.entry.Entry.{Entry}
use Rattle.record_fields.specs.declared.versions.Version.{Version}
use Rattle.record_fields.specs.declared.versions.Version.TheVariants.{Two}
use Rattle.shop_core.specs.File.Files.{StandsFor}

-- What was found of a file that held these bytes at the start, and is left since: it stands for this history; or it isn't begun, as
-- it wasn't then, and the history is empty and of version Two.
abbrev pub IsFoundSince : List ℕ → Version → List ℕ → List Entry → List ℕ → Type 0
IsFoundSince held version issuer entries file =
    (IsNotBegun held × IsNotBegun file × (entries ≡ []) × (version ≡ Two)) ⊎ StandsFor version issuer entries file

-- The file stands for a legal history that begins with the one at the start, and is a front of the one at the end, or of
-- that with the torn entry. Where it wasn't begun at the start, one that isn't begun stands for the empty history, in version Two.
abbrev pub StandsSince : List ℕ → Version → List ℕ → List Entry → List Entry → List Entry → List ℕ → Type 0
StandsSince held version issuer start end torn file =
    (IsNotBegun held × IsNotBegun file × (start ≡ []) × (version ≡ Two)) ⊎ StandsUpTo version issuer start end torn file

-- What an opening that failed keeps of the file. The sync at the start failed; or since it each crash leaves the bytes that
-- stood there, or, where they were no begun file, one that isn't begun or is begun and empty.
abbrev pub KeepsFile : List ℕ → OnDisk → OnDisk → Type 0
KeepsFile issuer old new =
    IsSyncFailed old new
    ⊎ LeavesOnly (synced old) new (λ c. (c ≡ old.content) ⊎ (IsNotBegun old.content × IsNotBegunOrEmpty Two issuer c))
