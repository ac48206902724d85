-- What an opening finds, where a file that isn't begun is begun in version Two.
use Rattle.std.specs.Prelude.{ℕ, List}
use Rattle.chain_disk.specs.OnDisk.{OnDisk}
use Rattle.record_fields.specs.declared.versions.Version.{Version}
use Rattle.record_fields.specs.declared.versions.Version.TheVariants.{Two}
use Rattle.record_codec.specs.declared.entry.Entry.{Entry}
use Rattle.chain_store.specs.Opening as opening
use Rattle.chain_store.specs.declared.causes.OpenCause.{OpenCause}

abbrev pub IsFound : Version → List ℕ → List Entry → List ℕ → Type 0
IsFound version issuer entries file = opening.IsFound Two version issuer entries file

abbrev pub IsBegunInPart : List ℕ → OnDisk → OnDisk → Type 0
IsBegunInPart issuer settled new = opening.IsBegunInPart Two issuer settled new

abbrev pub IsDiskLost : List ℕ → OnDisk → OnDisk → Type 0
IsDiskLost issuer old new = opening.IsDiskLost Two issuer old new

abbrev pub IsLeftUnopened : List ℕ → OpenCause → OnDisk → OnDisk → Type 0
IsLeftUnopened issuer cause old new = opening.IsLeftUnopened Two issuer cause old new
