-- A history in a newer version.
use Rattle.std.specs.Prelude.{ℕ, List}
use Rattle.record_fields.specs.declared.versions.Version.TheVariants.{One, Two}
use Rattle.record_codec.specs.declared.entry.Entry.{Entry}
use Rattle.shop_core.specs.File.Files.{AreEncoded}
use Rattle.shop_core.specs.Legal.{Legal}

-- what is legal in version One is legal in version Two, where less is refused
abbrev pub LegalInTwo : Type 0
LegalInTwo = (issuer : List ℕ) (entries : List Entry) → Legal One issuer entries → Legal Two issuer entries

-- entries that a file of version One holds can be written into one of version Two, each within the ranges of its bytes there
abbrev pub EncodedInTwo : Type 0
EncodedInTwo = (issuer : List ℕ) (entries : List Entry) → AreEncoded One issuer entries → AreEncoded Two issuer entries
