-- Where a file is damaged.
use Rattle.std.specs.Prelude.{◌⊎◌, ℕ, List, Option, Some, None}
use Rattle.record_fields.specs.declared.versions.Version.{Version}
use Rattle.journal.specs.File.{IsNotBegun}
use Rattle.record_codec.specs.declared.entry.Entry.{Entry}
use Rattle.shop_core.specs.File.Files.{IsDamagedFile, StandsFor}

-- at this byte; or nowhere, and then it isn't begun or stands for a chain
abbrev pub IsDamage : List ℕ → Option ℕ → Type 0
IsDamage file (Some at) = IsDamagedFile file at
IsDamage file None = IsNotBegun file ⊎
    ((version : Version) × (issuer : List ℕ) × (entries : List Entry) × StandsFor version issuer entries file)
