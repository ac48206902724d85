-- The link of an invoice of a chain.
use Rattle.std.specs.Prelude.{◌≡◌, ◌⊎◌, ℕ, List, Option, Some, None}
use Rattle.record_fields.specs.declared.versions.Version.{Version}
use Rattle.journal.specs.File.{IsNotBegun}
use Rattle.record_codec.specs.declared.entry.Entry.{Entry}
use Rattle.record_fields.specs.declared.records.Record.{Record}
use Rattle.record_fields.specs.declared.records.Record.TheVariants.{Alta, Anulacion}
use Rattle.record_fields.specs.declared.records.Sealed.{Sealed}
use Rattle.shop_core.specs.File.Files.{StandsFor}
use Rattle.shop_core.specs.Standing.{last_alta}
use Rattle.verify_link.specs.Parts.{link_text, parts_of}
use Rattle.verify_link.specs.declared.parts.Host.{Host}

-- the link of an alta
abbrev pub link_of_record : Host → Record → Option (List ℕ)
link_of_record host (Alta alta) = Some (link_text (parts_of alta host))
link_of_record host (Anulacion anulacion) = None

-- of the record that was found
abbrev pub link_of_found : Host → Option (ℕ × Sealed) → Option (List ℕ)
link_of_found host None = None
link_of_found host (Some p) = link_of_record host p.1.body

-- the link of the last alta of that number among these entries
abbrev pub link_in : List Entry → List ℕ → Host → Option (List ℕ)
link_in entries num host = link_of_found host (last_alta entries num)

-- the same in the history that a file stands for; a file that isn't begun has none
abbrev pub IsLinkIn : List ℕ → List ℕ → Host → Option (List ℕ) → Type 0
IsLinkIn file num host found = (IsNotBegun file × (found ≡ None)) ⊎
    ((version : Version) × (issuer : List ℕ) × (entries : List Entry) × StandsFor version issuer entries file ×
    (found ≡ link_in entries num host))
