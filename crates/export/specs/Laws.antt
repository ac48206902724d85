-- What holds of all objects.
use Rattle.std.specs.Prelude.{◌≡◌, ℕ, List}
use Rattle.record_fields.specs.declared.versions.Version.{Version}
use Rattle.record_codec.specs.Validity.{AreFields, HasIssuer}
use Rattle.record_codec.specs.declared.entry.Entry.{Entry}
use Rattle.export.specs.Objects.{object_of}

-- two entries of one issuer that have one object are one entry, whatever the versions in which they can be written
abbrev pub ObjectsAreApart : Type 0
ObjectsAreApart =
    (v w : Version) (issuer : List ℕ) (a b : Entry) → AreFields v a → AreFields w b → HasIssuer issuer a → HasIssuer issuer b
    → object_of a ≡ object_of b → a ≡ b
