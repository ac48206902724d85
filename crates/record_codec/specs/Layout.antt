-- The fields of an entry, each with its bytes: a number, a code, a tax number, a Huella, a text after its length and a line of
-- the agency is one field each.
use Rattle.std.specs.Prelude.{ℕ, ◌≤◌, List, [], ◌∷◌, ◌++◌, length, take, Option, Some, None, ◌≡◌}
use Rattle.std.specs.Int.{w16, w32, w64, to_be_bytes, cast_unsigned}
use Rattle.std.specs.List.{flat_map, concat}
use Rattle.parties.specs.declared.name.Party.{Party}
use Rattle.series.specs.declared.numbers.InvoiceId.{InvoiceId}
use Rattle.stamps.specs.Stamp.{Moment}
use Rattle.tax_lines.specs.declared.lines.TaxLine.{TaxLine}
use Rattle.tax_lines.specs.Classes.{class_code}
use Rattle.tax_lines.specs.Keys.{Key, tax_code}
use Rattle.record_fields.specs.declared.drafts.Draft.{Draft}
use Rattle.record_fields.specs.declared.lines.Line.{Line}
use Rattle.record_fields.specs.declared.records.Alta.{Alta}
use Rattle.record_fields.specs.declared.records.Anulacion.{Anulacion}
use Rattle.record_fields.specs.declared.records.Link.{Link}
use Rattle.record_fields.specs.declared.records.Link.TheVariants.{First, After}
use Rattle.record_fields.specs.declared.records.Record.{Record}
use Rattle.record_fields.specs.declared.records.Record.TheVariants as record_of
use Rattle.record_codec.specs.declared.entry.Entry.{Entry}
use Rattle.record_codec.specs.declared.entry.Entry.TheVariants.{Rec, Notes}
use Rattle.record_fields.specs.declared.versions.Version.{Version}
use Rattle.record_fields.specs.declared.versions.Version.TheVariants.{One, Two}
use Rattle.record_codec.specs.Writing.{text_bytes, line_bytes}
use Rattle.record_codec.specs.Codes.{flag_code, kind_code, rect_code, previo_code}
use Rattle.record_codec.specs.Validity.{AreFields, HasIssuer}

-- a field of one byte
abbrev pub byte_field : ℕ → List ℕ
byte_field b = b ∷ []

abbrev pub id_fields : InvoiceId → List (List ℕ)
id_fields id = text_bytes id.num ∷ to_be_bytes w32 id.day ∷ []

abbrev pub party_fields : Party → List (List ℕ)
party_fields party = party.nif ∷ text_bytes party.name ∷ []

abbrev pub customer_fields : Option Party → List (List ℕ)
customer_fields None = byte_field 0 ∷ []
customer_fields (Some party) = byte_field 1 ∷ party_fields party

abbrev pub refs_fields : List InvoiceId → List (List ℕ)
refs_fields ids = byte_field (length ids) ∷ flat_map id_fields ids

-- a class in version One; a tax, a class and a rate in version Two
abbrev pub key_fields : Version → Key → List (List ℕ)
key_fields One key = byte_field (class_code key.class) ∷ []
key_fields Two key = byte_field (tax_code key.tax) ∷ byte_field (class_code key.class) ∷ to_be_bytes w16 key.rate ∷ []

abbrev pub tax_line_fields : Version → TaxLine → List (List ℕ)
tax_line_fields version line = key_fields version line.key ++ to_be_bytes w64 (cast_unsigned w64 line.base) ∷ []

abbrev pub breakdown_fields : Version → List TaxLine → List (List ℕ)
breakdown_fields version lines = byte_field (length lines) ∷ flat_map (tax_line_fields version) lines

abbrev pub draft_fields : Version → Draft → List (List ℕ)
draft_fields version draft =
    byte_field (kind_code draft.kind) ∷ byte_field (rect_code draft.rect) ∷ customer_fields draft.customer
    ++ refs_fields draft.refs ++ breakdown_fields version draft.lines

abbrev pub link_fields : Link → List (List ℕ)
link_fields First = byte_field 0 ∷ []
link_fields (After id huella) = byte_field 1 ∷ id_fields id ++ huella ∷ []

abbrev pub moment_fields : Moment → List (List ℕ)
moment_fields moment = to_be_bytes w64 moment.seconds ∷ to_be_bytes w16 (cast_unsigned w16 moment.offset_minutes) ∷ []

abbrev pub alta_fields : Version → Alta → List (List ℕ)
alta_fields version alta =
    id_fields alta.id ++ draft_fields version alta.draft
    ++ byte_field (flag_code alta.subsanacion) ∷ byte_field (previo_code alta.rechazo) ∷ [] ++ link_fields alta.link ++
    moment_fields alta.moment

abbrev pub anulacion_fields : Anulacion → List (List ℕ)
anulacion_fields anulacion =
    id_fields anulacion.id ++ byte_field (flag_code anulacion.sin_registro) ∷ byte_field (flag_code anulacion.rechazo) ∷ []
    ++ link_fields anulacion.link ++ moment_fields anulacion.moment

abbrev pub said_fields : Version → Record → List (List ℕ)
said_fields version (record_of.Alta alta) = alta_fields version alta
said_fields version (record_of.Anulacion anulacion) = anulacion_fields anulacion

abbrev pub record_sort : Record → ℕ
record_sort (record_of.Alta alta) = 1
record_sort (record_of.Anulacion anulacion) = 2

abbrev pub entry_fields : Version → Entry → List (List ℕ)
entry_fields version (Rec till serial sealed) =
    byte_field (record_sort sealed.body) ∷ byte_field till ∷ to_be_bytes w32 serial ∷ said_fields version sealed.body
    ++ sealed.huella ∷ []
entry_fields version (Notes first lines) =
    byte_field 3 ∷ to_be_bytes w32 first ∷ to_be_bytes w16 (length lines) ∷ flat_map (λ (line : Line). line_bytes line ∷ []) lines

-- the bytes of its first n fields
abbrev pub front_of : Version → ℕ → Entry → List ℕ
front_of version n entry = concat (take n (entry_fields version entry))

-- this many of the bytes are, whole, the first fields of an entry of this issuer, and the first fields of no such entry are more
pub record IsLongestFront (version : Version) (issuer bytes : List ℕ) (at : ℕ) : Type 0 where
  pub within : at ≤ length bytes
  pub begun : (entry : Entry) × (n : ℕ) ×
      (HasIssuer issuer entry × (AreFields version entry × (front_of version n entry ≡ take at bytes)))
  pub most : (entry : Entry) (n : ℕ) (rest : List ℕ) → HasIssuer issuer entry → AreFields version entry → bytes ≡
      front_of version n entry ++ rest
      → length (front_of version n entry) ≤ at
