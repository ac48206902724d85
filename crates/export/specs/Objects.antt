-- A history as JSON: an object for the file's issuer and version, and one for each entry. The keys are in the order of their bytes.
-- The objects are this project's own.
use Rattle.std.specs.Prelude.{ℕ, List, [], ◌∷◌, ◌&&◌, Bool, bytes_eq, filter, map, not, codes, Option, None, Some}
use Rattle.serde_json.specs.Data.{Data, null, boolean, number, string, array, object, unsigned, no_items, item, Members, no_members, member}
use Rattle.serde_json.specs.Find.{of_integer}
use Rattle.serde_json.specs.View.{items_of}
use Rattle.parties.specs.declared.name.Party.{Party}
use Rattle.invoice_kinds.specs.Kinds.{kind_text}
use Rattle.invoice_kinds.specs.declared.kind.RectKind.{RectKind}
use Rattle.invoice_kinds.specs.declared.kind.RectKind.TheVariants as rect
use Rattle.series.specs.declared.numbers.InvoiceId.{InvoiceId}
use Rattle.stamps.specs.Text.{date_text_of}
use Rattle.tax_lines.specs.Keys.{key_text}
use Rattle.tax_lines.specs.declared.lines.TaxLine.{TaxLine}
use Rattle.huella.specs.Texts.{huella_text}
use Rattle.record_fields.specs.declared.lines.Cause.{Cause}
use Rattle.record_fields.specs.declared.lines.Cause.TheVariants.{Vet, Held, NotHeld, Gone}
use Rattle.record_fields.specs.declared.lines.Line.{Line}
use Rattle.record_fields.specs.declared.lines.Line.TheVariants.{Correcto, ConErrores, Incorrecto}
use Rattle.record_fields.specs.declared.records.Alta.{Alta}
use Rattle.record_fields.specs.declared.records.Anulacion.{Anulacion}
use Rattle.record_fields.specs.declared.records.Link.{Link}
use Rattle.record_fields.specs.declared.records.Link.TheVariants.{First, After}
use Rattle.record_fields.specs.declared.records.Previo.{Previo}
use Rattle.record_fields.specs.declared.records.Previo.TheVariants as previo
use Rattle.record_fields.specs.declared.records.Record.{Record}
use Rattle.record_fields.specs.declared.records.Record.TheVariants as record_of
use Rattle.record_codec.specs.declared.entry.Entry.{Entry}
use Rattle.record_codec.specs.declared.entry.Entry.TheVariants.{Rec, Notes}
use Rattle.record_fields.specs.Versions as versions
use Rattle.record_fields.specs.declared.versions.Version.{Version}

-- ---- JSON values

abbrev pub members_from : List (List ℕ × Data) → Members
members_from [] = no_members
members_from (field ∷ fields) = member field.0 field.1 (members_from fields)

-- the object of these keys and values
abbrev pub object_from : List (List ℕ × Data) → Data
object_from fields = object (members_from fields)

abbrev pub array_from : {A : Type 0} → (A → Data) → List A → Data
array_from f xs = array (items_of (map f xs))

abbrev pub pair_of : Data → Data → Data
pair_of first second = array (item first (item second no_items))

abbrev pub number_of : ℕ → Data
number_of n = number (unsigned n)

abbrev pub word : List ℕ → Data
word t = string t

-- ---- the values of fields

-- `DD-MM-YYYY`
abbrev pub day_value : ℕ → Data
day_value day = word (date_text_of day)

-- 64 capital hexadecimal digits, as the agency's hash specification has them
abbrev pub huella_value : List ℕ → Data
huella_value huella = word (huella_text huella)

abbrev pub customer_value : Option Party → Data
customer_value None = null
customer_value (Some party) = object_from ((codes "name", word party.name) ∷ (codes "nif", word party.nif) ∷ [])

-- what an invoice refers to: a number and a day
abbrev pub id_value : InvoiceId → Data
id_value id = pair_of (word id.num) (day_value id.day)

-- a line: the word of its tax, class and rate, as a script has it, and its base in cents
abbrev pub tax_line_value : TaxLine → Data
tax_line_value line = pair_of (word (key_text line.key)) (number (of_integer line.base))

abbrev pub rect_value : Option RectKind → Data
rect_value None = null
rect_value (Some rect.S) = word (codes "S")
rect_value (Some rect.I) = word (codes "I")

abbrev pub previo_value : Previo → Data
previo_value previo.N = word (codes "N")
previo_value previo.S = word (codes "S")
previo_value previo.X = word (codes "X")

-- the record before: its invoice and its Huella
abbrev pub link_value : Link → Data
link_value First = null
link_value (After id huella) =
    object_from (
    (codes "day", day_value id.day) ∷ (codes "huella", huella_value huella) ∷ (codes "num", word id.num) ∷ []
    )

abbrev pub cause_word : Cause → List ℕ
cause_word (Vet code) = codes "vet"
cause_word Held = codes "held"
cause_word NotHeld = codes "not-held"
cause_word Gone = codes "gone"

abbrev pub cause_code : Cause → ℕ
cause_code (Vet code) = code
cause_code Held = 0
cause_code NotHeld = 0
cause_code Gone = 0

-- the word of the agency's line, as the listing has it
abbrev pub line_word : Line → List ℕ
line_word Correcto = codes "correcto"
line_word (ConErrores code) = codes "con-errores"
line_word (Incorrecto cause) = cause_word cause

-- its code, 0 where it has none
abbrev pub line_code : Line → ℕ
line_code Correcto = 0
line_code (ConErrores code) = code
line_code (Incorrecto cause) = cause_code cause

abbrev pub line_value : Line → Data
line_value line = pair_of (word (line_word line)) (number_of (line_code line))

-- ---- the objects

-- the first line of a file
abbrev pub head_object : List ℕ → Version → Data
head_object issuer version =
    object_from (
    (codes "issuer", word issuer) ∷ (codes "t", word (codes "chain")) ∷ (codes "version", number_of (versions.number_of version)) ∷ []
    )

-- the keys of an alta with their values; seconds from 1970 on in UTC, the offset in minutes
abbrev pub alta_fields : ℕ → ℕ → Alta → List ℕ → List (List ℕ × Data)
alta_fields till serial alta huella =
    (codes "customer", customer_value alta.draft.customer)
    ∷ (codes "day", day_value alta.id.day)
    ∷ (codes "fix", boolean alta.subsanacion)
    ∷ (codes "huella", huella_value huella)
    ∷ (codes "kind", word (kind_text alta.draft.kind))
    ∷ (codes "lines", array_from tax_line_value alta.draft.lines)
    ∷ (codes "link", link_value alta.link)
    ∷ (codes "num", word alta.id.num)
    ∷ (codes "offset", number (of_integer alta.moment.offset_minutes))
    ∷ (codes "rechazo", previo_value alta.rechazo)
    ∷ (codes "rect", rect_value alta.draft.rect)
    ∷ (codes "refs", array_from id_value alta.draft.refs)
    ∷ (codes "seconds", number_of alta.moment.seconds)
    ∷ (codes "serial", number_of serial)
    ∷ (codes "t", word (codes "alta"))
    ∷ (codes "till", number_of till)
    ∷ []

abbrev pub anulacion_fields : ℕ → ℕ → Anulacion → List ℕ → List (List ℕ × Data)
anulacion_fields till serial anulacion huella =
    (codes "day", day_value anulacion.id.day)
    ∷ (codes "huella", huella_value huella)
    ∷ (codes "link", link_value anulacion.link)
    ∷ (codes "num", word anulacion.id.num)
    ∷ (codes "offset", number (of_integer anulacion.moment.offset_minutes))
    ∷ (codes "rechazo", boolean anulacion.rechazo)
    ∷ (codes "seconds", number_of anulacion.moment.seconds)
    ∷ (codes "serial", number_of serial)
    ∷ (codes "sin_registro", boolean anulacion.sin_registro)
    ∷ (codes "t", word (codes "anulacion"))
    ∷ (codes "till", number_of till)
    ∷ []

abbrev pub body_object : ℕ → ℕ → Record → List ℕ → Data
body_object till serial (record_of.Alta alta) huella = object_from (alta_fields till serial alta huella)
body_object till serial (record_of.Anulacion anulacion) huella = object_from (anulacion_fields till serial anulacion huella)

-- the key of neither a till nor a serial
abbrev pub is_of_record : List ℕ × Data → Bool
is_of_record field = not (bytes_eq field.0 (codes "serial")) && not (bytes_eq field.0 (codes "till"))

-- what a record's object has, its till and serial aside
abbrev pub record_fields_of : Record → List ℕ → List (List ℕ × Data)
record_fields_of (record_of.Alta alta) huella = filter is_of_record (alta_fields 0 0 alta huella)
record_fields_of (record_of.Anulacion anulacion) huella = filter is_of_record (anulacion_fields 0 0 anulacion huella)

-- how many lines were noted before, and the lines
abbrev pub notes_fields : ℕ → List Line → List (List ℕ × Data)
notes_fields first lines =
    (codes "first", number_of first) ∷ (codes "lines", array_from line_value lines) ∷ (codes "t", word (codes "notes")) ∷ []

abbrev pub notes_object : ℕ → List Line → Data
notes_object first lines = object_from (notes_fields first lines)

-- the object of an entry; a record's issuer isn't in it
unfoldable pub object_of : Entry → Data
object_of (Rec till serial sealed) = body_object till serial sealed.body sealed.huella
object_of (Notes first lines) = notes_object first lines
