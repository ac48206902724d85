-- The bytes of an entry are those of its fields.
use Rattle.std.proofs.Common.{◌≡◌, ℕ, List, [], ◌∷◌, ◌++◌, length, Option, Some, None, refl, sym, ap, ◌∙◌, append_assoc}
use Rattle.std.specs.Int.{w32, w64, to_be_bytes, cast_unsigned}
use Rattle.std.specs.List.{flat_map, concat}
use Rattle.std.proofs.lemmas.List.{append-nil}
use Rattle.std.proofs.lemmas.List.Folds.{concat-append}
use Rattle.parties.specs.declared.name.Party.{Party}
use Rattle.series.specs.declared.numbers.InvoiceId.{InvoiceId}
use Rattle.stamps.specs.Stamp.{Moment}
use Rattle.tax_lines.specs.declared.lines.TaxLine.{TaxLine}
use Rattle.record_fields.specs.declared.drafts.Draft.{Draft}
use Rattle.record_fields.specs.declared.lines.Line.{Line}
use Rattle.record_fields.specs.declared.records.Alta.{Alta}
use Rattle.record_fields.specs.declared.records.Anulacion.{Anulacion}
use Rattle.record_fields.specs.declared.records.Link.{Link}
use Rattle.record_fields.specs.declared.records.Link.TheVariants.{First, After}
use Rattle.record_fields.specs.declared.records.Record.{Record}
use Rattle.record_fields.specs.declared.records.Record.TheVariants as record_of
use Rattle.record_codec.specs.declared.entry.Entry.TheVariants.{Rec, Notes}
use Rattle.record_fields.specs.declared.versions.Version.{Version}
use Rattle.record_codec.specs.Writing.{text_bytes, id_bytes, party_bytes, customer_bytes, refs_bytes, tax_line_bytes}
use Rattle.record_codec.specs.Writing.{breakdown_bytes, draft_bytes, link_bytes, moment_bytes, alta_bytes, anulacion_bytes}
use Rattle.record_codec.specs.Writing.{line_bytes, record_bytes, entry_bytes}
use Rattle.record_codec.specs.Codes.{kind_code, rect_code}
use Rattle.record_codec.specs.Laws.{AnEncodingIsItsFields}
use Rattle.record_codec.proofs.KeyReaders.{key_whole}
use Rattle.record_codec.proofs.RecordReaders.{said_bytes}
use Rattle.record_codec.specs.Layout.{byte_field, id_fields, party_fields, customer_fields, refs_fields, key_fields}
use Rattle.record_codec.specs.Layout.{tax_line_fields}
use Rattle.record_codec.specs.Layout.{breakdown_fields, draft_fields, link_fields, moment_fields, alta_fields, anulacion_fields}
use Rattle.record_codec.specs.Layout.{said_fields, entry_fields}

-- two fields
two : (x y : List ℕ) → x ++ y ≡ concat (x ∷ y ∷ [])
two x y = ap (λ (ys : List ℕ). x ++ ys) (sym (append-nil y))

-- those of each, one after the other
all : {A : Type 0} (spell : A → List ℕ) (parts : A → List (List ℕ)) → ((a : A) → spell a ≡ concat (parts a)) → (xs : List A)
    → flat_map spell xs ≡ concat (flat_map parts xs)
all spell parts each [] = refl
all spell parts each (x ∷ xs) =
    ap (λ (ys : List ℕ). ys ++ flat_map spell xs) (each x) ∙ ap (λ (ys : List ℕ). concat (parts x) ++ ys)
    (all spell parts each xs)
    ∙ sym (concat-append (parts x) (flat_map parts xs))

joined : {x y : List ℕ} (xs ys : List (List ℕ)) → x ≡ concat xs → y ≡ concat ys → x ++ y ≡ concat (xs ++ ys)
joined {x} {y} xs ys e f = rw (e, f) (sym (concat-append xs ys))

pub id_whole : (id : InvoiceId) → id_bytes id ≡ concat (id_fields id)
unfolding id_bytes
id_whole id = two (text_bytes id.num) (to_be_bytes w32 id.day)

pub party_whole : (party : Party) → party_bytes party ≡ concat (party_fields party)
unfolding party_bytes
party_whole party = two party.nif (text_bytes party.name)

pub customer_whole : (customer : Option Party) → customer_bytes customer ≡ concat (customer_fields customer)
unfolding customer_bytes
customer_whole None = refl
customer_whole (Some party) = ap (λ (x : List ℕ). 1 ∷ x) (party_whole party)

pub refs_whole : (ids : List InvoiceId) → refs_bytes ids ≡ concat (refs_fields ids)
unfolding refs_bytes
refs_whole ids = ap (λ (x : List ℕ). length ids ∷ x) (all id_bytes id_fields id_whole ids)

pub tax_line_whole : (version : Version) (line : TaxLine) → tax_line_bytes version line ≡ concat (tax_line_fields version line)
unfolding tax_line_bytes
tax_line_whole version line =
    joined (key_fields version line.key) (to_be_bytes w64 (cast_unsigned w64 line.base) ∷ []) (key_whole version line.key)
    (sym (append-nil (to_be_bytes w64 (cast_unsigned w64 line.base))))

pub breakdown_whole : (version : Version) (lines : List TaxLine) → breakdown_bytes version lines ≡
    concat (breakdown_fields version lines)
unfolding breakdown_bytes
breakdown_whole version lines =
    ap (λ (x : List ℕ). length lines ∷ x) (all (tax_line_bytes version) (tax_line_fields version) (tax_line_whole version) lines)

pub draft_whole : (version : Version) (draft : Draft) → draft_bytes version draft ≡ concat (draft_fields version draft)
unfolding draft_bytes
draft_whole version draft =
    ap (λ (x : List ℕ). kind_code draft.kind ∷ rect_code draft.rect ∷ x)
    (joined (customer_fields draft.customer ++ refs_fields draft.refs) (breakdown_fields version draft.lines)
    (joined (customer_fields draft.customer) (refs_fields draft.refs) (customer_whole draft.customer) (refs_whole draft.refs))
    (breakdown_whole version draft.lines))

pub link_whole : (link : Link) → link_bytes link ≡ concat (link_fields link)
unfolding link_bytes
link_whole First = refl
link_whole (After id huella) = rw (id_whole id) (simp (append_assoc, append-nil))

pub moment_whole : (moment : Moment) → moment_bytes moment ≡ concat (moment_fields moment)
unfolding moment_bytes
moment_whole moment = simp append-nil

pub alta_whole : (version : Version) (alta : Alta) → alta_bytes version alta ≡ concat (alta_fields version alta)
unfolding alta_bytes
alta_whole version alta =
    rw (id_whole alta.id, draft_whole version alta.draft, link_whole alta.link, moment_whole alta.moment)
    (simp (concat-append, append_assoc, append-nil))

pub anulacion_whole : (anulacion : Anulacion) → anulacion_bytes anulacion ≡ concat (anulacion_fields anulacion)
unfolding anulacion_bytes
anulacion_whole anulacion =
    rw (id_whole anulacion.id, link_whole anulacion.link, moment_whole anulacion.moment)
    (simp (concat-append, append_assoc, append-nil))

line_whole : (line : Line) → line_bytes line ≡ concat (line_bytes line ∷ [])
line_whole line = sym (append-nil (line_bytes line))

pub said_whole : (version : Version) (body : Record) → said_bytes version body ≡ concat (said_fields version body)
said_whole version (record_of.Alta alta) = alta_whole version alta
said_whole version (record_of.Anulacion anulacion) = anulacion_whole anulacion

record_whole : (version : Version) (till serial : ℕ) (body : Record) (huella : List ℕ)
    → record_bytes version till serial body huella ≡
    concat (entry_fields version (Rec till serial (record { body = body; huella = huella })))
record_whole version till serial (record_of.Alta alta) huella =
    joined (byte_field 1 ∷ byte_field till ∷ to_be_bytes w32 serial ∷ alta_fields version alta) (huella ∷ [])
    (ap (λ (x : List ℕ). (1 ∷ till ∷ to_be_bytes w32 serial) ++ x) (alta_whole version alta)) (sym (append-nil huella))
record_whole version till serial (record_of.Anulacion anulacion) huella =
    joined (byte_field 2 ∷ byte_field till ∷ to_be_bytes w32 serial ∷ anulacion_fields anulacion) (huella ∷ [])
    (ap (λ (x : List ℕ). (2 ∷ till ∷ to_be_bytes w32 serial) ++ x) (anulacion_whole anulacion)) (sym (append-nil huella))

pub whole : AnEncodingIsItsFields
unfolding entry_bytes
whole version (Rec till serial sealed) = record_whole version till serial sealed.body sealed.huella
whole version (Notes first lines) = rw (all line_bytes (λ (line : Line). line_bytes line ∷ []) line_whole lines) refl
