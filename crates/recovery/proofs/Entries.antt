-- The entries of a history of version One, in version Two.
use Rattle.std.proofs.Common.{◌≡◌, ◌+◌, ℕ, zero, suc, List, [], ◌∷◌, ◌++◌, take, refl, ◌∙◌, ap, Some}
use Rattle.std.proofs.Common.{arith, slice_get}
use Rattle.journal.specs.File.{AreBodies}
use Rattle.record_fields.specs.declared.records.Record.{Record}
use Rattle.record_fields.specs.declared.records.Record.TheVariants as record_of
use Rattle.record_fields.specs.declared.versions.Version.{Version}
use Rattle.record_fields.specs.declared.versions.Version.TheVariants.{One, Two}
use Rattle.record_codec.specs.Laws.{AnEncodingIsABody}
use Rattle.record_codec.specs.Writing.{entry_bytes}
use Rattle.record_codec.specs.Validity.{AreFields, BodyFits, EntryFits, InRanges, IsBody}
use Rattle.record_codec.specs.declared.entry.Entry.{Entry}
use Rattle.record_codec.specs.declared.entry.Entry.TheVariants.{Rec, Notes}
use Rattle.shop_core.specs.File.Files.{AreEncoded, bodies_of}
use Rattle.shop_core.specs.Legal.{Legal}
use Rattle.shop_core.specs.Ranges.{FitsItsBytes}

pub next_bodies : (es : List Entry) (i : ℕ) (e : Entry) → slice_get es i ≡ Some e →
    bodies_of Two (take (i + 1) es) ≡ bodies_of Two (take i es) ++ entry_bytes Two e ∷ []
next_bodies [] i e is = absurd (cc is)
next_bodies (x ∷ es) zero e is =
    let same : x ≡ e = cc is in
    ap (λ (y : Entry). entry_bytes Two y ∷ []) same
next_bodies (x ∷ es) (suc i) e is =
    let step : suc i + 1 ≡ suc (i + 1) = omega arith in
    ap (λ (n : ℕ). bodies_of Two (take n (x ∷ es))) step ∙
    ap (λ (l : List (List ℕ)). entry_bytes Two x ∷ l) (next_bodies es i e is)

found_between : (es : List Entry) (i : ℕ) (e : Entry) → slice_get es i ≡ Some e →
    (before : List Entry) × (after : List Entry) × (es ≡ before ++ e ∷ after)
found_between [] i e is = absurd (cc is)
found_between (x ∷ es) zero e is =
    let same : x ≡ e = cc is in
    ([], es, ap (λ (y : Entry). y ∷ es) same)
found_between (x ∷ es) (suc i) e is =
    let more = found_between es i e is in
    (x ∷ more.0, more.1, ap (λ (l : List Entry). x ∷ l) more.2)

-- an entry of a legal history is in its ranges
pub found_fits : (version : Version) (issuer : List ℕ) (es : List Entry) (i : ℕ) (e : Entry) → FitsItsBytes →
    Legal version issuer es → slice_get es i ≡ Some e → InRanges e
found_fits version issuer es i e fits legal is =
    let parts = found_between es i e is in
    let all = fits version issuer parts.0 e (legal parts.0 parts.1 e parts.2) in
    all.0

-- version Two writes each entry
body_fits : (body : Record) → BodyFits Two body
body_fits (record_of.Alta alta) = tt
body_fits (record_of.Anulacion anulacion) = tt

pub fits_in_two : (e : Entry) → EntryFits Two e
fits_in_two (Rec till serial sealed) = body_fits sealed.body
fits_in_two (Notes first lines) = tt

-- fields of version One are fields of version Two
body_in_two : (body : Record) → IsBody One body → IsBody Two body
body_in_two (record_of.Alta alta) is = record {
  id = is.id;
  draft = record { valid = is.draft.valid; name = is.draft.name; refs = is.draft.refs; fits = tt };
  link = is.link;
  moment = is.moment;
}
body_in_two (record_of.Anulacion anulacion) is = is

fields_in_two : (e : Entry) → AreFields One e → AreFields Two e
fields_in_two (Rec till serial sealed) is = record {
  till = is.till;
  serial = is.serial;
  body = body_in_two sealed.body is.body;
  huella = is.huella;
}
fields_in_two (Notes first lines) is = is

pub encoded_in_two : (issuer : List ℕ) (entries : List Entry) → AreEncoded One issuer entries → AreEncoded Two issuer entries
encoded_in_two issuer [] all = tt
encoded_in_two issuer (e ∷ entries) all = (
  record { issuer = all.0.issuer; fields = fields_in_two e all.0.fields; bytes = refl },
  encoded_in_two issuer entries all.1,
)

pub bodies_in_two : (issuer : List ℕ) (entries : List Entry) → AnEncodingIsABody → AreEncoded One issuer entries →
    AreBodies (bodies_of Two entries)
bodies_in_two issuer [] is_body all = tt
bodies_in_two issuer (e ∷ entries) is_body all =
    (is_body Two e (fields_in_two e all.0.fields), bodies_in_two issuer entries is_body all.1)
