-- What the fields of an entry's object are.
use Rattle.std.proofs.Common.{◌≡◌, ℕ, List, codes, Bool, true, false, true≢false, Some, is_some, Err, Result, position, arith, refl, sym, ap, subst, ◌∙◌}
use Rattle.serde_json.specs.Data.{Data, null, string}
use Rattle.serde_json.specs.Find.{get, as_null}
use Rattle.parties.specs.declared.name.Party.{Party}
use Rattle.tax_lines.specs.Breakdown.{IsBreakdown, IsBreakdownOf, is_past}
use Rattle.tax_lines.specs.declared.faults.LinesFault.{LinesFault}
use Rattle.tax_lines.specs.declared.faults.LinesFault.TheVariants as lines_fault
use Rattle.tax_lines.specs.declared.lines.TaxLine.{TaxLine}
use Rattle.record_fields.specs.Records.{issuer_of}
use Rattle.record_fields.specs.declared.lines.Line.{Line}
use Rattle.record_fields.specs.declared.records.Record.{Record}
use Rattle.record_fields.specs.declared.records.Record.TheVariants as record_of
use Rattle.record_fields.specs.declared.records.Sealed.{Sealed}
use Rattle.record_fields.specs.declared.versions.Version.{Version}
use Rattle.record_codec.specs.Validity.{AreFields, AreNotes, HasIssuer, IsRec}
use Rattle.record_codec.specs.declared.entry.Entry.{Entry}
use Rattle.record_codec.specs.declared.entry.Entry.TheVariants.{Rec, Notes}
use Rattle.export.specs.declared.faults.Unread.{Unread}
use Rattle.export.specs.Fields.{Gives, HasBody, HasParty, HasRecord}
use Rattle.export.specs.Objects.{body_object, customer_value, huella_value, notes_object, number_of, object_of, word}

pub not_null : (d : Data) (b : Bool) → b ≡ is_some (as_null d) → b ≡ false → d ≡ null → ⊥
not_null d b is isnt e = true≢false (sym (is ∙ ap (λ x. is_some (as_null x)) e) ∙ isnt)

pub has_party : (party : Party) (d : Data) → d ≡ customer_value (Some party) → HasParty party d
has_party party d e = rw e (record { name = refl; nif = refl })

-- ---- sorts

abbrev pub body_sort : Record → List ℕ
body_sort (record_of.Alta alta) = codes "alta"
body_sort (record_of.Anulacion anulacion) = codes "anulacion"

abbrev pub sort_of : Entry → List ℕ
sort_of (Rec till serial sealed) = body_sort sealed.body
sort_of (Notes first lines) = codes "notes"

pub body_has_sort : (till serial : ℕ) (body : Record) (huella : List ℕ) → get (codes "t") (body_object till serial body huella) ≡ Some (word (body_sort body))
body_has_sort till serial (record_of.Alta alta) huella = refl
body_has_sort till serial (record_of.Anulacion anulacion) huella = refl

has_sort : (entry : Entry) → get (codes "t") (object_of entry) ≡ Some (word (sort_of entry))
unfolding object_of
has_sort (Rec till serial sealed) = body_has_sort till serial sealed.body sealed.huella
has_sort (Notes first lines) = refl

pub sort_at : (entry : Entry) (d : Data) → d ≡ object_of entry → get (codes "t") d ≡ Some (string (sort_of entry))
sort_at entry d e = rw e (has_sort entry)

-- ---- records

abbrev pub sort_named : Bool → List ℕ
sort_named true = codes "alta"
sort_named false = codes "anulacion"

has_body : (till serial : ℕ) (body : Record) (huella : List ℕ) (is_alta : Bool) → body_sort body ≡ sort_named is_alta
    → HasBody body is_alta (body_object till serial body huella)
has_body till serial (record_of.Alta alta) huella true e = record {
  id = record { num = refl; day = refl };
  draft = record { kind = refl; rect = refl; customer = refl; refs = refl; lines = refl };
  fix = refl;
  rechazo = refl;
  link = refl;
  moment = record { seconds = refl; offset = refl };
}
has_body till serial (record_of.Alta alta) huella false e = absurd cc
has_body till serial (record_of.Anulacion anulacion) huella true e = absurd cc
has_body till serial (record_of.Anulacion anulacion) huella false e = record {
  id = record { num = refl; day = refl };
  sin_registro = refl;
  rechazo = refl;
  link = refl;
  moment = record { seconds = refl; offset = refl };
}

pub has_till : (till serial : ℕ) (body : Record) (huella : List ℕ) → get (codes "till") (body_object till serial body huella) ≡ Some (number_of till)
has_till till serial (record_of.Alta alta) huella = refl
has_till till serial (record_of.Anulacion anulacion) huella = refl

pub has_serial : (till serial : ℕ) (body : Record) (huella : List ℕ) → get (codes "serial") (body_object till serial body huella) ≡ Some (number_of serial)
has_serial till serial (record_of.Alta alta) huella = refl
has_serial till serial (record_of.Anulacion anulacion) huella = refl

pub has_huella : (till serial : ℕ) (body : Record) (huella : List ℕ) → get (codes "huella") (body_object till serial body huella) ≡ Some (huella_value huella)
has_huella till serial (record_of.Alta alta) huella = refl
has_huella till serial (record_of.Anulacion anulacion) huella = refl

has_record : (till serial : ℕ) (sealed : Sealed) (is_alta : Bool) → body_sort sealed.body ≡ sort_named is_alta
    → HasRecord till serial sealed is_alta (body_object till serial sealed.body sealed.huella)
has_record till serial sealed is_alta e = record {
  till = has_till till serial sealed.body sealed.huella;
  serial = has_serial till serial sealed.body sealed.huella;
  body = has_body till serial sealed.body sealed.huella is_alta e;
  huella = has_huella till serial sealed.body sealed.huella;
}

no_notes : (is_alta : Bool) → codes "notes" ≡ sort_named is_alta → ⊥
no_notes true e = cc
no_notes false e = cc

no_record : (body : Record) → body_sort body ≡ codes "notes" → ⊥
no_record (record_of.Alta alta) e = cc
no_record (record_of.Anulacion anulacion) e = cc

-- a reader of records gives the entry that the object is of
pub gives_record : (version : Version) (entry : Entry) (is_alta : Bool) (issuer : List ℕ) (d : Data) (r : Result Entry Unread)
    → sort_of entry ≡ sort_named is_alta → AreFields version entry → HasIssuer issuer entry → d ≡ object_of entry
    → ((till serial : ℕ) (sealed : Sealed) → IsRec version till serial sealed → issuer_of sealed.body ≡ issuer
    → HasRecord till serial sealed is_alta d → Gives (Rec till serial sealed) r)
    → Gives entry r
unfolding object_of
gives_record version (Rec till serial sealed) is_alta issuer d r e fields has is gives =
    gives till serial sealed fields has (subst (λ (x : Data). HasRecord till serial sealed is_alta x) (sym is) (has_record till serial sealed is_alta e))
gives_record version (Notes first lines) is_alta issuer d r e fields has is gives = absurd (no_notes is_alta e)

-- a reader of notes gives the entry that the object is of
pub gives_notes : (version : Version) (entry : Entry) (d : Data) (r : Result Entry Unread) → sort_of entry ≡ codes "notes" → AreFields version entry
    → d ≡ object_of entry
    → ((first : ℕ) (lines : List Line) → AreNotes first lines → d ≡ notes_object first lines → Gives (Notes first lines) r)
    → Gives entry r
unfolding object_of
gives_notes version (Rec till serial sealed) d r e fields is gives = absurd (no_record sealed.body e)
gives_notes version (Notes first lines) d r e fields is gives = gives first lines fields is

one_of : (body : Record) → (body_sort body ≡ codes "alta" → ⊥) → (body_sort body ≡ codes "anulacion" → ⊥) → ⊥
one_of (record_of.Alta alta) a b = a refl
one_of (record_of.Anulacion anulacion) a b = b refl

-- there are three sorts
pub one_of_three : (entry : Entry) → (sort_of entry ≡ codes "alta" → ⊥) → (sort_of entry ≡ codes "anulacion" → ⊥)
    → (sort_of entry ≡ codes "notes" → ⊥) → ⊥
one_of_three (Rec till serial sealed) a b c = one_of sealed.body a b
one_of_three (Notes first lines) a b c = c refl

-- lines of a breakdown are one, lack of memory aside
pub only_memory : (lines : List TaxLine) (fault : LinesFault) → IsBreakdown lines → IsBreakdownOf lines (Err fault)
    → (fault ≡ lines_fault.NoMemory → ⊥) → ⊥
only_memory lines lines_fault.NoLines is of other = let few = is.few.0 in absurd (omega (arith, rw of at few))
only_memory lines (lines_fault.TooMany n) is of other = let few = is.few.1 in omega (arith, of.0, of.1, few)
only_memory lines (lines_fault.Range i) is of other = let near = is.near in let at : position is_past lines ≡ Some i = of.1 in cc
only_memory lines lines_fault.NoMemory is of other = other refl
