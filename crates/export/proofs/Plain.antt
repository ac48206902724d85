-- The objects hold no float, and nest at most three deep.
use Rattle.std.proofs.Common.{◌≡◌, ◌≤◌, ℕ, suc, ℤ, pos, negsuc, List, [], ◌∷◌, map, Bool, false, ◌||◌, Option, Some, None, refl, arith}
use Rattle.std.specs.List.{AllByRecursion}
use Rattle.serde_json.specs.Data.{Data, boolean, number, depth, items_depth, members_depth}
use Rattle.serde_json.specs.Find.{of_integer}
use Rattle.serde_json.specs.Read.{max_depth}
use Rattle.serde_json.specs.View.{items_of}
use Rattle.serde_json.specs.Written.{has_float, items_have_float, members_have_float}
use Rattle.parties.specs.declared.name.Party.{Party}
use Rattle.invoice_kinds.specs.declared.kind.RectKind.{RectKind}
use Rattle.invoice_kinds.specs.declared.kind.RectKind.TheVariants as rect
use Rattle.series.specs.declared.numbers.InvoiceId.{InvoiceId}
use Rattle.tax_lines.specs.declared.lines.TaxLine.{TaxLine}
use Rattle.record_fields.specs.declared.lines.Line.{Line}
use Rattle.record_fields.specs.declared.records.Link.{Link}
use Rattle.record_fields.specs.declared.records.Link.TheVariants.{First, After}
use Rattle.record_fields.specs.declared.records.Previo.{Previo}
use Rattle.record_fields.specs.declared.records.Previo.TheVariants as previo
use Rattle.record_fields.specs.declared.records.Record.{Record}
use Rattle.record_fields.specs.declared.records.Record.TheVariants as record_of
use Rattle.record_codec.specs.declared.entry.Entry.{Entry}
use Rattle.record_codec.specs.declared.entry.Entry.TheVariants.{Rec, Notes}
use Rattle.export.specs.Objects.{members_from, object_from, array_from, word, number_of, customer_value, id_value, tax_line_value, line_value, rect_value, previo_value, link_value, alta_fields, anulacion_fields, notes_fields, body_object, notes_object, object_of}

-- it holds no float, and nests no deeper than that
pub record IsPlain (n : ℕ) (d : Data) : Type 0 where
  pub exact : has_float d ≡ false
  pub low : depth d ≤ n

neither : (a b : Bool) → a ≡ false → b ≡ false → (a || b) ≡ false
neither a b p q = rw (p, q) refl

members_exact : (n : ℕ) (fields : List (List ℕ × Data)) → AllByRecursion (λ (f : List ℕ × Data). IsPlain n f.1) fields
    → members_have_float (members_from fields) ≡ false
members_exact n [] h = refl
members_exact n (f ∷ fs) h = neither _ _ h.0.exact (members_exact n fs h.1)

members_low : (n : ℕ) (fields : List (List ℕ × Data)) → AllByRecursion (λ (f : List ℕ × Data). IsPlain n f.1) fields
    → members_depth (members_from fields) ≤ n
members_low n [] h = omega arith
members_low n (f ∷ fs) h = let rest = members_low n fs h.1 in let one = h.0.low in omega (arith, rest, one)

pub object_is_plain : (n : ℕ) (fields : List (List ℕ × Data)) → AllByRecursion (λ (f : List ℕ × Data). IsPlain n f.1) fields
    → IsPlain (suc n) (object_from fields)
object_is_plain n fields h =
    let low = members_low n fields h in record { exact = members_exact n fields h; low = omega (arith, low) }

items_exact : {A : Type 0} (n : ℕ) (f : A → Data) (xs : List A) → ((x : A) → IsPlain n (f x)) → items_have_float (items_of (map f xs)) ≡ false
items_exact n f [] h = refl
items_exact n f (x ∷ xs) h = neither _ _ (h x).exact (items_exact n f xs h)

items_low : {A : Type 0} (n : ℕ) (f : A → Data) (xs : List A) → ((x : A) → IsPlain n (f x)) → items_depth (items_of (map f xs)) ≤ n
items_low n f [] h = omega arith
items_low n f (x ∷ xs) h = let rest = items_low n f xs h in let one = (h x).low in omega (arith, rest, one)

pub array_is_plain : {A : Type 0} (n : ℕ) (f : A → Data) (xs : List A) → ((x : A) → IsPlain n (f x)) → IsPlain (suc n) (array_from f xs)
array_is_plain n f xs h =
    let low = items_low n f xs h in record { exact = items_exact n f xs h; low = omega (arith, low) }

pub word_is_plain : (n : ℕ) (t : List ℕ) → IsPlain n (word t)
word_is_plain n t = record { exact = refl; low = omega arith }

pub number_is_plain : (n m : ℕ) → IsPlain n (number_of m)
number_is_plain n m = record { exact = refl; low = omega arith }

pub flag_is_plain : (n : ℕ) (b : Bool) → IsPlain n (boolean b)
flag_is_plain n b = record { exact = refl; low = omega arith }

pub integer_is_plain : (n : ℕ) (z : ℤ) → IsPlain n (number (of_integer z))
integer_is_plain n (pos m) = record { exact = refl; low = omega arith }
integer_is_plain n (negsuc m) = record { exact = refl; low = omega arith }

pub id_is_plain : (id : InvoiceId) → IsPlain 1 (id_value id)
id_is_plain id = record { exact = refl; low = omega arith }

pub tax_line_is_plain : (line : TaxLine) → IsPlain 1 (tax_line_value line)
tax_line_is_plain line = record { exact = rw (integer_is_plain 0 line.base).exact refl; low = omega arith }

line_is_plain : (line : Line) → IsPlain 1 (line_value line)
line_is_plain line = record { exact = refl; low = omega arith }

pub customer_is_plain : (customer : Option Party) → IsPlain 2 (customer_value customer)
customer_is_plain None = record { exact = refl; low = omega arith }
customer_is_plain (Some party) = record { exact = refl; low = omega arith }

pub rect_is_plain : (kind : Option RectKind) → IsPlain 2 (rect_value kind)
rect_is_plain None = record { exact = refl; low = omega arith }
rect_is_plain (Some rect.S) = word_is_plain 2 _
rect_is_plain (Some rect.I) = word_is_plain 2 _

pub previo_is_plain : (before : Previo) → IsPlain 2 (previo_value before)
previo_is_plain previo.N = word_is_plain 2 _
previo_is_plain previo.S = word_is_plain 2 _
previo_is_plain previo.X = word_is_plain 2 _

pub link_is_plain : (link : Link) → IsPlain 2 (link_value link)
link_is_plain First = record { exact = refl; low = omega arith }
link_is_plain (After id huella) = record { exact = refl; low = omega arith }

body_is_plain : (till serial : ℕ) (body : Record) (huella : List ℕ) → IsPlain 3 (body_object till serial body huella)
body_is_plain till serial (record_of.Alta alta) huella =
    object_is_plain 2 (alta_fields till serial alta huella) (
      customer_is_plain alta.draft.customer,
      (
        word_is_plain 2 _,
        (
          flag_is_plain 2 _,
          (
            word_is_plain 2 _,
            (
              word_is_plain 2 _,
              (
                array_is_plain 1 tax_line_value alta.draft.lines tax_line_is_plain,
                (
                  link_is_plain alta.link,
                  (
                    word_is_plain 2 _,
                    (
                      integer_is_plain 2 _,
                      (
                        previo_is_plain alta.rechazo,
                        (
                          rect_is_plain alta.draft.rect,
                          (
                            array_is_plain 1 id_value alta.draft.refs id_is_plain,
                            (
                              number_is_plain 2 _,
                              (
                                number_is_plain 2 _,
                                (
                                  word_is_plain 2 _,
                                  (
                                    number_is_plain 2 _,
                                    tt,
                                  ),
                                ),
                              ),
                            ),
                          ),
                        ),
                      ),
                    ),
                  ),
                ),
              ),
            ),
          ),
        ),
      ),
    )
body_is_plain till serial (record_of.Anulacion anulacion) huella =
    object_is_plain 2 (anulacion_fields till serial anulacion huella) (
      word_is_plain 2 _,
      (
        word_is_plain 2 _,
        (
          link_is_plain anulacion.link,
          (
            word_is_plain 2 _,
            (
              integer_is_plain 2 _,
              (
                flag_is_plain 2 _,
                (
                  number_is_plain 2 _,
                  (
                    number_is_plain 2 _,
                    (
                      flag_is_plain 2 _,
                      (
                        word_is_plain 2 _,
                        (
                          number_is_plain 2 _,
                          tt,
                        ),
                      ),
                    ),
                  ),
                ),
              ),
            ),
          ),
        ),
      ),
    )

notes_are_plain : (first : ℕ) (lines : List Line) → IsPlain 3 (notes_object first lines)
notes_are_plain first lines =
    object_is_plain 2 (notes_fields first lines) (number_is_plain 2 _, (array_is_plain 1 line_value lines line_is_plain, (word_is_plain 2 _, tt)))

pub entry_is_plain : (entry : Entry) → IsPlain 3 (object_of entry)
unfolding object_of
entry_is_plain (Rec till serial sealed) = body_is_plain till serial sealed.body sealed.huella
entry_is_plain (Notes first lines) = notes_are_plain first lines

pub exact_at : (entry : Entry) (d : Data) → d ≡ object_of entry → has_float d ≡ false
exact_at entry d e = rw e (entry_is_plain entry).exact

pub low_at : (entry : Entry) (d : Data) → d ≡ object_of entry → depth d ≤ max_depth
low_at entry d e = let low = (entry_is_plain entry).low in rw e (omega (arith, low))
