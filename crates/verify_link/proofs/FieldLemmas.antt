-- A field in its place, and its faults.
use Rattle.std.proofs.Common.{◌≡◌, ◌≢◌, ℕ, ◌+◌, ◌-◌, ◌≤◌, Bool, true, false, eqb, List, length, take, drop, refl, sym, ap, ◌∙◌}
use Rattle.std.proofs.Common.{subst, arith, IsAscii, length-drop}
use Rattle.std.specs.List.{starts_with, before_first, position_or_len}
use Rattle.std.proofs.Math.Seq.{take-length}
use Rattle.std.proofs.lemmas.List.{drop-drop, length-take}
use Rattle.std.proofs.lemmas.List.Prefix.{front_fits}
use Rattle.std.proofs.lemmas.Bool.{cond_both}
use Rattle.percent_encoding.specs.Percent.{percent_decode}
use Rattle.verify_link.specs.Writing.{encoded, AgreeButInCase, is_bad_escape, IsFirstBadEscape}
use Rattle.verify_link.specs.Reading.{Begins, name_of, is_ampersand, value_in, value_of, IsFieldValue, IsWrongField, HasBadEscape}
use Rattle.verify_link.specs.Reading.{IsWholeField, IsFieldAt, unnamed, no_value}
use Rattle.verify_link.proofs.BeginsLemmas.{begins_from, begins_not}
use Rattle.verify_link.proofs.CapitalLemmas.{capitals_from}
use Rattle.verify_link.proofs.DecodingLemmas.{decoded}
use Rattle.verify_link.proofs.ValueLemmas.{value_ascii}

-- a slice from `at` on
tail_is : (at : ℕ) (text : List ℕ) → take (length text - at) (drop at text) ≡ drop at text
tail_is at text = ap (λ n. take n (drop at text)) (sym (length-drop at text)) ∙ take-length (drop at text)

pub is_named : (i at : ℕ) (text name : List ℕ) (r : Bool) → name ≡ name_of i
    → r ≡ starts_with eqb (take (length text - at) (drop at text)) name → r ≡ true → Begins (name_of i) (drop at text)
is_named i at text name r name_is is holds =
    begins_from (name_of i) (drop at text) name r (is ∙ ap (λ s. starts_with eqb s name) (tail_is at text)) name_is holds

pub is_unnamed : (i at : ℕ) (text name : List ℕ) (r : Bool) → name ≡ name_of i
    → r ≡ starts_with eqb (take (length text - at) (drop at text)) name → r ≡ false → IsWrongField i (drop at text)
is_unnamed i at text name r name_is is fails =
    unnamed (begins_not (name_of i) (drop at text) name r (is ∙ ap (λ s. starts_with eqb s name) (tail_is at text)) name_is fails)

pub value_is : (i at : ℕ) (text name value : List ℕ) → name ≡ name_of i
    → value ≡ value_in i (take (length text - (at + length name)) (drop (at + length name) text)) →
    value ≡ value_of i (drop at text)
value_is i at text name value name_is is =
    is ∙ ap (value_in i) (tail_is (at + length name) text) ∙ ap (λ x. value_in i (drop (at + length x) text)) name_is
    ∙ sym (ap (value_in i) (drop-drop (length (name_of i)) at text))

pub bad_field : (i at k : ℕ) (text name value : List ℕ) → name ≡ name_of i → Begins (name_of i) (drop at text)
    → value ≡ value_of i (drop at text) → IsFirstBadEscape value k
    → (after : ℕ) × (at + length name + k ≡ at + after) × HasBadEscape i (drop at text) after
bad_field i at k text name value name_is named is first = (
  length (name_of i) + k,
  omega (arith, ap length name_is),
  record {
    named = named;
    in_value = k;
    first = subst (λ (v : List ℕ). IsFirstBadEscape v k) is first;
    sum = refl;
  },
)

pub other_value : (i at : ℕ) (text value : List ℕ) → Begins (name_of i) (drop at text)
    → value ≡ value_of i (drop at text) → ((k : ℕ) → is_bad_escape value k ≡ false)
    → ((said : List ℕ) → IsAscii said → ¬ (AgreeButInCase value (encoded said))) → IsWrongField i (drop at text)
other_value i at text value named is whole none =
    no_value named (λ k. subst (λ (v : List ℕ). is_bad_escape v k ≡ false) is (whole k))
    (λ said valid same. none said (value_ascii i said valid) (subst (λ (v : List ℕ). AgreeButInCase v (encoded said)) (sym is)
    same))

-- a value is no longer than what it is taken from
length-value_in : (i : ℕ) (after : List ℕ) → length (value_in i after) ≤ length after
length-value_in i after =
    cond_both (eqb i 3) after (before_first is_ampersand after) (λ (v : List ℕ). length v ≤ length after)
    (λ _. omega arith) (λ _. omega (arith, length-take (position_or_len is_ampersand after) after))

pub whole_field : (i at : ℕ) (text name value said : List ℕ) → name ≡ name_of i → Begins (name_of i) (drop at text)
    → value ≡ value_of i (drop at text) → ((k : ℕ) → is_bad_escape value k ≡ false)
    → (said ≡ percent_decode value) × AgreeButInCase value (encoded said) → at ≤ length text
    → IsWholeField i text at said (at + length name + length value)
whole_field i at text name value said name_is named is whole same within =
    let name_fits = front_fits (drop at text) (name_of i) (drop (length (name_of i)) (drop at text)) named in
    let value_fits : length value ≤ length (drop at text) - length (name_of i) =
    omega (
      arith,
      ap length is,
      length-value_in i (drop (length (name_of i)) (drop at text)),
      length-drop (length (name_of i))
          (drop at text),
    ) in
    record {
      field = record { named = named; value = subst (λ (v : List ℕ). AgreeButInCase v (encoded said)) is same.1 };
      decoded = same.0 ∙ ap percent_decode is;
      whole = λ k. subst (λ (v : List ℕ). is_bad_escape v k ≡ false) is (whole k);
      ends = omega (arith, ap length name_is, ap length is);
      within = omega (arith, ap length name_is, name_fits, value_fits, length-drop at text);
    }

-- a field whose value says nothing that it may
pub wrong_value : (i at end : ℕ) (text said : List ℕ) → IsWholeField i text at said end
    → ((other : List ℕ) → IsFieldValue i other → said ≢ other) → IsWrongField i (drop at text)
wrong_value i at end text said it none =
    no_value it.field.named it.whole
    (λ other valid same. none other valid (it.decoded ∙ decoded other (value_of i (drop at text)) (value_ascii i other valid)
    (capitals_from (value_of i (drop at text)) (encoded other) same)))

-- and one whose value says what it may
pub right_value : (i at end : ℕ) (text said valid : List ℕ) → IsWholeField i text at said end → IsFieldValue i valid →
    said ≡ valid
    → IsFieldAt i text at valid end
right_value i at end text said valid it is same = record {
  valid = is;
  field = record {
    named = it.field.named;
    value = subst (λ (x : List ℕ). AgreeButInCase (value_of i (drop at text)) (encoded x))
        same it.field.value;
  };
  ends = it.ends;
  within = it.within;
}

-- the last field ends where the text does
pub last_ends : (at end : ℕ) (text said : List ℕ) → IsWholeField 3 text at said end → at ≤ length text → end ≡ length text
last_ends at end text said it within =
    let name_fits = front_fits (drop at text) (name_of 3) (drop (length (name_of 3)) (drop at text)) it.field.named in
    omega (arith, it.ends, name_fits, length-drop at text, length-drop (length (name_of 3)) (drop at text))
