-- Values that are found by their texts.
use Rattle.std.proofs.Common.{◌≡◌, ◌≢◌, ℕ, suc, zero, ◌+◌, ◌<◌, ◌≤◌, List, [], ◌∷◌, refl, sym, ◌∙◌, ap, arith, Option, Some, None}
use Rattle.std.proofs.Common.{Bool, true, false, bytes_eq, ◌==◌, ◌⊎◌, inl, inr, IfSome, subst}
use Rattle.std.proofs.lemmas.Slice.Eq.{bytes_eq-Decides}
use Rattle.std.specs.List.{AllByRecursion, range_with_len}
use Rattle.std.proofs.lemmas.Bool.Decides.{nat_tests}
use Rattle.invoice_kinds.specs.Kinds.{kind_text, kinds}
use Rattle.invoice_kinds.specs.declared.kind.Kind.{Kind}
use Rattle.invoice_kinds.specs.declared.kind.Kind.TheVariants.{F1}
use Rattle.script.proofs.LineKeys.{keys_are_keys, key_is_there}
use Rattle.script.specs.Readings.{named, kind_of, line_keys, class_of, first_days, day_of}
use Rattle.stamps.specs.Text.{date_text_of}
use Rattle.tax_lines.specs.Keys.{Key, IsKey, key_text}

cases : (b : Bool) → (b ≡ true) ⊎ (b ≡ false)
cases true = inl refl
cases false = inr refl

-- the first of a list whose text it is has that text
found : {A : Type 0} (f : A → List ℕ) (all : List A) (text : List ℕ) (y : A) → named f all text ≡ Some y → text ≡ f y
found f [] text y e = absurd cc
found f (x ∷ all) text y e =
    elim (cases (bytes_eq text (f x))) [
      | inl it ↦
          let t = (bytes_eq-Decides text (f x)).0 it in
          let h = rw it at e in
          let same : x ≡ y = cc in
          t ∙ ap f same
      | inr no_it ↦ found f all text y (rw no_it at e)
    ]

none_unless : {A : Type 0} (o : Option A) → ((y : A) → o ≡ Some y → ⊥) → None ≡ o
none_unless None h = refl
none_unless (Some y) h = absurd (h y refl)

kind_there : (kind : Kind) → kind_of (kind_text kind) ≡ Some kind
unfolding kind_of
kind_there F1 = refl
kind_there other = refl

pub kind_is : (text : List ℕ) (r : Option Kind) → IfSome r (λ (kind : Kind). text ≡ kind_text kind)
    → ((kind : Kind) → text ≡ kind_text kind → r ≡ Some kind) → r ≡ kind_of text
unfolding kind_of
kind_is text None value complete = none_unless (kind_of text) (λ y e. let h = complete y (found kind_text kinds text y e) in cc)
kind_is text (Some kind) value complete = sym (ap kind_of value ∙ kind_there kind)

-- ---- keys of lines

-- what is said of each of a list is said of the first whose text it is
found_in : {A : Type 0} (f : A → List ℕ) (P : A → Type 0) (all : List A) (text : List ℕ) (y : A) → AllByRecursion P all →
    named f all text ≡ Some y → P y
found_in f P [] text y each e = absurd cc
found_in f P (x ∷ all) text y each e =
    elim (cases (bytes_eq text (f x))) [
      | inl it ↦ let h = rw it at e in let same : x ≡ y = cc in subst P same each.0
      | inr no_it ↦ found_in f P all text y each.1 (rw no_it at e)
    ]

none_has : {A : Type 0} (f : A → List ℕ) (all : List A) (text : List ℕ) → named f all text ≡ None →
    AllByRecursion (λ x. text ≢ f x) all
none_has f [] text e = tt
none_has f (x ∷ all) text e =
    elim (cases (bytes_eq text (f x))) [
      | inl it ↦ let h = rw it at e in absurd cc
      | inr no_it ↦
          ((λ t. let there = (bytes_eq-Decides text (f x)).1 t in absurd cc), none_has f all text (rw no_it at e))
    ]

read_as : (text : List ℕ) (r : Option Key) → IfSome r (λ (key : Key). text ≡ key_text key) → IfSome r IsKey
    → ((key : Key) → IsKey key → text ≡ key_text key → r ≡ Some key)
    → (o : Option Key) → named key_text line_keys text ≡ o → r ≡ o
read_as text None value is complete None e = refl
read_as text (Some key) value is complete None e =
    absurd (key_is_there (λ (k : Key). text ≢ key_text k) (none_has key_text line_keys text e) key is value)
read_as text r value is complete (Some key) e =
    complete key (found_in key_text IsKey line_keys text key keys_are_keys e) (found key_text line_keys text key e)

pub class_is : (text : List ℕ) (r : Option Key) → IfSome r (λ (key : Key). text ≡ key_text key) → IfSome r IsKey
    → ((key : Key) → IsKey key → text ≡ key_text key → r ≡ Some key) → r ≡ class_of text
unfolding class_of
class_is text r value is complete = read_as text r value is complete (named key_text line_keys text) refl

-- days

equal_from : (a k : ℕ) → (a == k) ≡ true → a ≡ k
equal_from a k h = grind (arith, nat_tests)

more_from : (a k : ℕ) → (a == k) ≡ false → a ≤ k → a + 1 ≤ k
more_from a k h le = grind (arith, nat_tests)

same_or : (a k : ℕ) → a ≤ k → (a ≡ k) ⊎ (a + 1 ≤ k)
same_or a k h = elim (cases (a == k)) [ inl it ↦ inl (equal_from a k it) | inr no_it ↦ inr (more_from a k no_it h) ]

below : (text : List ℕ) (a n y : ℕ) → named date_text_of (range_with_len a n) text ≡ Some y → y < a + n
below text a zero y e = absurd cc
below text a (suc n) y e =
    elim (cases (bytes_eq text (date_text_of a))) [
      | inl it ↦ let h = rw it at e in let same : a ≡ y = cc in omega arith
      | inr no_it ↦ let h = below text (a + 1) n y (rw no_it at e) in omega arith
    ]

absent : (text : List ℕ) (a n k : ℕ) → named date_text_of (range_with_len a n) text ≡ None → a ≤ k → k < a + n →
    text ≢ date_text_of k
absent text a zero k e low high t = absurd (omega arith)
absent text a (suc n) k e low high t =
    elim (cases (bytes_eq text (date_text_of a))) [
      | inl it ↦ let h = rw it at e in absurd cc
      | inr no_it ↦
          elim (same_or a k low) [
            | inl same ↦ let there = (bytes_eq-Decides text (date_text_of a)).1 (t ∙ ap date_text_of (sym same)) in absurd cc
            | inr more ↦ absent text (a + 1) n k (rw no_it at e) more (omega arith) t
          ]
    ]

day_none : (n : ℕ) (text : List ℕ) → ((k : ℕ) → k < n → text ≢ date_text_of k) → None ≡ named date_text_of (first_days n) text
unfolding first_days
day_none n text none = none_unless (named date_text_of (range_with_len 0 n) text)
    (λ y e. let small = below text 0 n y e in none y (omega arith) (found date_text_of (range_with_len 0 n) text y e))

day_some : (n : ℕ) (text : List ℕ) (day : ℕ) → day < n → text ≡ date_text_of day → ((k m : ℕ) → date_text_of k ≡ date_text_of m →
    k ≡ m)
    → (o : Option ℕ) → named date_text_of (first_days n) text ≡ o → Some day ≡ o
unfolding first_days
day_some n text day lt t law None e = absurd (absent text 0 n day e (omega arith) (omega arith) t)
day_some n text day lt t law (Some y) e =
    let same : day ≡ y = law day y (sym t ∙ found date_text_of (range_with_len 0 n) text y e) in ap Some same

pub day_yes : (text : List ℕ) (day : ℕ) → text ≡ date_text_of day → day ≤ 47_846
    → ((k m : ℕ) → date_text_of k ≡ date_text_of m → k ≡ m) → Some day ≡ day_of text
unfolding day_of
day_yes text day t low law = day_some 47_847 text day (omega arith) t law (day_of text) refl

pub day_no : (text : List ℕ) → ((n : ℕ) → n ≤ 47_846 → text ≢ date_text_of n) → None ≡ day_of text
unfolding day_of
day_no text none = day_none 47_847 text (λ k lt. none k (omega arith))
