-- The keys of the table, as one list.
use Rattle.std.proofs.Common.{◌≡◌, ℕ, suc, zero, ◌+◌, ◌<◌, ◌≤◌, List, [], ◌∷◌, ◌++◌, refl, sym, arith, map, filter, flat_map}
use Rattle.std.proofs.Common.{Bool, true, false, ◌⊎◌, inl, inr, nat_le, ◌==◌, subst}
use Rattle.std.proofs.lemmas.Bool.{eqb-true}
use Rattle.std.proofs.lemmas.Bool.Decides.{nat_tests}
use Rattle.std.specs.List.{AllByRecursion, range_with_len}
use Rattle.script.specs.Readings.{free_rates, rates_of, keys_of, line_keys}
use Rattle.tax_lines.specs.Classes.{classes, class_rate}
use Rattle.tax_lines.specs.Keys.{Key, IsKey, taxes, has_class, has_rate}
use Rattle.tax_lines.specs.declared.classes.Class.{Class}
use Rattle.tax_lines.specs.declared.classes.Class.TheVariants.{General, Reduced, SuperReduced, Zero, GeneralSurcharge}
use Rattle.tax_lines.specs.declared.classes.Class.TheVariants.{ReducedSurcharge, SuperReducedSurcharge, S2, N1, N2, E1, E2, E3}
use Rattle.tax_lines.specs.declared.classes.Class.TheVariants.{E4, E5, E6, Free}
use Rattle.tax_lines.specs.declared.taxes.Tax.{Tax}
use Rattle.tax_lines.specs.declared.taxes.Tax.TheVariants.{Iva, Ipsi, Igic}

cases : (b : Bool) → (b ≡ true) ⊎ (b ≡ false)
cases true = inl refl
cases false = inr refl

-- ---- each element of a list that is put together

joined_in : {A : Type 0} (P : A → Type 0) (xs ys : List A) → AllByRecursion P xs → AllByRecursion P ys →
    AllByRecursion P (xs ++ ys)
joined_in P [] ys h k = k
joined_in P (x ∷ xs) ys h k = (h.0, joined_in P xs ys h.1 k)

left_out : {A : Type 0} (P : A → Type 0) (xs ys : List A) → AllByRecursion P (xs ++ ys) → AllByRecursion P xs
left_out P [] ys h = tt
left_out P (x ∷ xs) ys h = (h.0, left_out P xs ys h.1)

right_out : {A : Type 0} (P : A → Type 0) (xs ys : List A) → AllByRecursion P (xs ++ ys) → AllByRecursion P ys
right_out P [] ys h = h
right_out P (x ∷ xs) ys h = right_out P xs ys h.1

flat_in : {A B : Type 0} (P : B → Type 0) (g : A → List B) (xs : List A) → AllByRecursion (λ x. AllByRecursion P (g x)) xs
    → AllByRecursion P (flat_map g xs)
flat_in P g [] h = tt
flat_in P g (x ∷ xs) h = joined_in P (g x) (flat_map g xs) h.0 (flat_in P g xs h.1)

flat_out : {A B : Type 0} (P : B → Type 0) (g : A → List B) (xs : List A) → AllByRecursion P (flat_map g xs)
    → AllByRecursion (λ x. AllByRecursion P (g x)) xs
flat_out P g [] h = tt
flat_out P g (x ∷ xs) h =
    (left_out P (g x) (flat_map g xs) h, flat_out P g xs (right_out P (g x) (flat_map g xs) h))

mapped_in : {A B : Type 0} (P : B → Type 0) (f : A → B) (xs : List A) → AllByRecursion (λ x. P (f x)) xs →
    AllByRecursion P (map f xs)
mapped_in P f [] h = tt
mapped_in P f (x ∷ xs) h = (h.0, mapped_in P f xs h.1)

mapped_out : {A B : Type 0} (P : B → Type 0) (f : A → B) (xs : List A) → AllByRecursion P (map f xs) →
    AllByRecursion (λ x. P (f x)) xs
mapped_out P f [] h = tt
mapped_out P f (x ∷ xs) h = (h.0, mapped_out P f xs h.1)

kept_in : {A : Type 0} (P : A → Type 0) (p : A → Bool) (xs : List A) → AllByRecursion (λ x. p x ≡ true → P x) xs
    → AllByRecursion P (filter p xs)
kept_in P p [] h = tt
kept_in P p (x ∷ xs) h =
    elim (cases (p x)) [ inl it ↦ rw it (h.0 it, kept_in P p xs h.1) | inr no_it ↦ rw no_it (kept_in P p xs h.1) ]

kept_out : {A : Type 0} (P : A → Type 0) (p : A → Bool) (xs : List A) → AllByRecursion P (filter p xs)
    → AllByRecursion (λ x. p x ≡ true → P x) xs
kept_out P p [] h = tt
kept_out P p (x ∷ xs) h =
    elim (cases (p x)) [
      | inl it ↦ let k = rw it at h in ((λ yes. k.0), kept_out P p xs k.1)
      | inr no_it ↦ ((λ yes. absurd cc), kept_out P p xs (rw no_it at h))
    ]

numbers_in : (P : ℕ → Type 0) (a n : ℕ) → ((k : ℕ) → k < a + n → P k) → AllByRecursion P (range_with_len a n)
numbers_in P a zero h = tt
numbers_in P a (suc n) h = (h a (omega arith), numbers_in P (a + 1) n (λ k lt. h k (omega arith)))

same_or : (a k : ℕ) → a ≤ k → (a ≡ k) ⊎ (a + 1 ≤ k)
same_or a k h = elim (cases (a == k)) [ inl it ↦ inl (grind (arith, nat_tests)) | inr no_it ↦ inr (grind (arith, nat_tests)) ]

numbers_out : (P : ℕ → Type 0) (a n : ℕ) → AllByRecursion P (range_with_len a n) → (k : ℕ) → a ≤ k → k < a + n → P k
numbers_out P a zero h k low high = absurd (omega arith)
numbers_out P a (suc n) h k low high =
    elim (same_or a k low) [
      | inl same ↦ subst P same h.0
      | inr more ↦ numbers_out P (a + 1) n h.1 k more (omega arith)
    ]

-- ---- classes and taxes

each_class : (P : Class → Type 0) → ((class : Class) → P class) → AllByRecursion P classes
each_class P each = (
  each General,
  (
    each Reduced,
    (
      each SuperReduced,
      (
        each Zero,
        (
          each GeneralSurcharge,
          (
            each ReducedSurcharge,
            (
              each SuperReducedSurcharge,
              (each S2, (each N1, (each N2, (each E1, (each E2, (each E3, (each E4, (each E5, (each E6, (each Free, tt)))))))))),
            ),
          ),
        ),
      ),
    ),
  ),
)

at_class : (P : Class → Type 0) (class : Class) → AllByRecursion P classes → P class
at_class P General h = h.0
at_class P Reduced h = h.1.0
at_class P SuperReduced h = h.1.1.0
at_class P Zero h = h.1.1.1.0
at_class P GeneralSurcharge h = h.1.1.1.1.0
at_class P ReducedSurcharge h = h.1.1.1.1.1.0
at_class P SuperReducedSurcharge h = h.1.1.1.1.1.1.0
at_class P S2 h = h.1.1.1.1.1.1.1.0
at_class P N1 h = h.1.1.1.1.1.1.1.1.0
at_class P N2 h = h.1.1.1.1.1.1.1.1.1.0
at_class P E1 h = h.1.1.1.1.1.1.1.1.1.1.0
at_class P E2 h = h.1.1.1.1.1.1.1.1.1.1.1.0
at_class P E3 h = h.1.1.1.1.1.1.1.1.1.1.1.1.0
at_class P E4 h = h.1.1.1.1.1.1.1.1.1.1.1.1.1.0
at_class P E5 h = h.1.1.1.1.1.1.1.1.1.1.1.1.1.1.0
at_class P E6 h = h.1.1.1.1.1.1.1.1.1.1.1.1.1.1.1.0
at_class P Free h = h.1.1.1.1.1.1.1.1.1.1.1.1.1.1.1.1.0

at_tax : (P : Tax → Type 0) (tax : Tax) → AllByRecursion P taxes → P tax
at_tax P Iva h = h.0
at_tax P Ipsi h = h.1.0
at_tax P Igic h = h.1.1.0

-- ---- rates

few_in : (P : ℕ → Type 0) → ((rate : ℕ) → rate ≤ 2500 → P rate) → AllByRecursion P free_rates
unfolding free_rates
few_in P each = numbers_in P 0 2501 (λ k lt. each k (omega arith))

few_out : (P : ℕ → Type 0) → AllByRecursion P free_rates → (rate : ℕ) → rate ≤ 2500 → P rate
unfolding free_rates
few_out P h rate le = numbers_out P 0 2501 h rate (omega arith) (omega arith)

most : (rate : ℕ) → nat_le rate 2500 ≡ true → rate ≤ 2500
most rate h = grind (arith, nat_tests)

at_most : (rate : ℕ) → rate ≤ 2500 → nat_le rate 2500 ≡ true
at_most rate h = grind (arith, nat_tests)

rates_in : (P : ℕ → Type 0) (class : Class) → ((rate : ℕ) → has_rate class rate ≡ true → P rate) →
    AllByRecursion P (rates_of class)
rates_in P Free each = few_in P (λ rate le. each rate (at_most rate le))
rates_in P class each = (each (class_rate class) refl, tt)

rates_out : (P : ℕ → Type 0) (class : Class) (rate : ℕ) → AllByRecursion P (rates_of class) → has_rate class rate ≡ true → P rate
rates_out P Free rate h has = few_out P h rate (most rate has)
rates_out P class rate h has = subst P (sym (eqb-true rate (class_rate class) has)) h.0

-- ---- keys

abbrev keyed : Tax → Class → ℕ → Key
keyed tax class rate = record { tax = tax; class = class; rate = rate }

-- the classes that the table permits under a tax
abbrev classes_of : Tax → List Class
classes_of tax = filter (has_class tax) classes

abbrev keys_under : Tax → List Key
keys_under tax = flat_map (keys_of tax) (classes_of tax)

each_of : (tax : Tax) (class : Class) → has_class tax class ≡ true → AllByRecursion IsKey (keys_of tax class)
each_of tax class has =
    mapped_in IsKey (keyed tax class) (rates_of class)
    (rates_in (λ rate. IsKey (keyed tax class rate)) class (λ rate own. record { of_class = has; of_rate = own }))

each_under : (tax : Tax) → AllByRecursion IsKey (keys_under tax)
each_under tax =
    flat_in IsKey (keys_of tax) (classes_of tax)
    (kept_in (λ class. AllByRecursion IsKey (keys_of tax class)) (has_class tax) classes
    (each_class (λ class. has_class tax class ≡ true → AllByRecursion IsKey (keys_of tax class))
    (λ class has. each_of tax class has)))

-- each of the list is one of the table
pub keys_are_keys : AllByRecursion IsKey line_keys
unfolding line_keys
keys_are_keys = flat_in IsKey keys_under taxes (each_under Iva, (each_under Ipsi, (each_under Igic, tt)))

-- each of the table is in the list
pub key_is_there : (P : Key → Type 0) → AllByRecursion P line_keys → (key : Key) → IsKey key → P key
unfolding line_keys
key_is_there P h key is =
    let under = at_tax (λ tax. AllByRecursion P (keys_under tax)) key.tax (flat_out P keys_under taxes h) in
    let kept = kept_out (λ class. AllByRecursion P (keys_of key.tax class)) (has_class key.tax) classes
    (flat_out P (keys_of key.tax) (classes_of key.tax) under) in
    let of_class = at_class (λ class. has_class key.tax class ≡ true → AllByRecursion P (keys_of key.tax class)) key.class kept
    is.of_class in
    rates_out (λ rate. P (keyed key.tax key.class rate)) key.class key.rate
    (mapped_out P (keyed key.tax key.class) (rates_of key.class) of_class) is.of_rate
