-- Words of keys under a tax other than IVA: rates, and words of classes.
use Rattle.std.proofs.Common.{◌≡◌, ◌⊎◌, ℕ, ◌≤◌, ◌||◌, ◌++◌, Bool, true, false, List, length, drop, min, subst, Option, Some, None}
use Rattle.std.proofs.Common.{get_or, ap, sym, ◌∙◌, arith, refl, inl, inr}
use Rattle.std.specs.Prelude.{◌↔◌, IsSome, IfSome, if◌then◌else◌}
use Rattle.std.proofs.lemmas.Bool.{eqb-true}
use Rattle.std.proofs.lemmas.Bool.Decides.{nat_tests}
use Rattle.std.specs.Str.Parse.{digits_value}
use Rattle.std.specs.Fmt.{decimal}
use Rattle.std.proofs.lemmas.Fmt.{length-decimal-le}
use Rattle.amounts.specs.Cents.{IsRate}
use Rattle.amounts.specs.Text.{whole_text}
use Rattle.amounts.specs.declared.whole.TheConstants.{WHOLE_LIMIT}
use Rattle.amounts.proofs.WholeLemmas.{whole_text-is, AllDigits-at, digit_value-range}
use Rattle.amounts.proofs.ReadingLemmas.{whole_text_injective}
use Rattle.tax_lines.specs.declared.taxes.Tax.{Tax}
use Rattle.tax_lines.specs.declared.taxes.Tax.TheVariants.{Iva, Ipsi, Igic}
use Rattle.tax_lines.specs.declared.classes.Class.{Class}
use Rattle.tax_lines.specs.declared.classes.Class.TheVariants.{S2, N1, N2, E1, E2, E3, E4, E5, E6, Free}
use Rattle.tax_lines.specs.Classes.{class_text, is_free, is_untaxed}
use Rattle.tax_lines.specs.Keys.{Key, IsKey, is_iva, has_class, has_rate, tax_text, key_text}

-- the bytes are a number
abbrev pub IsNumber : List ℕ → Type 0
IsNumber word = whole_text (digits_value 10 word) ≡ word

begins_low : (word : List ℕ) → IsNumber word → get_or word 0 0 ≤ 57
begins_low word number =
    let n = digits_value 10 word in
    let is = whole_text-is n in
    let first = digit_value-range (get_or (whole_text n) 0 0) (AllDigits-at (whole_text n) is.digits 0 is.some) in
    omega (arith, first.1, ap (λ (w : List ℕ). get_or w 0 0) number)

no_number : (word plain : List ℕ) → IsNumber word → word ≡ plain → 58 ≤ get_or plain 0 0 → ⊥
no_number word plain number is high =
    omega (arith, begins_low word number, ap (λ (w : List ℕ). get_or w 0 0) is, high)

untaxed_begins : (class : Class) → is_untaxed class ≡ true → 58 ≤ get_or (class_text class) 0 0
untaxed_begins S2 is = omega arith
untaxed_begins N1 is = omega arith
untaxed_begins N2 is = omega arith
untaxed_begins E1 is = omega arith
untaxed_begins E2 is = omega arith
untaxed_begins E3 is = omega arith
untaxed_begins E4 is = omega arith
untaxed_begins E5 is = omega arith
untaxed_begins E6 is = omega arith
untaxed_begins other is = absurd cc

-- what follows the tax in the word of a key
abbrev pub rest_text : Key → List ℕ
rest_text key = if is_free key.class then whole_text key.rate else class_text key.class

other_class : (tax_is : Tax) (class : Class) → is_iva tax_is ≡ false → has_class tax_is class ≡ true
    → (is_free class || is_untaxed class) ≡ true
other_class Iva class other has = absurd cc
other_class Ipsi class other has = has
other_class Igic class other has = has

by_class : (b : Bool) (class : Class) (rate : ℕ) (word : List ℕ) → is_free class ≡ b → (b || is_untaxed class) ≡ true
    → word ≡ (if b then whole_text rate else class_text class)
    → ((is_free class ≡ true) × (word ≡ whole_text rate)) ⊎ ((is_untaxed class ≡ true) × (word ≡ class_text class))
by_class true class rate word free has is = inl (free, is)
by_class false class rate word free has is = inr (has, is)

-- a key under another tax has a free rate or no tax
pub other_word : (key : Key) (word : List ℕ) → IsKey key → is_iva key.tax ≡ false → word ≡ rest_text key
    → ((is_free key.class ≡ true) × (word ≡ whole_text key.rate)) ⊎ ((is_untaxed key.class ≡ true) ×
    (word ≡ class_text key.class))
other_word key word is other same =
    by_class (is_free key.class) key.class key.rate word refl (other_class key.tax key.class other is.of_class) same

free_is : (class : Class) → is_free class ≡ true → class ≡ Free
free_is Free free = refl
free_is other free = absurd cc

rate_small : (class : Class) (rate : ℕ) → is_free class ≡ true → has_rate class rate ≡ true → rate ≤ 2500
rate_small Free rate free has = grind (arith, nat_tests)
rate_small other rate free has = absurd cc

untaxed_rate : (class : Class) (rate : ℕ) → is_untaxed class ≡ true → has_rate class rate ≡ true → rate ≡ 0
untaxed_rate S2 rate un has = eqb-true rate 0 has
untaxed_rate N1 rate un has = eqb-true rate 0 has
untaxed_rate N2 rate un has = eqb-true rate 0 has
untaxed_rate E1 rate un has = eqb-true rate 0 has
untaxed_rate E2 rate un has = eqb-true rate 0 has
untaxed_rate E3 rate un has = eqb-true rate 0 has
untaxed_rate E4 rate un has = eqb-true rate 0 has
untaxed_rate E5 rate un has = eqb-true rate 0 has
untaxed_rate E6 rate un has = eqb-true rate 0 has
untaxed_rate other rate un has = absurd cc

abbrev pub keyed : Tax → Class → ℕ → Key
keyed tax_is class rate = record { tax = tax_is; class = class; rate = rate }

-- a word that is a number is that of a key with this free rate alone
pub free_key : (key : Key) (word : List ℕ) → IsKey key → is_iva key.tax ≡ false → IsNumber word → word ≡ rest_text key
    → (key ≡ keyed key.tax Free (digits_value 10 word)) × (digits_value 10 word ≤ 2500)
free_key key word is other number same =
    elim (other_word key word is other same) [
      | inl f ↦
          let rate = whole_text_injective (digits_value 10 word) key.rate (number ∙ f.1) in
          let small = rate_small key.class key.rate f.0 is.of_rate in
          let class = free_is key.class f.0 in (
            ap (λ (c : Class). keyed key.tax c key.rate) class ∙
                ap (λ (r : ℕ). keyed key.tax Free r) (sym rate),
            omega (arith, rate, small),
          )
      | inr u ↦ absurd (no_number word (class_text key.class) number u.1 (untaxed_begins key.class u.0))
    ]

-- any other is that of a key without a tax
pub untaxed_key : (key : Key) (word : List ℕ) → IsKey key → is_iva key.tax ≡ false → ((v : ℕ) → word ≡ whole_text v → ⊥)
    → word ≡ rest_text key
    → (key ≡ keyed key.tax key.class 0) × ((is_untaxed key.class ≡ true) × (word ≡ class_text key.class))
untaxed_key key word is other none same =
    elim (other_word key word is other same) [
      | inl f ↦ absurd (none key.rate f.1)
      | inr u ↦ (ap (λ (r : ℕ). keyed key.tax key.class r) (untaxed_rate key.class key.rate u.0 is.of_rate), u)
    ]

-- the same text of a tax in front
pub behind_tax : (tax_is : Tax) (a b : List ℕ) → tax_text tax_is ++ a ≡ tax_text tax_is ++ b → a ≡ b
behind_tax Iva a b e = e
behind_tax Ipsi a b e = ap (drop 3) e
behind_tax Igic a b e = ap (drop 3) e

pub rest_is : (key : Key) (tax_is : Tax) (word : List ℕ) → key.tax ≡ tax_is → tax_text tax_is ++ word ≡ key_text key
    → word ≡ rest_text key
rest_is key tax_is word same e =
    behind_tax tax_is word (rest_text key) (e ∙ ap (λ (t : Tax). tax_text t ++ rest_text key) same)

of_gives : (r : Option Key) (k : Key) → (IsSome r ↔ IsKey k) → IfSome r (λ x. x ≡ k) → IsKey k → r ≡ Some k
of_gives None k valid value is = let some = valid.1 is in absurd cc
of_gives (Some x) k valid value is = ap Some value

-- a key of a free rate was read
pub read_free : (r : Option Key) (key : Key) (tax_is : Tax) (word : List ℕ) (n : ℕ) → is_iva tax_is ≡ false
    → (IsSome r ↔ IsKey (keyed tax_is Free n)) → IfSome r (λ x. x ≡ keyed tax_is Free n) → IsNumber word
    → n ≡ min (digits_value 10 word) WHOLE_LIMIT → n ≤ 2500 → IsKey key → key.tax ≡ tax_is → word ≡ rest_text key → r ≡ Some key
read_free r key tax_is word n other valid value number count small is same rest =
    let f = free_key key word is (ap is_iva same ∙ other) number rest in
    let rate : digits_value 10 word ≡ n = omega (arith, count) in
    let whole : key ≡ keyed tax_is Free n =
    f.0 ∙ ap (λ (t : Tax). keyed t Free (digits_value 10 word)) same ∙ ap (λ (d : ℕ). keyed tax_is Free d) rate in
    of_gives r (keyed tax_is Free n) valid value (subst IsKey whole is) ∙ ap Some (sym whole)

-- no key has the rate
pub read_past : (key : Key) (tax_is : Tax) (word : List ℕ) (n : ℕ) → is_iva tax_is ≡ false → IsNumber word
    → n ≡ min (digits_value 10 word) WHOLE_LIMIT → (n ≤ 2500 → ⊥) → IsKey key → key.tax ≡ tax_is → word ≡ rest_text key → ⊥
read_past key tax_is word n other number count past is same rest =
    let f = free_key key word is (ap is_iva same ∙ other) number rest in
    let small = f.1 in
    past (omega (arith, count, small))

-- how long a rate's digits are
pub few_digits : (rate : ℕ) → IsRate rate → length (decimal rate) ≤ 4
few_digits rate small = length-decimal-le 4 rate (omega arith) (omega arith) (omega arith)
