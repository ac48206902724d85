-- Two keys with one word are one key.
use Rattle.std.proofs.Common.{◌≡◌, ℕ, List, true, false, bytes_eq, get_or, Option, Some, refl, sym, ap, ◌∙◌, arith, inl, inr}
use Rattle.std.specs.Prelude.{find}
use Rattle.std.proofs.lemmas.Bool.{eqb-true}
use Rattle.std.specs.Str.Parse.{digits_value}
use Rattle.amounts.specs.Text.{whole_text}
use Rattle.amounts.proofs.WholeLemmas.{whole_text-is}
use Rattle.tax_lines.specs.Classes.{classes, class_text, class_rate, is_untaxed}
use Rattle.tax_lines.specs.Keys.{Key, IsKey, is_iva, key_text}
use Rattle.tax_lines.specs.declared.classes.Class.{Class}
use Rattle.tax_lines.specs.declared.classes.Class.TheVariants.{General, Free}
use Rattle.tax_lines.specs.declared.taxes.Tax.{Tax}
use Rattle.tax_lines.specs.declared.taxes.Tax.TheVariants.{Iva, Ipsi, Igic}
use Rattle.tax_lines.proofs.WordLemmas.{keyed, rest_text, IsNumber, behind_tax, free_key, other_word, untaxed_key}

class_named : List ℕ → Option Class
class_named t = find (λ c. bytes_eq (class_text c) t) classes

class_named-class_text : (class : Class) → class_named (class_text class) ≡ Some class
unfolding class_named
class_named-class_text General = refl
class_named-class_text other = refl

class_same : (a b : Class) → class_text a ≡ class_text b → a ≡ b
class_same a b e =
    let same : Some a ≡ Some b = sym (class_named-class_text a) ∙ ap class_named e ∙ class_named-class_text b in cc

-- ---- under IVA

-- the rate and the word are those of the class
own_key : (class : Class) (rate : ℕ) → IsKey (keyed Iva class rate)
    → (keyed Iva class rate ≡ keyed Iva class (class_rate class)) × (key_text (keyed Iva class rate) ≡ class_text class)
own_key Free rate is = let has = is.of_class in absurd cc
own_key other rate is = (ap (λ (r : ℕ). keyed Iva other r) (eqb-true rate _ is.of_rate), refl)

both_own : (c d : Class) (r s : ℕ) → IsKey (keyed Iva c r) → IsKey (keyed Iva d s)
    → key_text (keyed Iva c r) ≡ key_text (keyed Iva d s) → keyed Iva c r ≡ keyed Iva d s
both_own c d r s is also e =
    let one = own_key c r is in
    let other = own_key d s also in
    let class = class_same c d (sym one.1 ∙ e ∙ other.1) in
    one.0 ∙ ap (λ (k : Class). keyed Iva k (class_rate k)) class ∙ sym other.0

-- no word has a slash after two bytes, as every word under another tax
no_slash : (class : Class) → get_or (class_text class) 2 0 ≡ 47 → ⊥
no_slash General e = omega (arith, e)
no_slash other e = omega (arith, e)

own_is_other : (c : Class) (r : ℕ) (t : List ℕ) → IsKey (keyed Iva c r) → key_text (keyed Iva c r) ≡ t → get_or t 2 0 ≡ 47 → ⊥
own_is_other c r t is e slash = no_slash c (ap (λ (w : List ℕ). get_or w 2 0) (sym (own_key c r is).1 ∙ e) ∙ slash)

-- ---- under another tax

no_free : (class : Class) → class ≡ Free → is_untaxed class ≡ true → ⊥
no_free Free e untaxed = cc
no_free other e untaxed = cc

number_of_rate : (rate : ℕ) → IsNumber (whole_text rate)
number_of_rate rate = ap whole_text (whole_text-is rate).value

class_of : (k l : Key) → k ≡ l → k.class ≡ l.class
class_of k l e = ap (λ (x : Key). x.class) e

rest_same : (k l : Key) (word : List ℕ) → IsKey k → IsKey l → is_iva k.tax ≡ false → k.tax ≡ l.tax → word ≡ rest_text k
    → word ≡ rest_text l → k ≡ l
rest_same k l word is also other tax here there =
    let too : is_iva l.tax ≡ false = ap is_iva (sym tax) ∙ other in
    elim (other_word k word is other here) [
      | inl free ↦
          let number : IsNumber word = rw free.1 (number_of_rate k.rate) in
          let one = free_key k word is other number here in
          let two = free_key l word also too number there in
          one.0 ∙ ap (λ (t : Tax). keyed t Free (digits_value 10 word)) tax ∙ sym two.0
      | inr untaxed ↦
          let none : (v : ℕ) → word ≡ whole_text v → ⊥ = λ v e.
          let number : IsNumber word = rw e (number_of_rate v) in
          no_free k.class (class_of k _ (free_key k word is other number here).0) untaxed.0 in
          let one = untaxed_key k word is other none here in
          let two = untaxed_key l word also too none there in
          let class = class_same k.class l.class (sym one.1.1 ∙ two.1.1) in
          one.0 ∙ ap (λ (t : Tax). keyed t k.class 0) tax ∙ ap (λ (c : Class). keyed l.tax c 0) class ∙ sym two.0
    ]

both_other : (t : Tax) (c d : Class) (r s : ℕ) → is_iva t ≡ false → IsKey (keyed t c r) → IsKey (keyed t d s)
    → key_text (keyed t c r) ≡ key_text (keyed t d s) → keyed t c r ≡ keyed t d s
both_other t c d r s other is also e =
    let word = rest_text (keyed t c r) in
    rest_same (keyed t c r) (keyed t d s) word is also other refl refl (behind_tax t word (rest_text (keyed t d s)) e)

-- ---- all keys

same_fields : (t u : Tax) (c d : Class) (r s : ℕ) → IsKey (keyed t c r) → IsKey (keyed u d s)
    → key_text (keyed t c r) ≡ key_text (keyed u d s) → keyed t c r ≡ keyed u d s
same_fields Iva Iva c d r s is also e = both_own c d r s is also e
same_fields Iva Ipsi c d r s is also e = absurd (own_is_other c r _ is e refl)
same_fields Iva Igic c d r s is also e = absurd (own_is_other c r _ is e refl)
same_fields Ipsi Iva c d r s is also e = absurd (own_is_other d s _ also (sym e) refl)
same_fields Ipsi Ipsi c d r s is also e = both_other Ipsi c d r s refl is also e
same_fields Ipsi Igic c d r s is also e = absurd (omega (arith, ap (λ (w : List ℕ). get_or w 1 0) e))
same_fields Igic Iva c d r s is also e = absurd (own_is_other d s _ also (sym e) refl)
same_fields Igic Ipsi c d r s is also e = absurd (omega (arith, ap (λ (w : List ℕ). get_or w 1 0) e))
same_fields Igic Igic c d r s is also e = both_other Igic c d r s refl is also e

pub key_same : (k l : Key) → IsKey k → IsKey l → key_text k ≡ key_text l → k ≡ l
key_same k l is also e = same_fields k.tax l.tax k.class l.class k.rate l.rate is also e
