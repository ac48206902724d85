-- Amounts of any size, written piece by piece.
use Rattle.std.proofs.Common.{◌≡◌, ℕ, zero, suc, ◌+◌, ◌/◌, ◌%◌, ◌^◌, ◌<◌, List, [], ◌∷◌, ◌++◌, append_assoc, sym, ◌∙◌, ap, arith, ℤ}
use Rattle.std.proofs.Common.{pos, negsuc, unsigned_abs, int_lt, true, false, Result, Ok, Err, OnOk, decimal, map}
use Rattle.std.proofs.lemmas.Bool.{ltb-true}
use Rattle.std.proofs.lemmas.Fmt.{decimal_by_steps_wide, decimal_digit}
use Rattle.std.proofs.lemmas.Int.Digits.{digits_of_step}
use Rattle.std.proofs.lemmas.List.{map-append}
use Rattle.std.specs.Int.Digits.{digits_of}
use Rattle.amounts.specs.Text.{whole_text, cents_text, amount_text}
use Rattle.amounts.proofs.CentsLemmas.{cents_text-whole}

pub on_ok : {A E P Q : Type 0} (r : Result A E) → (P → Q) → OnOk r P → OnOk r Q
on_ok (Ok x) f h = f h
on_ok (Err e) f h = h

digits_wide : (n : ℕ) → 0 < n → n < 2 ^ 128 → decimal n ≡ map (λ d. 48 + d) (digits_of 10 n)
digits_wide n some small = decimal_by_steps_wide (λ m ds. 0 < m → ds ≡ map (λ d. 48 + d) (digits_of 10 m))
    (λ m l a.
    let z : m / 10 ≡ 0 = omega arith in
    let e : m % 10 ≡ m = omega arith in
    sym (ap (map (λ d. 48 + d)) (digits_of_step 10 m (omega arith) a
    ∙ ap (λ (k : ℕ). digits_of 10 k ++ m % 10 ∷ []) z ∙ ap (λ (k : ℕ). digits_of 10 0 ++ k ∷ []) e)))
    (λ m ds l h a.
    ap (λ (x : List ℕ). x ++ (48 + m % 10) ∷ []) (h (omega arith))
    ∙ sym (map-append (λ d. 48 + d) (digits_of 10 (m / 10)) (m % 10 ∷ []))
    ∙ ap (map (λ d. 48 + d)) (sym (digits_of_step 10 m (omega arith) a)))
    n (omega arith) some

whole_wide : (n : ℕ) → n < 2 ^ 128 → whole_text n ≡ decimal n
unfolding whole_text
whole_wide zero h = sym (decimal_digit 0 (omega arith))
whole_wide (suc n) h = sym (digits_wide (suc n) (omega arith) h)

pub cents_joined : (text new : List ℕ) (n : ℕ) → n < 2 ^ 128
    → new ≡ ((text ++ decimal (n / 100)) ++ 46 ∷ []) ++ (48 + n % 100 / 10) ∷ (48 + n % 100 % 10) ∷ [] →
    new ≡ text ++ cents_text n
cents_joined text new n small e =
    let unit : n % 100 % 10 ≡ n % 10 = omega arith in
    let pair : List ℕ = (48 + n % 100 / 10) ∷ (48 + n % 100 % 10) ∷ [] in
    e ∙ append_assoc (text ++ decimal (n / 100)) (46 ∷ []) pair ∙ append_assoc text (decimal (n / 100)) (46 ∷ pair)
    ∙ ap (λ (ds : List ℕ). text ++ (ds ++ 46 ∷ pair)) (sym (whole_wide (n / 100) (omega (arith, small))))
    ∙ ap (λ (k : ℕ). text ++ (whole_text (n / 100) ++ 46 ∷ (48 + n % 100 / 10) ∷ (48 + k) ∷ [])) unit
    ∙ ap (λ (ds : List ℕ). text ++ ds) (sym (cents_text-whole n))

pub positive : (v : ℤ) (text new : List ℕ) → int_lt v (pos 0) ≡ false → new ≡ text ++ cents_text (unsigned_abs v) →
    new ≡ text ++ amount_text v
unfolding amount_text
positive (pos n) text new h e = e
positive (negsuc n) text new h e = cc

pub negative : (v : ℤ) (text new : List ℕ) → int_lt v (pos 0) ≡ true → new ≡ (text ++ 45 ∷ []) ++ cents_text (unsigned_abs v) →
    new ≡ text ++ amount_text v
unfolding amount_text
negative (pos n) text new h e = absurd (omega (arith, ltb-true n 0 h))
negative (negsuc n) text new h e = e ∙ append_assoc text (45 ∷ []) (cents_text (suc n))
