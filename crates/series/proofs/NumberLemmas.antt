-- What follows of the numbers of a series: they are numbers of invoices, and give their series and their place back.
use Rattle.std.specs.Prelude.{◌≡◌, ◌≢◌, ℕ, ◌+◌, ◌-◌, ◌%◌, ◌^◌, ◌<◌, ◌≤◌, List, [], ◌∷◌, ◌++◌, length, take, drop, Bool, true}
use Rattle.std.specs.Prelude.{false, ◌&&◌, nat_le, ◌==◌, not, decimal, refl}
use Rattle.std.proofs.Common.{ap, sym, ◌∙◌, arith, get_or, length-append}
use Rattle.std.specs.List.{list_all, suffix_len}
use Rattle.std.proofs.lemmas.Bool.{and_parts, and_from, not_from_true, not_from_false, eq-eqb, ne_eqb, le-leb, leb-true}
use Rattle.std.proofs.lemmas.Bool.Decides.{nat_tests}
use Rattle.std.proofs.lemmas.Fmt.{decimal_by_steps, decimal_injective, decimal_nonempty, length-decimal-le}
use Rattle.std.proofs.lemmas.List.{take_at, get_or_at, get_or_append_left, get_or-append_right, append_cancel_left}
use Rattle.std.proofs.lemmas.List.Folds.{list_all-append}
use Rattle.std.proofs.lemmas.List.Sums.{suffix_len_is, AllPass-from_list_all, list_all-from_AllPass}
use Rattle.series.specs.Numbers.{number_text, series_of, is_num_serie, is_series, is_number_char, is_series_char}

-- the digits of a number

abbrev is_digit : ℕ → Bool
is_digit c = nat_le 48 c && nat_le c 57

one_digit : (n : ℕ) → n < 10 → list_all is_digit ((48 + n) ∷ []) ≡ true
one_digit n h = grind (arith, nat_tests)

more_digits : (ds : List ℕ) (n : ℕ) → list_all is_digit ds ≡ true → n < 10 → list_all is_digit (ds ++ (48 + n) ∷ []) ≡ true
more_digits ds n all h = rw (list_all-append, all, one_digit n h) refl

digits : (n : ℕ) → n < 2 ^ 64 → list_all is_digit (decimal n) ≡ true
digits = decimal_by_steps (λ n ds. list_all is_digit ds ≡ true) one_digit (λ n ds h all. more_digits ds (n % 10) all
    (omega arith))

from_digit : (c : ℕ) → is_digit c ≡ true → 48 ≤ c
from_digit c h = grind (arith, nat_tests)

digit_at : (n k : ℕ) → n < 2 ^ 64 → k < length (decimal n) → 48 ≤ get_or (decimal n) k 0
digit_at n k h lt = from_digit (get_or (decimal n) k 0) (AllPass-from_list_all is_digit (decimal n) (digits n h) k 0 lt)

after_dash : (name : List ℕ) (n k : ℕ) → n < 2 ^ 64 → length name + 1 ≤ k → k < length (number_text name n)
    → 48 ≤ get_or (number_text name n) k 0
after_dash name n k small low high =
    let there : get_or (number_text name n) k 0 ≡ get_or (decimal n) (k - length name - 1) 0 =
    get_or-append_right name (45 ∷ decimal n) (length name) k 0 refl (omega arith)
    ∙ get_or-append_right (45 ∷ []) (decimal n) 1 (k - length name) 0 refl (omega arith) in
    rw there (digit_at n (k - length name - 1) small (omega (arith, length-append name (45 ∷ decimal n))))

-- the part before the last dash

other_than_dash : (c : ℕ) → c ≢ 45 → not (c == 45) ≡ true
other_than_dash c h = not_from_false (c == 45) (ne_eqb c 45 h)

dash : (c : ℕ) → c ≡ 45 → not (c == 45) ≡ false
dash c h = not_from_true (c == 45) (eq-eqb c 45 h)

pub before_dash_is : (number : List ℕ) (at : ℕ) → at < length number → get_or number at 0 ≡ 45
    → ((k : ℕ) → at + 1 ≤ k → k < length number → get_or number k 0 ≢ 45) → take at number ≡ series_of number
unfolding series_of
before_dash_is number at lt here past =
    let e : at + 1 - 1 ≡ at = omega arith in
    let n : suffix_len (λ (c : ℕ). not (c == 45)) number ≡ length number - (at + 1) =
    suffix_len_is (λ (c : ℕ). not (c == 45)) number (at + 1) 0 (omega arith)
    (λ k low high. other_than_dash (get_or number k 0) (past k low high))
    (λ _. dash (get_or number (at + 1 - 1) 0) (rw e here)) in
    let same : at ≡ length number - suffix_len (λ (c : ℕ). not (c == 45)) number - 1 = omega arith in
    ap (λ (k : ℕ). take k number) same

pub no_dash_is : (number : List ℕ) → ((k : ℕ) → k < length number → get_or number k 0 ≢ 45) → take 0 number ≡ series_of number
unfolding series_of
no_dash_is number past =
    let n : suffix_len (λ (c : ℕ). not (c == 45)) number ≡ length number - 0 =
    suffix_len_is (λ (c : ℕ). not (c == 45)) number 0 0 (omega arith)
    (λ k low high. other_than_dash (get_or number k 0) (past k high)) (λ lt. absurd (omega arith)) in
    let same : 0 ≡ length number - suffix_len (λ (c : ℕ). not (c == 45)) number - 1 = omega arith in
    ap (λ (k : ℕ). take k number) same

pub series_of_number : (name : List ℕ) (n : ℕ) → n < 2 ^ 64 → series_of (number_text name n) ≡ name
series_of_number name n small =
    sym (before_dash_is (number_text name n) (length name) (omega (arith, length-append name (45 ∷ decimal n)))
    (get_or_at name 45 (decimal n) 0 (length name) refl)
    (λ k low high e. let digit = after_dash name n k small low high in absurd (omega arith)))
    ∙ take_at name (45 ∷ decimal n) (length name) refl

pub same_number : (name other : List ℕ) (n m : ℕ) → n < 2 ^ 64 → m < 2 ^ 64 → number_text name n ≡ number_text other m
    → (name ≡ other) × (n ≡ m)
same_number name other n m small low e =
    let series : name ≡ other = sym (series_of_number name n small) ∙ (ap series_of e ∙ series_of_number other m low) in
    let here : number_text other n ≡ number_text other m = rw series at e in
    let rest : 45 ∷ decimal n ≡ 45 ∷ decimal m = append_cancel_left other (45 ∷ decimal n) (45 ∷ decimal m) here in
    (series, decimal_injective n m small low (ap (drop 1) rest))

-- a number of a series is a number of an invoice

weaker : (p q : ℕ → Bool) → ((c : ℕ) → p c ≡ true → q c ≡ true) → (xs : List ℕ) → list_all p xs ≡ true → list_all q xs ≡ true
weaker p q step xs all = list_all-from_AllPass q xs (λ k d lt. step (get_or xs k d) (AllPass-from_list_all p xs all k d lt))

series_char : (c : ℕ) → is_series_char c ≡ true → is_number_char c ≡ true
series_char c h = grind (arith, nat_tests)

digit_char : (c : ℕ) → is_digit c ≡ true → is_number_char c ≡ true
digit_char c h = grind (arith, nat_tests)

chars : (name : List ℕ) (n : ℕ) → list_all is_series_char name ≡ true → n < 2 ^ 64 → list_all is_number_char (number_text name n)
    ≡ true
chars name n all small =
    rw (
      list_all-append,
      weaker is_series_char is_number_char series_char name all,
      weaker is_digit is_number_char digit_char (decimal n) (digits n small),
    ) refl

no_blank : (c : ℕ) → c ≢ 32 → not (c == 32) ≡ true
no_blank c h = not_from_false (c == 32) (ne_eqb c 32 h)

series_char_is_no_blank : (c : ℕ) → is_series_char c ≡ true → c ≢ 32
series_char_is_no_blank c h e = let f : is_series_char 32 ≡ true = rw e at h in cc

starts_plain : (name rest : List ℕ) → 0 < length name → list_all is_series_char name ≡ true → get_or (name ++ rest) 0 0 ≢ 32
starts_plain name rest some all =
    rw (get_or_append_left name rest 0 0 some)
    (series_char_is_no_blank (get_or name 0 0) (AllPass-from_list_all is_series_char name all 0 0 some))

ends_plain : (name : List ℕ) (n : ℕ) → n < 2 ^ 64 → get_or (number_text name n) (length (number_text name n) - 1) 0 ≢ 32
ends_plain name n small e =
    let some = decimal_nonempty n small in
    let long = length-append name (45 ∷ decimal n) in
    let digit = after_dash name n (length (number_text name n) - 1) small (omega arith) (omega arith) in
    absurd (omega arith)

pub is_number : (name : List ℕ) (n : ℕ) → is_series name ≡ true → n < 10 ^ 8 → is_num_serie (number_text name n) ≡ true
is_number name n ok small =
    let parts = and_parts (nat_le 1 (length name) && nat_le (length name) 20) (list_all is_series_char name) ok in
    let lengths = and_parts (nat_le 1 (length name)) (nat_le (length name) 20) parts.0 in
    let low = leb-true 1 (length name) lengths.0 in
    let high = leb-true (length name) 20 lengths.1 in
    let number = number_text name n in
    let long = length-append name (45 ∷ decimal n) in
    let short : length (decimal n) ≤ 8 = length-decimal-le 8 n (omega arith) small (omega arith) in
    and_from _ _
    (and_from _ _
    (and_from _ _
    (and_from _ _ (le-leb 1 (length number) (omega arith)) (le-leb (length number) 60 (omega arith)))
    (chars name n parts.1 (omega arith)))
    (no_blank (get_or number 0 0) (starts_plain name (45 ∷ decimal n) (omega arith) parts.1)))
    (no_blank (get_or number (length number - 1) 0) (ends_plain name n (omega arith)))
