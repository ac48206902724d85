-- What a field may say is ASCII, so it is a text.
use Rattle.std.proofs.Common.{◌≡◌, ◌⊎◌, ◌+◌, ◌/◌, ◌%◌, ◌<◌, ◌≤◌, ◌&&◌, ◌||◌, inl, inr, ℕ, zero, suc, Bool, true, false, List, []}
use Rattle.std.proofs.Common.{◌∷◌, ◌++◌, map, refl, arith, ℤ, pos, negsuc, IsTrue, subst, sym, codes}
use Rattle.std.specs.Str.{IsAscii, IsUtf8}
use Rattle.std.specs.Int.Digits.{digits_of}
use Rattle.std.specs.List.{AllByRecursion}
use Rattle.std.proofs.lemmas.Int.Digits.{all_below_base_digits_of}
use Rattle.std.proofs.lemmas.Str.{IsUtf8-from_ascii, IsAscii-append}
use Rattle.std.proofs.lemmas.Str.Ascii.{IsAscii-nil, IsAscii-cons}
use Rattle.amounts.specs.Text.{whole_text, cents_text, amount_text}
use Rattle.parties.proofs.NifLemmas.{nif_ascii}
use Rattle.series.specs.Numbers.{is_num_serie}
use Rattle.series.proofs.NumLemmas.{num_ascii}
use Rattle.stamps.specs.Day.{last_day, date_at}
use Rattle.stamps.specs.Text.{date_text_of}
use Rattle.stamps.proofs.CivilLemmas.{date_at-bounds}
use Rattle.verify_link.specs.Reading.{IsFieldValue}

-- days

two_ascii : (n : ℕ) (rest : List ℕ) → n < 100 → IsAscii rest → IsAscii ((48 + n / 10) ∷ (48 + n % 10) ∷ rest)
two_ascii n rest small ascii = IsAscii-cons (48 + n / 10) ((48 + n % 10) ∷ rest) (omega arith) (IsAscii-cons (48 + n % 10) rest
    (omega arith) ascii)

date_ascii : (n : ℕ) → n ≤ last_day → IsAscii (date_text_of n)
unfolding date_text_of
date_ascii n within =
    let bounds = date_at-bounds n within in
    let date = date_at n in
    let year : date.year < 10_000 = omega (arith, bounds.0) in
    let ends = (48 + date.year % 100 / 10) ∷ (48 + date.year % 100 % 10) ∷ [] in
    let years = (48 + date.year / 100 / 10) ∷ (48 + date.year / 100 % 10) ∷ ends in
    let months = (48 + date.month / 10) ∷ (48 + date.month % 10) ∷ 45 ∷ years in
    let ends_ascii : IsAscii ends = two_ascii (date.year % 100) [] (omega arith) IsAscii-nil in
    let years_ascii : IsAscii years = two_ascii (date.year / 100) ends (omega arith) ends_ascii in
    let months_ascii : IsAscii months = two_ascii date.month (45 ∷ years) (omega (arith, bounds.1))
    (IsAscii-cons 45 years (omega arith) years_ascii) in
    two_ascii date.day (45 ∷ months) (omega (arith, bounds.2)) (IsAscii-cons 45 months (omega arith) months_ascii)

-- amounts

digits_ascii : (ds : List ℕ) → AllByRecursion (λ d. d < 10) ds → IsAscii (map (λ d. 48 + d) ds)
digits_ascii [] small = IsAscii-nil
digits_ascii (d ∷ ds) small =
    let first = small.0 in IsAscii-cons (48 + d) (map (λ d. 48 + d) ds) (omega (arith, first)) (digits_ascii ds small.1)

whole_ascii : (n : ℕ) → IsAscii (whole_text n)
unfolding whole_text
whole_ascii zero = IsAscii-cons 48 [] (omega arith) IsAscii-nil
whole_ascii (suc n) = digits_ascii (digits_of 10 (suc n)) (all_below_base_digits_of 10 (suc n) (omega arith))

cents_ascii : (n : ℕ) → IsAscii (cents_text n)
unfolding cents_text
cents_ascii n =
    let cents = (48 + n % 100 / 10) ∷ (48 + n % 10) ∷ [] in
    let cents_low : IsAscii cents = IsAscii-cons (48 + n % 100 / 10) ((48 + n % 10) ∷ []) (omega arith)
    (IsAscii-cons (48 + n % 10) [] (omega arith) IsAscii-nil) in
    IsAscii-append (whole_text (n / 100) ++ codes ".") cents
    (IsAscii-append (whole_text (n / 100)) (codes ".") (whole_ascii (n / 100)) (IsAscii-cons 46 [] (omega arith) IsAscii-nil))
    cents_low

amount_ascii : (v : ℤ) → IsAscii (amount_text v)
unfolding amount_text
amount_ascii (pos n) = cents_ascii n
amount_ascii (negsuc n) = IsAscii-cons 45 (cents_text (suc n)) (omega arith) (cents_ascii (suc n))

-- all four

pub value_ascii : (i : ℕ) (said : List ℕ) → IsFieldValue i said → IsAscii said
value_ascii zero said is = nif_ascii said is
value_ascii (suc zero) said is = num_ascii said is
value_ascii (suc (suc zero)) said is = subst IsAscii (sym is.2) (date_ascii is.0 is.1)
value_ascii (suc (suc (suc i))) said is = subst IsAscii (sym is.2) (amount_ascii is.0)

pub value_text : (i : ℕ) (said : List ℕ) → IsFieldValue i said → IsUtf8 said
value_text i said is = IsUtf8-from_ascii said (value_ascii i said is)
