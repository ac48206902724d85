-- What the values of a field text are like: their lengths, that they hold no `=`, and what they stand for.
use Rattle.std.proofs.Common.{◌≡◌, ℕ, zero, suc, ◌+◌, ◌/◌, ◌%◌, ◌<◌, List, [], ◌∷◌, ◌++◌, length, get_or, map, codes, true, ◌==◌}
use Rattle.std.proofs.Common.{not, cond, Some, ℤ, pos, negsuc, refl, sym, ap, ◌∙◌, arith}
use Rattle.std.specs.Int.Digits.{digits_of, AllBelowBase}
use Rattle.std.proofs.lemmas.Bool.{and_parts, and_from}
use Rattle.std.proofs.lemmas.Bool.Decides.{nat_tests}
use Rattle.std.proofs.lemmas.Int.Digits.{all_below_base_digits_of}
use Rattle.std.proofs.lemmas.List.Sums.{AllPass-from_list_all, list_all-from_AllPass}
use Rattle.hex.specs.Hex.{decode_of, encode_upper, upper_digits, IsBytes}
use Rattle.hex.proofs.HexLemmas.{decode_of-encode_upper, length-encode_with}
use Rattle.amounts.specs.Text.{whole_text, cents_text, amount_text}
use Rattle.invoice_kinds.specs.Kinds.{kind_text}
use Rattle.invoice_kinds.specs.declared.kind.Kind.{Kind}
use Rattle.invoice_kinds.specs.declared.kind.Kind.TheVariants.{F1, F2, F3, R1, R2, R3, R4, R5}
use Rattle.series.specs.Numbers.{is_num_serie, is_number_char}
use Rattle.stamps.specs.Stamp.{Moment, moment_text_of}
use Rattle.stamps.specs.Text.{date_text_of, local_text_of}
use Rattle.record_fields.specs.declared.records.Link.{Link}
use Rattle.record_fields.specs.declared.records.Link.TheVariants.{First, After}
use Rattle.huella.specs.Texts.{previous_text}
use Rattle.huella.specs.Stated.{HoldsHuella, huella_before}
use Rattle.huella.proofs.Splitting.{is_plain, plain_append}

pub length-date_text_of : (n : ℕ) → length (date_text_of n) ≡ 10
unfolding date_text_of
length-date_text_of n = refl

pub length-moment_text_of : (m : Moment) → length (moment_text_of m) ≡ 25
unfolding local_text_of
length-moment_text_of m = refl

pub length-kind_text : (k : Kind) → length (kind_text k) ≡ 2
length-kind_text F1 = refl
length-kind_text other = refl

-- the kind of a code
abbrev kind_of : List ℕ → Kind
kind_of t =
    let digit = get_or t 1 0 in
    cond (get_or t 0 0 == 70) (cond (digit == 49) F1 (cond (digit == 50) F2 F3))
    (cond (digit == 49) R1 (cond (digit == 50) R2 (cond (digit == 51) R3 (cond (digit == 52) R4 R5))))

kind_of-kind_text : (k : Kind) → kind_of (kind_text k) ≡ k
kind_of-kind_text F1 = refl
kind_of-kind_text other = refl

pub kind_text_injective : (k l : Kind) → kind_text k ≡ kind_text l → k ≡ l
kind_text_injective k l e = sym (kind_of-kind_text k) ∙ ap kind_of e ∙ kind_of-kind_text l

-- numbers of invoices

number_char : (c : ℕ) → is_number_char c ≡ true → not (c == 61) ≡ true
number_char c h = grind (arith, nat_tests)

pub plain_number : (num : List ℕ) → is_num_serie num ≡ true → is_plain num ≡ true
plain_number num h =
    let all = (and_parts _ _ (and_parts _ _ (and_parts _ _ h).0).0).1 in
    list_all-from_AllPass (λ c. not (c == 61)) num (λ k d lt. number_char (get_or num k d) (AllPass-from_list_all is_number_char
    num all k d lt))

-- amounts

digit_char : (d : ℕ) → d < 10 → not (48 + d == 61) ≡ true
digit_char d h = grind (arith, nat_tests)

plain_digits : (ds : List ℕ) → AllBelowBase 10 ds → is_plain (map (λ d. 48 + d) ds) ≡ true
plain_digits [] h = refl
plain_digits (d ∷ ds) h = and_from _ _ (digit_char d h.0) (plain_digits ds h.1)

plain_whole : (n : ℕ) → is_plain (whole_text n) ≡ true
unfolding whole_text
plain_whole zero = refl
plain_whole (suc n) = plain_digits (digits_of 10 (suc n)) (all_below_base_digits_of 10 (suc n) (omega arith))

two_digits : (a b : ℕ) → a < 10 → b < 10 → is_plain ((48 + a) ∷ (48 + b) ∷ []) ≡ true
two_digits a b low high = rw (digit_char a low, digit_char b high) refl

plain_cents : (n : ℕ) → is_plain (cents_text n) ≡ true
unfolding cents_text
plain_cents n =
    plain_append (whole_text (n / 100) ++ codes ".") ((48 + n % 100 / 10) ∷ (48 + n % 10) ∷ [])
    (plain_append (whole_text (n / 100)) (codes ".") (plain_whole (n / 100)) refl)
    (two_digits (n % 100 / 10) (n % 10) (omega arith) (omega arith))

pub plain_amount : (v : ℤ) → is_plain (amount_text v) ≡ true
unfolding amount_text
plain_amount (pos n) = plain_cents n
plain_amount (negsuc n) = plain_cents (suc n)

-- Huellas

digits_injective : (h k : List ℕ) → IsBytes h → IsBytes k → encode_upper h ≡ encode_upper k → h ≡ k
digits_injective h k here there e =
    let same = sym (decode_of-encode_upper h here) ∙ ap decode_of e ∙ decode_of-encode_upper k there in
    cc

pub previous_text_injective : (l m : Link) → HoldsHuella l → HoldsHuella m → previous_text l ≡ previous_text m →
    huella_before l ≡ huella_before m
previous_text_injective First First here there e = refl
previous_text_injective First (After id k) here there e =
    absurd (omega (arith, length-encode_with upper_digits k, there.long, ap length e))
previous_text_injective (After id h) First here there e =
    absurd (omega (arith, length-encode_with upper_digits h, here.long, ap length e))
previous_text_injective (After id h) (After id2 k) here there e = ap Some (digits_injective h k here.bytes there.bytes e)
