-- The texts that are written are ASCII.
use Rattle.std.proofs.Common.{◌≡◌, ℕ, ◌≤◌, ◌<◌, ◌*◌, lit<, List, [], ◌∷◌, length, Bool, true, false, cond, ltb, Ok, refl, arith, ◌∙◌}
use Rattle.std.specs.List.{AllByRecursion, list_all}
use Rattle.std.proofs.lemmas.Bool.{and_parts, ltb-true}
use Rattle.std.specs.Str.{IsAscii, IsUtf8}
use Rattle.std.specs.Str.Parse.{AllDigits}
use Rattle.std.proofs.lemmas.Str.{IsUtf8-append, IsUtf8-from_ascii}
use Rattle.std.proofs.lemmas.Str.Ascii.{IsAscii-cons, IsAscii-nil}
use Rattle.hex.specs.Hex.{encode_upper, upper_digits, decode_sized}
use Rattle.hex.proofs.HexLemmas.{IsAscii-encode_with, length-encode_with, decode_sized-twice, decode_of-encode_upper}
use Rattle.amounts.specs.Text.{whole_text}
use Rattle.amounts.proofs.WholeLemmas.{whole_text-is, digit_value-range}
use Rattle.stamps.specs.Day.{date_at}
use Rattle.stamps.specs.Text.{date_text_of}
use Rattle.tax_lines.specs.Classes.{class_text, is_free}
use Rattle.tax_lines.specs.Keys.{Key, key_text, tax_text}
use Rattle.tax_lines.specs.declared.classes.Class.{Class}
use Rattle.tax_lines.specs.declared.classes.Class.TheVariants.{General}
use Rattle.tax_lines.specs.declared.taxes.Tax.{Tax}
use Rattle.tax_lines.specs.declared.taxes.Tax.TheVariants.{Iva}
use Rattle.record_fields.specs.Valid.{IsHuella}

ascii_from_all : (bs : List ℕ) → AllByRecursion (λ (b : ℕ). b < 128) bs → IsAscii bs
ascii_from_all [] h = IsAscii-nil
ascii_from_all (b ∷ bs) h = IsAscii-cons b bs h.0 (ascii_from_all bs h.1)

-- the bytes are ASCII where a test of each of them says so, as it does of bytes that are written out
abbrev are_ascii : List ℕ → Bool
are_ascii bs = list_all (λ (b : ℕ). ltb b 128) bs

ascii_from_test : (bs : List ℕ) → are_ascii bs ≡ true → IsAscii bs
ascii_from_test [] h = IsAscii-nil
ascii_from_test (b ∷ bs) h =
    let both = and_parts (ltb b 128) (are_ascii bs) h in IsAscii-cons b bs (ltb-true b 128 both.0) (ascii_from_test bs both.1)

capitals : IsAscii upper_digits
capitals = ascii_from_test upper_digits refl

pub huella_is_text : (huella : List ℕ) → IsUtf8 (encode_upper huella)
huella_is_text huella = IsUtf8-from_ascii (encode_upper huella) (IsAscii-encode_with upper_digits huella capitals)

-- ---- keys

digits_are_ascii : (ds : List ℕ) → AllDigits 10 ds → IsAscii ds
digits_are_ascii [] all = IsAscii-nil
digits_are_ascii (d ∷ ds) all =
    let range = digit_value-range d all.0 in
    let high = range.1 in IsAscii-cons d ds (omega (arith, high)) (digits_are_ascii ds all.1)

class_is_ascii : (class : Class) → are_ascii (class_text class) ≡ true
class_is_ascii General = refl
class_is_ascii other = refl

tax_is_ascii : (tax : Tax) → are_ascii (tax_text tax) ≡ true
tax_is_ascii Iva = refl
tax_is_ascii other = refl

rest_is_text : (b : Bool) (class : Class) (rate : ℕ) → IsUtf8 (cond b (whole_text rate) (class_text class))
rest_is_text true class rate = IsUtf8-from_ascii (whole_text rate) (digits_are_ascii (whole_text rate) (whole_text-is rate).digits)
rest_is_text false class rate = IsUtf8-from_ascii (class_text class) (ascii_from_test (class_text class) (class_is_ascii class))

pub key_is_text : (key : Key) → IsUtf8 (key_text key)
key_is_text key =
    IsUtf8-append (tax_text key.tax) (cond (is_free key.class) (whole_text key.rate) (class_text key.class))
    (IsUtf8-from_ascii (tax_text key.tax) (ascii_from_test (tax_text key.tax) (tax_is_ascii key.tax)))
    (rest_is_text (is_free key.class) key.class key.rate)

pub date_is_text : (n : ℕ) → (date_at n).day ≤ 31 → (date_at n).month ≤ 12 → (date_at n).year ≤ 2100 → IsUtf8 (date_text_of n)
unfolding date_text_of
date_is_text n day month year = IsUtf8-from_ascii (date_text_of n) (ascii_from_all (date_text_of n) (
  omega arith,
  (
    omega arith,
    (
      lit< tt,
      (
        omega arith,
        (
          omega arith,
          (
            lit< tt,
            (
              omega arith,
              (
                omega arith,
                (
                  omega arith,
                  (
                    omega arith,
                    tt,
                  ),
                ),
              ),
            ),
          ),
        ),
      ),
    ),
  ),
))

-- 64 capital digits are read as their 32 bytes
pub huella_decoded : (huella : List ℕ) → IsHuella huella → decode_sized (encode_upper huella) 32 ≡ Ok huella
huella_decoded huella h =
    let long = length-encode_with upper_digits huella in
    let size : length (encode_upper huella) ≡ 2 * 32 = omega (arith, long, h.long) in
    decode_sized-twice (encode_upper huella) 32 size ∙ decode_of-encode_upper huella h.bytes
