-- A link is ASCII.
use Rattle.std.proofs.Common.{◌≡◌, ℕ, ◌/◌, ◌%◌, ◌<◌, ◌&&◌, Bool, true, false, ltb, List, [], ◌∷◌, ◌++◌, refl, arith, inl, inr}
use Rattle.std.proofs.Common.{IsAscii, codes}
use Rattle.std.specs.Fmt.{digit_glyph}
use Rattle.std.specs.List.{list_all}
use Rattle.std.proofs.lemmas.Bool.{and_parts, cases_Bool, ltb-true}
use Rattle.std.proofs.lemmas.Bool.Decides.{nat_tests}
use Rattle.std.proofs.lemmas.Str.{IsAscii-append}
use Rattle.std.proofs.lemmas.Str.Ascii.{IsAscii-nil, IsAscii-cons}
use Rattle.verify_link.specs.declared.parts.Host.{Host}
use Rattle.verify_link.specs.declared.parts.Host.TheVariants.{Real, Practice}
use Rattle.verify_link.specs.Writing.{is_plain, encoded}
use Rattle.verify_link.specs.Parts.{beginning, joined_link}
use Rattle.verify_link.proofs.EncodingLemmas.{encoded-nil, encoded-plain, encoded-escaped}

plain_low : (b : ℕ) → is_plain b ≡ true → b < 128
plain_low b plain = grind (arith, nat_tests)

glyph_low : (d : ℕ) → d < 16 → digit_glyph true d < 128
glyph_low d small = grind (arith, nat_tests)

encoded_ascii : (bs : List ℕ) → IsAscii (encoded bs)
encoded_ascii [] = rw encoded-nil IsAscii-nil
encoded_ascii (b ∷ bs) =
    elim (cases_Bool (is_plain b)) [
      | inl plain ↦ rw (encoded-plain b bs plain) (IsAscii-cons b (encoded bs) (plain_low b plain) (encoded_ascii bs))
      | inr escaped ↦ (
          let high = digit_glyph true (b / 16 % 16) in
          let low = digit_glyph true (b % 16) in
          rw (encoded-escaped b bs escaped) (
          IsAscii-cons 37 (high ∷ low ∷ encoded bs) (omega arith)
          (IsAscii-cons high (low ∷ encoded bs) (glyph_low (b / 16 % 16) (omega arith))
          (IsAscii-cons low (encoded bs) (glyph_low (b % 16) (omega arith)) (encoded_ascii bs)))))
    ]

-- a text whose bytes pass the test
low : (text : List ℕ) → list_all (λ c. ltb c 128) text ≡ true → IsAscii text
low [] all = IsAscii-nil
low (c ∷ rest) all =
    let parts = and_parts (ltb c 128) (list_all (λ c. ltb c 128) rest) all in
    IsAscii-cons c rest (ltb-true c 128 parts.0) (low rest parts.1)

beginning_low : (host : Host) → list_all (λ c. ltb c 128) (beginning host) ≡ true
beginning_low Real = refl
beginning_low Practice = refl

add : (text name value : List ℕ) → IsAscii text → list_all (λ c. ltb c 128) name ≡ true →
    IsAscii ((text ++ name) ++ encoded value)
add text name value ascii is = IsAscii-append (text ++ name) (encoded value) (IsAscii-append text name ascii (low name is))
    (encoded_ascii value)

pub link_ascii : (host : Host) (nif num date importe : List ℕ) → IsAscii (joined_link host nif num date importe)
unfolding joined_link
link_ascii host nif num date importe =
    let one = (beginning host ++ codes "nif=") ++ encoded nif in
    let two = (one ++ codes "&numserie=") ++ encoded num in
    let three = (two ++ codes "&fecha=") ++ encoded date in
    add three (codes "&importe=") importe
    (add two (codes "&fecha=") date
    (add one (codes "&numserie=") num
    (add (beginning host) (codes "nif=") nif (low (beginning host) (beginning_low host)) refl) refl) refl) refl
