-- Encoded bytes, and the set of those that are escaped.
use Rattle.std.proofs.Common.{◌≡◌, ℕ, ◌/◌, ◌%◌, ◌<◌, Bool, true, false, not, cond, List, [], ◌∷◌, ◌++◌, length, get_or, All, refl}
use Rattle.std.proofs.Common.{sym, ap, ◌∙◌, subst, inl, inr, zero-add}
use Rattle.std.specs.Fmt.{digit_glyph}
use Rattle.std.specs.List.{list_all, range_with_len}
use Rattle.std.proofs.lemmas.Bool.{cond-true, cond-false, cases_Bool}
use Rattle.std.proofs.lemmas.List.Elements.{All-head, All-tail}
use Rattle.std.proofs.lemmas.List.FromFn.{get_or-range_with_len}
use Rattle.std.proofs.lemmas.List.Sums.{AllPass-from_list_all}
use Rattle.percent_encoding.specs.declared.ascii_set.AsciiSet.{AsciiSet}
use Rattle.percent_encoding.specs.AsciiSet.{should_percent_encode}
use Rattle.percent_encoding.specs.Percent.{percent_encode, percent_encode_byte}
use Rattle.percent_encoding.proofs.PercentLemmas.{IsByte, percent_encode-nil, percent_encode_escaped, percent_encode_kept}
use Rattle.verify_link.specs.Writing.{is_plain, encoded}

pub encoded-nil : encoded [] ≡ []
unfolding encoded
encoded-nil = refl

pub encoded-plain : (b : ℕ) (bs : List ℕ) → is_plain b ≡ true → encoded (b ∷ bs) ≡ b ∷ encoded bs
unfolding encoded
encoded-plain b bs plain = ap (λ x. x ++ encoded bs) (cond-true _ _ _ plain)

escaped_step : (b : ℕ) (bs : List ℕ) → is_plain b ≡ false → encoded (b ∷ bs) ≡ percent_encode_byte b ++ encoded bs
unfolding encoded
escaped_step b bs escaped = ap (λ x. x ++ encoded bs) (cond-false _ _ _ escaped)

pub encoded-escaped : (b : ℕ) (bs : List ℕ) → is_plain b ≡ false
    → encoded (b ∷ bs) ≡ 37 ∷ digit_glyph true (b / 16 % 16) ∷ digit_glyph true (b % 16) ∷ encoded bs
unfolding percent_encode_byte
encoded-escaped b bs escaped = escaped_step b bs escaped

-- all ASCII bytes but the plain ones
abbrev pub escaped_set : AsciiSet
escaped_set = record { mask = 0xb800000178000001fc009fffffffffff }

-- the set escapes the byte exactly where it isn't plain
agrees : ℕ → Bool
agrees b = cond (should_percent_encode escaped_set b) (not (is_plain b)) (is_plain b)

all_agree : list_all agrees (range_with_len 0 256) ≡ true
unfolding agrees should_percent_encode
all_agree = refl

agrees_at : (b : ℕ) → b < 256 → agrees b ≡ true
agrees_at b small =
    let within : b < length (range_with_len 0 256) = small in
    let there : agrees (get_or (range_with_len 0 256) b 0) ≡ true = AllPass-from_list_all agrees (range_with_len 0 256) all_agree
    b 0 within in
    let same : get_or (range_with_len 0 256) b 0 ≡ b = get_or-range_with_len 0 256 b 0 small ∙ zero-add b in
    subst (λ (x : ℕ). agrees x ≡ true) same there

-- a test that agrees is the other way round
test_is : (s p : Bool) → cond s (not p) p ≡ true → s ≡ not p
test_is true true e = cc
test_is true false e = refl
test_is false true e = refl
test_is false false e = cc

escapes : (b : ℕ) → b < 256 → should_percent_encode escaped_set b ≡ not (is_plain b)
unfolding agrees
escapes b small = test_is (should_percent_encode escaped_set b) (is_plain b) (agrees_at b small)

-- the crate's encoding, with that set, is this one
pub percent_encode-encoded : (bs : List ℕ) → All IsByte bs → percent_encode escaped_set bs ≡ encoded bs
percent_encode-encoded [] small = percent_encode-nil escaped_set ∙ sym encoded-nil
percent_encode-encoded (b ∷ bs) small =
    let rest = percent_encode-encoded bs (All-tail IsByte b bs small) in
    let is = escapes b (All-head IsByte b bs small) in
    elim (cases_Bool (is_plain b)) [
      | inl plain ↦ percent_encode_kept escaped_set b bs (is ∙ ap not plain) ∙ ap (λ x. b ∷ x) rest ∙
          sym (encoded-plain b bs plain)
      | inr escaped ↦ percent_encode_escaped escaped_set b bs (is ∙ ap not escaped) ∙ ap (λ x. percent_encode_byte b ++ x) rest ∙
          sym (escaped_step b bs escaped)
    ]
