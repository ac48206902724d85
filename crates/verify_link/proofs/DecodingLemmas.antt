-- What a value whose escapes are encoded bytes decodes to.
use Rattle.std.proofs.Common.{◌≡◌, ℕ, zero, suc, ◌+◌, ◌*◌, ◌/◌, ◌%◌, ◌<◌, ◌≤◌, ◌≢◌, true, false, not, cond, eqb, List, [], ◌∷◌}
use Rattle.std.proofs.Common.{length, get_or, refl, sym, ap, ◌∙◌, arith, inl, inr, IsAscii, ◌&&◌}
use Rattle.std.specs.Char.{to_ascii_uppercase, digit_value, is_digit}
use Rattle.std.specs.Fmt.{digit_glyph}
use Rattle.std.proofs.lemmas.Bool.{cases_Bool, lt-ltb}
use Rattle.std.proofs.lemmas.Bool.Decides.{nat_tests}
use Rattle.std.proofs.lemmas.List.{get_or_past}
use Rattle.percent_encoding.specs.Percent.{percent_decode}
use Rattle.percent_encoding.proofs.PercentLemmas.{percent_decode-nil, percent_decode_not_percent, percent_decode_escape}
use Rattle.verify_link.specs.Writing.{is_plain, encoded, is_bad_escape}
use Rattle.verify_link.proofs.EncodingLemmas.{encoded-nil, encoded-plain, encoded-escaped}
use Rattle.verify_link.proofs.CapitalLemmas.{capitals, due_past, capitals-nil, capitals-cons, plain_percent}

-- a value that begins with an escape of the byte
record Escape (b : ℕ) (bs : List ℕ) (value : List ℕ) : Type 0 where
  high : ℕ
  low : ℕ
  rest : List ℕ
  whole : value ≡ 37 ∷ high ∷ low ∷ rest
  high_is : digit_value high ≡ b / 16 % 16
  low_is : digit_value low ≡ b % 16
  high_other : eqb high 37 ≡ false
  low_other : eqb low 37 ≡ false
  after : capitals 0 rest ≡ encoded bs

-- a digit whose capital writes d has the value d, and is no `%`
digit_of : (due c d : ℕ) → d < 16 → eqb due 0 ≡ false → cond (eqb due 0) c (to_ascii_uppercase c) ≡ digit_glyph true d →
    (digit_value c ≡ d) × (eqb c 37 ≡ false)
digit_of due c d small some e = (grind (arith, nat_tests), grind (arith, nat_tests))

same_cons : (b c : ℕ) (bs cs : List ℕ) → b ∷ bs ≡ c ∷ cs → (b ≡ c) × (bs ≡ cs)
same_cons b c bs cs e = (cc, cc)

no_cons : (b : ℕ) (bs : List ℕ) → [] ≡ b ∷ bs → ⊥
no_cons b bs e = cc

first_of : (due : ℕ) (value : List ℕ) (c : ℕ) (cs : List ℕ) → capitals due value ≡ c ∷ cs
    → (b : ℕ) × (rest : List ℕ) × (value ≡ b ∷ rest) × (cond (eqb due 0) b (to_ascii_uppercase b) ≡ c) ×
    (capitals (due_past due b) rest ≡ cs)
first_of due [] c cs e = absurd (no_cons c cs (sym (capitals-nil due) ∙ e))
first_of due (b ∷ rest) c cs e =
    let heads = same_cons _ c _ cs (sym (capitals-cons due b rest) ∙ e) in
    (b, rest, refl, heads.0, heads.1)

-- a list by its first element and the rest
led : (value : List ℕ) (b : ℕ) (rest : List ℕ) (c : ℕ) (cs : List ℕ) → value ≡ b ∷ rest → b ≡ c → rest ≡ cs → value ≡ c ∷ cs
led value b rest c cs whole same after = rw (whole, same, after) refl

escape_from : (b : ℕ) (bs value : List ℕ) → capitals 0 value ≡ 37 ∷ digit_glyph true (b / 16 % 16) ∷ digit_glyph true (b % 16) ∷
    encoded bs → Escape b bs value
escape_from b bs value e =
    let one = first_of 0 value 37 _ e in
    let percent : due_past 0 one.0 ≡ 2 = ap (due_past 0) one.3 in
    let two = first_of 2 one.1 (digit_glyph true (b / 16 % 16)) _ (ap (λ n. capitals n one.1) (sym percent) ∙ one.4) in
    let high = digit_of 2 two.0 (b / 16 % 16) (omega arith) refl two.3 in
    let next : due_past 2 two.0 ≡ 1 = ap (λ e. cond e 2 1) high.1 in
    let three = first_of 1 two.1 (digit_glyph true (b % 16)) (encoded bs) (ap (λ n. capitals n two.1) (sym next) ∙ two.4) in
    let low = digit_of 1 three.0 (b % 16) (omega arith) refl three.3 in
    let last : due_past 1 three.0 ≡ 0 = ap (λ e. cond e 2 0) low.1 in
    record {
      high = two.0;
      low = three.0;
      rest = three.1;
      whole = led value one.0 one.1 37 (two.0 ∷ three.0 ∷ three.1) one.2 one.3 (led one.1 two.0 two.1 two.0 (three.0 ∷ three.1)
          two.2 refl three.2);
      high_is = high.0;
      low_is = low.0;
      high_other = high.1;
      low_other = low.1;
      after = ap (λ n. capitals n three.1) (sym last) ∙ three.4;
    }

-- a value that begins with the plain byte
plain_from : (b : ℕ) (bs value : List ℕ) → is_plain b ≡ true → capitals 0 value ≡ b ∷ encoded bs → (rest : List ℕ) ×
    (value ≡ b ∷ rest) × (capitals 0 rest ≡ encoded bs)
plain_from b bs value plain e =
    let one = first_of 0 value b (encoded bs) e in
    let none : due_past 0 one.0 ≡ 0 = ap (due_past 0) one.3 ∙ ap (λ e. cond e 2 0) (plain_percent b plain) in
    (one.1, one.2 ∙ ap (λ x. x ∷ one.1) one.3, ap (λ n. capitals n one.1) (sym none) ∙ one.4)

nothing_from : (value : List ℕ) → capitals 0 value ≡ encoded [] → value ≡ []
nothing_from [] e = refl
nothing_from (b ∷ rest) e = absurd (no_cons _ _ (sym encoded-nil ∙ sym e ∙ capitals-cons 0 b rest))

not_percent : (b : ℕ) → is_plain b ≡ true → b ≢ 37
not_percent b plain e = grind (arith, nat_tests)

byte_of : (b high low : ℕ) → b < 128 → high ≡ b / 16 % 16 → low ≡ b % 16 → 16 * high + low ≡ b
byte_of b high low small is_high is_low = omega arith

-- decoding gives the bytes back
pub decoded : (said value : List ℕ) → IsAscii said → capitals 0 value ≡ encoded said → percent_decode value ≡ said
decoded [] value ascii e = rw (nothing_from value e) percent_decode-nil
decoded (b ∷ bs) value ascii e =
    elim (cases_Bool (is_plain b)) [
      | inl plain ↦ (
          let it = plain_from b bs value plain (e ∙ encoded-plain b bs plain) in
          ap percent_decode it.1 ∙ percent_decode_not_percent b it.0 (not_percent b plain) ∙
          ap (λ x. b ∷ x) (decoded bs it.0 (λ i. ascii (suc i)) it.2))
      | inr escaped ↦ (
          let it = escape_from b bs value (e ∙ encoded-escaped b bs escaped) in
          ap percent_decode it.whole
          ∙ percent_decode_escape 37 it.high it.low it.rest refl (rw it.high_is (omega arith)) (rw it.low_is (omega arith))
          ∙ ap (λ x. x ∷ percent_decode it.rest) (byte_of b (digit_value it.high) (digit_value it.low) (ascii 0) it.high_is
          it.low_is)
          ∙ ap (λ x. b ∷ x) (decoded bs it.rest (λ i. ascii (suc i)) it.after))
    ]

-- past the end nothing stands
pub none_past : (text : List ℕ) (k : ℕ) → length text ≤ k → is_bad_escape text k ≡ false
none_past text k past =
    ap (λ b. eqb b 37 && not (is_digit (get_or text (k + 1) 0) 16 && is_digit (get_or text (k + 2) 0) 16))
    (get_or_past text k 0 past)

further : (b : ℕ) (rest : List ℕ) (k : ℕ) → is_bad_escape (b ∷ rest) (suc k) ≡ is_bad_escape rest k
further b rest k =
    let one : suc k + 1 ≡ suc (k + 1) = omega arith in
    let two : suc k + 2 ≡ suc (k + 2) = omega arith in
    ap (λ n. eqb (get_or rest k 0) 37 && not (is_digit (get_or (b ∷ rest) n 0) 16 && is_digit (get_or (b ∷ rest) (suc k + 2) 0)
    16)) one
    ∙ ap (λ n. eqb (get_or rest k 0) 37 && not (is_digit (get_or rest (k + 1) 0) 16 && is_digit (get_or (b ∷ rest) n 0) 16)) two

no_start : (b : ℕ) (rest : List ℕ) → eqb b 37 ≡ false → is_bad_escape (b ∷ rest) 0 ≡ false
no_start b rest other = ap (λ e. e && not (is_digit (get_or rest 0 0) 16 && is_digit (get_or rest 1 0) 16)) other

whole_start : (high low : ℕ) (rest : List ℕ) → digit_value high < 16 → digit_value low < 16 →
    is_bad_escape (37 ∷ high ∷ low ∷ rest) 0 ≡ false
whole_start high low rest first second = ap (λ e. not (e && is_digit low 16)) (lt-ltb _ 16 first) ∙ ap not (lt-ltb _ 16 second)

after_plain : (b : ℕ) (rest : List ℕ) (k : ℕ) → eqb b 37 ≡ false → ((j : ℕ) → is_bad_escape rest j ≡ false) →
    is_bad_escape (b ∷ rest) k ≡ false
after_plain b rest zero other none = no_start b rest other
after_plain b rest (suc k) other none = further b rest k ∙ none k

after_escape : (high low : ℕ) (rest : List ℕ) (k : ℕ) → digit_value high < 16 → digit_value low < 16 → eqb high 37 ≡ false →
    eqb low 37 ≡ false
    → ((j : ℕ) → is_bad_escape rest j ≡ false) → is_bad_escape (37 ∷ high ∷ low ∷ rest) k ≡ false
after_escape high low rest zero first second high_other low_other none = whole_start high low rest first second
after_escape high low rest (suc k) first second high_other low_other none =
    further 37 (high ∷ low ∷ rest) k ∙ after_plain high (low ∷ rest) k high_other (λ j. after_plain low rest j low_other none)

-- a value whose escapes are encoded bytes has no bad one
pub none_bad : (said value : List ℕ) (k : ℕ) → capitals 0 value ≡ encoded said → is_bad_escape value k ≡ false
none_bad [] value k e = ap (λ v. is_bad_escape v k) (nothing_from value e) ∙ none_past [] k (omega arith)
none_bad (b ∷ bs) value k e =
    elim (cases_Bool (is_plain b)) [
      | inl plain ↦ (
          let it = plain_from b bs value plain (e ∙ encoded-plain b bs plain) in
          ap (λ v. is_bad_escape v k) it.1 ∙ after_plain b it.0 k (plain_percent b plain) (λ j. none_bad bs it.0 j it.2))
      | inr escaped ↦ (
          let it = escape_from b bs value (e ∙ encoded-escaped b bs escaped) in
          ap (λ v. is_bad_escape v k) it.whole
          ∙ after_escape it.high it.low it.rest k (rw it.high_is (omega arith)) (rw it.low_is (omega arith)) it.high_other
          it.low_other (λ j. none_bad bs it.rest j it.after))
    ]
