-- A text that is a link has its fields in their places, and is the link of no other parts.
use Rattle.std.proofs.Common.{◌≡◌, ℕ, zero, suc, ◌+◌, ◌/◌, ◌%◌, ◌<◌, true, false, not, cond, eqb, List, [], ◌∷◌, ◌++◌, length}
use Rattle.std.proofs.Common.{take, drop, get_or, refl, sym, ap, ◌∙◌, arith, inl, inr, append_assoc, Result, Ok, Err, MatchResult}
use Rattle.std.proofs.Common.{ℤ, take-append-drop}
use Rattle.std.specs.Fmt.{digit_glyph}
use Rattle.std.specs.List.{before_first, position_or_len}
use Rattle.std.proofs.lemmas.Bool.{cases_Bool, cond-true, cond-false, both_ways}
use Rattle.std.proofs.lemmas.Bool.Decides.{nat_tests}
use Rattle.std.proofs.lemmas.List.{drop-drop, append_cancel_left, append-nil}
use Rattle.amounts.specs.Text.{amount_text}
use Rattle.stamps.specs.Text.{date_text_of}
use Rattle.verify_link.specs.declared.parts.Host.{Host}
use Rattle.verify_link.specs.declared.parts.Host.TheVariants.{Real, Practice}
use Rattle.verify_link.specs.declared.parts.LinkParts.{LinkParts}
use Rattle.verify_link.specs.declared.parts.LinkFault.{LinkFault}
use Rattle.verify_link.specs.declared.parts.LinkFault.TheVariants.{Prefix, Field, Escape, NoMemory}
use Rattle.verify_link.specs.Writing.{is_plain, encoded}
use Rattle.verify_link.specs.Parts.{beginning, link_text, IsLinkParts}
use Rattle.verify_link.specs.Reading.{Begins, name_of, value_in, value_of, is_ampersand, IsFieldValue, HasPlace, after_beginning}
use Rattle.verify_link.specs.Reading.{after_field, IsWrongField, unnamed, no_value, IsLinkReading}
use Rattle.verify_link.proofs.EncodingLemmas.{encoded-nil, encoded-plain, encoded-escaped}
use Rattle.verify_link.proofs.CapitalLemmas.{capitals, capitals_from, agree_from, due_past, shown, due_after, due_after-encoded}
use Rattle.verify_link.proofs.CapitalLemmas.{capitals-nil, capitals-cons, capitals-encoded, length-capitals, capitals-plain}
use Rattle.verify_link.proofs.CapitalLemmas.{joined, parts_of, unchanged, same_parts, has_no_percent}
use Rattle.verify_link.proofs.DecodingLemmas.{decoded, none_bad}
use Rattle.verify_link.proofs.ValueLemmas.{value_ascii}
use Rattle.verify_link.proofs.PlaceLemmas.{name_plain, name_due, beginning_plain, beginning_due, link_of_fields}

-- ---- ampersands

shown_ampersand : (due b : ℕ) → eqb (shown due b) 38 ≡ eqb b 38
shown_ampersand due b = grind (arith, nat_tests)

first_in_capitals : (due : ℕ) (text : List ℕ) → position_or_len is_ampersand (capitals due text) ≡ position_or_len is_ampersand
    text
first_in_capitals due [] = ap (position_or_len is_ampersand) (capitals-nil due)
first_in_capitals due (b ∷ rest) =
    ap (position_or_len is_ampersand) (capitals-cons due b rest)
    ∙ ap (λ e. cond (not e) (1 + position_or_len is_ampersand (capitals (due_past due b) rest)) 0) (shown_ampersand due b)
    ∙ ap (λ n. cond (not (eqb b 38)) (1 + n) 0) (first_in_capitals (due_past due b) rest)

plain_ampersand : (b : ℕ) → is_plain b ≡ true → eqb b 38 ≡ false
plain_ampersand b plain = grind (arith, nat_tests)

glyph_ampersand : (d : ℕ) → d < 16 → eqb (digit_glyph true d) 38 ≡ false
glyph_ampersand d small = grind (arith, nat_tests)

passed : (b n m : ℕ) (rest : List ℕ) → eqb b 38 ≡ false → position_or_len is_ampersand rest ≡ n → m ≡ 1 + n →
    position_or_len is_ampersand (b ∷ rest) ≡ m
passed b n m rest other is sum = ap (λ e. cond (not e) (1 + position_or_len is_ampersand rest) 0) other ∙ ap (λ k. 1 + k) is ∙
    sym sum

-- encoded bytes have none
first_after : (said rest : List ℕ) → position_or_len is_ampersand rest ≡ 0 → position_or_len is_ampersand (encoded said ++ rest) ≡
    length (encoded said)
first_after [] rest none = rw encoded-nil none
first_after (b ∷ bs) rest none =
    let tail = first_after bs rest none in
    elim (cases_Bool (is_plain b)) [
      | inl plain ↦ rw (encoded-plain b bs plain) (passed b (length (encoded bs)) _ (encoded bs ++ rest) (plain_ampersand b plain)
          tail (omega arith))
      | inr escaped ↦ (
          let high = digit_glyph true (b / 16 % 16) in
          let low = digit_glyph true (b % 16) in
          let after = encoded bs ++ rest in
          let n = length (encoded bs) in
          let third = passed low n (1 + n) after (glyph_ampersand (b % 16) (omega arith)) tail refl in
          let second = passed high (1 + n) (2 + n) (low ∷ after) (glyph_ampersand (b / 16 % 16) (omega arith)) third (omega arith)
          in
          rw (encoded-escaped b bs escaped) (passed 37 (2 + n) _ (high ∷ low ∷ after) refl second (omega arith)))
    ]

-- ---- the value of a field

-- the value ends where the encoded bytes do
value_found : (i : ℕ) (text said rest : List ℕ) → capitals 0 text ≡ encoded said ++ rest
    → (eqb i 3 ≡ true → rest ≡ []) → (eqb i 3 ≡ false → position_or_len is_ampersand rest ≡ 0)
    → capitals 0 (value_in i text) ≡ encoded said
value_found i text said rest is last inner =
    elim (cases_Bool (eqb i 3)) [
      | inl end ↦ (
          ap (capitals 0) (cond-true (eqb i 3) text (before_first is_ampersand text) end) ∙ is ∙ ap (λ x. encoded said ++ x)
          (last end) ∙ append-nil (encoded said))
      | inr more ↦ (
          let place : position_or_len is_ampersand text ≡ length (encoded said) =
          sym (first_in_capitals 0 text) ∙ ap (position_or_len is_ampersand) is ∙ first_after said rest (inner more) in
          ap (capitals 0) (cond-false (eqb i 3) text (before_first is_ampersand text) more)
          ∙ ap (λ n. capitals 0 (take n text)) place
          ∙ (parts_of text (encoded said) rest is (due_after-encoded said)).front_is)
    ]

-- ---- what stands from a field on

said_by : ℕ → LinkParts → List ℕ
said_by zero p = p.nif
said_by (suc zero) p = p.num
said_by (suc (suc zero)) p = date_text_of p.day
said_by (suc (suc (suc i))) p = amount_text p.total

abbrev field : ℕ → LinkParts → List ℕ
field i p = name_of i ++ encoded (said_by i p)

after : ℕ → LinkParts → List ℕ
after zero p = field 1 p ++ (field 2 p ++ (field 3 p ++ []))
after (suc zero) p = field 2 p ++ (field 3 p ++ [])
after (suc (suc zero)) p = field 3 p ++ []
after (suc (suc (suc i))) p = []

tail : ℕ → LinkParts → List ℕ
tail zero p = field 0 p ++ after 0 p
tail (suc i) p = after i p

tail_is : (i : ℕ) (p : LinkParts) → i < 4 → tail i p ≡ field i p ++ after i p
unfolding tail after
tail_is zero p within = refl
tail_is (suc zero) p within = refl
tail_is (suc (suc zero)) p within = refl
tail_is (suc (suc (suc zero))) p within = refl
tail_is (suc (suc (suc (suc i)))) p within = absurd (omega arith)

tail_last : (i : ℕ) (p : LinkParts) → eqb i 3 ≡ true → after i p ≡ []
unfolding after
tail_last zero p is = cc
tail_last (suc zero) p is = cc
tail_last (suc (suc zero)) p is = cc
tail_last (suc (suc (suc i))) p is = refl

tail_inner : (i : ℕ) (p : LinkParts) → position_or_len is_ampersand (after i p) ≡ 0
unfolding after
tail_inner zero p = refl
tail_inner (suc zero) p = refl
tail_inner (suc (suc zero)) p = refl
tail_inner (suc (suc (suc i))) p = refl

whole : (p : LinkParts) → link_text p ≡ beginning p.host ++ tail 0 p
unfolding tail after said_by
whole p = sym (link_of_fields p)

said_valid : (i : ℕ) (p : LinkParts) → IsLinkParts p → IsFieldValue i (said_by i p)
unfolding said_by
said_valid zero p valid = valid.nif
said_valid (suc zero) p valid = valid.num
said_valid (suc (suc zero)) p valid = (p.day, valid.day, refl)
said_valid (suc (suc (suc i))) p valid = (p.total, valid.total, refl)

-- ---- beginnings

begins_with : (front text rest : List ℕ) → capitals 0 text ≡ front ++ rest → has_no_percent front ≡ true → due_after 0 front ≡ 0 →
    Begins front text
begins_with front text rest is plain none =
    let parts = parts_of text front rest is none in
    let same : take (length front) text ≡ front = unchanged (take (length front) text) front parts.front_is plain in
    sym (take-append-drop (length front) text) ∙ ap (λ x. x ++ drop (length front) text) same

-- the two beginnings differ in their ninth byte
hosts_differ : (x y : List ℕ) → beginning Real ++ x ≡ beginning Practice ++ y → ⊥
hosts_differ x y e = let ninth : ◌≡◌ {A = ℕ} 119 112 = ap (λ (t : List ℕ). get_or t 8 0) e in absurd (omega arith)

pub same_host : (h k : Host) (x y : List ℕ) → beginning h ++ x ≡ beginning k ++ y → h ≡ k
same_host Real Real x y e = refl
same_host Real Practice x y e = absurd (hosts_differ x y e)
same_host Practice Real x y e = absurd (hosts_differ y x (sym e))
same_host Practice Practice x y e = refl

-- ---- places

-- a field in its place, and the rest of the text, in capitals
record Found (i at : ℕ) (text : List ℕ) (p : LinkParts) : Type 0 where
  named : Begins (name_of i) (drop at text)
  value : capitals 0 (value_of i (drop at text)) ≡ encoded (said_by i p)
  rest : capitals 0 (drop (at + length (name_of i) + length (value_of i (drop at text))) text) ≡ after i p

found : (i at : ℕ) (text : List ℕ) (p : LinkParts) → i < 4 → capitals 0 (drop at text) ≡ tail i p → Found i at text p
found i at text p within is =
    let name = name_of i in
    let bytes = encoded (said_by i p) in
    let whole : capitals 0 (drop at text) ≡ name ++ (bytes ++ after i p) = is ∙ tail_is i p within ∙ append_assoc name bytes
    (after i p) in
    let parts = parts_of (drop at text) name (bytes ++ after i p) whole (name_due i) in
    let here = drop (length name) (drop at text) in
    let value = value_found i here (said_by i p) (after i p) parts.rest_is (tail_last i p) (λ _. tail_inner i p) in
    let lengths : length (value_in i here) ≡ length bytes = sym (length-capitals 0 (value_in i here)) ∙ ap length value in
    let rests = parts_of here bytes (after i p) parts.rest_is (due_after-encoded (said_by i p)) in
    let place : drop (length (value_in i here)) here ≡ drop (at + length name + length (value_in i here)) text =
    ap (drop (length (value_in i here))) (drop-drop (length name) at text) ∙ drop-drop (length (value_in i here))
    (at + length name) text in
    record {
      named = begins_with name (drop at text) (bytes ++ after i p) whole (name_plain i) (name_due i);
      value = value;
      rest = ap (capitals 0) (sym place) ∙ ap (λ n. capitals 0 (drop n here)) lengths ∙ rests.rest_is;
    }

-- what follows a beginning that stands there
from_beginning : (host : Host) (text : List ℕ) (p : LinkParts) → capitals 0 text ≡ link_text p → Begins (beginning host) text
    → capitals 0 (drop (length (beginning host)) text) ≡ tail 0 p
from_beginning host text p is begins =
    let front = beginning host in
    let rest = capitals 0 (drop (length front) text) in
    let there : front ++ rest ≡ beginning p.host ++ tail 0 p =
    sym (ap (capitals 0) begins ∙ joined front (drop (length front) text) front (capitals-plain front (beginning_plain host))
    (beginning_due host))
    ∙ is ∙ whole p in
    let same : host ≡ p.host = same_host host p.host rest (tail 0 p) there in
    append_cancel_left front rest (tail 0 p) (there ∙ ap (λ k. beginning k ++ tail 0 p) (sym same))

in_place : (text : List ℕ) (p : LinkParts) → capitals 0 text ≡ link_text p → (i at : ℕ) → i < 5 → HasPlace text i at →
    capitals 0 (drop at text) ≡ tail i p
unfolding tail
in_place text p is i at within (after_beginning host begins) = from_beginning host text p is begins
in_place text p is i at within (after_field j place said placed valid right) =
    (found j place text p (omega arith) (in_place text p is j place (omega arith) placed)).rest

-- ---- no fault

not_wrong : (i at : ℕ) (text : List ℕ) (p : LinkParts) → IsLinkParts p → Found i at text p → ¬ (IsWrongField i (drop at text))
not_wrong i at text p valid it (unnamed none) = none it.named
not_wrong i at text p valid it (no_value named good none) = none (said_by i p) (said_valid i p valid)
    (agree_from (value_of i (drop at text)) (encoded (said_by i p)) it.value)

-- ---- no other parts

-- fields that are followed alike say the same
same_field : (i : ℕ) (q p : LinkParts) → IsLinkParts q → IsLinkParts p → field i q ++ after i q ≡ field i p ++ after i p
    → (said_by i q ≡ said_by i p) × (after i q ≡ after i p)
same_field i q p valid_q valid_p is =
    let name = name_of i in
    let left = encoded (said_by i q) in
    let right = encoded (said_by i p) in
    let rests : left ++ after i q ≡ right ++ after i p =
    append_cancel_left name (left ++ after i q) (right ++ after i p) (sym (append_assoc name left (after i q)) ∙ is ∙
    append_assoc name right (after i p)) in
    let lengths : length left ≡ length right =
    sym (first_after (said_by i q) (after i q) (tail_inner i q)) ∙ ap (position_or_len is_ampersand) rests ∙
    first_after (said_by i p) (after i p) (tail_inner i p) in
    let halves = same_parts left right (after i q) (after i p) lengths rests in
    let one = decoded (said_by i q) left (value_ascii i (said_by i q) (said_valid i q valid_q)) (capitals-encoded (said_by i q))
    in
    let other = decoded (said_by i p) left (value_ascii i (said_by i p) (said_valid i p valid_p)) (capitals-encoded (said_by i q)
    ∙ halves.0) in
    (sym one ∙ other, halves.1)

-- parts with equal fields
made : (p : LinkParts) (host : Host) (nif num : List ℕ) (day : ℕ) (total : ℤ) → host ≡ p.host → nif ≡ p.nif → num ≡ p.num →
    day ≡ p.day → total ≡ p.total
    → ◌≡◌ {A = LinkParts} (record { host = host; nif = nif; num = num; day = day; total = total }) p
made p host nif num day total a b c d e = rw (a, b, c, d, e) refl

-- each text writes one day, and one amount
abbrev pub DaysDiffer : Type 0
DaysDiffer = (n m : ℕ) → date_text_of n ≡ date_text_of m → n ≡ m

abbrev pub AmountsDiffer : Type 0
AmountsDiffer = (v w : ℤ) → amount_text v ≡ amount_text w → v ≡ w

same_link : DaysDiffer → AmountsDiffer → (q p : LinkParts) → IsLinkParts q → IsLinkParts p → link_text q ≡ link_text p → q ≡ p
unfolding after said_by tail
same_link days amounts q p valid_q valid_p is =
    let there : beginning q.host ++ tail 0 q ≡ beginning p.host ++ tail 0 p = sym (whole q) ∙ is ∙ whole p in
    let host : q.host ≡ p.host = same_host q.host p.host (tail 0 q) (tail 0 p) there in
    let tails : tail 0 q ≡ tail 0 p =
    append_cancel_left (beginning q.host) (tail 0 q) (tail 0 p) (there ∙ ap (λ k. beginning k ++ tail 0 p) (sym host)) in
    let nif = same_field 0 q p valid_q valid_p tails in
    let num = same_field 1 q p valid_q valid_p nif.1 in
    let day = same_field 2 q p valid_q valid_p num.1 in
    let total = same_field 3 q p valid_q valid_p day.1 in
    made p q.host q.nif q.num q.day q.total host nif.0 num.0 (days q.day p.day day.0) (amounts q.total p.total total.0)

-- ---- what the reading of a link gives

pub read_back : DaysDiffer → AmountsDiffer → (text : List ℕ) (p : LinkParts) → IsLinkParts p → capitals 0 text ≡ link_text p
    → (r : Result LinkParts LinkFault) → IsLinkReading text r → MatchResult r (λ (q : LinkParts). q ≡ p)
    (λ (fault : LinkFault). fault ≡ NoMemory)
read_back days amounts text p valid is (Ok q) reading = same_link days amounts q p reading.0 valid
    (sym (capitals_from text (link_text q) reading.1) ∙ is)
read_back days amounts text p valid is (Err Prefix) reading =
    absurd (reading p.host (begins_with (beginning p.host) text (tail 0 p) (is ∙ whole p) (beginning_plain p.host)
    (beginning_due p.host)))
read_back days amounts text p valid is (Err (Field j)) reading =
    let here = found reading.i reading.place text p reading.within (in_place text p is reading.i reading.place
    (omega (arith, reading.within)) reading.placed) in
    absurd (not_wrong reading.i reading.place text p valid here reading.fault_of.1)
read_back days amounts text p valid is (Err (Escape at)) reading =
    let here = found reading.i reading.place text p reading.within (in_place text p is reading.i reading.place
    (omega (arith, reading.within)) reading.placed) in
    let bad = reading.fault_of.2 in
    absurd (both_ways _ (none_bad (said_by reading.i p) (value_of reading.i (drop reading.place text)) bad.in_value here.value)
    bad.first.bad)
read_back days amounts text p valid is (Err NoMemory) reading = refl

-- ---- a link has its escapes in capitals

kept : (i : ℕ) (p : LinkParts) (rest : List ℕ) → capitals 0 rest ≡ rest → capitals 0 (field i p ++ rest) ≡ field i p ++ rest
kept i p rest is =
    let name = name_of i in
    let bytes = encoded (said_by i p) in
    ap (capitals 0) (append_assoc name bytes rest)
    ∙ joined name (bytes ++ rest) name (capitals-plain name (name_plain i)) (name_due i)
    ∙ ap (λ x. name ++ x) (joined bytes rest bytes (capitals-encoded (said_by i p)) (due_after-encoded (said_by i p)) ∙
    ap (λ x. bytes ++ x) is)
    ∙ sym (append_assoc name bytes rest)

pub capitals-link : (p : LinkParts) → capitals 0 (link_text p) ≡ link_text p
unfolding after tail
capitals-link p =
    let front = beginning p.host in
    let rest : capitals 0 (tail 0 p) ≡ tail 0 p = kept 0 p (after 0 p)
    (kept 1 p (after 1 p) (kept 2 p (after 2 p) (kept 3 p [] (capitals-nil 0)))) in
    ap (capitals 0) (whole p) ∙ joined front (tail 0 p) front (capitals-plain front (beginning_plain p.host))
    (beginning_due p.host)
    ∙ ap (λ x. front ++ x) rest ∙ sym (whole p)
