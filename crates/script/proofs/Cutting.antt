-- A text cut at its first place of a byte, or at its first blank.
use Rattle.std.proofs.Common.{◌≡◌, ◌≢◌, ◌⊎◌, inl, inr, ℕ, ◌+◌, ◌-◌, ◌<◌, ◌≤◌, List, [], ◌∷◌, length, take, drop, get_or, refl}
use Rattle.std.proofs.Common.{sym, ap, arith, Option, Some, None, Bool, true, false, not, cond, ◌==◌, nat_lt, position}
use Rattle.std.proofs.Common.{length-drop, length-take, subst, MatchOption, All}
use Rattle.std.specs.List.{position_or_len}
use Rattle.std.proofs.Math.Seq.{take-length}
use Rattle.std.proofs.lemmas.Bool.{ltb-true}
use Rattle.std.proofs.lemmas.Bool.Decides.{nat_tests}
use Rattle.std.proofs.lemmas.List.Sums.{fails_before_first, position_or_len_is}
use Rattle.std.proofs.lemmas.List.Splits.{slice_split_first, slice_split_none}
use Rattle.std.specs.Borrow.{Bor}
use Rattle.std.specs.List.{list_any, slice_split, suffix_len, before_first, after_first}
use Rattle.std.specs.Option.{option_map_or}
use Rattle.std.specs.Str.{NoCharPasses}
use Rattle.std.specs.Str.Pattern.{FindsBy, RFindsChar, SplitsAroundMatch}
use Rattle.std.proofs.lemmas.Bool.{not_from_true, not_from_false, ne_eqb, eq-eqb}
use Rattle.std.proofs.lemmas.List.{get_or_default, get_or-drop, get_or-take}
use Rattle.std.proofs.lemmas.List.Folds.{list_any_none, list_any_at}
use Rattle.std.proofs.lemmas.List.Sums.{passes_at_first, suffix_len_is}
use Rattle.std.proofs.lemmas.Str.{NoCharPasses-byte, len_utf8_ascii}
use Rattle.std.proofs.lemmas.Str.Pattern.{IsSplitOnceResult, split_once_first, NoCharPasses-char}
use Rattle.script.specs.Fields.{is_blank}
use Rattle.script.specs.Cuts.{parts_of, has, cut_where, cut_at_first, cut_at_last}

some_at : (b : Bool) (n i : ℕ) → cond b (Some n) None ≡ Some i → (b ≡ true) × (n ≡ i)
some_at true n i e = (refl, cc)
some_at false n i e = absurd cc

none_at : (b : Bool) (n : ℕ) → cond b (Some n) None ≡ None → b ≡ false
none_at true n e = absurd cc
none_at false n e = refl

not_below : (a b : ℕ) → nat_lt a b ≡ false → b ≤ a
not_below a b e = grind (arith, nat_tests)

rest_is : (text : List ℕ) (at : ℕ) → take (length text - at) (drop at text) ≡ drop at text
rest_is text at = rw (← length-drop at text) (take-length (drop at text))

pub cut_there : (cut : ℕ) (text : List ℕ) (i : ℕ) → position (λ b. b == cut) text ≡ Some i →
    parts_of cut text ≡ take i text ∷ parts_of cut (take (length text - (i + 1)) (drop (i + 1) text))
cut_there cut text i e =
    let first = position_or_len (λ b. b == cut) text in
    let at = some_at (nat_lt first (length text)) first i e in
    rw (rest_is text (i + 1), ← at.1) (slice_split_first (λ b. b == cut) text 0 (ltb-true first (length text) at.0))

pub cut_nowhere : (cut : ℕ) (text : List ℕ) → position (λ b. b == cut) text ≡ None → parts_of cut text ≡ text ∷ []
cut_nowhere cut text e =
    let first = position_or_len (λ b. b == cut) text in
    let all : length text ≤ first = not_below first (length text) (none_at (nat_lt first (length text)) first e) in
    slice_split_none (λ b. b == cut) text (λ k d h. fails_before_first (λ b. b == cut) text k d (omega arith))

-- texts in two at the first byte that passes a test

has_case : (b : Bool) → (b ≡ true) ⊎ (b ≡ false)
has_case true = inl refl
has_case false = inr refl

lt_or : (a b : ℕ) → (a < b) ⊎ (b ≤ a)
lt_or a b = elim (has_case (nat_lt a b)) [ inl it ↦ inl (ltb-true a b it) | inr no_it ↦ inr (not_below a b no_it) ]

has_not : (p : ℕ → Bool) (bs : List ℕ) → position_or_len p bs ≡ length bs → list_any p bs ≡ false
has_not p bs h = list_any_none p bs (λ k d lt. fails_before_first p bs k d (omega (arith, h)))

has_yes : (p : ℕ → Bool) (bs : List ℕ) → position_or_len p bs < length bs → list_any p bs ≡ true
has_yes p bs lt = list_any_at p bs (position_or_len p bs) 0 lt (passes_at_first p bs 0 lt)

-- what a cut in two gives
abbrev pub Cuts : Option (List ℕ × List ℕ) → Option (Bor (List ℕ) × Bor (List ℕ)) → Type 0
Cuts cut r = MatchOption r (cut ≡ None) (λ (x : Bor (List ℕ) × Bor (List ℕ)). cut ≡ Some (x.0.now, x.1.now))

first_cut : (p : ℕ → Bool) (bs : List ℕ) (r : Option (Bor (List ℕ) × Bor (List ℕ)))
    → MatchOption r (position_or_len p bs ≡ length bs) (λ (x : Bor (List ℕ) × Bor (List ℕ)).
    (position_or_len p bs < length bs) × (x.0.now ≡ before_first p bs) × (x.1.now ≡ after_first p bs))
    → Cuts (cut_where p bs) r
first_cut p bs None h = rw (has_not p bs h) refl
first_cut p bs (Some x) h = rw (has_yes p bs h.0, h.1, h.2) refl

pub at_first : (c : ℕ) (bs : List ℕ) (r : Option (Bor (List ℕ) × Bor (List ℕ))) → IsSplitOnceResult c bs r → c < 128 →
    Cuts (cut_at_first c bs) r
at_first c bs r h small = first_cut (λ b. b == c) bs r (split_once_first c bs r h small)

-- at a blank

blank_small : (c : ℕ) → is_blank c ≡ true → c < 128
blank_small c h = grind (arith, nat_tests)

high_is_none : (b : ℕ) → 128 ≤ b → is_blank b ≡ false
high_is_none b h = grind (arith, nat_tests)

no_blank : (bs : List ℕ) → NoCharPasses is_blank bs → (k : ℕ) → k < length bs → is_blank (get_or bs k 0) ≡ false
no_blank bs h k lt =
    elim (lt_or (get_or bs k 0) 128) [
      | inl low ↦ NoCharPasses-byte is_blank bs k h lt low
      | inr high ↦ high_is_none (get_or bs k 0) high
    ]

-- what a search answers by each test that its pattern keeps to
abbrev FindsByEach : ((ℕ → Bool) → Type 0) → List ℕ → Option (ℕ × ℕ) → Type 0
FindsByEach Keeps bs r = (p : ℕ → Bool) → Keeps p → FindsBy p bs r

abbrev IsCutByEach : ((ℕ → Bool) → Type 0) → List ℕ → Option (Bor (List ℕ) × Bor (List ℕ)) → Type 0
IsCutByEach Keeps bs r = MatchOption r (FindsByEach Keeps bs None) (λ (x : Bor (List ℕ) × Bor (List ℕ)).
    SplitsAroundMatch (FindsByEach Keeps) bs x.0.now x.1.now)

blank_first : (bs : List ℕ) (i : ℕ) → NoCharPasses is_blank (take i bs) → i < length bs → is_blank (get_or bs i 0) ≡ true
    → position_or_len is_blank bs ≡ i
blank_first bs i none lt here =
    position_or_len_is is_blank bs i 0 (omega arith)
    (λ k below. subst (λ (b : ℕ). is_blank b ≡ false) (get_or-take i bs k 0 below)
    (no_blank (take i bs) none k (omega (arith, length-take i bs)))) (λ _. here)

pub at_blank : (Keeps : (ℕ → Bool) → Type 0) (bs : List ℕ) (r : Option (Bor (List ℕ) × Bor (List ℕ))) → IsCutByEach Keeps bs r →
    Keeps is_blank → Cuts (cut_where is_blank bs) r
at_blank Keeps bs None h blanks =
    let none = h is_blank blanks in
    let nowhere = list_any_none is_blank bs (λ k d lt. subst (λ (b : ℕ). is_blank b ≡ false) (get_or_default bs k 0 d lt)
    (no_blank bs none k lt)) in
    rw nowhere refl
at_blank Keeps bs (Some x) h blanks =
    let i = h.0 in
    let found = h.2 is_blank blanks in
    let c = found.1.0 in
    let low : c < 128 = blank_small c found.1.1 in
    let one : h.1 ≡ i + 1 = omega (arith, found.1.2.ends, len_utf8_ascii c low) in
    let lt : i < length bs = omega (arith, one, h.7) in
    let here : is_blank (get_or bs i 0) ≡ true = subst (λ (b : ℕ). is_blank b ≡ true) (sym (found.1.2.byte low)) found.1.1 in
    let at : position_or_len is_blank bs ≡ i = blank_first bs i found.0 lt here in
    let front : x.0.now ≡ before_first is_blank bs = rw (at, h.3) refl in
    let back : x.1.now ≡ after_first is_blank bs = rw (at, h.4, one) refl in
    first_cut is_blank bs (Some x) (omega arith, front, back)

no_sign : (bs : List ℕ) → NoCharPasses (λ d. d == 64) bs → has 64 bs ≡ false
no_sign bs h = list_any_none (λ b. b == 64) bs (λ k d lt. ne_eqb (get_or bs k d) 64 (rw (get_or_default bs k d 0 lt)
    (NoCharPasses-char 64 bs k h (omega arith) lt)))

there_is : (bs : List ℕ) (i : ℕ) → i < length bs → get_or bs i 0 ≡ 64 → has 64 bs ≡ true
there_is bs i lt e = list_any_at (λ b. b == 64) bs i 0 lt (eq-eqb (get_or bs i 0) 64 e)

after_it : (bs : List ℕ) (i k : ℕ) → NoCharPasses (λ d. d == 64) (drop (i + 1) bs) → i + 1 ≤ k → k < length bs →
    get_or bs k 0 ≢ 64
after_it bs i k h low high e =
    let within : k - (i + 1) < length (drop (i + 1) bs) = omega (arith, length-drop (i + 1) bs) in
    let same : i + 1 + (k - (i + 1)) ≡ k = omega arith in
    NoCharPasses-char 64 (drop (i + 1) bs) (k - (i + 1)) h (omega arith) within (rw (get_or-drop (i + 1) bs (k - (i + 1)) 0, same)
    e)

past_it : (bs : List ℕ) (i : ℕ) → i < length bs → get_or bs i 0 ≡ 64 → NoCharPasses (λ d. d == 64) (drop (i + 1) bs)
    → suffix_len (λ b. not (b == 64)) bs ≡ length bs - (i + 1)
past_it bs i lt e h =
    let back : i + 1 - 1 ≡ i = omega arith in
    suffix_len_is (λ b. not (b == 64)) bs (i + 1) 0 (omega arith)
    (λ k low high. not_from_false (get_or bs k 0 == 64) (ne_eqb (get_or bs k 0) 64 (after_it bs i k h low high)))
    (λ _. rw back (not_from_true (get_or bs i 0 == 64) (eq-eqb (get_or bs i 0) 64 e)))

last_at : (bs : List ℕ) (i : ℕ) → i < length bs → get_or bs i 0 ≡ 64 → NoCharPasses (λ d. d == 64) (drop (i + 1) bs)
    → cut_at_last 64 bs ≡ Some (take i bs, drop (i + 1) bs)
last_at bs i lt e h =
    let n = past_it bs i lt e h in
    let front : length bs - (length bs - (i + 1)) - 1 ≡ i = omega arith in
    let back : length bs - (length bs - (i + 1)) ≡ i + 1 = omega arith in
    rw (there_is bs i lt e, n, front, back) refl

abbrev IsLastCut : List ℕ → Option (Bor (List ℕ) × Bor (List ℕ)) → Type 0
IsLastCut bs r = MatchOption r (RFindsChar 64 bs None) (λ (x : Bor (List ℕ) × Bor (List ℕ)). SplitsAroundMatch (RFindsChar 64) bs
    x.0.now x.1.now)

pub at_last : (bs : List ℕ) (r : Option (Bor (List ℕ) × Bor (List ℕ))) → IsLastCut bs r → Cuts (cut_at_last 64 bs) r
at_last bs None h = rw (no_sign bs h) refl
at_last bs (Some x) h =
    let i = h.0 in
    let at : h.1 ≡ i + 1 = h.2.1.ends in
    let lt : i < length bs = omega (arith, at, h.7) in
    let here : get_or bs i 0 ≡ 64 = h.2.1.byte (omega arith) in
    let past = rw at at h.2.0 in
    rw (h.3, h.4, at) (last_at bs i lt here past)

-- the parts of a text that is cut
position_there : (p : ℕ → Bool) (bs : List ℕ) → list_any p bs ≡ true → position_or_len p bs < length bs
position_there p bs h =
    elim (lt_or (position_or_len p bs) (length bs)) [
      | inl lt ↦ lt
      | inr le ↦ let no = list_any_none p bs (λ k d lt. fails_before_first p bs k d (omega arith)) in absurd cc
    ]

none_there : (p : ℕ → Bool) (bs : List ℕ) → list_any p bs ≡ false → All (λ b. p b ≡ false) bs
none_there p bs h k d lt =
    elim (has_case (p (get_or bs k d))) [
      | inl it ↦ let there = list_any_at p bs k d lt it in absurd cc
      | inr no_it ↦ no_it
    ]

-- what a cut in two tells
same_cut : (x y : List ℕ × List ℕ) → Some x ≡ Some y → (x.0 ≡ y.0) × (x.1 ≡ y.1)
same_cut x y e = (
  ap (λ (o : Option (List ℕ × List ℕ)). option_map_or (λ (p : List ℕ × List ℕ). p.0) o x.0) e,
  ap (λ (o : Option (List ℕ × List ℕ)). option_map_or (λ (p : List ℕ × List ℕ). p.1) o x.1) e,
)

pub cut_parts : (p : ℕ → Bool) (bs front back : List ℕ) → cut_where p bs ≡ Some (front, back)
    → (list_any p bs ≡ true) × (before_first p bs ≡ front) × (after_first p bs ≡ back)
cut_parts p bs front back e =
    elim (has_case (list_any p bs)) [
      | inl it ↦
          let x : List ℕ × List ℕ = (before_first p bs, after_first p bs) in
          let y : List ℕ × List ℕ = (front, back) in
          let two = same_cut x y (rw it at e) in
          (it, two.0, two.1)
      | inr no_it ↦ let cut = rw no_it at e in absurd cc
    ]

pub no_parts : (p : ℕ → Bool) (bs : List ℕ) → cut_where p bs ≡ None → list_any p bs ≡ false
no_parts p bs e =
    elim (has_case (list_any p bs)) [
      | inl it ↦ let cut = rw it at e in absurd cc
      | inr no_it ↦ no_it
    ]

pub parts_there : (p : ℕ → Bool) (bs front back : List ℕ) → cut_where p bs ≡ Some (front, back) →
    slice_split p bs ≡ front ∷ slice_split p back
parts_there p bs front back e =
    let is = cut_parts p bs front back e in
    rw (← is.1, ← is.2) (slice_split_first p bs 0 (position_there p bs is.0))

pub parts_nowhere : (p : ℕ → Bool) (bs : List ℕ) → cut_where p bs ≡ None → slice_split p bs ≡ bs ∷ []
parts_nowhere p bs e = slice_split_none p bs (none_there p bs (no_parts p bs e))
