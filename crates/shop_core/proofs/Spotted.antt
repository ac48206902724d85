-- A number of a series is told from all others by its place.
use Rattle.std.proofs.Common.{◌≡◌, ◌≢◌, ℕ, zero, suc, ◌+◌, ◌-◌, ◌<◌, ◌≤◌, ◌^◌, List, [], ◌∷◌, ◌++◌, length, take, drop, min, Bool}
use Rattle.std.proofs.Common.{true, false, not, ◌&&◌, ◌==◌, nat_le, bytes_eq, Some, None, refl, sym, ap, subst, ◌∙◌, arith}
use Rattle.std.proofs.Common.{inl, inr, get_or, append_assoc, length-append, reverse}
use Rattle.std.specs.List.{suffix_len}
use Rattle.std.specs.Prelude.{decimal}
use Rattle.std.proofs.lemmas.Bool.{and_parts, and_from, cases_Bool, leb-true, false≢true}
use Rattle.std.proofs.lemmas.Bool.Decides.{nat_tests}
use Rattle.std.proofs.lemmas.Fmt.{decimal-digits_of}
use Rattle.std.proofs.lemmas.List.{drop_at, drop_more, get_or-reverse, length-reverse, length-take-le, take-append-drop}
use Rattle.std.proofs.lemmas.List.Sums.{prefix_len_stops}
use Rattle.std.proofs.lemmas.Slice.Eq.{bytes_eq-Decides}
use Rattle.amounts.specs.Text.{whole_text}
use Rattle.amounts.specs.declared.whole.TheConstants.{WHOLE_LIMIT}
use Rattle.record_fields.specs.Picks.{when}
use Rattle.series.specs.Numbers.{is_series, number_text, series_of}
use Rattle.shop_core.specs.Tables.Spots.{count_of, is_number_of, spot_of}
use Rattle.shop_core.specs.declared.tables.spots.Spot.{Spot}
use Rattle.shop_core.specs.declared.tables.spots.TheConstants.{MAX_OF_SERIES}

-- where the last dash stands
record DashAt (number : List ℕ) (n : ℕ) : Type 0 where
  pub front : series_of number ≡ take n number
  pub within : n < length number
  pub dash : get_or number n 0 ≡ 45

is_dash : (c : ℕ) → not (c == 45) ≡ false → c ≡ 45
is_dash c h = grind (arith, nat_tests)

some_front : (n : ℕ) (xs : List ℕ) → n ≤ length xs → 1 ≤ length (take n xs) → 1 ≤ n
some_front n xs le h = let l = length-take-le n xs le in omega (arith, l)

dash_at : (number : List ℕ) → 1 ≤ length (series_of number) →
    DashAt number (length number - suffix_len (λ (c : ℕ). not (c == 45)) number - 1)
unfolding series_of
dash_at number some =
    let q : ℕ → Bool = λ (c : ℕ). not (c == 45) in
    let s = suffix_len q number in
    let n = length number - s - 1 in
    let one : 1 ≤ n = some_front n number (omega arith) some in
    let r : length (reverse number) ≡ length number = length-reverse number in
    let stops : q (get_or (reverse number) s 0) ≡ false = prefix_len_stops q (reverse number) 0 (omega (arith, r, one)) in
    let there : get_or (reverse number) s 0 ≡ get_or number (length number - 1 - s) 0 =
    get_or-reverse number s 0 (omega (arith, one)) in
    let same : length number - 1 - s ≡ n = omega arith in
    record {
      front = refl;
      within = omega (arith, one);
      dash = ap (λ (k : ℕ). get_or number k 0) (sym same) ∙ sym there ∙ is_dash _ stops;
    }

-- a number that has a name before its last dash
pub parts_of : (number : List ℕ) → 1 ≤ length (series_of number) →
    number ≡ series_of number ++ 45 ∷ drop (1 + length (series_of number)) number
parts_of number some =
    let n = length number - suffix_len (λ (c : ℕ). not (c == 45)) number - 1 in
    let d = dash_at number some in
    let l : length (series_of number) ≡ n = ap length d.front ∙ length-take-le n number (omega (arith, d.within)) in
    let e : n + 1 ≡ 1 + length (series_of number) = omega (arith, l) in
    sym (take-append-drop n number) ∙ ap (λ (xs : List ℕ). xs ++ drop n number) (sym d.front)
    ∙ ap (λ (xs : List ℕ). series_of number ++ xs)
    (drop_more number n 0 d.within ∙ ap (λ (c : ℕ). c ∷ drop (n + 1) number) d.dash
    ∙ ap (λ (k : ℕ). 45 ∷ drop k number) e)

pub named_some : (name : List ℕ) → is_series name ≡ true → 1 ≤ length name
named_some name ok =
    let a = and_parts _ _ ok in
    let b = and_parts _ _ a.0 in
    leb-true 1 (length name) b.0

whole_is : (k : ℕ) → 0 < k → k < 2 ^ 64 → decimal k ≡ whole_text k
unfolding whole_text
whole_is zero some small = absurd (omega arith)
whole_is (suc k) some small = decimal-digits_of (suc k) some small

picked : {A : Type 0} (b : Bool) (x : A) → b ≡ true → Some x ≡ when b x
picked b x e = rw e refl

abbrev place_of : List ℕ → ℕ → Spot
place_of name k = record { series = name; index = k - 1 }

picked_at : (name : List ℕ) (n k : ℕ) (b : Bool) → n ≡ k → b ≡ true → Some (place_of name n) ≡ when b (place_of name k)
picked_at name n k b same e = ap (λ (m : ℕ). Some (place_of name m)) same ∙ picked b (place_of name k) e

dropped : {A : Type 0} (b : Bool) (x : A) → b ≡ false → None ≡ when b x
dropped b x e = rw e refl

record Counts (k : ℕ) : Type 0 where
  pub low : 1 ≤ k
  pub high : k ≤ MAX_OF_SERIES

counts : (k : ℕ) → (nat_le 1 k && nat_le k MAX_OF_SERIES) ≡ true → Counts k
counts k e = let p = and_parts _ _ e in record { low = leb-true 1 k p.0; high = leb-true k MAX_OF_SERIES p.1 }

-- what a number is that has a place
record IsKth (name : List ℕ) (k : ℕ) (number : List ℕ) : Type 0 where
  pub named : is_series name ≡ true
  pub is : number ≡ number_text name k
  pub range : Counts k

kth : (name : List ℕ) (k : ℕ) (number : List ℕ) → is_number_of name k number ≡ true → IsKth name k number
kth name k number e =
    let p = and_parts _ _ e in
    let q = and_parts _ _ p.0 in
    record { named = q.0; is = (bytes_eq-Decides number (number_text name k)).0 q.1; range = counts k p.1 }

-- no number has the place where a test of it fails
fails : (name : List ℕ) (k : ℕ) (number : List ℕ) → (IsKth name k number → false ≡ true) → is_number_of name k number ≡ false
fails name k number against = elim (cases_Bool (is_number_of name k number)) [
  | inl e ↦ absurd (false≢true (against (kth name k number e)))
  | inr e ↦ e
]

pub spot_yes : (number : List ℕ) (n : ℕ) → is_series (series_of number) ≡ true →
    whole_text (count_of number) ≡ drop (1 + length (series_of number)) number →
    n ≡ min (count_of number) WHOLE_LIMIT → (nat_le 1 n && nat_le n MAX_OF_SERIES) ≡ true →
    Some (record { series = series_of number; index = n - 1 }) ≡ spot_of number
unfolding spot_of
spot_yes number n ok text small within =
    let name = series_of number in
    let d = count_of number in
    let r = counts n within in
    let same : n ≡ d = omega (arith, small, r.high, r.low) in
    let whole : whole_text d ≡ decimal d = sym (whole_is d (omega (arith, same, r.low)) (omega (arith, same, r.high))) in
    let is : number ≡ number_text name d = parts_of number (named_some name ok) ∙
    ap (λ (ds : List ℕ). name ++ 45 ∷ ds) (sym text ∙ whole) in
    let equal : bytes_eq number (number_text name d) ≡ true = (bytes_eq-Decides number (number_text name d)).1 is in
    let tests : (nat_le 1 d && nat_le d MAX_OF_SERIES) ≡ true = subst (λ (m : ℕ). (nat_le 1 m && nat_le m MAX_OF_SERIES) ≡ true)
    same within in
    picked_at name n d (is_number_of name d number) same (and_from _ _ (and_from _ _ ok equal) tests)

pub spot_unwritten : (number : List ℕ) → ((v : ℕ) → drop (1 + length (series_of number)) number ≢ whole_text v) →
    None ≡ spot_of number
unfolding spot_of
spot_unwritten number none =
    let name = series_of number in
    let d = count_of number in
    dropped (is_number_of name d number) (record { series = name; index = d - 1 })
    (fails name d number (λ h.
    let two : number ≡ (name ++ 45 ∷ []) ++ decimal d = h.is ∙ sym (append_assoc name (45 ∷ []) (decimal d)) in
    let l : length (name ++ 45 ∷ []) ≡ 1 + length name = omega (arith, length-append name (45 ∷ [])) in
    absurd (none d (ap (drop (1 + length name)) two ∙ drop_at (name ++ 45 ∷ []) (decimal d) (1 + length name) l
    ∙ whole_is d h.range.low (omega (arith, h.range.high))))))

pub spot_uncounted : (number : List ℕ) (n : ℕ) → n ≡ min (count_of number) WHOLE_LIMIT →
    (nat_le 1 n && nat_le n MAX_OF_SERIES) ≡ false → None ≡ spot_of number
unfolding spot_of
spot_uncounted number n small without =
    let name = series_of number in
    let d = count_of number in
    dropped (is_number_of name d number) (record { series = name; index = d - 1 })
    (fails name d number (λ h.
    let same : n ≡ d = omega (arith, small, h.range.high) in
    let tests : (nat_le 1 n && nat_le n MAX_OF_SERIES) ≡ true = inside n (omega (arith, same, h.range.low))
    (omega (arith, same, h.range.high)) in
    sym without ∙ tests))
  where
    inside : (m : ℕ) → 1 ≤ m → m ≤ MAX_OF_SERIES → (nat_le 1 m && nat_le m MAX_OF_SERIES) ≡ true
    inside m low high = grind (arith, nat_tests)

pub spot_unnamed : (number : List ℕ) → (is_series (series_of number) ≡ true → false ≡ true) → None ≡ spot_of number
unfolding spot_of
spot_unnamed number e =
    let name = series_of number in
    let d = count_of number in
    dropped (is_number_of name d number) (record { series = name; index = d - 1 })
    (fails name d number (λ h. e h.named))

-- a place is of one number
placed_at : (number : List ℕ) (s : Spot) → spot_of number ≡ Some s → number ≡ number_text s.series (s.index + 1)
unfolding spot_of
placed_at number s e = elim (cases_Bool (is_number_of (series_of number) (count_of number) number)) [
  | inl t ↦
      let h = kth (series_of number) (count_of number) number t in
      let k : count_of number - 1 + 1 ≡ count_of number = omega (arith, h.range.low) in
      let same : record { series = series_of number; index = count_of number - 1 } ≡ s = cases s t e in
      h.is ∙ ap (λ (m : ℕ). number_text (series_of number) m) (sym k)
      ∙ ap (λ (p : Spot). number_text p.series (p.index + 1)) same
  | inr f ↦ absurd cc
]
  where
    cases : (p : Spot) → is_number_of (series_of number) (count_of number) number ≡ true → spot_of number ≡ Some p →
        record { series = series_of number; index = count_of number - 1 } ≡ p
    cases p t is = let h = picked _ (record { series = series_of number; index = count_of number - 1 }) t ∙ is in cc

pub one_number : (a b : List ℕ) (s : Spot) → spot_of a ≡ Some s → spot_of b ≡ Some s → a ≡ b
one_number a b s e f = placed_at a s e ∙ sym (placed_at b s f)

-- the same of a name that is known to be the one before the dash
pub parts_are : (number name : List ℕ) → name ≡ series_of number → is_series name ≡ true →
    number ≡ name ++ 45 ∷ drop (1 + length name) number
parts_are number name e ok =
    let named : is_series (series_of number) ≡ true = subst (λ (xs : List ℕ). is_series xs ≡ true) e ok in
    subst (λ (xs : List ℕ). number ≡ xs ++ 45 ∷ drop (1 + length xs) number) (sym e) (parts_of number (named_some _ named))

pub dash_within : (number name : List ℕ) → name ≡ series_of number → is_series name ≡ true → 1 + length name ≤ length number
dash_within number name e ok =
    let l : length number ≡ length name + length (45 ∷ drop (1 + length name) number) = ap length (parts_are number name e ok)
    ∙ length-append name (45 ∷ drop (1 + length name) number) in
    omega (arith, l)
