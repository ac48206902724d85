-- Items that stand one after another at their places.
use Rattle.std.proofs.Common.{◌≡◌, inl, inr, ℕ, zero, suc, ◌+◌, ◌<◌, ◌≤◌, ◌==◌, cond, List, [], ◌∷◌, ◌++◌, length, map, Some}
use Rattle.std.proofs.Common.{All, slice_get, refl, ap, sym, ◌∙◌, subst, arith, append_assoc, length-append}
use Rattle.std.specs.Prelude.{count_by}
use Rattle.std.specs.List.{AllByRecursion, enumerate_from}
use Rattle.std.proofs.lemmas.Bool.Decides.{nat_tests, eqb_tells}
use Rattle.std.proofs.lemmas.List.Elements.{All-from_recursion}
use Rattle.std.proofs.lemmas.List.Sums.{sum_by-cons}
use Rattle.standby.specs.Pairs.{places_from}

-- none of them stands before the first place
none_early : {I : Type 0} (n b : ℕ) (xs : List I) → n < b → count_by (λ (z : ℕ × I). z.0 == n) (enumerate_from b xs) ≡ 0
none_early n b [] lt = refl
none_early {I} n b (x ∷ xs) lt =
    let split = sum_by-cons (λ (z : ℕ × I). cond (z.0 == n) 1 0) (b, x) (enumerate_from (b + 1) xs) in
    let here : ◌≡◌ {A = ℕ} (cond (b == n) 1 0) 0 = (let ne : b ≡ n → ⊥ = (λ e. absurd (omega (arith, e, lt))) in
    grind (arith, nat_tests, ne)) in
    let rest = none_early n (b + 1) xs (omega (arith, lt)) in
    omega (arith, split, here, rest)

-- one of them stands at each place
pub one_each : {I : Type 0} (n b : ℕ) (xs : List I) → b ≤ n → n < b + length xs →
    count_by (λ (z : ℕ × I). z.0 == n) (enumerate_from b xs) ≡ 1
one_each n b [] low high = absurd (omega (arith, low, high))
one_each {I} n b (x ∷ xs) low high =
    let split = sum_by-cons (λ (z : ℕ × I). cond (z.0 == n) 1 0) (b, x) (enumerate_from (b + 1) xs) in
    elim (eqb_tells b n) [
      | inl same ↦ (let here : ◌≡◌ {A = ℕ} (cond (b == n) 1 0) 1 = (let is : b ≡ n = same.1 in grind (arith, nat_tests, is)) in
          let is = same.1 in
          let rest = none_early n (b + 1) xs (omega (arith, is)) in
          omega (arith, split, here, rest))
      | inr apart ↦ (let here : ◌≡◌ {A = ℕ} (cond (b == n) 1 0) 0 = (let ne : b ≡ n → ⊥ = apart.1 in grind (arith, nat_tests, ne)) in
          let more : b < n = (let ne : b ≡ n → ⊥ = apart.1 in grind (arith, nat_tests, ne, low)) in
          let rest = one_each n (b + 1) xs (omega (arith, more)) (omega (arith, high)) in
          omega (arith, split, here, rest))
    ]

get_at : {I : Type 0} (front : List I) (x : I) (xs : List I) → slice_get (front ++ x ∷ xs) (length front) ≡ Some x
get_at [] x xs = refl
get_at (y ∷ front) x xs = get_at front x xs

-- each stands where it is said to
stand_each : {I : Type 0} (front xs : List I) (b : ℕ) → b ≡ length front →
    AllByRecursion (λ (z : ℕ × I). slice_get (front ++ xs) z.0 ≡ Some z.1) (enumerate_from b xs)
stand_each front [] b e = tt
stand_each {I} front (x ∷ xs) b e =
    let next : (front ++ x ∷ []) ++ xs ≡ front ++ x ∷ xs = append_assoc front (x ∷ []) xs in
    let n = length-append front (x ∷ []) in (
      subst (λ (k : ℕ). slice_get (front ++ x ∷ xs) k ≡ Some x) (sym e) (get_at front x xs),
      subst (λ (l : List I). AllByRecursion (λ (z : ℕ × I). slice_get l z.0 ≡ Some z.1) (enumerate_from (b + 1) xs)) next
          (stand_each (front ++ x ∷ []) xs (b + 1) (omega (arith, e, n))),
    )

pub stand_at : {I : Type 0} (front xs : List I) → All (λ (z : ℕ × I). slice_get (front ++ xs) z.0 ≡ Some z.1)
    (enumerate_from (length front) xs)
stand_at {I} front xs = All-from_recursion (λ (z : ℕ × I). slice_get (front ++ xs) z.0 ≡ Some z.1) (enumerate_from (length front) xs)
    (stand_each front xs (length front) refl)

places_then : (n k : ℕ) → n ∷ places_from (n + 1) k ≡ places_from n (suc k)
places_then n zero = ap (λ (m : ℕ). m ∷ []) (let e : n ≡ n + 0 = omega arith in e)
places_then n (suc k) =
    let e : n + 1 + k ≡ n + suc k = omega arith in
    ap (λ (l : List ℕ). l ++ (n + 1 + k) ∷ []) (places_then n k) ∙
    ap (λ (m : ℕ). places_from n (suc k) ++ m ∷ []) e

-- their places
pub places_are : {I : Type 0} (n : ℕ) (xs : List I) → map (λ (z : ℕ × I). z.0) (enumerate_from n xs) ≡ places_from n (length xs)
places_are n [] = refl
places_are n (x ∷ xs) = ap (λ (l : List ℕ). n ∷ l) (places_are (n + 1) xs) ∙ places_then n (length xs)
