-- The tills of a script.
use Rattle.std.proofs.Common.{◌≡◌, ℕ, zero, suc, ◌+◌, ◌<◌, ◌≤◌, cond, Bool, true, false, List, [], ◌∷◌, ◌++◌, length, map}
use Rattle.std.proofs.Common.{get_or, take, ap, sym, ◌∙◌, subst, arith, All}
use Rattle.std.specs.Prelude.{◌≢◌, filter, AllPairs}
use Rattle.std.specs.List.{AllByRecursion, range_with_len}
use Rattle.std.proofs.lemmas.List.{get_or-map, length-append, length-map, take_more}
use Rattle.std.proofs.lemmas.List.Elements.{filter-append}
use Rattle.std.proofs.lemmas.List.FromFn.{get_or-range_with_len, length-range_with_len}
use Rattle.std.proofs.lemmas.List.Kept.{AllPairs-filter}
use Rattle.std.proofs.lemmas.List.Sums.{count_by-le-length, length-filter, sum_by-take-le}
use Rattle.sender_session.proofs.Lists.{all_of_each, each_of_all}

range_suc : (a n : ℕ) → range_with_len a (suc n) ≡ range_with_len a n ++ (a + n) ∷ []
range_suc a zero = ap (λ (k : ℕ). k ∷ []) (let e : a ≡ a + 0 = omega arith in e)
range_suc a (suc n) = ap (λ (l : List ℕ). a ∷ l) (range_suc (a + 1) n) ∙ ap (λ (k : ℕ). a ∷ (range_with_len (a + 1) n ++ k ∷ []))
    (let e : a + 1 + n ≡ a + suc n = omega arith in e)

pub range_more : (a n : ℕ) → range_with_len a (n + 1) ≡ range_with_len a n ++ (a + n) ∷ []
range_more a n = ap (λ (k : ℕ). range_with_len a k) (let e : n + 1 ≡ suc n = omega arith in e) ∙ range_suc a n

-- one number more was tested
pub filter_next : (p : ℕ → Bool) (n : ℕ) → filter p (range_with_len 1 (n + 1)) ≡ filter p (range_with_len 1 n) ++ filter p
    ((n + 1) ∷ [])
filter_next p n = ap (λ (l : List ℕ). filter p l) (range_more 1 n) ∙ filter-append p (range_with_len 1 n) ((1 + n) ∷ []) ∙
    ap (λ (k : ℕ). filter p (range_with_len 1 n) ++ filter p (k ∷ [])) (let e : 1 + n ≡ n + 1 = omega arith in e)

pub each_filtered : {X : Type 0} (P : X → Type 0) (p : X → Bool) (xs : List X) → AllByRecursion P xs → AllByRecursion P (filter p xs)
each_filtered P p [] h = tt
each_filtered {X} P p (x ∷ xs) h = by_test (p x) (each_filtered P p xs h.1)
  where
    by_test : (b : Bool) → AllByRecursion P (filter p xs) → AllByRecursion P (cond b (x ∷ filter p xs) (filter p xs))
    by_test true rest = (h.0, rest)
    by_test false rest = rest

-- the numbers of a range that pass a test lie in it
pub within : (p : ℕ → Bool) (a n : ℕ) → All (λ (x : ℕ). (a ≤ x) × (x < a + n)) (filter p (range_with_len a n))
within p a n =
    let in_range : All (λ (x : ℕ). (a ≤ x) × (x < a + n)) (range_with_len a n) = λ i d l.
    let long = length-range_with_len a n in
    let at = get_or-range_with_len a n i d (omega (arith, l, long)) in
    (omega (arith, at), omega (arith, at, l, long)) in
    all_of_each (λ (x : ℕ). (a ≤ x) × (x < a + n)) (filter p (range_with_len a n)) (each_filtered (λ (x : ℕ). (a ≤ x) ×
    (x < a + n)) p (range_with_len a n) (each_of_all (λ (x : ℕ). (a ≤ x) × (x < a + n)) (range_with_len a n) in_range))

pub distinct : (p : ℕ → Bool) (a n : ℕ) → AllPairs (λ (x y : ℕ). x ≢ y) (filter p (range_with_len a n))
distinct p a n = AllPairs-filter (λ (x y : ℕ). x ≢ y) p (range_with_len a n) (λ i j d below l e.
    let long = length-range_with_len a n in
    let x = get_or-range_with_len a n i d (omega (arith, below, l, long)) in
    let y = get_or-range_with_len a n j d (omega (arith, l, long)) in
    omega (arith, x, y, below, e))

-- what holds of each two of a list that was mapped holds of what it was made of
pub pairs_of : {X Y : Type 0} (f : X → Y) (R : Y → Y → Type 0) (xs : List X) (ys : List Y) → map f xs ≡ ys → AllPairs R ys →
    AllPairs (λ (x y : X). R (f x) (f y)) xs
pairs_of f R xs ys e h = λ i j d below l.
    let mapped : AllPairs R (map f xs) = subst (λ (zs : List _). AllPairs R zs) (sym e) h in
    let long = length-map xs f in
    let x = get_or-map f xs i d (f d) (omega (arith, below, l)) in
    let y = get_or-map f xs j d (f d) l in
    let r = mapped i j (f d) below (omega (arith, l, long)) in
    rw (sym x, sym y) r

pub each_of_map : {X Y : Type 0} (f : X → Y) (P : Y → Type 0) (xs : List X) (ys : List Y) → map f xs ≡ ys → All P ys →
    All (λ (x : X). P (f x)) xs
each_of_map f P xs ys e h = λ i d l.
    let mapped : All P (map f xs) = subst (λ (zs : List _). All P zs) (sym e) h in
    let long = length-map xs f in
    let x = get_or-map f xs i d (f d) l in
    let r = mapped i (f d) (omega (arith, l, long)) in
    rw (sym x) r

pub filter_at_most : {X : Type 0} (p : X → Bool) (xs : List X) → length (filter p xs) ≤ length xs
filter_at_most p xs = let a = length-filter p xs in let b = count_by-le-length p xs in omega (arith, a, b)

-- one element more was tested: there is room for it where there is room for all
pub filter_room : {X : Type 0} (p : X → Bool) (xs : List X) (i : ℕ) (x : X) → i < length xs → x ≡ get_or xs i x →
    length (filter p (take i xs)) + length (filter p (x ∷ [])) ≤ length (filter p xs)
filter_room {X} p xs i x below is =
    let more : filter p (take (i + 1) xs) ≡ filter p (take i xs) ++ filter p (x ∷ []) =
    ap (λ (l : List X). filter p l) (take_more xs i x below ∙ ap (λ (y : X). take i xs ++ y ∷ []) (sym is)) ∙
    filter-append p (take i xs) (x ∷ []) in
    let a = ap (λ (l : List X). length l) more in
    let b = length-append (filter p (take i xs)) (filter p (x ∷ [])) in
    let e = length-filter p (take (i + 1) xs) in
    let f = length-filter p xs in
    let g = sum_by-take-le (λ (y : X). cond (p y) 1 0) xs (i + 1) in
    omega (arith, a, b, e, f, g)

-- the own asks of a till among the first of these, and among one more
pub filter_take : {X : Type 0} (p : X → Bool) (xs : List X) (i : ℕ) (x : X) → i < length xs → x ≡ get_or xs i x →
    filter p (take i xs ++ x ∷ []) ≡ filter p (take (i + 1) xs)
filter_take {X} p xs i x below is = ap (λ (l : List X). filter p l)
    (sym (take_more xs i x below ∙ ap (λ (y : X). take i xs ++ y ∷ []) (sym is)))

pub one_more : {X : Type 0} (p : X → Bool) (xs : List X) (x : X) → p x ≡ true → filter p xs ++ x ∷ [] ≡ filter p (xs ++ x ∷ [])
one_more {X} p xs x is = ap (λ (b : Bool). filter p xs ++ cond b (x ∷ []) []) (sym is) ∙ sym (filter-append p xs (x ∷ []))
