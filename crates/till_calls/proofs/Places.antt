-- The items of one pass among those of all.
use Rattle.std.proofs.Common.{◌≡◌, ◌⊎◌, inl, inr, ℕ, zero, suc, ◌+◌, ◌-◌, ◌<◌, ◌≤◌, ◌==◌, Bool, false, cond, List, [], ◌∷◌, ◌++◌}
use Rattle.std.proofs.Common.{length, drop, map, Some, slice_get, All, refl, ap, sym, ◌∙◌, subst, arith}
use Rattle.std.specs.Prelude.{filter, count_by}
use Rattle.std.proofs.lemmas.Bool.{cases_lt}
use Rattle.std.proofs.lemmas.Bool.Decides.{nat_tests, eqb_tells}
use Rattle.std.proofs.lemmas.Grind.{common_steps}
use Rattle.std.proofs.lemmas.List.{length-append}
use Rattle.std.proofs.lemmas.Option.{slice_get_within}
use Rattle.std.proofs.lemmas.List.Sums.{sum_by-cons}
use Rattle.chain_lock.specs.Known.{Known, Fits, times_owned, owners}
use Rattle.chain_lock.specs.Lists.{EachOf, placed, total}

-- the places rise strictly, from low on and below high
abbrev pub Rises : {I : Type 0} → ℕ → ℕ → List (ℕ × I) → Type 0
Rises low high [] = low ≤ high
Rises low high (x ∷ xs) = (low ≤ x.0) × (x.0 < high) × Rises (x.0 + 1) high xs

placed_is : {I : Type 0} (k : ℕ) (xs : List (ℕ × I)) → placed k xs ≡ count_by (λ x. x.0 == k) xs
placed_is k [] = refl
placed_is {I} k (x ∷ xs) = ap (λ w. cond (x.0 == k) 1 0 + w) (placed_is k xs) ∙
    sym (sum_by-cons (λ (y : ℕ × I). cond (y.0 == k) 1 0) x xs)

owners_is : {I R : Type 0} (n : ℕ) (ks : List (Known I R)) → total (λ (k : Known I R). placed n k.own) ks ≡ owners n ks
owners_is n [] = refl
owners_is {I} {R} n (k ∷ ks) =
    ap (λ w. w + total (λ (j : Known I R). placed n j.own) ks) (placed_is n k.own) ∙ ap (λ w. times_owned n k + w)
    (owners_is n ks) ∙ sym (sum_by-cons (λ (j : Known I R). times_owned n j) k ks)

pub all_each : {A : Type 0} (P : A → Type 0) (xs : List A) → All P xs → EachOf P xs
all_each P [] h = tt
all_each P (x ∷ xs) h = (h 0 x (omega arith), all_each P xs (λ k d l. h (suc k) d (omega arith)))

module _ {I : Type 0} where
  none_below : (low high k : ℕ) (own : List (ℕ × I)) → Rises low high own → k < low → placed k own ≡ 0
  none_below low high k [] r below = refl
  none_below low high k (x ∷ xs) r below =
      let rest = none_below (x.0 + 1) high k xs r.2 (omega (arith, r.0, below)) in
      let first : ◌≡◌ {A = ℕ} (cond (x.0 == k) 1 0) 0 = (let ne : x.0 ≡ k → ⊥ = λ e. omega (arith, e, r.0, below) in
      grind (arith, nat_tests, ne)) in
      omega (arith, rest, first)

  -- an item that stands so far after n
  abbrev At : List I → ℕ → ℕ × I → Type 0
  At rest n z = (m : ℕ) × (z.0 ≡ n + m) × (slice_get rest m ≡ Some z.1)

  at_next : (x : I) (rest : List I) (n low high : ℕ) (own : List (ℕ × I)) → n < low → Rises low high own →
      EachOf (At (x ∷ rest) n) own → EachOf (At rest (n + 1)) own
  at_next x rest n low high [] above r h = tt
  at_next x rest n low high (z ∷ zs) above r h = (
    here h.0.0 h.0.1 h.0.2,
    at_next x rest n (z.0 + 1) high zs
        (omega (arith, above, r.0)) r.2 h.1,
  )
    where
      here : (m : ℕ) → z.0 ≡ n + m → slice_get (x ∷ rest) m ≡ Some z.1 → At rest (n + 1) z
      here zero e g = absurd (omega (arith, e, above, r.0))
      here (suc m) e g = (m, omega (arith, e), g)

  get_behind : (b r : List I) (m : ℕ) → slice_get (b ++ r) (length b + m) ≡ slice_get r m
  get_behind [] r m = ap (λ (k : ℕ). slice_get r k) (let e : 0 + m ≡ m = omega arith in e)
  get_behind (x ∷ b) r m = ap (λ (k : ℕ). slice_get (x ∷ (b ++ r)) k) (let e : length (x ∷ b) + m ≡ suc (length b + m) =
      omega arith in e) ∙ get_behind b r m

  stands : (base rest : List I) (low high : ℕ) (own : List (ℕ × I)) → length base ≤ low → Rises low high own →
      EachOf (λ (z : ℕ × I). slice_get (base ++ rest) z.0 ≡ Some z.1) own →
      EachOf (At rest (length base)) own
  stands base rest low high [] past r at = tt
  stands base rest low high (z ∷ zs) past r at =
      let e : z.0 ≡ length base + (z.0 - length base) = omega (arith, past, r.0) in (
        (
          z.0 - length base,
          e,
          sym (get_behind base rest (z.0 - length base)) ∙ subst (λ (k : ℕ). slice_get (base ++ rest) k ≡ Some
              z.1) e at.0,
        ),
        stands base rest (z.0 + 1) high zs (omega (arith, past, r.0)) r.2 at.1,
      )

  no_more : (low high : ℕ) (own : List (ℕ × I)) → high ≤ low → Rises low high own → own ≡ []
  no_more low high [] past r = refl
  no_more low high (x ∷ xs) past r = absurd (omega (arith, past, r.0, r.1))

  module _ (T : I → Bool) where
    abbrev kept : List (ℕ × I) → List I
    kept own = filter T (map (λ (x : ℕ × I). x.1) own)

    skip : (x : I) (rest : List I) → T x ≡ false → filter T (x ∷ rest) ≡ filter T rest
    skip x rest e = rw e refl

    abbrev Go : List I → ℕ → Type 0
    Go rest n = (own : List (ℕ × I)) → Rises (n + 1) (n + 1 + length rest) own → EachOf (At rest (n + 1)) own →
        ((m : ℕ) (y : I) → slice_get rest m ≡ Some y → placed (n + 1 + m) own ≡ 0 → T y ≡ false) → filter T rest ≡ kept own

    -- what passes the test from n on is what the pass has, where all else fails it
    in_order : (rest : List I) (n : ℕ) (own : List (ℕ × I)) → Rises n (n + length rest) own → EachOf (At rest n) own →
        ((m : ℕ) (x : I) → slice_get rest m ≡ Some x → placed (n + m) own ≡ 0 → T x ≡ false) → filter T rest ≡ kept own
    in_order [] n own r at others = sym (ap (λ (o : List (ℕ × I)). kept o) (no_more n (n + 0) own (omega arith) r))
    in_order (x ∷ rest) n [] r at others =
        skip x rest (others 0 x refl refl) ∙ in_order rest (n + 1) [] (omega arith) tt (λ m y e none. others (suc m) y e refl)
    in_order (x ∷ rest) n (z ∷ zs) r at others = by_place (λ own r' at' others'. in_order rest (n + 1) own r' at' others')
        (cases_lt n z.0)
      where
        end : n + length (x ∷ rest) ≡ n + 1 + length rest
        end = omega arith

        first : (m : ℕ) → z.0 ≡ n + m → slice_get (x ∷ rest) m ≡ Some z.1 → z.0 ≡ n → Some x ≡ Some z.1
        first zero e g h = g
        first (suc m) e g h = absurd (omega (arith, e, h))

        only : (y : ℕ × I) (ys : List (ℕ × I)) (k j : ℕ) → (y.0 ≡ k → ⊥) → k ≡ j → placed k (y ∷ ys) ≡ placed j ys
        only y ys k j ne e = let zero_first : ◌≡◌ {A = ℕ} (cond (y.0 == k) 1 0) 0 = grind (arith, nat_tests, ne) in
            let move : placed k ys ≡ placed j ys = ap (λ (i : ℕ). placed i ys) e in omega (arith, zero_first, move)

        keep : (a b : I) (al : List I) (bs : List (ℕ × I)) → a ≡ b → filter T al ≡ kept bs → filter T (a ∷ al) ≡ cond (T b)
            (b ∷ kept bs) (kept bs)
        keep a b al bs e f = rw (e, f) refl

        by_place : Go rest n → (n < z.0) ⊎ (z.0 ≤ n) → filter T (x ∷ rest) ≡ kept (z ∷ zs)
        by_place go (inl later) =
            let fails : T x ≡ false = others 0 x refl (none_below z.0 (n + length (x ∷ rest)) (n + 0) (z ∷ zs) (
              omega arith,
              r.1,
              r.2,
            ) (omega (arith, later))) in
            let risen : Rises (n + 1) (n + 1 + length rest) (z ∷ zs) = (
              omega (arith, later),
              omega (arith, r.1, end),
              subst (λ (h : ℕ). Rises (z.0 + 1) h zs) end r.2,
            ) in
            skip x rest fails ∙ go (z ∷ zs) risen (at_next x rest n (n + 1) (n + 1 + length rest) (z ∷ zs) (omega arith) risen at)
            (λ m y e none. others (suc m) y e (let same : n + suc m ≡ n + 1 + m = omega arith in
            subst (λ (k : ℕ). placed k (z ∷ zs) ≡ 0) (sym same) none))
        by_place go (inr now) =
            let here : z.0 ≡ n = omega (arith, now, r.0) in
            let same : Some x ≡ Some z.1 = first at.0.0 at.0.1 at.0.2 here in
            let is : x ≡ z.1 = (let e = same in cc) in
            let risen : Rises (n + 1) (n + 1 + length rest) zs = subst (λ (h : ℕ). Rises (n + 1) h zs) end
            (subst (λ (k : ℕ). Rises (k + 1) (n + length (x ∷ rest)) zs) here r.2) in
            let more = go zs risen (at_next x rest n (n + 1) (n + 1 + length rest) zs (omega arith) risen at.1)
            (λ m y e none. others (suc m) y e (let apart : z.0 ≡ n + suc m → ⊥ = λ q. omega (arith, q, here) in
            let zeros : placed (n + suc m) (z ∷ zs) ≡ placed (n + 1 + m) zs = only z zs (n + suc m) (n + 1 + m) apart
            (omega arith) in zeros ∙ none)) in
            keep x z.1 rest zs is more

  -- an item of another pass fails the test
  module _ (T : I → Bool) (log : List I) where
    another : (own : List (ℕ × I)) (i : ℕ) (x : I) → EachOf (λ (z : ℕ × I). T z.1 ≡ false) own →
        EachOf (λ (z : ℕ × I). slice_get log z.0 ≡ Some z.1) own →
        slice_get log i ≡ Some x → 0 < placed i own → T x ≡ false
    another [] i x none at here some = absurd (omega (arith, some))
    another (z ∷ zs) i x none at here some =
        elim (eqb_tells z.0 i) [
          | inl same ↦ fails (subst (λ (k : ℕ). slice_get log k ≡ Some z.1) same.1 at.0)
          | inr apart ↦ another zs i x none.1 at.1 here (let zero_first : ◌≡◌ {A = ℕ} (cond (z.0 == i) 1 0) 0 =
              (let ne : z.0 ≡ i → ⊥ = apart.1 in grind (arith, nat_tests, ne)) in omega (arith, some, zero_first))
        ]
      where
        fails : slice_get log i ≡ Some z.1 → T x ≡ false
        fails e = let both : Some x ≡ Some z.1 = sym here ∙ e in let is : x ≡ z.1 = (let b = both in cc) in
            subst (λ (y : I). T y ≡ false) (sym is) none.0

    module _ {R : Type 0} (k : Known I R) where
      -- each pass is this one, or its items fail the test
      abbrev Apart : Known I R → Type 0
      Apart j = (j ≡ k) ⊎ EachOf (λ (z : ℕ × I). T z.1 ≡ false) j.own

      by_some : (ks : List (Known I R)) (i : ℕ) (x : I) → EachOf Apart ks → EachOf (λ (j : Known I R). Fits log j) ks →
          slice_get log i ≡ Some x →
          0 < total (λ (j : Known I R). placed i j.own) ks → placed i k.own ≡ 0 → T x ≡ false
      by_some [] i x apart fits here some none = absurd (omega (arith, some))
      by_some (j ∷ js) i x apart fits here some none = by_first (λ more. by_some js i x apart.1 fits.1 here more none) apart.0
          (cases_lt 0 (placed i j.own))
        where
          by_first : (0 < total (λ (j : Known I R). placed i j.own) js → T x ≡ false) → Apart j → (0 < placed i j.own) ⊎
              (placed i j.own ≤ 0) → T x ≡ false
          by_first go mine (inr zero_here) = go (omega (arith, some, zero_here))
          by_first go (inl same) (inl here_too) = absurd (let e : placed i j.own ≡ 0 = ap (λ (w : Known I R). placed i w.own) same
              ∙ none in omega (arith, here_too, e))
          by_first go (inr other) (inl here_too) = another j.own i x other (all_each (λ (z : ℕ × I). slice_get log z.0 ≡ Some z.1)
              j.own fits.0.own) here here_too

      -- The list since the start has, of the items that pass the test, those that this pass added, in its order
      pub its_own : (base rest : List I) (ks : List (Known I R)) → log ≡ base ++ rest → EachOf Apart ks →
          EachOf (λ (j : Known I R). Fits log j) ks → Fits log k →
          Rises (length base) (length log) k.own → ((n : ℕ) → length base ≤ n → n < length log → owners n ks ≡ 1) →
          filter T (drop (length base) log) ≡ filter T (map (λ (z : ℕ × I). z.1) k.own)
      its_own base rest ks parts apart fits fit rises since =
          ap (λ (l : List I). filter T (drop (length base) l)) parts ∙ ap (λ (l : List I). filter T l) (drop_front base rest)
          ∙ in_order T rest (length base) k.own (subst (λ (h : ℕ). Rises (length base) h k.own) long rises)
          (stands base rest (length base) (length log) k.own (omega arith) rises
          (subst (λ (l : List I). EachOf (λ (z : ℕ × I). slice_get l z.0 ≡ Some z.1) k.own) parts
          (all_each (λ (z : ℕ × I). slice_get log z.0 ≡ Some z.1) k.own fit.own))) others
        where
          drop_front : (b r : List I) → drop (length b) (b ++ r) ≡ r
          drop_front b r = grind (arith, common_steps)

          long : length log ≡ length base + length rest
          long = ap (λ (l : List I). length l) parts ∙ length-append base rest

          others : (m : ℕ) (x : I) → slice_get rest m ≡ Some x → placed (length base + m) k.own ≡ 0 → T x ≡ false
          others m x e none =
              let place : slice_get log (length base + m) ≡ Some x = subst (λ (l : List I). slice_get l (length base + m) ≡ Some
              x) (sym parts) (get_behind base rest m ∙ e) in
              let within : m < length rest = slice_get_within rest m x e in
              let one = since (length base + m) (omega arith) (omega (arith, within, long)) in
              by_some ks (length base + m) x apart fits place (let t = owners_is (length base + m) ks in omega (arith, t, one))
              none
