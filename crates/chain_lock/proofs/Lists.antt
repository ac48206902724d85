-- Totals over the views, and beginnings of a list.
use Rattle.std.proofs.Common.{◌≡◌, ◌≢◌, ℕ, zero, suc, ◌+◌, ◌<◌, ◌≤◌, ◌==◌, Bool, true, false, cond, List, [], ◌∷◌, ◌++◌, length}
use Rattle.std.proofs.Common.{set, take, drop, Some, slice_get, All, refl, ap, sym, ◌∙◌, subst, arith, append_assoc}
use Rattle.std.proofs.Common.{length-append}
use Rattle.std.proofs.lemmas.Bool.Decides.{nat_tests}
use Rattle.std.proofs.lemmas.List.{append-nil}
use mathlib.Core.Option.{some, some-injective, some-ne-none}
use lib.ListN.{get_elem?}
use Rattle.std.specs.Prelude.{sum_by, count_by, map}
use Rattle.std.proofs.lemmas.List.Sums.{sum_by-cons}
use Rattle.chain_lock.specs.Lists.{StartsWith, Stand, times, placed, total, up_from, EachOf}

pub set_at : {A : Type 0} (vs : List A) (i : ℕ) (v w : A) → get_elem? vs i ≡ some v → get_elem? (set vs i w) i ≡ some w
set_at [] i v w e = absurd (some-ne-none v (sym e))
set_at (x ∷ xs) zero v w e = refl
set_at (x ∷ xs) (suc i) v w e = set_at xs i v w e

pub not_true : (b : Bool) → (b ≡ true → ⊥) → b ≡ false
not_true true h = absurd (h refl)
not_true false h = refl

pub true_false : (b : Bool) → b ≡ true → b ≡ false → ⊥
true_false b e f = cc

module _ {A : Type 0} (f : A → ℕ) where
  pub total_set : (vs : List A) (i : ℕ) (v w : A) → get_elem? vs i ≡ some v → total f (set vs i w) + f v ≡ total f vs + f w
  total_set [] i v w e = absurd (some-ne-none v (sym e))
  total_set (x ∷ xs) zero v w e = let h : f x ≡ f v = ap f (some-injective x v e) in omega arith
  total_set (x ∷ xs) (suc i) v w e = let h = total_set xs i v w e in omega arith

  pub total_snoc : (vs : List A) (w : A) → total f (vs ++ w ∷ []) ≡ total f vs + f w
  total_snoc [] w = omega arith
  total_snoc (x ∷ xs) w = let h = total_snoc xs w in omega arith

  pub total_least : (vs : List A) (i : ℕ) (v : A) → get_elem? vs i ≡ some v → f v ≤ total f vs
  total_least [] i v e = absurd (some-ne-none v (sym e))
  total_least (x ∷ xs) zero v e = let h : f x ≡ f v = ap f (some-injective x v e) in omega arith
  total_least (x ∷ xs) (suc i) v e = let h = total_least xs i v e in omega arith

  pub total_two : (vs : List A) (i j : ℕ) (v w : A) → j ≢ i → get_elem? vs i ≡ some v → get_elem? vs j ≡ some w →
      f v + f w ≤ total f vs
  total_two [] i j v w ne e e' = absurd (some-ne-none v (sym e))
  total_two (x ∷ xs) zero zero v w ne e e' = absurd (ne refl)
  total_two (x ∷ xs) zero (suc j) v w ne e e' = let h : f x ≡ f v = ap f (some-injective x v e) in
      let t = total_least xs j w e' in omega arith
  total_two (x ∷ xs) (suc i) zero v w ne e e' = let h : f x ≡ f w = ap f (some-injective x w e') in
      let t = total_least xs i v e in omega arith
  total_two (x ∷ xs) (suc i) (suc j) v w ne e e' = let t = total_two xs i j v w (λ h. ne (ap suc h)) e e' in omega arith

  none_there : (vs : List A) → ((j : ℕ) (w : A) → get_elem? vs j ≡ some w → f w ≡ 0) → total f vs ≡ 0
  none_there [] h = refl
  none_there (x ∷ xs) h = let a = h 0 x refl in let b = none_there xs (λ j. h (suc j)) in omega arith

  -- where the others have none, the total is what one has
  pub total_only : (vs : List A) (i : ℕ) (v : A) → get_elem? vs i ≡ some v → ((j : ℕ) (w : A) → j ≢ i → get_elem? vs j ≡ some w →
      f w ≡ 0) → total f vs ≡ f v
  total_only [] i v e h = absurd (some-ne-none v (sym e))
  total_only (x ∷ xs) zero v e h = let a : f x ≡ f v = ap f (some-injective x v e) in
      let b = none_there xs (λ j w. h (suc j) w (λ z. omega arith)) in omega arith
  total_only (x ∷ xs) (suc i) v e h = let a = h 0 x (λ z. omega arith) refl in
      let b = total_only xs i v e (λ j w ne. h (suc j) w (λ z. ne (omega arith))) in omega arith

pub times_append : (k : ℕ) (xs ys : List ℕ) → times k (xs ++ ys) ≡ times k xs + times k ys
times_append k [] ys = omega arith
times_append k (x ∷ xs) ys = let h = times_append k xs ys in omega arith

pub times_cut : (k : ℕ) (xs : List ℕ) → times k (drop 1 xs) + times k (take 1 xs) ≡ times k xs
times_cut k [] = refl
times_cut k (x ∷ xs) = omega arith

pub cut_lengths : (xs : List ℕ) → 1 < length xs → (length (drop 1 xs) + 1 ≡ length xs) × (length (take 1 xs) ≡ 1)
cut_lengths [] h = absurd (omega arith)
cut_lengths (x ∷ xs) h = (omega arith, refl)

pub placed_append : {I : Type 0} (k : ℕ) (xs ys : List (ℕ × I)) → placed k (xs ++ ys) ≡ placed k xs + placed k ys
placed_append k [] ys = omega arith
placed_append k (x ∷ xs) ys = let h = placed_append k xs ys in omega arith

-- an item stands at its own place alone
pub placed_one : {I : Type 0} (k n : ℕ) (x : I) → (k ≡ n → placed k ((n, x) ∷ []) ≡ 1) × (k ≢ n → placed k ((n, x) ∷ []) ≡ 0)
placed_one k n x = ((λ e. grind (arith, nat_tests)), (λ ne. grind (arith, nat_tests)))

self_test : (x : ℕ) → ◌≡◌ {A = ℕ} (cond (x == x) 1 0) 1
self_test x = grind (arith, nat_tests)

-- where no number is there, the list is empty
pub no_times : (xs : List ℕ) → ((k : ℕ) → times k xs ≡ 0) → length xs ≡ 0
no_times [] h = refl
no_times (x ∷ xs) h = let a : times x (x ∷ xs) ≡ 0 = h x in let b = self_test x in absurd (omega arith)

module _ {I : Type 0} where
  pub starts_self : (log : List I) → StartsWith log log
  starts_self log = ([], sym (append-nil log))

  pub starts_longer : (log more : List I) → StartsWith (log ++ more) log
  starts_longer log more = (more, refl)

  pub starts_trans : (a b c : List I) → StartsWith a b → StartsWith b c → StartsWith a c
  starts_trans a b c p q = (q.0 ++ p.0, p.1 ∙ (ap (λ w. w ++ p.0) q.1 ∙ append_assoc c q.0 p.0))

  pub starts_length : (a b : List I) → StartsWith a b → length b ≤ length a
  starts_length a b p = omega (arith, ap length p.1, length-append b p.0)

  -- a beginning as long as the whole is the whole
  pub starts_whole : (a b : List I) → StartsWith a b → length a ≤ length b → a ≡ b
  starts_whole a b (([], e)) le = e ∙ append-nil b
  starts_whole a b ((x ∷ xs, e)) le = absurd (omega (arith, ap length e, length-append b (x ∷ xs)))

  pub each_trans : (a b : List I) (cs : List (List I)) → StartsWith a b → EachOf (StartsWith b) cs → EachOf (StartsWith a) cs
  each_trans a b [] p q = tt
  each_trans a b (c ∷ cs) p q = (starts_trans a b c p q.0, each_trans a b cs p q.1)

  get_longer : (xs more : List I) (k : ℕ) (x : I) → slice_get xs k ≡ Some x → slice_get (xs ++ more) k ≡ Some x
  get_longer [] more k x h = absurd cc
  get_longer (y ∷ ys) more zero x h = h
  get_longer (y ∷ ys) more (suc k) x h = get_longer ys more k x h

  pub get_here : (xs : List I) (x : I) (more : List I) → slice_get (xs ++ (x ∷ more)) (length xs) ≡ Some x
  get_here [] x more = refl
  get_here (y ∷ ys) x more = get_here ys x more

  pub get_starts : (a b : List I) (k : ℕ) (x : I) → StartsWith a b → slice_get b k ≡ Some x → slice_get a k ≡ Some x
  get_starts a b k x p h = subst (λ (w : List I). slice_get w k ≡ Some x) (sym p.1) (get_longer b p.0 k x h)

  pub stand_starts : (a b : List I) (own : List (ℕ × I)) → StartsWith a b → Stand b own → Stand a own
  stand_starts a b [] p q = tt
  stand_starts a b (x ∷ xs) p q = (get_starts a b x.0 x.1 p q.0, stand_starts a b xs p q.1)

up_here : (c n k : ℕ) → n ≤ k → k < n + suc c → (n + 1 ≤ k → k < (n + 1) + c → times k (up_from (n + 1) c) ≡ 1) ×
    (k < n + 1 → times k (up_from (n + 1) c) ≡ 0) × ((n + 1) + c ≤ k → times k (up_from (n + 1) c) ≡ 0)
    → cond (n == k) 1 0 + times k (up_from (n + 1) c) ≡ 1
up_here c n k a b h = let h₀ = h.0 in let h₁ = h.1 in grind (arith, nat_tests)

up_else : (c n k : ℕ) → n ≢ k → times k (up_from (n + 1) c) ≡ 0 → cond (n == k) 1 0 + times k (up_from (n + 1) c) ≡ 0
up_else c n k ne h = grind (arith, nat_tests)

-- the numbers from n on, each once
pub times_up : (c n k : ℕ) → (n ≤ k → k < n + c → times k (up_from n c) ≡ 1) × (k < n → times k (up_from n c) ≡ 0) ×
    (n + c ≤ k → times k (up_from n c) ≡ 0)
times_up zero n k = ((λ a b. absurd (omega arith)), (λ _. refl), (λ _. refl))
times_up (suc c) n k = let h = times_up c (n + 1) k in (
  (λ a b. up_here c n k a b h),
  (λ l. up_else c n k (λ e. omega arith) (h.1 (omega arith))),
  (λ l. up_else c n k (λ e. omega arith) (h.2 (omega arith))),
)

module _ {A : Type 0} (P : A → Type 0) where
  pub each_snoc : (xs : List A) (y : A) → EachOf P xs → P y → EachOf P (xs ++ y ∷ [])
  each_snoc [] y e p = (p, tt)
  each_snoc (x ∷ xs) y e p = (e.0, each_snoc xs y e.1 p)

  pub each_append : (xs ys : List A) → EachOf P xs → EachOf P ys → EachOf P (xs ++ ys)
  each_append [] ys p q = q
  each_append (x ∷ xs) ys p q = (p.0, each_append xs ys p.1 q)

  pub each_split : (xs ys : List A) → EachOf P (xs ++ ys) → EachOf P xs × EachOf P ys
  each_split [] ys p = (tt, p)
  each_split (x ∷ xs) ys p = let t = each_split xs ys p.1 in ((p.0, t.0), t.1)

  pub each_front : (xs : List A) (y : A) → EachOf P (xs ++ y ∷ []) → EachOf P xs × P y
  each_front [] y e = (tt, e.0)
  each_front (x ∷ xs) y e = let t = each_front xs y e.1 in ((e.0, t.0), t.1)

pub length_up : (c n : ℕ) → length (up_from n c) ≡ c
length_up zero n = refl
length_up (suc c) n = let h = length_up c (n + 1) in omega arith

pub total_snoc_as : {A : Type 0} (f : A → ℕ) (xs ys : List A) (y : A) → ys ≡ xs ++ y ∷ [] → total f ys ≡ total f xs + f y
total_snoc_as f xs ys y e = ap (total f) e ∙ total_snoc f xs y

pub each_snoc_as : {A : Type 0} (P : A → Type 0) (xs ys : List A) (y : A) → ys ≡ xs ++ y ∷ [] → EachOf P xs → P y → EachOf P ys
each_snoc_as P xs ys y e h p = subst (EachOf P) (sym e) (each_snoc P xs y h p)

pub each_front_as : {A : Type 0} (P : A → Type 0) (xs ys : List A) (y : A) → ys ≡ xs ++ y ∷ [] → EachOf P ys → EachOf P xs × P y
each_front_as P xs ys y e h = each_front P xs y (subst (EachOf P) e h)

module _ {A : Type 0} (P : A → Type 0) where
  pub all_each : (xs : List A) → All P xs → EachOf P xs
  all_each [] h = tt
  all_each (x ∷ xs) h = (h 0 x (omega arith), all_each xs (λ k d l. h (suc k) d (omega arith)))

  pub each_all : (xs : List A) → EachOf P xs → All P xs
  each_all [] h k d l = absurd (omega arith)
  each_all (x ∷ xs) h zero d l = h.0
  each_all (x ∷ xs) h (suc k) d l = each_all xs h.1 k d (omega arith)

pub each_map : {A : Type 0} (P Q : A → Type 0) (xs : List A) → ((x : A) → P x → Q x) → EachOf P xs → EachOf Q xs
each_map P Q [] f p = tt
each_map P Q (x ∷ xs) f p = (f x p.0, each_map P Q xs f p.1)

-- the same sums in the words of contracts
pub times_is : (k : ℕ) (ns : List ℕ) → times k ns ≡ count_by (λ n. n == k) ns
times_is k [] = refl
times_is k (n ∷ ns) = ap (λ w. cond (n == k) 1 0 + w) (times_is k ns) ∙ sym (sum_by-cons (λ m. cond (m == k) 1 0) n ns)

pub placed_is : {I : Type 0} (k : ℕ) (xs : List (ℕ × I)) → placed k xs ≡ count_by (λ x. x.0 == k) xs
placed_is k [] = refl
placed_is {I} k (x ∷ xs) = ap (λ w. cond (x.0 == k) 1 0 + w) (placed_is k xs) ∙
    sym (sum_by-cons (λ (y : ℕ × I). cond (y.0 == k) 1 0) x xs)

pub total_is : {A B : Type 0} (f : A → ℕ) (g : B → ℕ) (h : A → B) (xs : List A) → ((x : A) → f x ≡ g (h x)) →
    total f xs ≡ sum_by g (map h xs)
total_is f g h [] same = refl
total_is f g h (x ∷ xs) same = (ap (λ w. w + total f xs) (same x) ∙ ap (λ w. g (h x) + w) (total_is f g h xs same)) ∙
    sym (sum_by-cons g (h x) (map h xs))

pub each_image : {A B : Type 0} (P : B → Type 0) (h : A → B) (xs : List A) → EachOf (λ x. P (h x)) xs → EachOf P (map h xs)
each_image P h [] e = tt
each_image P h (x ∷ xs) e = (e.0, each_image P h xs e.1)
