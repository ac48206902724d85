-- Records listed from a place on, by what a list of them is written as.
use Rattle.std.proofs.Common.{◌≡◌, ℕ, zero, suc, ◌+◌, ◌-◌, ◌<◌, ◌≤◌, List, [], ◌∷◌, ◌++◌, length, drop, append_assoc}
use Rattle.std.proofs.Common.{append-nil, refl, sym, ◌∙◌, ap, arith, Option, Some, None, slice_get, Bool, true, false, cond, eqb}
use Rattle.std.proofs.Common.{inl, inr}
use Rattle.std.proofs.lemmas.Bool.{cases_Bool, eqb-true}
use Rattle.std.proofs.Math.ListN.{drop_of_length-le}
use Rattle.std.specs.List.{enumerate_from}
use Rattle.record_fields.specs.declared.records.Sealed.{Sealed}
use Rattle.shop_core.specs.History.{at_place}

not_zero : (n : ℕ) → 0 < n → eqb n 0 ≡ false
not_zero n more = elim (cases_Bool (eqb n 0)) [
  | inl is ↦ absurd (let zero : n ≡ 0 = eqb-true n 0 is in omega arith)
  | inr isnt ↦ isnt
]

else_part : {A : Type 0} (b : Bool) (x y : A) → b ≡ false → cond b x y ≡ y
else_part true x y e = absurd cc
else_part false x y e = refl

pub at_next : {A : Type 0} (xs : List A) (k : ℕ) → at_place xs (k + 1) ≡ slice_get xs k
at_next xs k = else_part (eqb (k + 1) 0) None (slice_get xs (k + 1 - 1)) (not_zero (k + 1) (omega arith)) ∙
    (let e : k + 1 - 1 ≡ k = omega arith in ap (slice_get xs) e)

same_some : {A : Type 0} (x y : A) → ◌≡◌ {A = Option A} (Some x) (Some y) → x ≡ y
same_some x y e = cc

drop_at : {A : Type 0} (xs : List A) (n : ℕ) (x : A) → slice_get xs n ≡ Some x → drop n xs ≡ x ∷ drop (suc n) xs
drop_at [] n x e = absurd cc
drop_at (y ∷ xs) zero x e = ap (λ (z : _). z ∷ xs) (same_some y x e)
drop_at (y ∷ xs) (suc n) x e = drop_at xs n x e

drop_none : {A : Type 0} (xs : List A) (n : ℕ) → slice_get xs n ≡ None → drop n xs ≡ []
drop_none [] zero e = refl
drop_none [] (suc n) e = refl
drop_none (y ∷ xs) zero e = absurd cc
drop_none (y ∷ xs) (suc n) e = drop_none xs n e

-- one more: what is written of it comes ahead of what is written of those after it
pub listed_more : (words : List (ℕ × Sealed) → List ℕ)
    (first : (p : ℕ × Sealed) (ps : List (ℕ × Sealed)) → words (p ∷ ps) ≡ words (p ∷ []) ++ words ps)
    (xs : List Sealed) (n : ℕ) (x : Sealed) (text text' whole : List ℕ) → at_place xs (n + 1) ≡ Some x →
    text' ≡ text ++ words ((n + 1, x) ∷ []) → text ++ words (enumerate_from (n + 1) (drop n xs)) ≡ whole →
    text' ++ words (enumerate_from (n + 1 + 1) (drop (n + 1) xs)) ≡ whole
listed_more words first xs n x text text' whole here more so_far =
    let z : n + 1 ≡ suc n = omega arith in
    let cut : drop n xs ≡ x ∷ drop (n + 1) xs = drop_at xs n x (sym (at_next xs n) ∙ here) ∙ ap (λ (k : ℕ). x ∷ drop k xs) (sym z)
    in
    let rest : List (ℕ × Sealed) = enumerate_from (n + 1 + 1) (drop (n + 1) xs) in
    ap (λ (t : List ℕ). t ++ words rest) more ∙ append_assoc text (words ((n + 1, x) ∷ [])) (words rest)
    ∙ ap (λ (t : List ℕ). text ++ t) (sym (first (n + 1, x) rest))
    ∙ sym (ap (λ (ys : List Sealed). text ++ words (enumerate_from (n + 1) ys)) cut) ∙ so_far

all_listed : (words : List (ℕ × Sealed) → List ℕ) (nothing : words [] ≡ []) (xs : List Sealed) (n : ℕ) (text whole : List ℕ) →
    drop n xs ≡ [] → text ++ words (enumerate_from (n + 1) (drop n xs)) ≡ whole → text ≡ whole
all_listed words nothing xs n text whole none so_far =
    sym (append-nil text) ∙ ap (λ (t : List ℕ). text ++ t) (sym nothing)
    ∙ sym (ap (λ (ys : List Sealed). text ++ words (enumerate_from (n + 1) ys)) none) ∙ so_far

-- none is left
pub listed_none : (words : List (ℕ × Sealed) → List ℕ) (nothing : words [] ≡ []) (xs : List Sealed) (n : ℕ) (text whole : List ℕ) →
    at_place xs (n + 1) ≡ None → text ++ words (enumerate_from (n + 1) (drop n xs)) ≡ whole → text ≡ whole
listed_none words nothing xs n text whole here so_far =
    all_listed words nothing xs n text whole (drop_none xs n (sym (at_next xs n) ∙ here)) so_far

pub listed_all : (words : List (ℕ × Sealed) → List ℕ) (nothing : words [] ≡ []) (xs : List Sealed) (n : ℕ) (text whole : List ℕ) →
    length xs ≤ n → text ++ words (enumerate_from (n + 1) (drop n xs)) ≡ whole → text ≡ whole
listed_all words nothing xs n text whole past so_far =
    all_listed words nothing xs n text whole (drop_of_length-le xs past) so_far
