-- The pairs that a history notes, one after another.
use Rattle.std.proofs.Common.{◌≡◌, ◌⊎◌, inl, inr, ℕ, zero, suc, ◌+◌, ◌-◌, ◌≤◌, ◌<◌, List, [], ◌∷◌, ◌++◌, length, take, refl}
use Rattle.std.proofs.Common.{sym, ◌∙◌, ap, arith, Some, None, slice_get, Bool, true, false, cond, eqb, add-one}
use Rattle.std.specs.Prelude.{zip}
use Rattle.std.proofs.lemmas.Bool.{cases_Bool, eqb-true}
use Rattle.std.proofs.lemmas.List.{take_all}
use Rattle.std.proofs.lemmas.Option.{slice_get_cases}
use Rattle.std.proofs.lemmas.Slice.Zip.{length-zip}
use Rattle.record_fields.specs.declared.records.Sealed.{Sealed}
use Rattle.record_fields.specs.declared.lines.Line.{Line}
use Rattle.shop_core.specs.History.{at_place}

not_zero : (n : ℕ) → 0 < n → eqb n 0 ≡ false
not_zero n more = elim (cases_Bool (eqb n 0)) [
  | inl is ↦ absurd (let zero : n ≡ 0 = eqb-true n 0 is in omega arith)
  | inr isnt ↦ isnt
]

else_part : {A : Type 0} (b : Bool) (x y : A) → b ≡ false → cond b x y ≡ y
else_part true x y e = absurd cc
else_part false x y e = refl

at_later : {A : Type 0} (xs : List A) (k : ℕ) → at_place xs (k + 1) ≡ slice_get xs k
at_later xs k = else_part (eqb (k + 1) 0) None (slice_get xs (k + 1 - 1)) (not_zero (k + 1) (omega arith)) ∙
    (let e : k + 1 - 1 ≡ k = omega arith in ap (slice_get xs) e)

zip_more : (rs : List Sealed) (ls : List Line) (n : ℕ) (s : Sealed) (l : Line) → slice_get rs n ≡ Some s →
    slice_get ls n ≡ Some l → take (suc n) (zip rs ls) ≡ take n (zip rs ls) ++ (s, l) ∷ []
zip_more [] ls n s l e f = absurd (let h : None ≡ Some s = e in cc)
zip_more (r ∷ rs) [] n s l e f = absurd (let h : None ≡ Some l = f in cc)
zip_more (r ∷ rs) (x ∷ ls) zero s l e f =
    let a : r ≡ s = (let h : Some r ≡ Some s = e in cc) in
    let b : x ≡ l = (let h : Some x ≡ Some l = f in cc) in
    rw (a, b) refl
zip_more (r ∷ rs) (x ∷ ls) (suc n) s l e f = ap (λ (ps : List (Sealed × Line)). (r, x) ∷ ps) (zip_more rs ls n s l e f)

-- one pair more
pub pair_more : (rs : List Sealed) (ls : List Line) (n : ℕ) (s : Sealed) (l : Line) → at_place rs (n + 1) ≡ Some s →
    at_place ls (n + 1) ≡ Some l → take (n + 1) (zip rs ls) ≡ take n (zip rs ls) ++ (s, l) ∷ []
pair_more rs ls n s l e f = ap (λ (k : ℕ). take k (zip rs ls)) (add-one n) ∙ zip_more rs ls n s l (sym (at_later rs n) ∙ e)
    (sym (at_later ls n) ∙ f)

past : {A : Type 0} (xs : List A) (n : ℕ) → at_place xs (n + 1) ≡ None → length xs ≤ n
past xs n e = elim (slice_get_cases xs n).1 [
  | inl some ↦ absurd (let got = some.2 in let none = sym (at_later xs n) ∙ e in cc)
  | inr none ↦ none.0
]

-- there is none more
pub pairs_end : (rs : List Sealed) (ls : List Line) (n : ℕ) → (at_place rs (n + 1) ≡ None) ⊎ (at_place ls (n + 1) ≡ None) →
    take n (zip rs ls) ≡ zip rs ls
pairs_end rs ls n (inl e) = take_all n (zip rs ls) (let p = past rs n e in omega (arith, p, length-zip rs ls))
pairs_end rs ls n (inr e) = take_all n (zip rs ls) (let p = past ls n e in omega (arith, p, length-zip rs ls))

-- these are all
pub pairs_all : (rs : List Sealed) (ls : List Line) (n : ℕ) → length ls ≤ n → take n (zip rs ls) ≡ zip rs ls
pairs_all rs ls n e = take_all n (zip rs ls) (omega (arith, e, length-zip rs ls))

pub pairs_count : (rs : List Sealed) (ls : List Line) → length ls ≤ length rs → length (zip rs ls) ≡ length ls
pairs_count rs ls le = let e = length-zip rs ls in omega (arith, e, le)
