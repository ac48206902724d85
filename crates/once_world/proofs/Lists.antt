-- What the proofs need of lists.
use Rattle.std.proofs.Common.{◌≡◌, ℕ, zero, suc, List, [], ◌∷◌, ◌++◌, refl, ◌∙◌, ap, subst, length, length-append, map, drop, ◌≤◌}
use Rattle.std.proofs.Common.{◌<◌, arith, append_assoc, get_or, bytes_eq, true, false}
use Rattle.std.proofs.lemmas.Bool.{cases_Bool}
use Rattle.std.proofs.lemmas.Slice.Eq.{bytes_eq-Decides}
use Rattle.std.specs.List.{AllByRecursion, Contains}
use Rattle.std.specs.Prelude.{◌≢◌}
use Rattle.std.proofs.Common.{inl, inr}
use Rattle.shop_core.specs.Prefix.{IsPrefix}

pub bytes_same : (bs : List ℕ) → bytes_eq bs bs ≡ true
bytes_same bs = (bytes_eq-Decides bs bs).1 refl

pub not_same : (a b : List ℕ) → (a ≢ b) → bytes_eq a b ≡ false
not_same a b ne = elim (cases_Bool (bytes_eq a b)) [ inl h ↦ absurd (ne ((bytes_eq-Decides a b).0 h)) | inr h ↦ h ]

pub drop_front : {A : Type 0} (a b : List A) → drop (length a) (a ++ b) ≡ b
drop_front [] b = refl
drop_front (x ∷ a) b = drop_front a b

all_at : {A : Type 0} (P : A → Type 0) (xs : List A) (k : ℕ) (x : A) → AllByRecursion P xs → k < length xs → get_or xs k x ≡ x →
    P x
all_at P [] k x all lt e = absurd (omega arith)
all_at P (y ∷ xs) zero x all lt e = let h : y ≡ x = e in subst P h all.0
all_at P (y ∷ xs) (suc k) x all lt e = all_at P xs k x all.1 (omega arith) e

-- what holds of all holds of one of them
pub all_contained : {A : Type 0} (P : A → Type 0) (xs : List A) (x : A) → AllByRecursion P xs → Contains xs x → P x
all_contained P xs x all there = all_at P xs there.0 x all there.1 there.2

pub all_both : {A : Type 0} (P : A → Type 0) (xs ys : List A) → AllByRecursion P xs → AllByRecursion P ys →
    AllByRecursion P (xs ++ ys)
all_both P [] ys a b = b
all_both P (x ∷ xs) ys a b = (a.0, all_both P xs ys a.1 b)

pub all_front : {A : Type 0} (P : A → Type 0) (xs ys : List A) → AllByRecursion P (xs ++ ys) → AllByRecursion P xs
all_front P [] ys h = tt
all_front P (x ∷ xs) ys h = (h.0, all_front P xs ys h.1)

pub all_back : {A : Type 0} (P : A → Type 0) (xs ys : List A) → AllByRecursion P (xs ++ ys) → AllByRecursion P ys
all_back P [] ys h = h
all_back P (x ∷ xs) ys h = all_back P xs ys h.1

pub all_behind : {A : Type 0} (P : A → Type 0) (xs ys : List A) (y : A) → AllByRecursion P (xs ++ y ∷ ys) → AllByRecursion P ys
all_behind P [] ys y h = h.1
all_behind P (x ∷ xs) ys y h = all_behind P xs ys y h.1

pub all_change : {A : Type 0} (P Q : A → Type 0) → ((x : A) → P x → Q x) → (xs : List A) → AllByRecursion P xs →
    AllByRecursion Q xs
all_change P Q f [] a = tt
all_change P Q f (x ∷ xs) a = (f x a.0, all_change P Q f xs a.1)

-- a list whose images split splits so itself
pub record SplitBy {A B : Type 0} (f : A → B) (xs : List A) (a b : List B) : Type 0 where
  pub first : List A
  pub second : List A
  pub is : xs ≡ first ++ second
  pub first_is : map f first ≡ a
  pub second_is : map f second ≡ b

pub split_by : {A B : Type 0} (f : A → B) (xs : List A) (a b : List B) → map f xs ≡ a ++ b → SplitBy f xs a b
split_by f xs [] b e = record { first = []; second = xs; is = refl; first_is = refl; second_is = e }
split_by f [] (y ∷ a) b e = absurd cc
split_by f (x ∷ xs) (y ∷ a) b e =
    let t : map f xs ≡ a ++ b = cc in
    let h : f x ≡ y = cc in
    let p = split_by f xs a b t in
    record {
      first = x ∷ p.first;
      second = p.second;
      is = ap (λ t. x ∷ t) p.is;
      first_is = (let q = p.first_is in cc);
      second_is = p.second_is;
    }

pub prefix_more : {A : Type 0} (xs ys zs : List A) → IsPrefix xs ys → IsPrefix xs (ys ++ zs)
prefix_more xs ys zs p = record { rest = p.rest ++ zs; is = ap (λ t. t ++ zs) p.is ∙ append_assoc xs p.rest zs }

pub prefix_none : {A : Type 0} (ys : List A) → IsPrefix [] ys
prefix_none ys = record { rest = ys; is = refl }

pub prefix_cons : {A : Type 0} (x : A) (xs ys : List A) → IsPrefix xs ys → IsPrefix (x ∷ xs) (x ∷ ys)
prefix_cons x xs ys p = record { rest = p.rest; is = ap (λ t. x ∷ t) p.is }

pub prefix_length : {A : Type 0} (xs ys : List A) → IsPrefix xs ys → length xs ≤ length ys
prefix_length xs ys p = let e = ap length p.is in let h = length-append xs p.rest in omega arith
