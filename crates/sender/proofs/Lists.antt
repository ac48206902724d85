-- What the proofs need of lists.
use Rattle.std.proofs.Common.{◌≡◌, ◌≢◌, ℕ, zero, suc, List, [], ◌∷◌, ◌++◌, refl, length, drop, take, ◌≤◌, arith, bytes_eq, true}
use Rattle.std.proofs.Common.{false, inl, inr}
use Rattle.std.proofs.lemmas.Bool.{cases_Bool}
use Rattle.std.proofs.lemmas.Slice.Eq.{bytes_eq-Decides}
use Rattle.std.specs.List.{AllByRecursion}

pub bytes_same : (bs : List ℕ) → bytes_eq bs bs ≡ true
bytes_same bs = (bytes_eq-Decides bs bs).1 refl

pub not_same : (a b : List ℕ) → (a ≢ b) → bytes_eq a b ≡ false
not_same a b ne = elim (cases_Bool (bytes_eq a b)) [ inl h ↦ absurd (ne ((bytes_eq-Decides a b).0 h)) | inr h ↦ h ]

pub all_both : {A : Type 0} (P : A → Type 0) (xs ys : List A) → AllByRecursion P xs → AllByRecursion P ys →
    AllByRecursion P (xs ++ ys)
all_both P [] ys a b = b
all_both P (x ∷ xs) ys a b = (a.0, all_both P xs ys a.1 b)

pub all_front : {A : Type 0} (P : A → Type 0) (xs ys : List A) → AllByRecursion P (xs ++ ys) → AllByRecursion P xs
all_front P [] ys h = tt
all_front P (x ∷ xs) ys h = (h.0, all_front P xs ys h.1)

pub all_back : {A : Type 0} (P : A → Type 0) (xs ys : List A) → AllByRecursion P (xs ++ ys) → AllByRecursion P ys
all_back P [] ys h = h
all_back P (x ∷ xs) ys h = all_back P xs ys h.1

pub all_change : {A : Type 0} (P Q : A → Type 0) → ((x : A) → P x → Q x) → (xs : List A) → AllByRecursion P xs →
    AllByRecursion Q xs
all_change P Q f [] a = tt
all_change P Q f (x ∷ xs) a = (f x a.0, all_change P Q f xs a.1)

-- what holds of each, by two facts
pub all_of_two : {A : Type 0} (P Q R : A → Type 0) → ((x : A) → P x → Q x → R x) → (xs : List A) → AllByRecursion P xs →
    AllByRecursion Q xs → AllByRecursion R xs
all_of_two P Q R f [] a b = tt
all_of_two P Q R f (x ∷ xs) a b = (f x a.0 b.0, all_of_two P Q R f xs a.1 b.1)

pub all_drop : {A : Type 0} (P : A → Type 0) (k : ℕ) (xs : List A) → AllByRecursion P xs → AllByRecursion P (drop k xs)
all_drop P zero xs a = a
all_drop P (suc k) [] a = tt
all_drop P (suc k) (x ∷ xs) a = all_drop P k xs a.1

pub all_take : {A : Type 0} (P : A → Type 0) (k : ℕ) (xs : List A) → AllByRecursion P xs → AllByRecursion P (take k xs)
all_take P zero xs a = tt
all_take P (suc k) [] a = tt
all_take P (suc k) (x ∷ xs) a = (a.0, all_take P k xs a.1)

-- past more of the list all the more
pub all_drop_later : {A : Type 0} (P : A → Type 0) (j k : ℕ) (xs : List A) → j ≤ k → AllByRecursion P (drop j xs) →
    AllByRecursion P (drop k xs)
all_drop_later P zero k xs le a = all_drop P k xs a
all_drop_later P (suc j) zero xs le a = absurd (omega arith)
all_drop_later P (suc j) (suc k) [] le a = tt
all_drop_later P (suc j) (suc k) (x ∷ xs) le a = all_drop_later P j k xs (omega arith) a

-- past the first part
pub all_past : {A : Type 0} (P : A → Type 0) (k : ℕ) (xs ys : List A) → length xs ≤ k → AllByRecursion P ys →
    AllByRecursion P (drop k (xs ++ ys))
all_past P k [] ys le a = all_drop P k ys a
all_past P zero (x ∷ xs) ys le a = absurd (omega arith)
all_past P (suc k) (x ∷ xs) ys le a = all_past P k xs ys (omega arith) a

-- a list past its k-th element, and more after it
pub all_drop_more : {A : Type 0} (P : A → Type 0) (k : ℕ) (xs ys : List A) → AllByRecursion P (drop k xs) → AllByRecursion P ys →
    AllByRecursion P (drop k (xs ++ ys))
all_drop_more P zero xs ys a b = all_both P xs ys a b
all_drop_more P (suc k) [] ys a b = all_drop P (suc k) ys b
all_drop_more P (suc k) (x ∷ xs) ys a b = all_drop_more P k xs ys a b
