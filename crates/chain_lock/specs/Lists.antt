-- Lists of items, of places and of numbers.
use Rattle.std.specs.Prelude.{◌≡◌, ◌⊎◌, ℕ, zero, suc, ◌+◌, ◌-◌, cond, ◌==◌, List, [], ◌∷◌, ◌++◌, Some, slice_get}

-- the list begins with what was seen
abbrev pub StartsWith : {I : Type 0} → List I → List I → Type 0
StartsWith log seen = (rest : List _) × (log ≡ seen ++ rest)

-- the list stays or is one item longer
abbrev pub MayAdd : {I : Type 0} → List I → List I → Type 0
MayAdd before after = (after ≡ before) ⊎ ((x : _) × (after ≡ before ++ x ∷ []))

abbrev pub EachOf : {A : Type 0} → (A → Type 0) → List A → Type 0
EachOf P [] = Unit {0}
EachOf P (x ∷ xs) = P x × EachOf P xs

-- each item stands at its place
abbrev pub Stand : {I : Type 0} → List I → List (ℕ × I) → Type 0
Stand log own = EachOf (λ x. slice_get log x.0 ≡ Some x.1) own

-- how often k is among the numbers
abbrev pub times : ℕ → List ℕ → ℕ
times k [] = 0
times k (n ∷ ns) = cond (n == k) 1 0 + times k ns

-- how often k is the place of an item
abbrev pub placed : {I : Type 0} → ℕ → List (ℕ × I) → ℕ
placed k [] = 0
placed k (x ∷ xs) = cond (x.0 == k) 1 0 + placed k xs

abbrev pub total : {A : Type 0} → (A → ℕ) → List A → ℕ
total f [] = 0
total f (x ∷ xs) = f x + total f xs

-- n, n + 1 and so on, k of them
abbrev pub up_from : ℕ → ℕ → List ℕ
up_from n zero = []
up_from n (suc k) = n ∷ up_from (n + 1) k

abbrev pub larger : ℕ → ℕ → ℕ
larger a b = a + (b - a)
