-- Two lists, element by element.
use Rattle.std.specs.Prelude.{List, [], ◌∷◌}

-- they are of one length, and this holds of each two that stand at one place
abbrev pub Both : {A B : Type 0} → (A → B → Type 0) → List A → List B → Type 0
Both P [] [] = Unit {0}
Both P (x ∷ xs) (y ∷ ys) = P x y × Both P xs ys
Both P _ _ = ⊥
