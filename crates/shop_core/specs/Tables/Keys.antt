-- Equal keys are hashed alike.
use Rattle.std.specs.Prelude.{◌≡◌, [], ◌∷◌, IsTrue, List, ℕ, bytes_eq, take}
use Rattle.std.proofs.Common.{ap}
use Rattle.std.proofs.lemmas.Slice.Eq.{bytes_eq-Decides}
use Rattle.shop_core.specs.declared.tables.by_huella.Key.{Key}

pub same_front : (a b : Key) → IsTrue (bytes_eq a.huella b.huella) → take 8 a.huella ∷ [] ≡ take 8 b.huella ∷ []
same_front a b same = ap (λ (h : List ℕ). take 8 h ∷ []) ((bytes_eq-Decides a.huella b.huella).0 same)
