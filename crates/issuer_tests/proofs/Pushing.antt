-- What holds of each of a list, and of one more.
use Rattle.std.proofs.Common.{◌≡◌, ◌++◌, ◌∷◌, [], All, List, subst, sym}
use Rattle.std.proofs.lemmas.List.Elements.{All-push}

pub one_more : {X : Type 0} (P : X → Type 0) (old new : List X) (x : X) → new ≡ old ++ x ∷ [] → All P old → P x → All P new
one_more {X} P old new x is olds one = subst (λ (xs : List X). All P xs) (sym is) (All-push P old x olds one)
