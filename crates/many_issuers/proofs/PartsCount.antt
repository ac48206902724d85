-- There is a part for each issuer.
use Rattle.std.proofs.Common.{◌≡◌, ℕ, suc, List, [], ◌∷◌, length, refl, ap}
use Rattle.issuers.specs.Reading.{PartsAre}
use Rattle.issuers.specs.declared.parts.Part.{Part}

pub parts_count : (bytes : List ℕ) (issuers : List (List ℕ)) (parts : List Part) → PartsAre bytes issuers parts →
    length parts ≡ length issuers
parts_count bytes [] [] h = refl
parts_count bytes (nif ∷ issuers) (part ∷ parts) h = ap (λ (n : ℕ). suc n) (parts_count bytes issuers parts h.1)
parts_count bytes [] (part ∷ parts) h = absurd h
parts_count bytes (nif ∷ issuers) [] h = absurd h
