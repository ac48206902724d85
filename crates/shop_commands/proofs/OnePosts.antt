-- A list of one post.
use Rattle.std.proofs.Common.{◌≡◌, List, [], ◌∷◌, ◌++◌, length, length-append, refl, ap, arith}

-- a list of one that ends in this has nothing in front of it
pub only_one : {A : Type 0} (whole rest : List A) (last : A) → length whole ≡ 1 → whole ≡ rest ++ last ∷ [] →
    (rest ≡ []) × (whole ≡ last ∷ [])
only_one whole [] last one is = (refl, is)
only_one whole (x ∷ rest) last one is =
    absurd (let size = ap length is in let more = length-append rest (last ∷ []) in omega (arith, one, size, more))
