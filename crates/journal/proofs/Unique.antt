-- A file stands for one chain.
use Rattle.std.proofs.Common.{◌≡◌, ℕ, List, [], ◌∷◌, ◌++◌, length, refl, sym, ◌∙◌, arith, append_assoc}
use Rattle.frames.specs.Frames.{length_bytes}
use Rattle.frames.specs.Lengths.{length-length_bytes, same_length, same_front}
use Rattle.record_fields.specs.declared.versions.Version.{Version}
use Rattle.record_fields.specs.Versions.{number_of}
use Rattle.record_fields.specs.declared.versions.Version.TheVariants.{One, Two}
use Rattle.journal.specs.File.{header, framed, AreBodies}
use Rattle.journal.specs.Laws.{OneChain}

frames_unique : (a b : List (List ℕ)) (g h : ℕ) (r s : List ℕ) → AreBodies a → AreBodies b → (g ≡ 1 → ⊥) → (h ≡ 1 → ⊥) →
    framed a ++ (g ∷ r) ≡ framed b ++ (h ∷ s) → a ≡ b
frames_unique [] [] g h r s are are' shut shut' same = refl
frames_unique [] (y ∷ b) g h r s are are' shut shut' same = absurd (shut (cc same))
frames_unique (x ∷ a) [] g h r s are are' shut shut' same = absurd (shut' (cc same))
frames_unique (x ∷ a) (y ∷ b) g h r s are are' shut shut' same =
    let m = length_bytes (length x) in
    let n = length_bytes (length y) in
    let tails : (m ++ (x ++ framed a)) ++ (g ∷ r) ≡ (n ++ (y ++ framed b)) ++ (h ∷ s) = cc same in
    let parts : m ++ (x ++ (framed a ++ (g ∷ r))) ≡ n ++ (y ++ (framed b ++ (h ∷ s))) = simp append_assoc at tails in
    let heads = same_front m n (x ++ (framed a ++ (g ∷ r))) (y ++ (framed b ++ (h ∷ s))) (length-length_bytes (length x) ∙
    sym (length-length_bytes (length y))) parts in
    let bodies = same_front x y (framed a ++ (g ∷ r)) (framed b ++ (h ∷ s)) (same_length (length x) (length y) are.0.1 are'.0.1
    heads.0) heads.1 in
    let rest = frames_unique a b g h r s are.1 are'.1 shut shut' bodies.1 in
    cc (bodies.0, rest)

pub same_version : (version version' : Version) → number_of version ≡ number_of version' → version ≡ version'
same_version One One same = refl
same_version One Two same = absurd (omega (arith, same))
same_version Two One same = absurd (omega (arith, same))
same_version Two Two same = refl

pub one_chain : OneChain
one_chain version version' issuer issuer' bodies bodies' file is is' =
    let same : (1 ∷ header version issuer) ++ (framed bodies ++ (is.gate ∷ is.rest)) ≡ (1 ∷ header version' issuer') ++
    (framed bodies' ++ (is'.gate ∷ is'.rest)) = sym is.parts ∙ is'.parts in
    let heads = same_front (1 ∷ header version issuer) (1 ∷ header version' issuer') _ _
    (omega (arith, is.nif.nine, is'.nif.nine)) same in
    let versions : number_of version ≡ number_of version' = cc heads.0 in
    let issuers : issuer ≡ issuer' = cc heads.0 in
    let frames = frames_unique bodies bodies' is.gate is'.gate is.rest is'.rest is.sizes is'.sizes is.shut is'.shut heads.1 in
    (same_version version version' versions, issuers, frames)
