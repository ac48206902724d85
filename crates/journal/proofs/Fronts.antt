-- The bytes of a file before its closing gate.
use Rattle.std.proofs.Common.{◌≡◌, ℕ, List, [], ◌∷◌, ◌++◌, length, take, refl, sym, ◌∙◌, ap, arith}
use Rattle.std.proofs.Common.{append_assoc, length-append}
use Rattle.std.proofs.lemmas.List.{take_at}
use Rattle.frames.specs.Frames.{length_bytes}
use Rattle.parties.specs.Nif.{IsNif}
use Rattle.record_fields.specs.declared.versions.Version.{Version}
use Rattle.journal.specs.File.{IsFile, closing_gate, framed, header}
use Rattle.journal.specs.Written.{KeepsFront}

framed-append : (xs ys : List (List ℕ)) (rest : List ℕ) → framed (xs ++ ys) ++ rest ≡ framed xs ++ (framed ys ++ rest)
framed-append [] ys rest = refl
framed-append (x ∷ xs) ys rest =
    simp append_assoc (ap (λ (l : List ℕ). 1 ∷ (length_bytes (length x) ++ (x ++ l))) (framed-append xs ys rest))

pub header_long : (version : Version) (issuer : List ℕ) → IsNif issuer → length (header version issuer) ≡ 18
header_long version issuer nif = omega (arith, nif.nine)

-- the bytes before the closing gate, whatever stands there and after it
pub bytes_before : (version : Version) (issuer : List ℕ) (bodies : List (List ℕ)) (rest : List ℕ) → IsNif issuer →
    take (closing_gate bodies) ((1 ∷ header version issuer) ++ (framed bodies ++ rest)) ≡ (1 ∷ header version issuer) ++ framed bodies
bytes_before version issuer bodies rest nif =
    let first : List ℕ = 1 ∷ header version issuer in
    let long : length (first ++ framed bodies) ≡ closing_gate bodies =
    omega (arith, length-append first (framed bodies), header_long version issuer nif) in
    ap (λ (l : List ℕ). take (closing_gate bodies) l) (sym (append_assoc first (framed bodies) rest))
    ∙ take_at (first ++ framed bodies) rest (closing_gate bodies) long

-- and so in a file of more bodies
pub front_is : (version : Version) (issuer : List ℕ) (bodies more : List (List ℕ)) (file : List ℕ) →
    IsFile version issuer (bodies ++ more) file → take (closing_gate bodies) file ≡ (1 ∷ header version issuer) ++ framed bodies
front_is version issuer bodies more file is =
    let after : List ℕ = is.gate ∷ is.rest in
    let parts : file ≡ (1 ∷ header version issuer) ++ (framed bodies ++ (framed more ++ after)) =
    is.parts ∙ ap (λ (l : List ℕ). (1 ∷ header version issuer) ++ l) (framed-append bodies more after) in
    ap (λ (l : List ℕ). take (closing_gate bodies) l) parts ∙ bytes_before version issuer bodies (framed more ++ after) is.nif

-- a file of more bodies has those of a file of the first ones
pub front_of_more : (version : Version) (issuer : List ℕ) (bodies more : List (List ℕ)) (held file : List ℕ) →
    IsFile version issuer bodies held → IsFile version issuer (bodies ++ more) file → KeepsFront (closing_gate bodies) held file
front_of_more version issuer bodies more held file from to =
    front_is version issuer bodies more file to
    ∙ sym (ap (λ (l : List ℕ). take (closing_gate bodies) l) from.parts
    ∙ bytes_before version issuer bodies (from.gate ∷ from.rest) from.nif)
