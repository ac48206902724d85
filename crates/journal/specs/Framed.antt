-- A frame more after the others.
use Rattle.std.specs.Prelude.{◌≡◌, ◌+◌, ℕ, List, [], ◌∷◌, ◌++◌, length}
use Rattle.std.proofs.Common.{sym, ap, arith, append_assoc, length-append}
use Rattle.std.proofs.lemmas.List.{append-nil}
use Rattle.frames.specs.Frames.{length_bytes, IsBody}
use Rattle.frames.specs.Lengths.{length-length_bytes}
use Rattle.journal.specs.File.{framed, AreBodies}

pub framed-push : (bodies : List (List ℕ)) (body rest : List ℕ) → framed (bodies ++ body ∷ []) ++ rest ≡ framed bodies ++
    (1 ∷ (length_bytes (length body) ++ (body ++ rest)))
framed-push [] body rest = simp (append_assoc, append-nil)
framed-push (b ∷ bodies) body rest =
    simp append_assoc (ap (λ (l : List ℕ). 1 ∷ (length_bytes (length b) ++ (b ++ l))) (framed-push bodies body rest))

pub length-framed-push : (bodies : List (List ℕ)) (body : List ℕ) → length (framed (bodies ++ body ∷ [])) ≡ length (framed bodies)
    + (length body + 5)
length-framed-push bodies body =
    let n = length_bytes (length body) in
    omega (
      arith,
      ap length (sym (append-nil (framed (bodies ++ body ∷ [])))),
      ap length (framed-push bodies body []),
      length-append (framed bodies) (1 ∷ (n ++ (body ++ []))),
      length-append n (body ++ []),
      length-append body [],
      length-length_bytes (length body),
    )

pub AreBodies-push : (bodies : List (List ℕ)) (body : List ℕ) → AreBodies bodies → IsBody body → AreBodies (bodies ++ body ∷ [])
AreBodies-push [] body are is = (is, tt)
AreBodies-push (b ∷ bodies) body are is = (are.0, AreBodies-push bodies body are.1 is)
