-- A list that is filled up with zeros: its front gives it back.
use Rattle.std.specs.Prelude.{◌≡◌, ℕ, ◌-◌, ◌≤◌, List, ◌++◌, length, take, drop, replicate}
use Rattle.std.proofs.Common.{sym, subst}
use Rattle.std.proofs.lemmas.List.{take-append-drop, length-take-le}

-- `size` bytes, of which those past the length are 0
pub record IsPadded (size len : ℕ) (bytes : List ℕ) : Type 0 where
  pub fits : len ≤ size
  pub whole : length bytes ≡ size
  pub zeros : drop len bytes ≡ replicate (size - len) 0

pub length_front : (size len : ℕ) (bytes : List ℕ) → IsPadded size len bytes → length (take len bytes) ≡ len
length_front size len bytes p = length-take-le len bytes (subst (λ (k : ℕ). len ≤ k) (sym p.whole) p.fits)

pub padded_front : (size len : ℕ) (bytes : List ℕ) → IsPadded size len bytes
    → take len bytes ++ replicate (size - length (take len bytes)) 0 ≡ bytes
padded_front size len bytes p = rw (length_front size len bytes p, ← p.zeros) (take-append-drop len bytes)
