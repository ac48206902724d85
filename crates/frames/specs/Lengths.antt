-- The four bytes of a length, and parts in front of a list.
use Rattle.std.specs.Prelude.{◌≡◌, ◌<◌, ◌≤◌, ℕ, List, [], ◌∷◌, ◌++◌, length, get_or, refl}
use Rattle.std.proofs.Common.{sym, ◌∙◌, ap, arith}
use Rattle.std.proofs.lemmas.Nat.{be_bytes_4, from_be_bytes-to_be_bytes_4}
use Rattle.std.specs.Int.{w32, from_be_bytes}
use Rattle.frames.specs.declared.TheConstants.{FRAME}
use Rattle.frames.specs.Frames.{length_bytes}

pub length-length_bytes : (n : ℕ) → length (length_bytes n) ≡ 4
unfolding length_bytes
length-length_bytes n = refl

pub length_read : (n : ℕ) → n ≤ FRAME → from_be_bytes w32 (length_bytes n) ≡ n
unfolding length_bytes
length_read n small = from_be_bytes-to_be_bytes_4 n (omega arith)

pub length_of : (head : List ℕ) (n : ℕ) → length head ≡ 4 → ((i : ℕ) → get_or head i 0 < 256) → n ≡ from_be_bytes w32 head →
    length_bytes n ≡ head
unfolding length_bytes
length_of head n four bytes is = be_bytes_4 head n four bytes is

-- two lengths with the same bytes are one
pub same_length : (m n : ℕ) → m ≤ FRAME → n ≤ FRAME → length_bytes m ≡ length_bytes n → m ≡ n
same_length m n small small' same = sym (length_read m small) ∙ ap (λ (l : List ℕ). from_be_bytes w32 l) same ∙
    length_read n small'

-- equal parts in front are equal, and so is what follows
pub same_front : (a b x y : List ℕ) → length a ≡ length b → a ++ x ≡ b ++ y → (a ≡ b) × (x ≡ y)
same_front [] [] x y e is = (refl, is)
same_front [] (q ∷ b) x y e is = absurd (omega arith)
same_front (p ∷ a) [] x y e is = absurd (omega arith)
same_front (p ∷ a) (q ∷ b) x y e is =
    let heads : p ≡ q = cc is in
    let tails : a ++ x ≡ b ++ y = cc is in
    let rest = same_front a b x y (omega arith) tails in
    let first : p ∷ a ≡ q ∷ b = cc (heads, rest.0) in (first, rest.1)
