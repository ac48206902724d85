-- Small hexadecimal digits, made capital, are the capital ones.
use Rattle.std.proofs.Common.{◌≡◌, ℕ, zero, suc, List, [], ◌∷◌, map, refl, sym, arith, ◌<◌, ◌/◌, ◌%◌, length}
use Rattle.std.specs.Char.{to_ascii_uppercase}
use Rattle.std.specs.Prelude.{slice_index}
use Rattle.hex.specs.Hex.{IsBytes, encode_with, lower_digits, upper_digits}

index_map : (f : ℕ → ℕ) (xs : List ℕ) (n : ℕ) → n < length xs → slice_index (map f xs) n ≡ f (slice_index xs n)
index_map f [] n h = absurd (omega arith)
index_map f (x ∷ xs) zero h = refl
index_map f (x ∷ xs) (suc n) h = index_map f xs n (omega arith)

capital : (n : ℕ) → n < 16 → to_ascii_uppercase (slice_index lower_digits n) ≡ slice_index upper_digits n
capital n h = sym (index_map to_ascii_uppercase lower_digits n h)

pub capitals : (bytes : List ℕ) → IsBytes bytes → map to_ascii_uppercase (encode_with lower_digits bytes) ≡ encode_with
    upper_digits bytes
unfolding encode_with
capitals [] h = refl
capitals (b ∷ bytes) h = rw (
  capital (b / 16) (let s = h 0 in omega arith),
  capital (b % 16) (omega arith),
  capitals bytes (λ i. h (suc i)),
) refl
