-- What a name is. The form is this project's own.
use Rattle.std.specs.Prelude.{◌≡◌, ◌≢◌, ◌⊎◌, ℕ, ◌-◌, ◌||◌, ◌==◌, nat_lt, Bool, List, length, slice_index, position, None}
use Rattle.std.specs.Int.{IsInRange}

-- a control character, each of which is one byte of UTF-8
abbrev pub is_control : ℕ → Bool
is_control c = nat_lt c 32 || (c == 127)

-- a blank stands at either end
abbrev pub HasBlankEdge : List ℕ → Type 0
HasBlankEdge t = (slice_index t 0 ≡ 32) ⊎ (slice_index t (length t - 1) ≡ 32)

-- 1 to 120 bytes, without control characters, and with no blank at either end
pub record IsName (t : List ℕ) : Type 0 where
  pub long : IsInRange 1 120 (length t)
  pub plain : position is_control t ≡ None
  pub first : slice_index t 0 ≢ 32
  pub last : slice_index t (length t - 1) ≢ 32
