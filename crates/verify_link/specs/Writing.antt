-- How a link's values are percent-encoded, after RFC 3986, section 2. That exactly its unreserved characters stay as they are
-- is this project's own.
use Rattle.std.specs.Prelude.{◌≡◌, ℕ, ◌+◌, ◌-◌, ◌<◌, List, [], ◌∷◌, length, Bool, true, false, ◌&&◌, ◌||◌, not, nat_le, ◌==◌}
use Rattle.std.specs.Prelude.{if◌then◌else◌, slice_index}
use Rattle.std.specs.Char.{is_digit, to_ascii_uppercase}
use Rattle.std.specs.List.{flat_map}
use Rattle.percent_encoding.specs.Percent.{percent_encode_byte}

-- one of `A-Z a-z 0-9 - . _ ~`
abbrev pub is_plain : ℕ → Bool
is_plain c =
    (nat_le 48 c && nat_le c 57) || (nat_le 65 c && nat_le c 90) || (nat_le 97 c && nat_le c 122)
    || (c == 45) || (c == 46) || (c == 95) || (c == 126)

-- a plain byte itself, any other as `%` and its two capital hexadecimal digits
abbrev pub encoded_byte : ℕ → List ℕ
encoded_byte b = if is_plain b then b ∷ [] else percent_encode_byte b

-- the bytes, each encoded
unfoldable pub encoded : List ℕ → List ℕ
encoded bytes = flat_map encoded_byte bytes

-- the byte is one of the two after a `%`
abbrev pub is_behind_percent : List ℕ → ℕ → Bool
is_behind_percent text k =
    (nat_le 1 k && (slice_index text (k - 1) == 37)) || (nat_le 2 k && (slice_index text (k - 2) == 37))

-- the two texts have the same byte there; after a `%` the first may have the small letter of the second's capital
abbrev pub agrees_at : List ℕ → List ℕ → ℕ → Bool
agrees_at text written k =
    (if is_behind_percent text k then to_ascii_uppercase (slice_index text k) else slice_index text k) == slice_index written k

-- the texts agree but in the case of the two characters after a `%`, which are capitals in the second
pub record AgreeButInCase (text written : List ℕ) : Type 0 where
  pub long : length text ≡ length written
  pub bytes : (k : ℕ) → k < length text → agrees_at text written k ≡ true

-- `%` without two hexadecimal digits after it stands at that byte
abbrev pub is_bad_escape : List ℕ → ℕ → Bool
is_bad_escape text k =
    (slice_index text k == 37)
    && not (is_digit (slice_index text (k + 1)) 16 && is_digit (slice_index text (k + 2)) 16)

-- the first of them stands there
pub record IsFirstBadEscape (text : List ℕ) (k : ℕ) : Type 0 where
  pub bad : is_bad_escape text k ≡ true
  pub first : (j : ℕ) → j < k → is_bad_escape text j ≡ false
