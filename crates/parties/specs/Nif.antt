-- The tax numbers: their three shapes and their control bytes. Persons: Real Decreto 1065/2007, articles 19 and 20.
-- Entities: Orden EHA/451/2008. That an entity's control may be the digit or the letter, whatever its first letter, is this
-- project's own.
use Rattle.std.specs.Prelude.{◌≡◌, ℕ, ◌+◌, ◌-◌, ◌*◌, ◌/◌, ◌%◌, ◌&&◌, ◌||◌, ◌==◌, nat_le, Bool, true, List, length, codes}
use Rattle.std.specs.Prelude.{slice_index, if◌then◌else◌}

-- a byte of this kind
abbrev pub is_digit : ℕ → Bool
is_digit c = nat_le 48 c && nat_le c 57

abbrev pub is_capital : ℕ → Bool
is_capital c = nat_le 65 c && nat_le c 90

-- X, Y or Z
abbrev pub is_foreign_letter : ℕ → Bool
is_foreign_letter c = nat_le 88 c && nat_le c 90

-- one of `ABCDEFGHJNPQRSUVW`
abbrev pub is_entity_letter : ℕ → Bool
is_entity_letter c =
    (nat_le 65 c && nat_le c 72) || (c == 74) || (c == 78) || (nat_le 80 c && nat_le c 83)
    || (nat_le 85 c && nat_le c 87)

-- a digit, or a letter from A to J
abbrev pub is_entity_control : ℕ → Bool
is_entity_control c = is_digit c || (nat_le 65 c && nat_le c 74)

-- seven digits stand after the first byte
abbrev pub has_seven_digits : List ℕ → Bool
has_seven_digits t =
    is_digit (slice_index t 1) && is_digit (slice_index t 2) && is_digit (slice_index t 3)
    && is_digit (slice_index t 4) && is_digit (slice_index t 5) && is_digit (slice_index t 6)
    && is_digit (slice_index t 7)

-- a person's: eight digits, or X, Y or Z and seven digits, and a capital letter
abbrev pub is_person : List ℕ → Bool
is_person t =
    (is_digit (slice_index t 0) || is_foreign_letter (slice_index t 0)) && has_seven_digits t
    && is_capital (slice_index t 8)

-- an entity's: its letter, seven digits, and a digit or a letter A to J
abbrev pub is_entity : List ℕ → Bool
is_entity t =
    is_entity_letter (slice_index t 0) && has_seven_digits t && is_entity_control (slice_index t 8)

-- the digit at a place
abbrev pub digit_at : List ℕ → ℕ → ℕ
digit_at t k = slice_index t k - 48

-- the number of the seven digits after the first byte
abbrev pub seven_digits : List ℕ → ℕ
seven_digits t =
    digit_at t 1 * 1_000_000 + digit_at t 2 * 100_000 + digit_at t 3 * 10_000 + digit_at t 4 * 1000
    + digit_at t 5 * 100 + digit_at t 6 * 10 + digit_at t 7

-- the digit that a person's first byte is read as: X, Y and Z as 0, 1 and 2
abbrev pub first_digit : ℕ → ℕ
first_digit c = if is_digit c then c - 48 else c - 88

-- a person's number
abbrev pub person_number : List ℕ → ℕ
person_number t = first_digit (slice_index t 0) * 10_000_000 + seven_digits t

-- the letter of a person's number
unfoldable pub person_letter : List ℕ → ℕ
person_letter t = slice_index (codes "TRWAGMYFPDXBNJZSQVHLCKE") (person_number t % 23)

-- the sum of the digits of a doubled digit
abbrev pub doubled : ℕ → ℕ
doubled d = 2 * d / 10 + 2 * d % 10

-- an entity's control: the digits in even places, and those in odd ones doubled
unfoldable pub entity_control : List ℕ → ℕ
entity_control t =
    (10 - (digit_at t 2 + digit_at t 4 + digit_at t 6 + (doubled (digit_at t 1)
    + doubled (digit_at t 3) + doubled (digit_at t 5) + doubled (digit_at t 7))) % 10) % 10

-- and its letter
abbrev pub entity_letter : ℕ → ℕ
entity_letter control = slice_index (codes "JABCDEFGHI") control

-- the last byte that belongs there: a person's letter, or an entity's digit
abbrev pub wanted_control : List ℕ → ℕ
wanted_control t = if is_person t then person_letter t else 48 + entity_control t

-- the last byte is a person's letter, or an entity's digit or letter
abbrev pub is_controlled : List ℕ → Bool
is_controlled t =
    if is_person t then slice_index t 8 == person_letter t
    else (slice_index t 8 == 48 + entity_control t)
    || (slice_index t 8 == entity_letter (entity_control t))

-- a tax number
pub record IsNif (t : List ℕ) : Type 0 where
  pub nine : length t ≡ 9
  pub shaped : (is_person t || is_entity t) ≡ true
  pub controlled : is_controlled t ≡ true
