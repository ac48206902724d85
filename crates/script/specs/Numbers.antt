-- Numbers as a script writes them: decimal digits without leading zeros. The form is this project's own.
use Rattle.std.specs.Prelude.{ℕ, List, drop, ◌&&◌, nat_le, bytes_eq, ◌==◌, if◌then◌else◌, slice_index, Option, option_map, ℤ, pos}
use Rattle.std.specs.Prelude.{neg_ℤ}
use Rattle.std.specs.Str.Parse.{digits_value}
use Rattle.amounts.specs.Text.{whole_text}
use Rattle.amounts.specs.declared.cents.TheConstants.{MAX_CENTS}
use Rattle.record_fields.specs.Picks.{when}

-- the number whose text this is, where it lies in the range
abbrev pub number_in : ℕ → ℕ → List ℕ → Option ℕ
number_in low high text =
    let n = digits_value 10 text in when (bytes_eq text (whole_text n) && nat_le low n && nat_le n high) n

-- cents within the limit of amounts, with a minus in front where they are negative
abbrev pub cents_of : List ℕ → Option ℤ
cents_of text =
    if slice_index text 0 == 45 then option_map (λ n. neg_ℤ (pos n)) (number_in 1 MAX_CENTS (drop 1 text))
    else option_map pos (number_in 0 MAX_CENTS text)
