-- Where a number stands in its series.
use Rattle.std.specs.Prelude.{ℕ, ◌+◌, ◌-◌, List, length, drop, ◌&&◌, nat_le, bytes_eq, Bool, Option}
use Rattle.std.specs.Str.Parse.{digits_value}
use Rattle.record_fields.specs.Picks.{when}
use Rattle.series.specs.Numbers.{is_series, number_text, series_of}
use Rattle.shop_core.specs.declared.tables.spots.Spot.{Spot}
use Rattle.shop_core.specs.declared.tables.spots.TheConstants.{MAX_OF_SERIES}

-- what the digits after the last dash of a number write
abbrev pub count_of : List ℕ → ℕ
count_of number = digits_value 10 (drop (1 + length (series_of number)) number)

-- it is the k-th number of the series of this name
abbrev pub is_number_of : List ℕ → ℕ → List ℕ → Bool
is_number_of name k number = is_series name && bytes_eq number (number_text name k) && (nat_le 1 k && nat_le k MAX_OF_SERIES)

-- the place of `NAME-k` is k - 1, where it is the k-th number of a series
unfoldable pub spot_of : List ℕ → Option Spot
spot_of number =
    let name = series_of number in
    let k = count_of number in
    when (is_number_of name k number) (record { series = name; index = k - 1 })
