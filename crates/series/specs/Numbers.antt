-- Names of series and numbers of invoices, `NumSerieFactura` of the record, as lists of bytes. The forms are this project's
-- own.
use Rattle.std.specs.Prelude.{ℕ, ◌-◌, List, ◌∷◌, ◌++◌, length, Bool, ◌&&◌, ◌||◌, not, nat_le, ◌==◌, decimal, slice_index}
use Rattle.std.specs.List.{list_all, before_last}

-- one of `A-Z a-z 0-9 / _`
abbrev pub is_series_char : ℕ → Bool
is_series_char c = (nat_le 48 c && nat_le c 57) || (nat_le 65 c && nat_le c 90) || (nat_le 97 c && nat_le c 122) || (c == 47) ||
    (c == 95)

-- the name of a series: 1 to 20 of these
abbrev pub is_series : List ℕ → Bool
is_series text = nat_le 1 (length text) && nat_le (length text) 20 && list_all is_series_char text

-- printable ASCII, and none of `" ' < > =`
abbrev pub is_number_char : ℕ → Bool
is_number_char c = nat_le 32 c && nat_le c 126 && not ((c == 34) || (c == 39) || (c == 60) || (c == 61) || (c == 62))

-- the number of an invoice: 1 to 60 of these, with no blank at either end
abbrev pub is_num_serie : List ℕ → Bool
is_num_serie text =
    nat_le 1 (length text) && nat_le (length text) 60 && list_all is_number_char text
    && not (slice_index text 0 == 32) && not (slice_index text (length text - 1) == 32)

-- the n-th number of a series: its name, a dash and n in decimal
abbrev pub number_text : List ℕ → ℕ → List ℕ
number_text name n = name ++ 45 ∷ decimal n

-- what stands before the last dash of a number, nothing where it has none
unfoldable pub series_of : List ℕ → List ℕ
series_of number = before_last (λ c. c == 45) number
