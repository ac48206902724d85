-- How an amount is written in a record.
use Rattle.std.specs.Prelude.{ℕ, zero, suc, ◌+◌, ◌/◌, ◌%◌, List, [], ◌∷◌, ◌++◌, map, codes, ℤ, pos, negsuc}
use Rattle.std.specs.Int.Digits.{digits_of}

-- a number in decimal, without leading zeros
unfoldable pub whole_text : ℕ → List ℕ
whole_text zero = codes "0"
whole_text (suc n) = map (λ d. 48 + d) (digits_of 10 (suc n))

-- this many cents: euros, a point, and two digits
unfoldable pub cents_text : ℕ → List ℕ
cents_text n = whole_text (n / 100) ++ codes "." ++ ((48 + n % 100 / 10) ∷ (48 + n % 10) ∷ [])

-- with a minus in front where negative
unfoldable pub amount_text : ℤ → List ℕ
amount_text (pos n) = cents_text n
amount_text (negsuc n) = codes "-" ++ cents_text (suc n)
