-- Amounts in cents, rates in hundredths of a percent, and the tax of a base. The limits and the rounding are this project's
-- own.
use Rattle.std.specs.Prelude.{◌≡◌, ◌⊎◌, ℕ, ◌+◌, ◌*◌, ◌/◌, ◌≤◌, ℤ, pos, negsuc, neg_ℤ, unsigned_abs}
use Rattle.amounts.specs.declared.cents.TheConstants.{MAX_CENTS}

-- an amount within the limit, either way
abbrev pub IsCents : ℤ → Type 0
IsCents v = unsigned_abs v ≤ MAX_CENTS

-- a rate of at most 25 percent
abbrev pub IsRate : ℕ → Type 0
IsRate r = r ≤ 2500

-- that much, with the sign of the number
abbrev pub with_sign_of : ℤ → ℕ → ℤ
with_sign_of (pos _) n = pos n
with_sign_of (negsuc _) n = neg_ℤ (pos n)

-- the tax of a base: base times rate over 10000, rounded half away from zero
abbrev pub tax : ℤ → ℕ → ℤ
tax base rate = with_sign_of base ((2 * (unsigned_abs base * rate) + 10_000) / 20_000)

-- n is v, or both are past every amount
abbrev pub IsSize : ℕ → ℕ → Type 0
IsSize n v = (n ≡ v) ⊎ ((10_000_000_000_000 ≤ n) × (10_000_000_000_000 ≤ v))
