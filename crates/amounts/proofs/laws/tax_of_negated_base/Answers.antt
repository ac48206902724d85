use Rattle.std.proofs.Common.{◌≡◌, ℕ, zero, suc, ◌+◌, ◌*◌, ◌/◌, refl, sym, arith, ℤ, pos, negsuc, neg_ℤ}
use Rattle.std.proofs.Math.IntN.{neg_ℤ-neg_ℤ}
use Rattle.amounts.specs.Cents.{tax}
use Rattle.amounts.proofs.laws.tax_of_negated_base.Goals as goal

negated : (base : ℤ) (rate : ℕ) → tax (neg_ℤ base) rate ≡ neg_ℤ (tax base rate)
negated (pos zero) rate = let none : (2 * (0 * rate) + 10_000) / 20_000 ≡ 0 = omega arith in rw none refl
negated (pos (suc n)) rate = refl
negated (negsuc n) rate = sym (neg_ℤ-neg_ℤ (pos ((2 * (suc n * rate) + 10_000) / 20_000)))

pub returns : goal.returns
returns c base rate = negated base rate
