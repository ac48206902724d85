-- How near a base, or the sum of two, is to the rounded quotient of its total.
use Rattle.std.proofs.Common.{◌≡◌, inl, inr, ℕ, ◌+◌, ◌*◌, ◌<◌, ◌≤◌, arith}
use Rattle.std.proofs.Math.Nat.{mul-le-mul}
use Rattle.std.proofs.lemmas.Bool.{cases_lt}
use Rattle.tax_lines.specs.Keys.{Key}
use Rattle.tax_lines.specs.TotalLines.{factor, IsOne, IsTwo}
use Rattle.tax_lines.proofs.Grossing.{gross_close}

-- the quotient of 10,000 times the total and the factor, rounded
pub record IsQuotient (key : Key) (total near : ℕ) : Type 0 where
  pub low : 2 * (near * factor key) ≤ 20_000 * total + factor key
  pub high : 20_000 * total + factor key < 2 * (near * factor key) + 2 * factor key

-- a number that is more by that much
farther : (key : Key) (m n k : ℕ) → m + k ≤ n → m * factor key + k * factor key ≤ n * factor key
farther key m n k h =
    let product : (m + k) * factor key ≤ n * factor key = mul-le-mul h (omega arith) in
    let parts : (m + k) * factor key ≡ m * factor key + k * factor key = omega arith in
    omega (arith, product, parts)

pub near_one : (key : Key) (total near base : ℕ) → IsQuotient key total near → IsOne key total base →
    (base ≤ near + 1) × (near ≤ base + 1)
near_one key total near base q is =
    let close = gross_close key base in
    let t = is.total_is in (
      elim (cases_lt (near + 1) base) [
        | inr le ↦ le
        | inl far ↦ absurd (let f = farther key near base 2 (omega (arith, far)) in omega (arith, q.high, close.above, t, f))
      ],
      elim (cases_lt (base + 1) near) [
        | inr le ↦ le
        | inl far ↦ absurd (let f = farther key base near 2 (omega (arith, far)) in omega (arith, q.low, close.below, t, f))
      ],
    )

-- the unrounded sum of two is within two cents of their total
two_close : (key : Key) (total a b : ℕ) → IsTwo key total a b →
    ((a + b) * factor key ≤ 10_000 * total + 20_000) × (10_000 * total ≤ (a + b) * factor key + 20_000)
two_close key total a b is =
    let first = gross_close key a in
    let second = gross_close key b in
    let parts : (a + b) * factor key ≡ a * factor key + b * factor key = omega arith in
    (omega (arith, first.above, second.above, is.total_is, parts), omega (arith, first.below, second.below, is.total_is, parts))

pub near_two : (key : Key) (total near a b : ℕ) → IsQuotient key total near → IsTwo key total a b →
    (a + b ≤ near + 2) × (near ≤ a + b + 2)
near_two key total near a b q is =
    let close = two_close key total a b is in (
      elim (cases_lt (near + 2) (a + b)) [
        | inr le ↦ le
        | inl far ↦ absurd (let f = farther key near (a + b) 3 (omega (arith, far)) in omega (arith, q.high, close.0, f))
      ],
      elim (cases_lt (a + b + 2) near) [
        | inr le ↦ le
        | inl far ↦ absurd (let f = farther key (a + b) near 3 (omega (arith, far)) in omega (arith, q.low, close.1, f))
      ],
    )
