-- The pairs of a sum: where one of a total differs much, one that differs less has that total too.
use Rattle.std.proofs.Common.{◌≡◌, inl, inr, ℕ, zero, suc, ◌+◌, ◌-◌, ◌*◌, ◌/◌, ◌%◌, ◌<◌, ◌≤◌, subst, arith}
use Rattle.std.proofs.lemmas.Bool.{cases_lt}
use Rattle.tax_lines.specs.Keys.{Key}
use Rattle.tax_lines.specs.TotalLines.{gross, IsTwo}
use Rattle.tax_lines.proofs.Grossing.{gross_repeats}

-- the pair of a sum whose greater part is the half, rounded up, and that much more
abbrev pub IsSplit : Key → ℕ → ℕ → ℕ → Type 0
IsSplit key total sum half = IsTwo key total (sum - sum / 2 + half) (sum / 2 - half)

-- 10,000 cents from the greater part to the other
pub less_apart : (key : Key) (total sum half : ℕ) → half + 10_000 ≤ sum / 2 → IsSplit key total sum (half + 10_000) →
    IsSplit key total sum half
less_apart key total sum half h is =
    let up = gross_repeats key (sum - sum / 2 + half) in
    let down = gross_repeats key (sum / 2 - (half + 10_000)) in
    let a : sum - sum / 2 + (half + 10_000) ≡ sum - sum / 2 + half + 10_000 = omega arith in
    let b : sum / 2 - half ≡ sum / 2 - (half + 10_000) + 10_000 = omega (arith, h) in
    let t : gross key (sum - sum / 2 + half + 10_000) + gross key (sum / 2 - (half + 10_000)) ≡ total = rw a at is.total_is in
    record {
      order = omega arith;
      limit = omega (arith, is.limit);
      total_is = rw b (rw down (omega (arith, t, up)));
    }

-- if no pair that differs little is of that total, none is
pub none_far : (key : Key) (total sum : ℕ) → ((half : ℕ) → half < 10_000 → half ≤ sum / 2 → ¬ (IsSplit key total sum half)) →
    (turns half : ℕ) → half < 10_000 → half + turns * 10_000 ≤ sum / 2 → ¬ (IsSplit key total sum (half + turns * 10_000))
none_far key total sum none zero half low inside is =
    let z : half + 0 * 10_000 ≡ half = omega arith in none half low (omega (arith, inside)) (rw z at is)
none_far key total sum none (suc turns) half low inside is =
    let z : half + suc turns * 10_000 ≡ half + turns * 10_000 + 10_000 = omega arith in
    none_far key total sum none turns half low (omega (arith, inside))
    (less_apart key total sum (half + turns * 10_000) (omega (arith, inside)) (rw z at is))

-- each pair of a sum is such a split
pub split_of : (key : Key) (total sum a b : ℕ) → IsTwo key total a b → a + b ≡ sum →
    (a - (sum - sum / 2) ≤ sum / 2) × IsSplit key total sum (a - (sum - sum / 2))
split_of key total sum a b is e =
    let o = is.order in
    let first : sum - sum / 2 + (a - (sum - sum / 2)) ≡ a = omega (arith, o, e) in
    let second : sum / 2 - (a - (sum - sum / 2)) ≡ b = omega (arith, o, e) in
    (omega (arith, o, e), rw (first, second) is)

pub no_pair : (key : Key) (total sum : ℕ) → ((half : ℕ) → half < 10_000 → half ≤ sum / 2 → ¬ (IsSplit key total sum half)) →
    (a b : ℕ) → IsTwo key total a b → ¬ (a + b ≡ sum)
no_pair key total sum none a b is e =
    let split = split_of key total sum a b is e in
    let half = a - (sum - sum / 2) in
    let z : half ≡ half % 10_000 + half / 10_000 * 10_000 = omega arith in
    none_far key total sum none (half / 10_000) (half % 10_000) (omega arith) (omega (arith, z, split.0))
    (subst (IsSplit key total sum) z split.1)

-- where no pair that differs less is of that total, each that is differs at least so much
pub at_least : (key : Key) (total sum half : ℕ) → ((h : ℕ) → h < half → h ≤ sum / 2 → ¬ (IsSplit key total sum h)) →
    (a b : ℕ) → IsTwo key total a b → a + b ≡ sum → sum - sum / 2 + half ≤ a
at_least key total sum half none a b is e =
    let split = split_of key total sum a b is e in
    let o = is.order in
    elim (cases_lt (a - (sum - sum / 2)) half) [
      | inl less ↦ absurd (none (a - (sum - sum / 2)) less split.0 split.1)
      | inr more ↦ omega (arith, more, o, e)
    ]
