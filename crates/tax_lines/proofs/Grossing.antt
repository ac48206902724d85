-- What is paid for a base: how it grows, how near it is to the unrounded sum, and where taxes repeat.
use Rattle.std.proofs.Common.{◌≡◌, inl, inr, ◌⊎◌, ℕ, ◌+◌, ◌*◌, ◌≤◌, refl, arith}
use Rattle.std.proofs.lemmas.Bool.{eqb-true}
use Rattle.std.proofs.Common.{true}
use Rattle.tax_lines.specs.declared.classes.Class.{Class}
use Rattle.tax_lines.specs.declared.classes.Class.TheVariants.{GeneralSurcharge, ReducedSurcharge}
use Rattle.tax_lines.specs.declared.classes.Class.TheVariants.{SuperReducedSurcharge}
use Rattle.tax_lines.specs.Classes.{class_surcharge}
use Rattle.tax_lines.specs.Keys.{Key, IsKey, has_rate}
use Rattle.tax_lines.specs.TotalLines.{rounded, gross, factor}
use Rattle.tax_lines.proofs.TotalLemmas.{rate_bound, surcharge_bound}

-- a base more by one has at most one cent more of tax
rounded_grows : (base rate : ℕ) → rate ≤ 10_000 → rounded base rate ≤ rounded (base + 1) rate
rounded_grows base rate h =
    let more : (base + 1) * rate ≡ base * rate + rate = omega arith in
    omega (arith, more)

rounded_next : (base rate : ℕ) → rate ≤ 10_000 → rounded (base + 1) rate ≤ rounded base rate + 1
rounded_next base rate h =
    let more : (base + 1) * rate ≡ base * rate + rate = omega arith in
    omega (arith, more)

-- after 10,000 cents taxes repeat
rounded_repeats : (base rate : ℕ) → rounded (base + 10_000) rate ≡ rounded base rate + rate
rounded_repeats base rate =
    let more : (base + 10_000) * rate ≡ base * rate + 10_000 * rate = omega arith in
    omega (arith, more)

pub gross_repeats : (key : Key) (base : ℕ) → gross key (base + 10_000) ≡ gross key base + factor key
gross_repeats key base = rw (rounded_repeats base key.rate, rounded_repeats base (class_surcharge key.class)) (omega arith)

-- the unrounded sum is within a cent of it
pub record IsClose (key : Key) (base : ℕ) : Type 0 where
  pub above : base * factor key ≤ 10_000 * gross key base + 10_000
  pub below : 10_000 * gross key base ≤ base * factor key + 10_000

pub gross_close : (key : Key) (base : ℕ) → IsClose key base
gross_close key base =
    let s = class_surcharge key.class in
    let parts : base * factor key ≡ base * 10_000 + (base * key.rate + base * s) = omega arith in
    record { above = omega (arith, parts); below = omega (arith, parts) }

-- ---- growth

pub gross_more : (key : Key) → IsKey key → (base : ℕ) → gross key base + 1 ≤ gross key (base + 1)
gross_more key is base =
    let r = rounded_grows base key.rate (omega (arith, rate_bound key is)) in
    let s = rounded_grows base (class_surcharge key.class) (omega (arith, surcharge_bound key.class)) in
    omega (arith, r, s)

pub gross_next : (key : Key) → IsKey key → (base : ℕ) → gross key (base + 1) ≤ gross key base + 3
gross_next key is base =
    let r = rounded_next base key.rate (omega (arith, rate_bound key is)) in
    let s = rounded_next base (class_surcharge key.class) (omega (arith, surcharge_bound key.class)) in
    omega (arith, r, s)

-- without a surcharge at most two
pub gross_next_alone : (key : Key) → IsKey key → class_surcharge key.class ≡ 0 → (base : ℕ) →
    gross key (base + 1) ≤ gross key base + 2
gross_next_alone key is none base =
    let r = rounded_next base key.rate (omega (arith, rate_bound key is)) in
    rw none (let z : base * 0 ≡ 0 = omega arith in let y : (base + 1) * 0 ≡ 0 = omega arith in rw (y, z) (omega (arith, r)))

-- where there is a surcharge two cents have no tax
pub low_rates : (class : Class) (rate : ℕ) → has_rate class rate ≡ true →
    (class_surcharge class ≡ 0) ⊎ ((rate ≤ 2_100) × (class_surcharge class ≤ 520))
low_rates GeneralSurcharge rate is = inr (let e = eqb-true rate 2100 is in omega (arith, e), omega arith)
low_rates ReducedSurcharge rate is = inr (let e = eqb-true rate 1000 is in omega (arith, e), omega arith)
low_rates SuperReducedSurcharge rate is = inr (let e = eqb-true rate 400 is in omega (arith, e), omega arith)
low_rates other rate is = inl refl

pub gross_one : (key : Key) → IsKey key → gross key 1 ≡ 1
gross_one key is = omega (arith, rate_bound key is, surcharge_bound key.class)

pub gross_two : (key : Key) → key.rate ≤ 2_100 → class_surcharge key.class ≤ 520 → gross key 2 ≡ 2
gross_two key low small = omega (arith, low, small)
