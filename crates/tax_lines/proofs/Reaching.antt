-- Each total up to that of a base is that of one base or of two.
use Rattle.std.proofs.Common.{◌≡◌, inl, inr, ◌⊎◌, ℕ, zero, suc, ◌+◌, ◌<◌, ◌≤◌, sym, arith}
use Rattle.std.proofs.lemmas.Bool.{cases_lt, cases_order}
use Rattle.tax_lines.specs.declared.lines.TheConstants.{MAX_BASE}
use Rattle.tax_lines.specs.Keys.{Key, IsKey}
use Rattle.tax_lines.specs.TotalLines.{gross, IsOne, IsTwo, EachTotalHasLines}
use Rattle.tax_lines.proofs.Grossing.{gross_next, gross_next_alone, gross_one, gross_two, low_rates}

abbrev Reached : Key → ℕ → Type 0
Reached key total = ((base : ℕ) × IsOne key total base) ⊎ ((first second : ℕ) × IsTwo key total first second)

one : (key : Key) (total base : ℕ) → base ≤ MAX_BASE → gross key base ≡ total → Reached key total
one key total base low is = inl (base, record { limit = low; total_is = is })

-- a total between those of two neighbours: by the lower one and one cent, or, where there is a surcharge, two
between : (key : Key) → IsKey key → (total base : ℕ) → suc base ≤ MAX_BASE → gross key base < total →
    total < gross key (suc base) → Reached key total
between key is total zero low above below = absurd (omega (arith, gross_one key is))
between key is total (suc zero) low above below = elim (low_rates key.class key.rate is.of_rate) [
  | inl none ↦ inr (
    1,
    1,
    record {
      order = omega arith;
      limit = omega (arith, low);
      total_is = omega (arith, gross_one key is, gross_next_alone key is none 1);
    },
  )
  | inr some ↦ absurd (omega (arith, gross_one key is, gross_two key some.0 some.1))
]
between key is total (suc (suc n)) low above below =
    let base = suc (suc n) in
    let e : suc base ≡ base + 1 = omega arith in
    elim (cases_lt (gross key base + 1) total) [
      | inr near ↦ inr (
        base,
        1,
        record {
          order = omega arith;
          limit = omega (arith, low);
          total_is = omega (arith, gross_one key is);
        },
      )
      | inl far ↦ elim (low_rates key.class key.rate is.of_rate) [
        | inl none ↦ absurd (let next = gross_next_alone key is none base in let here : total < gross key (base + 1) = rw e at below in omega (arith, next, here))
        | inr some ↦ inr (
          base,
          2,
          record {
            order = omega arith;
            limit = omega (arith, low);
            total_is = let next = gross_next key is base in let here : total < gross key (base + 1) = rw e at below in omega (arith, next, here, gross_two key some.0 some.1);
          },
        )
      ]
    ]

up_to : (key : Key) → IsKey key → (base : ℕ) → base ≤ MAX_BASE → (total : ℕ) → total ≤ gross key base → Reached key total
up_to key is zero low total h = one key total zero low (omega (arith, h))
up_to key is (suc base) low total h = elim (cases_lt (gross key base) total) [
  | inr below ↦ up_to key is base (omega (arith, low)) total below
  | inl above ↦ elim (cases_order total (gross key (suc base))) [
    | inl e ↦ one key total (suc base) low (sym e)
    | inr (inl lt) ↦ between key is total base low above lt
    | inr (inr gt) ↦ absurd (omega (arith, h, gt))
  ]
]

pub each_reached : EachTotalHasLines
each_reached key is total h = up_to key is MAX_BASE (omega arith) total h
