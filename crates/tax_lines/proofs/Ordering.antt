-- Sums of two bases in the order of how near they are to the quotient of a total.
use Rattle.std.proofs.Common.{◌≡◌, inl, inr, ◌⊎◌, ℕ, zero, suc, List, [], ◌∷◌, get_or, ◌+◌, ◌-◌, ◌*◌, ◌<◌, ◌≤◌, sym, ap, subst, ◌∙◌, arith}
use Rattle.std.proofs.Math.Nat.{mul-le-mul}
use Rattle.std.proofs.lemmas.Bool.{cases_lt, cases_eq}
use Rattle.tax_lines.specs.Keys.{Key, IsKey}
use Rattle.tax_lines.specs.TotalLines.{factor, distance, IsTwo, IsFirst, IsNearest, HasNone}
use Rattle.tax_lines.proofs.TotalLemmas.{rate_bound}
use Rattle.tax_lines.proofs.Grossing.{low_rates}
use Rattle.tax_lines.proofs.Nearness.{IsQuotient, near_two}

-- the one sum is as near as the other, and no smaller where it is no nearer
pub record IsBefore (key : Key) (total one other : ℕ) : Type 0 where
  pub near : distance key total one ≤ distance key total other
  pub away : distance key total other ≡ distance key total one → other ≤ one

through : (key : Key) (total a b c : ℕ) → IsBefore key total a b → IsBefore key total b c → IsBefore key total a c
through key total a b c ab bc = record {
  near = omega (arith, ab.near, bc.near);
  away = λ e. let one : distance key total b ≡ distance key total a = omega (arith, ab.near, bc.near, e) in
      let other : distance key total c ≡ distance key total b = omega (arith, ab.near, bc.near, e) in
      omega (arith, ab.away one, bc.away other);
}

-- a list of five sums, each before the next, which has each sum within two of the quotient
pub record IsSorted (key : Key) (total near : ℕ) (sums : List ℕ) : Type 0 where
  pub next : (i : ℕ) → i < 4 → IsBefore key total (get_or sums i 0) (get_or sums (suc i) 0)
  pub all : (sum : ℕ) → sum ≤ near + 2 → near ≤ sum + 2 → (i : ℕ) × (i < 5) × (get_or sums i 0 ≡ sum)

later : (key : Key) (total near : ℕ) (sums : List ℕ) → IsSorted key total near sums → (more i : ℕ) → i + more < 5 →
    IsBefore key total (get_or sums i 0) (get_or sums (i + more) 0)
later key total near sums is zero i h =
    let z : i + 0 ≡ i = omega arith in rw z (record { near = omega arith; away = λ e. omega arith })
later key total near sums is (suc more) i h =
    let z : i + suc more ≡ suc (i + more) = omega arith in
    rw z (through key total (get_or sums i 0) (get_or sums (i + more) 0) (get_or sums (suc (i + more)) 0)
    (later key total near sums is more i (omega (arith, h))) (is.next (i + more) (omega (arith, h))))

-- the first pair of such a list is before each other one
first_before : (key : Key) (total near : ℕ) (sums : List ℕ) → IsQuotient key total near → IsSorted key total near sums →
    (first second : ℕ) → IsFirst key total sums first second → (a b : ℕ) → IsTwo key total a b →
    IsBefore key total (first + second) (a + b)
first_before key total near sums q is first second here a b two =
    let within = near_two key total near a b q two in
    let at = is.all (a + b) within.0 within.1 in
    elim (cases_lt at.0 here.place) [
      | inl less ↦ absurd (here.none at.0 less a b two (sym at.2))
      | inr more ↦ (let z : here.place + (at.0 - here.place) ≡ at.0 = omega (arith, more) in
          let before = later key total near sums is (at.0 - here.place) here.place (omega (arith, at.1, z)) in
          let to : IsBefore key total (get_or sums here.place 0) (get_or sums at.0 0) = rw z at before in
          subst (λ s. IsBefore key total s (a + b)) here.here
          (subst (λ s. IsBefore key total (get_or sums here.place 0) s) at.2 to))
    ]

pub first_is_nearest : (key : Key) (total near : ℕ) (sums : List ℕ) → IsQuotient key total near → IsSorted key total near sums →
    (first second : ℕ) → IsFirst key total sums first second → IsNearest key total first second
first_is_nearest key total near sums q is first second here = record {
  two = here.two;
  near = λ a b two. (first_before key total near sums q is first second here a b two).near;
  away = λ a b two e. (first_before key total near sums q is first second here a b two).away e;
  even = here.even;
}

pub none_at_all : (key : Key) (total near : ℕ) (sums : List ℕ) → IsQuotient key total near → IsSorted key total near sums →
    ((i : ℕ) → i < 5 → HasNone key total (get_or sums i 0)) → (a b : ℕ) → ¬ (IsTwo key total a b)
none_at_all key total near sums q is none a b two =
    let within = near_two key total near a b q two in
    let at = is.all (a + b) within.0 within.1 in
    none at.0 at.1 a b two (sym at.2)

-- ---- the two lists

abbrev pub rising : ℕ → List ℕ
rising near = near ∷ (near + 1) ∷ (near - 1) ∷ (near + 2) ∷ (near - 2) ∷ []

abbrev pub falling : ℕ → List ℕ
falling near = near ∷ (near - 1) ∷ (near + 1) ∷ (near - 2) ∷ (near + 2) ∷ []

-- from two on
pub two_at_least : (key : Key) → IsKey key → (total near : ℕ) → IsQuotient key total near → 2 ≤ total → 2 ≤ near
two_at_least key is total near q h = elim (cases_lt near 2) [
  | inr more ↦ more
  | inl less ↦ absurd (let one : near * factor key ≤ 1 * factor key = mul-le-mul (omega (arith, less)) (omega arith) in
      elim (low_rates key.class key.rate is.of_rate) [
        | inl none ↦ omega (arith, one, q.high, h, rate_bound key is, none)
        | inr some ↦ omega (arith, one, q.high, h, some.0, some.1)
      ])
]

-- what the sums within two of the quotient come to, times the factor
record Products (key : Key) (near : ℕ) : Type 0 where
  one_more : (near + 1) * factor key ≡ near * factor key + factor key
  two_more : (near + 2) * factor key ≡ near * factor key + 2 * factor key
  one_less : (near - 1) * factor key + factor key ≡ near * factor key
  two_less : (near - 2) * factor key + 2 * factor key ≡ near * factor key

products : (key : Key) (near : ℕ) → 2 ≤ near → Products key near
products key near two =
    let a : near ≡ near - 1 + 1 = omega (arith, two) in
    let b : near ≡ near - 2 + 2 = omega (arith, two) in
    let x : (near - 1 + 1) * factor key ≡ (near - 1) * factor key + factor key = omega arith in
    let y : (near - 2 + 2) * factor key ≡ (near - 2) * factor key + 2 * factor key = omega arith in
    record {
      one_more = omega arith;
      two_more = omega arith;
      one_less = sym x ∙ ap (λ n. n * factor key) (sym a);
      two_less = sym y ∙ ap (λ n. n * factor key) (sym b);
    }

within_two : (near sum : ℕ) → 2 ≤ near → sum ≤ near + 2 → near ≤ sum + 2 →
    (sum ≡ near) ⊎ ((sum ≡ near + 1) ⊎ ((sum ≡ near - 1) ⊎ ((sum ≡ near + 2) ⊎ (sum ≡ near - 2))))
within_two near sum two high low = elim (cases_eq sum near) [
  | inl e ↦ inl e
  | inr n ↦ inr (elim (cases_eq sum (near + 1)) [
    | inl e ↦ inl e
    | inr n1 ↦ inr (elim (cases_eq sum (near - 1)) [
      | inl e ↦ inl e
      | inr n2 ↦ inr (elim (cases_eq sum (near + 2)) [
        | inl e ↦ inl e
        | inr n3 ↦ inr (omega (arith, two, high, low, n, n1, n2, n3))
      ])
    ])
  ])
]

rising_next : (key : Key) (total near : ℕ) → IsQuotient key total near → 2 ≤ near → near * factor key ≤ 10_000 * total →
    (i : ℕ) → i < 4 → IsBefore key total (get_or (rising near) i 0) (get_or (rising near) (suc i) 0)
rising_next key total near q two below zero h = let p = products key near two in
    record { near = omega (arith, q.high, below, p.one_more); away = λ e. omega (arith, q.high, below, p.one_more, e) }
rising_next key total near q two below (suc zero) h = let p = products key near two in
    record { near = omega (arith, q.high, below, p.one_more, p.one_less); away = λ e. omega (arith, two) }
rising_next key total near q two below (suc (suc zero)) h = let p = products key near two in
    record { near = omega (arith, q.high, below, p.two_more, p.one_less); away = λ e. omega (arith, q.high, below, p.two_more, p.one_less, e) }
rising_next key total near q two below (suc (suc (suc zero))) h = let p = products key near two in
    record { near = omega (arith, q.high, below, p.two_more, p.two_less); away = λ e. omega (arith, two) }
rising_next key total near q two below (suc (suc (suc (suc n)))) h = absurd (omega (arith, h))

falling_next : (key : Key) (total near : ℕ) → IsQuotient key total near → 2 ≤ near → 10_000 * total < near * factor key →
    (i : ℕ) → i < 4 → IsBefore key total (get_or (falling near) i 0) (get_or (falling near) (suc i) 0)
falling_next key total near q two above zero h = let p = products key near two in
    record { near = omega (arith, q.low, above, p.one_less); away = λ e. omega (arith, two) }
falling_next key total near q two above (suc zero) h = let p = products key near two in
    record { near = omega (arith, q.low, above, p.one_more, p.one_less); away = λ e. omega (arith, q.low, above, p.one_more, p.one_less, e) }
falling_next key total near q two above (suc (suc zero)) h = let p = products key near two in
    record { near = omega (arith, q.low, above, p.one_more, p.two_less); away = λ e. omega (arith, two) }
falling_next key total near q two above (suc (suc (suc zero))) h = let p = products key near two in
    record { near = omega (arith, q.low, above, p.two_more, p.two_less); away = λ e. omega (arith, q.low, above, p.two_more, p.two_less, e) }
falling_next key total near q two above (suc (suc (suc (suc n)))) h = absurd (omega (arith, h))

pub rising_sorted : (key : Key) (total near : ℕ) → IsQuotient key total near → 2 ≤ near → near * factor key ≤ 10_000 * total →
    IsSorted key total near (rising near)
rising_sorted key total near q two below = record {
  next = rising_next key total near q two below;
  all = λ sum high low. elim (within_two near sum two high low) [
    | inl e ↦ (0, omega arith, sym e)
    | inr (inl e) ↦ (1, omega arith, sym e)
    | inr (inr (inl e)) ↦ (2, omega arith, sym e)
    | inr (inr (inr (inl e))) ↦ (3, omega arith, sym e)
    | inr (inr (inr (inr e))) ↦ (4, omega arith, sym e)
  ];
}

pub falling_sorted : (key : Key) (total near : ℕ) → IsQuotient key total near → 2 ≤ near → 10_000 * total < near * factor key →
    IsSorted key total near (falling near)
falling_sorted key total near q two above = record {
  next = falling_next key total near q two above;
  all = λ sum high low. elim (within_two near sum two high low) [
    | inl e ↦ (0, omega arith, sym e)
    | inr (inl e) ↦ (2, omega arith, sym e)
    | inr (inr (inl e)) ↦ (1, omega arith, sym e)
    | inr (inr (inr (inl e))) ↦ (4, omega arith, sym e)
    | inr (inr (inr (inr e))) ↦ (3, omega arith, sym e)
  ];
}
