-- An invoice's last accepted record is its last one, where that waits for its line, else the last one that its line accepts.
use Rattle.std.proofs.Common.{◌≡◌, ℕ, suc, ◌+◌, ◌-◌, ◌<◌, ◌≤◌, List, [], ◌∷◌, length, refl, sym, ◌∙◌, ap, inl, inr, ◌⊎◌, Bool, true, false}
use Rattle.std.proofs.Common.{arith, Option, Some, None, option_map, filter, not, ◌&&◌, slice_get}
use Rattle.std.proofs.lemmas.Bool.{cases_Bool}
use Rattle.std.specs.List.{AllByRecursion, enumerate_from}
use Rattle.record_fields.specs.Picks.{last_of}
use Rattle.record_fields.specs.declared.records.Sealed.{Sealed}
use Rattle.record_fields.specs.declared.lines.Line.{Line}
use Rattle.shop_core.specs.History.{at_place}
use Rattle.shop_core.specs.Places.{accepted_place, last_place, settled_place}
use Rattle.shop_core.specs.Standing.{has_num, is_refused_in}
use Rattle.shop_core.specs.Tables.ByNumber.{is_accepted_in}
use Rattle.statements.proofs.Lasting.{filter_both, last_stays, not_refused}
use Rattle.statements.proofs.Noting.{at_some}

abbrev is_own : List ℕ → ℕ × Sealed → Bool
is_own num p = has_num num p.1

abbrev accepts : List Line → ℕ × Sealed → Bool
accepts lines p = not (is_refused_in lines p.0)

abbrev settles : List Line → ℕ × Sealed → Bool
settles lines p = is_accepted_in lines p.0

-- one of two lists' last is the second's, where that has one
last_cons : (p q : ℕ × Sealed) (ps : List (ℕ × Sealed)) → last_of (p ∷ (q ∷ ps)) ≡ last_of (q ∷ ps)
last_cons p q ps =
    let n : length (p ∷ (q ∷ ps)) - 1 ≡ suc (length (q ∷ ps) - 1) = omega arith in
    ap (slice_get (p ∷ (q ∷ ps))) n

-- the records of a number stand at its last one's place or before it
abbrev AreUpTo : (ℕ × Sealed → Bool) → ℕ → List (ℕ × Sealed) → Type 0
AreUpTo test most ps = AllByRecursion (λ (p : ℕ × Sealed). test p ≡ true → p.0 ≤ most) ps

-- where the last that passes stands
record IsPastFrom (test : ℕ × Sealed → Bool) (n : ℕ) (xs : List Sealed) (p : ℕ × Sealed) : Type 0 where
  pub place : n ≤ p.0
  pub all : AreUpTo test p.0 (enumerate_from n xs)

last_up_to : (test : ℕ × Sealed → Bool) (n : ℕ) (xs : List Sealed) →
    ((filter test (enumerate_from n xs) ≡ []) × ((most : ℕ) → AreUpTo test most (enumerate_from n xs)))
    ⊎ ((p : ℕ × Sealed) × (q : ℕ × Sealed) × (ps : List (ℕ × Sealed)) × (filter test (enumerate_from n xs) ≡ q ∷ ps)
    × (last_of (q ∷ ps) ≡ Some p) × IsPastFrom test n xs p)
last_up_to test n [] = inl (refl, λ most. tt)
last_up_to test n (x ∷ xs) = elim (last_up_to test (n + 1) xs) [
  | inl none ↦ elim (cases_Bool (test (n, x))) [
    | inl e ↦ inr (
      (n, x),
      (n, x),
      [],
      (rw (e, none.0) refl),
      refl,
      record {
        place = omega arith;
        all = ((λ own. omega arith), none.1 n);
      },
    )
    | inr e ↦ inl ((rw (e, none.0) refl), (λ most. ((λ own. absurd (let h : false ≡ true = sym e ∙ own in cc)), none.1 most)))
  ]
  | inr some ↦
      let at = some.5.place in
      elim (cases_Bool (test (n, x))) [
        | inl e ↦ inr (
          some.0,
          (n, x),
          (some.1 ∷ some.2),
          (rw (e, some.3) refl),
          (last_cons (n, x) some.1 some.2 ∙ some.4),
          record {
            place = omega (arith, at);
            all = ((λ own. omega (arith, at)), some.5.all);
          },
        )
        | inr e ↦ inr (
          some.0,
          some.1,
          some.2,
          (rw (e, some.3) refl),
          some.4,
          record {
            place = omega (arith, at);
            all = ((λ own. omega (arith, at)), some.5.all);
          },
        )
      ]
]

-- a line that is noted accepts where it doesn't refuse
noted_line : (lines : List Line) (place : ℕ) → 1 ≤ place → place ≤ length lines →
    not (is_refused_in lines place) ≡ is_accepted_in lines place
noted_line lines place some le =
    let here = at_some lines (place - 1) (omega (arith, some, le)) in
    let n : 1 + (place - 1) ≡ place = omega (arith, some) in
    let at : at_place lines place ≡ Some here.0 = ap (at_place lines) (sym n) ∙ here.1 in
    rw at refl

same_passing : (num : List ℕ) (lines : List Line) (n most : ℕ) (xs : List Sealed) → 1 ≤ n → most ≤ length lines →
    AreUpTo (is_own num) most (enumerate_from n xs) →
    filter (λ (p : ℕ × Sealed). is_own num p && accepts lines p) (enumerate_from n xs)
    ≡ filter (λ (p : ℕ × Sealed). is_own num p && settles lines p) (enumerate_from n xs)
same_passing num lines n most [] some le all = refl
same_passing num lines n most (x ∷ xs) some le all =
    let rest = same_passing num lines (n + 1) most xs (omega arith) le all.1 in
    elim (cases_Bool (has_num num x)) [
      | inr e ↦ rw (e, rest) refl
      | inl e ↦
          let at = all.0 e in
          let same = noted_line lines n some (omega (arith, at, le)) in
          elim (cases_Bool (is_accepted_in lines n)) [
            | inl f ↦ let g : not (is_refused_in lines n) ≡ true = same ∙ f in rw (e, f, g, rest) refl
            | inr f ↦ let g : not (is_refused_in lines n) ≡ false = same ∙ f in rw (e, f, g, rest) refl
          ]
    ]

abbrev place_of : List (ℕ × Sealed) → Option ℕ
place_of ps = option_map (λ (p : ℕ × Sealed). p.0) (last_of ps)

-- the invoice has no record
pub accepted_none : (records : List Sealed) (lines : List Line) (num : List ℕ) → last_place records num ≡ None →
    accepted_place records lines num ≡ None
accepted_none records lines num e =
    let listed = enumerate_from 1 records in
    elim (last_up_to (is_own num) 1 records) [
      | inl none ↦ ap place_of (filter_both (is_own num) (accepts lines) listed ∙ ap (filter (accepts lines)) none.0)
      | inr some ↦ absurd (let h : None ≡ Some some.0.0 =
          sym e ∙ ap place_of some.3 ∙ ap (option_map (λ (p : ℕ × Sealed). p.0)) some.4 in cc)
    ]

-- its last one waits
pub accepted_waits : (records : List Sealed) (lines : List Line) (num : List ℕ) (last : ℕ) → last_place records num ≡ Some last →
    length lines < last → accepted_place records lines num ≡ Some last
accepted_waits records lines num last e lt =
    let listed = enumerate_from 1 records in
    elim (last_up_to (is_own num) 1 records) [
      | inl none ↦ absurd (let h : None ≡ Some last = sym (ap place_of none.0) ∙ e in cc)
      | inr some ↦
          let h : Some some.0.0 ≡ Some last =
          sym (ap place_of some.3 ∙ ap (option_map (λ (p : ℕ × Sealed). p.0)) some.4) ∙ e in
          let at : some.0.0 ≡ last = cc in
          let n : 1 + (some.0.0 - 1) ≡ some.0.0 = omega (arith, at, lt) in
          let free : is_refused_in lines some.0.0 ≡ false =
          ap (is_refused_in lines) (sym n) ∙ not_refused lines (some.0.0 - 1) (omega (arith, at, lt)) in
          let passes : accepts lines some.0 ≡ true = ap not free in
          ap (option_map (λ (p : ℕ × Sealed). p.0)) (ap last_of (filter_both (is_own num) (accepts lines) listed)
          ∙ last_stays (accepts lines) (filter (is_own num) listed) some.0 (ap last_of some.3 ∙ some.4) passes)
          ∙ ap (λ (k : ℕ). Some k) at
    ]

-- its last one has its line
pub accepted_settled : (records : List Sealed) (lines : List Line) (num : List ℕ) (last : ℕ) → last_place records num ≡ Some last →
    last ≤ length lines → accepted_place records lines num ≡ settled_place records lines num
accepted_settled records lines num last e le = elim (last_up_to (is_own num) 1 records) [
  | inl none ↦ absurd (let h : None ≡ Some last = sym (ap place_of none.0) ∙ e in cc)
  | inr some ↦
      let h : Some some.0.0 ≡ Some last =
      sym (ap place_of some.3 ∙ ap (option_map (λ (p : ℕ × Sealed). p.0)) some.4) ∙ e in
      let at : some.0.0 ≡ last = cc in
      ap place_of (same_passing num lines 1 some.0.0 records (omega arith) (omega (arith, at, le)) some.5.all)
]
