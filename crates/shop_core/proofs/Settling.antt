-- How an invoice stands once one more line is noted.
use Rattle.std.proofs.Common.{◌≡◌, ℕ, zero, suc, ◌+◌, ◌-◌, ◌<◌, ◌≤◌, List, [], ◌∷◌, ◌++◌, length, length-append}
use Rattle.std.proofs.Common.{append_assoc, append-nil, slice_get, refl, sym, ◌∙◌, ap, subst, inl, inr, Option, Some, None}
use Rattle.std.proofs.Common.{option_map, filter, Bool, true, false, cond, not, arith, eqb, ◌&&◌}
use Rattle.std.proofs.lemmas.Bool.{cases_Bool, eqb-true, eq-eqb, ne_eqb}
use Rattle.std.specs.List.{enumerate_from}
use Rattle.record_fields.specs.declared.records.Sealed.{Sealed}
use Rattle.record_fields.specs.declared.lines.Line.{Line}
use Rattle.shop_core.specs.Tables.ByNumber.{is_any, last_in}
use Rattle.shop_core.specs.History.{at_place}
use Rattle.shop_core.specs.Places.{accepted_place, is_place, last_place, settled_place, LinesSettle}
use Rattle.shop_core.specs.Standing.{has_num, is_incorrecto}
use Rattle.shop_core.proofs.Lasts.{last_passing, last_skips}
use Rattle.shop_core.proofs.Standings.{at_within, cut, last_found, line_here, place_or_0, settled_before, settled_here}
use Rattle.shop_core.proofs.Standings.{shows_all}

first : (test : ℕ × Sealed → Bool) (x : ℕ × Sealed) (ps : List (ℕ × Sealed)) (n : ℕ) (p : ℕ × Sealed) → test x ≡ true →
    ((k : ℕ) → slice_get ps k ≡ Some p → test p ≡ true) → slice_get (x ∷ ps) n ≡ Some p → test p ≡ true
first test x ps zero p f rest g = let same : x ≡ p = cc in ap test (sym same) ∙ f
first test x ps (suc n) p f rest g = rest n g

-- a last match passes the test
passing : (test : ℕ × Sealed → Bool) (ps : List (ℕ × Sealed)) (k : ℕ) (p : ℕ × Sealed) → slice_get (filter test ps) k ≡ Some p →
    test p ≡ true
passing test [] k p e = absurd cc
passing test (x ∷ ps) k p e = elim (cases_Bool (test x)) [
  | inr f ↦ passing test ps k p (rw f at e)
  | inl f ↦ first test x (filter test ps) k p f (λ n g. passing test ps n p g) (rw f at e)
]

passes_last : (test : ℕ → Sealed → Bool) (records : List Sealed) (p : ℕ × Sealed) → last_in test records ≡ Some p →
    test p.0 p.1 ≡ true
passes_last test records p e =
    let ps = filter (λ (r : ℕ × Sealed). test r.0 r.1) (enumerate_from 1 records) in
    passing (λ (r : ℕ × Sealed). test r.0 r.1) (enumerate_from 1 records) (length ps - 1) p e

-- the place of a last match is no place past the records
within : (test : ℕ → Sealed → Bool) (records : List Sealed) → place_or_0 (last_in test records) ≤ length records
within test records = by (last_in test records) refl
  where
    by : (o : Option (ℕ × Sealed)) → last_in test records ≡ o → place_or_0 o ≤ length records
    by None e = omega arith
    by (Some p) e = (at_within records p.0 p.1 (last_found test records p e)).1

-- with more records it doesn't fall
no_earlier : (test : ℕ → Sealed → Bool) (front rest : List Sealed) →
    place_or_0 (last_in test front) ≤ place_or_0 (last_in test (front ++ rest))
no_earlier test front [] =
    let e = ap (λ (xs : List Sealed). place_or_0 (last_in test xs)) (append-nil front) in
    omega (arith, e)
no_earlier test front (s ∷ rest) =
    let a : (front ++ s ∷ []) ++ rest ≡ front ++ s ∷ rest = append_assoc front (s ∷ []) rest in
    let e = ap (λ (xs : List Sealed). place_or_0 (last_in test xs)) a in
    let later = no_earlier test (front ++ s ∷ []) rest in
    let w = within test front in
    elim (cases_Bool (test (1 + length front) s)) [
      | inl t ↦
          let h : place_or_0 (last_in test (front ++ s ∷ [])) ≡ 1 + length front = ap place_or_0 (last_passing test front s t) in
          omega (arith, e, later, w, h)
      | inr t ↦
          let h : place_or_0 (last_in test (front ++ s ∷ [])) ≡ place_or_0 (last_in test front) =
          ap place_or_0 (last_skips test front s t) in
          omega (arith, e, later, h)
    ]

module _ (records : List Sealed) (lines : List Line) (line : Line) (s : Sealed)
    (here : at_place records (1 + length lines) ≡ Some s) (num : List ℕ) where
  abbrev q : ℕ
  q = 1 + length lines

  abbrev last : ℕ
  last = place_or_0 (last_in (is_any num) records)

  few : length (lines ++ line ∷ []) ≤ length records
  few =
      let w = at_within records (1 + length lines) s here in
      let l : length (lines ++ line ∷ []) ≡ length lines + length (line ∷ []) = length-append lines (line ∷ []) in
      let w1 = w.1 in
      omega (arith, w1, l)

  few_before : length lines ≤ length records
  few_before = let w = (at_within records (1 + length lines) s here).1 in omega (arith, w)

  -- the record of the line is one of its invoice, so the last one is no earlier
  not_before : has_num num s ≡ true → q ≤ last
  not_before own =
      let c = cut records lines line s here in
      let first : place_or_0 (last_in (is_any num) (c.front ++ s ∷ [])) ≡ 1 + length c.front =
      ap place_or_0 (last_passing (is_any num) c.front s own) in
      let a : (c.front ++ s ∷ []) ++ c.rest ≡ records = append_assoc c.front (s ∷ []) c.rest ∙ sym c.is in
      let e = ap (λ (xs : List Sealed). place_or_0 (last_in (is_any num) xs)) a in
      let later = no_earlier (is_any num) (c.front ++ s ∷ []) c.rest in
      let n = c.at in
      omega (arith, first, e, later, n)

  -- where it is the last one, it is of that invoice
  own_last : last ≡ q → has_num num s ≡ true
  own_last e = by (last_in (is_any num) records) refl e
    where
      by : (o : Option (ℕ × Sealed)) → last_in (is_any num) records ≡ o → place_or_0 o ≡ q → has_num num s ≡ true
      by None f z = absurd (omega (arith, z))
      by (Some p) f z =
          let at : at_place records p.0 ≡ Some p.1 = last_found (is_any num) records p f in
          let one : Some p.1 ≡ Some s = sym at ∙ ap (at_place records) z ∙ here in
          let same : p.1 ≡ s = cc in
          subst (λ (t : Sealed). has_num num t ≡ true) same (passes_last (is_any num) records p f)

  settled_is : settled_place records (lines ++ line ∷ []) num
      ≡ cond (has_num num s && not (is_incorrecto line)) (Some q) (settled_place records lines num)
  settled_is = elim (cases_Bool (has_num num s)) [
    | inl own ↦ elim (cases_Bool (is_incorrecto line)) [
      | inl refuses ↦ rw (own, refuses) (settled_before records lines line s here num
          (rw (line_here records lines line s here, refuses) (and_false (has_num num s))))
      | inr accepts ↦ rw (own, accepts) (settled_here records lines line s here num own accepts)
    ]
    | inr other ↦ rw other (settled_before records lines line s here num (rw other refl))
  ]
    where
      and_false : (b : Bool) → b && false ≡ false
      and_false true = refl
      and_false false = refl

  abbrev now_is : Type 0
  now_is = accepted_place records (lines ++ line ∷ []) num
      ≡ cond (is_incorrecto line && is_place (last_place records num) q) (settled_place records lines num)
      (accepted_place records lines num)

  -- the last record's place, as the tests see it
  last_at : (k : ℕ) → last ≡ k → 0 < k → last_place records num ≡ Some k
  last_at k e some = by (last_in (is_any num) records) refl e
    where
      by : (o : Option (ℕ × Sealed)) → last_in (is_any num) records ≡ o → place_or_0 o ≡ k → last_place records num ≡ Some k
      by None f z = absurd (omega (arith, z, some))
      by (Some p) f z = ap (option_map (λ (p : ℕ × Sealed). p.0)) f ∙ ap (λ (n : ℕ). Some n) z

  not_last : (last ≡ q → ⊥) → is_place (last_place records num) q ≡ false
  not_last ne = by (last_in (is_any num) records) refl
    where
      by : (o : Option (ℕ × Sealed)) → last_in (is_any num) records ≡ o → is_place (last_place records num) q ≡ false
      by None f = ap (λ (o : Option (ℕ × Sealed)). is_place (option_map (λ (p : ℕ × Sealed). p.0) o) q) f
      by (Some p) f =
          let h : last ≡ p.0 = ap place_or_0 f in
          ap (λ (o : Option (ℕ × Sealed)). is_place (option_map (λ (p : ℕ × Sealed). p.0) o) q) f
          ∙ ne_eqb p.0 q (λ e. ne (h ∙ e))

  accepted_is : now_is
  accepted_is =
      let l : length (lines ++ line ∷ []) ≡ length lines + length (line ∷ []) = length-append lines (line ∷ []) in
      let place = option_map (λ (p : ℕ × Sealed). p.0) in
      elim (shows_all records (lines ++ line ∷ []) num few) [
        | inl after ↦
            -- the last record still waits
            let past = after.1 in
            let ne : is_place (last_place records num) q ≡ false = not_last (λ e. omega (arith, past, l, e)) in
            let no : is_incorrecto line && is_place (last_place records num) q ≡ false = rw ne (and_false (is_incorrecto line)) in
            elim (shows_all records lines num few_before) [
              | inl before ↦ rw no (ap (option_map (λ (p : ℕ × Sealed). p.0)) (after.0 ∙ sym before.0))
              | inr before ↦ let le = before.1 in absurd (omega (arith, past, l, le))
            ]
        | inr after ↦
            let le = after.1 in
            elim (shows_all records lines num few_before) [
              | inl before ↦
                  -- it is the last record's line
                  let lt = before.1 in
                  let is : last ≡ q = omega (arith, le, l, lt) in
                  let own = own_last is in
                  let at : last_place records num ≡ Some q = last_at q is (omega arith) in
                  let f : eqb q q ≡ true = eq-eqb q q refl in
                  let yes : is_place (last_place records num) q ≡ true = rw (at, f) refl in
                  elim (cases_Bool (is_incorrecto line)) [
                    | inl refuses ↦
                        let s' : settled_place records (lines ++ line ∷ []) num ≡ settled_place records lines num =
                        settled_is ∙ ap (λ (b : Bool). cond (has_num num s && not b) (Some q) (settled_place records lines num))
                        refuses ∙ ap (λ (b : Bool). cond b (Some q) (settled_place records lines num))
                        (and_false (has_num num s)) in
                        rw (refuses, yes) (ap (option_map (λ (p : ℕ × Sealed). p.0)) after.0 ∙ s')
                    | inr accepts ↦
                        let s' : settled_place records (lines ++ line ∷ []) num ≡ Some q =
                        settled_here records lines line s here num own accepts in
                        rw accepts (ap (option_map (λ (p : ℕ × Sealed). p.0)) after.0 ∙ s' ∙ sym at
                        ∙ sym (ap (option_map (λ (p : ℕ × Sealed). p.0)) before.0))
                  ]
              | inr before ↦
                  -- the line is that of another invoice
                  let early = before.1 in
                  let ne : is_place (last_place records num) q ≡ false = not_last (λ e. omega (arith, early, e)) in
                  let no : is_incorrecto line && is_place (last_place records num) q ≡ false =
                  rw ne (and_false (is_incorrecto line)) in
                  let other : has_num num s ≡ false = elim (cases_Bool (has_num num s)) [
                    | inl own ↦ absurd (let n = not_before own in omega (arith, n, early))
                    | inr e ↦ e
                  ] in
                  let s' : settled_place records (lines ++ line ∷ []) num ≡ settled_place records lines num =
                  settled_is ∙ ap (λ (b : Bool). cond (b && not (is_incorrecto line)) (Some q) (settled_place records lines num))
                  other in
                  rw no (ap (option_map (λ (p : ℕ × Sealed). p.0)) after.0 ∙ s'
                  ∙ sym (ap (option_map (λ (p : ℕ × Sealed). p.0)) before.0))
            ]
      ]
    where
      and_false : (b : Bool) → b && false ≡ false
      and_false true = refl
      and_false false = refl

  -- the last record is accepted while it waits
  waits : is_place (last_place records num) q ≡ true → accepted_place records lines num ≡ Some q
  waits e = elim (shows_all records lines num few_before) [
    | inl before ↦ ap (option_map (λ (p : ℕ × Sealed). p.0)) before.0 ∙ last_at q is (omega arith)
    | inr before ↦ let le = before.1 in absurd (omega (arith, le, is))
  ]
    where
      is : last ≡ q
      is = by (last_in (is_any num) records) refl
        where
          by : (o : Option (ℕ × Sealed)) → last_in (is_any num) records ≡ o → last ≡ q
          by None f = absurd (let h : is_place None q ≡ true =
              sym (ap (λ (o : Option (ℕ × Sealed)). is_place (option_map (λ (p : ℕ × Sealed). p.0) o) q) f) ∙ e in cc)
          by (Some p) f = ap place_or_0 f ∙ eqb-true p.0 q
              (sym (ap (λ (o : Option (ℕ × Sealed)). is_place (option_map (λ (p : ℕ × Sealed). p.0) o) q) f) ∙ e)

pub line_settles : LinesSettle
line_settles records lines line s num here = record {
  settled = settled_is records lines line s here num;
  accepted = accepted_is records lines line s here num;
  waits = waits records lines line s here num;
}
