-- The statement of a month is those of its days added up.
use Rattle.std.proofs.Common.{◌≡◌, ℕ, zero, suc, ◌+◌, ◌-◌, ◌<◌, ◌≤◌, List, [], ◌∷◌, ◌++◌, refl, sym, ◌∙◌, ap, subst, inl, inr, Bool, true, false}
use Rattle.std.proofs.Common.{cond, arith, Option, Some, None, unwrap_or, ℤ, pos, ◌+ℤ◌, eqb, nat_lt, ◌⊎◌}
use Rattle.std.proofs.lemmas.Bool.{cases_Bool, cases_eq, cases_lt, eqb-true, eq-eqb, le-ltb, lt-ltb, ne_eqb}
use Rattle.std.proofs.lemmas.Int.{ints}
use Rattle.stamps.specs.Day.{date_at, day_after, ymd}
use Rattle.stamps.specs.declared.civil.CivilDate.{CivilDate}
use Rattle.tax_lines.specs.Keys.{Key, IsKey}
use Rattle.tax_lines.specs.declared.lines.TaxLine.{TaxLine}
use Rattle.record_fields.specs.Records.{num_of}
use Rattle.record_fields.specs.declared.records.Record.{Record}
use Rattle.record_fields.specs.declared.records.Record.TheVariants as record_of
use Rattle.record_fields.specs.declared.records.Sealed.{Sealed}
use Rattle.record_codec.specs.declared.entry.Entry.{Entry}
use Rattle.shop_core.specs.History.{recs}
use Rattle.statements.proofs.Holding.{Holders}
use Rattle.statements.proofs.Sums.{count_append, none_sum, sum_append}
use Rattle.statements.specs.Daily.{AreDaysOf, IsSumOver, MonthsAreTheirDays, MonthsHaveDays, lines_over, occurrences, row_or_none, sum_over}
use Rattle.statements.specs.Months.{IsMonth, YearMonth, is_in}
use Rattle.statements.specs.Periods.{IsStatementOf, is_within}
use Rattle.statements.specs.Rows.{AreRows, base_of, count, rate_tax, row_of, sum, surcharge_tax}
use Rattle.statements.specs.Statement.{IsStatement, accepted_place, held_from, held_lines, held_on, is_at, lines_on}
use Rattle.statements.specs.declared.periods.Period.TheVariants.{Day}
use Rattle.statements.specs.declared.rows.Row.{Row}

-- ---- what is summed over lines is summed over days

abbrev total_of : {V : Type 0} → V → (V → V → V) → (ℕ → V) → List ℕ → V
total_of nil plus f [] = nil
total_of nil plus f (day ∷ days) = plus (f day) (total_of nil plus f days)

abbrev times : {V : Type 0} → V → (V → V → V) → ℕ → V → V
times nil plus zero a = nil
times nil plus (suc n) a = plus a (times nil plus n a)

module _ {V : Type 0} (nil : V) (plus : V → V → V) (unit : (a : V) → plus a nil ≡ a) (left : (a : V) → plus nil a ≡ a)
    (swap : (a b c d : V) → plus (plus a b) (plus c d) ≡ plus (plus a c) (plus b d))
    (size : List TaxLine → V) (none : size [] ≡ nil) (both : (xs ys : List TaxLine) → size (xs ++ ys) ≡ plus (size xs) (size ys)) where
  abbrev total : (ℕ → V) → List ℕ → V
  total f days = total_of nil plus f days

  total_plus : (f g : ℕ → V) (days : List ℕ) → total (λ (d : ℕ). plus (f d) (g d)) days ≡ plus (total f days) (total g days)
  total_plus f g [] = sym (unit nil)
  total_plus f g (day ∷ days) =
      ap (plus (plus (f day) (g day))) (total_plus f g days) ∙ swap (f day) (g day) (total f days) (total g days)

  total_nil : (f : ℕ → V) (days : List ℕ) → ((d : ℕ) → f d ≡ nil) → total f days ≡ nil
  total_nil f [] nothing = refl
  total_nil f (day ∷ days) nothing =
      ap (λ (v : V). plus v (total f days)) (nothing day) ∙ left (total f days) ∙ total_nil f days nothing

  total_same : (f g : ℕ → V) (days : List ℕ) → ((d : ℕ) → f d ≡ g d) → total f days ≡ total g days
  total_same f g [] same = refl
  total_same f g (day ∷ days) same =
      ap (λ (v : V). plus v (total f days)) (same day) ∙ ap (plus (g day)) (total_same f g days same)

  -- lines of one day, which stands among these so often
  of_day : (lines : List TaxLine) (day : ℕ) (days : List ℕ) →
      total (λ (d : ℕ). size (cond (eqb day d) lines [])) days ≡ times nil plus (occurrences day days) (size lines)
  of_day lines day [] = refl
  of_day lines day (other ∷ days) = elim (cases_Bool (eqb day other)) [
    | inl e ↦
        let n : occurrences day (other ∷ days) ≡ suc (occurrences day days) = rw e (omega arith) in
        rw e (ap (plus (size lines)) (of_day lines day days)) ∙ sym (ap (λ (k : ℕ). times nil plus k (size lines)) n)
    | inr e ↦
        let n : occurrences day (other ∷ days) ≡ occurrences day days = rw e (omega arith) in
        rw e (ap (λ (v : V). plus v (total (λ (d : ℕ). size (cond (eqb day d) lines [])) days)) none
        ∙ left (total (λ (d : ℕ). size (cond (eqb day d) lines [])) days) ∙ of_day lines day days)
        ∙ sym (ap (λ (k : ℕ). times nil plus k (size lines)) n)
  ]

  -- of one record
  of_body : (month : YearMonth) (days : List ℕ) (body : Record) → AreDaysOf month days →
      size (lines_on (is_in month) body) ≡ total (λ (d : ℕ). size (lines_on (is_within (Day d)) body)) days
  of_body month days (record_of.Anulacion a) are = none ∙ sym (total_nil (λ (d : ℕ). size []) days (λ d. none))
  of_body month days (record_of.Alta a) are = elim (cases_Bool (is_in month a.id.day)) [
    | inl e ↦
        let n : occurrences a.id.day days ≡ 1 = are a.id.day ∙ ap (λ (b : Bool). cond b 1 0) e in
        ap (λ (b : Bool). size (cond b a.draft.lines [])) e
        ∙ sym (of_day a.draft.lines a.id.day days ∙ ap (λ (k : ℕ). times nil plus k (size a.draft.lines)) n ∙ unit (size a.draft.lines))
    | inr e ↦
        let n : occurrences a.id.day days ≡ 0 = are a.id.day ∙ ap (λ (b : Bool). cond b 1 0) e in
        ap (λ (b : Bool). size (cond b a.draft.lines [])) e ∙ none
        ∙ sym (of_day a.draft.lines a.id.day days ∙ ap (λ (k : ℕ). times nil plus k (size a.draft.lines)) n)
  ]

  -- of a record that may be counted
  of_own : (month : YearMonth) (days : List ℕ) (body : Record) (b : Bool) → AreDaysOf month days →
      size (cond b (lines_on (is_in month) body) []) ≡ total (λ (d : ℕ). size (cond b (lines_on (is_within (Day d)) body) [])) days
  of_own month days body true are = of_body month days body are
  of_own month days body false are = none ∙ sym (total_nil (λ (d : ℕ). size []) days (λ d. none))

  of_records : (month : YearMonth) (days : List ℕ) (h : Holders) (place : ℕ) (records : List Sealed) → AreDaysOf month days →
      size (held_from h (is_in month) place records) ≡ total (λ (d : ℕ). size (held_from h (is_within (Day d)) place records)) days
  of_records month days h place [] are = none ∙ sym (total_nil (λ (d : ℕ). size []) days (λ d. none))
  of_records month days h place (s ∷ records) are =
      let b : Bool = is_at (h (num_of s.body)) place in
      let f : ℕ → V = λ (d : ℕ). size (cond (is_at (h (num_of s.body)) place) (lines_on (is_within (Day d)) s.body) []) in
      let g : ℕ → V = λ (d : ℕ). size (held_from h (is_within (Day d)) (place + 1) records) in
      both (cond b (lines_on (is_in month) s.body) []) (held_from h (is_in month) (place + 1) records)
      ∙ ap (λ (v : V). plus v (size (held_from h (is_in month) (place + 1) records))) (of_own month days s.body b are)
      ∙ ap (plus (total f days)) (of_records month days h (place + 1) records are)
      ∙ sym (total_plus f g days)
      ∙ total_same (λ (d : ℕ). plus (f d) (g d)) (λ (d : ℕ). size (held_from h (is_within (Day d)) place (s ∷ records))) days
      (λ d. sym (both (cond b (lines_on (is_within (Day d)) s.body) []) (held_from h (is_within (Day d)) (place + 1) records)))

-- ---- rows

abbrev made : Key → ℕ → ℤ → ℤ → ℤ → Row
made key n b t u = record { key = key; lines = n; base = b; tax = t; surcharge = u }

-- the row of a key has the counts and sums of its lines
module _ (lines : List TaxLine) (key : Key) where
  none_is : count key lines ≡ 0 → made key 0 (pos 0) (pos 0) (pos 0) ≡ row_of lines key
  none_is n =
      sym (ap (λ (k : ℕ). made key k (sum base_of key lines) (sum rate_tax key lines) (sum surcharge_tax key lines)) n
      ∙ ap (λ (z : ℤ). made key 0 z (sum rate_tax key lines) (sum surcharge_tax key lines)) (none_sum base_of key lines n)
      ∙ ap (λ (z : ℤ). made key 0 (pos 0) z (sum surcharge_tax key lines)) (none_sum rate_tax key lines n)
      ∙ ap (λ (z : ℤ). made key 0 (pos 0) (pos 0) z) (none_sum surcharge_tax key lines n))

  filled : (b : Bool) → eqb (count key lines) 0 ≡ b →
      unwrap_or (cond b None (Some (row_of lines key))) (made key 0 (pos 0) (pos 0) (pos 0)) ≡ row_of lines key
  filled true e = none_is (eqb-true (count key lines) 0 e)
  filled false e = refl

  row_is : (rows : List Row) → IsKey key → AreRows lines rows → row_or_none rows key ≡ row_of lines key
  row_is rows is are =
      ap (λ (o : Option Row). unwrap_or o (made key 0 (pos 0) (pos 0) (pos 0))) (are.each key is)
      ∙ filled (eqb (count key lines) 0) refl

over_lines : (f : ℕ → ℕ) (of : ℕ → Row) (days : List ℕ) → ((d : ℕ) → f d ≡ (of d).lines) → total_of 0 ◌+◌ f days ≡ lines_over of days
over_lines f of [] same = refl
over_lines f of (day ∷ days) same =
    let here = same day in let rest = over_lines f of days same in omega (arith, here, rest)

over_sums : (amount : Row → ℤ) (f : ℕ → ℤ) (of : ℕ → Row) (days : List ℕ) → ((d : ℕ) → f d ≡ amount (of d)) →
    total_of (pos 0) ◌+ℤ◌ f days ≡ sum_over amount of days
over_sums amount f of [] same = refl
over_sums amount f of (day ∷ days) same =
    ap (λ (z : ℤ). z +ℤ total_of (pos 0) ◌+ℤ◌ f days) (same day) ∙ ap (λ (z : ℤ). amount (of day) +ℤ z) (over_sums amount f of days same)

unit_ℤ : (a : ℤ) → a +ℤ pos 0 ≡ a
unit_ℤ a = omega (arith, ints)

left_ℤ : (a : ℤ) → pos 0 +ℤ a ≡ a
left_ℤ a = omega (arith, ints)

swap_ℤ : (a b c d : ℤ) → (a +ℤ b) +ℤ (c +ℤ d) ≡ (a +ℤ c) +ℤ (b +ℤ d)
swap_ℤ a b c d = omega (arith, ints)

swap_ℕ : (a b c d : ℕ) → (a + b) + (c + d) ≡ (a + c) + (b + d)
swap_ℕ a b c d = omega arith

unit_ℕ : (a : ℕ) → a + 0 ≡ a
unit_ℕ a = omega arith

left_ℕ : (a : ℕ) → 0 + a ≡ a
left_ℕ a = omega arith

module _ (entries : List Entry) (month : YearMonth) (days : List ℕ) (rows : List Row) (of : ℕ → List Row) (are : AreDaysOf month days)
    (whole : IsStatement entries month rows) (each : (day : ℕ) → IsStatementOf entries (Day day) (of day)) (key : Key) (is : IsKey key)
  where
    h : Holders
    h = accepted_place entries

    abbrev day_row : ℕ → Row
    day_row day = row_or_none (of day) key

    amounts : (amount : Row → ℤ) (of_line : TaxLine → ℤ) → ((ls : List TaxLine) → amount (row_of ls key) ≡ sum of_line key ls) →
        amount (row_or_none rows key) ≡ sum_over amount day_row days
    unfolding h
    amounts amount of_line same =
        ap amount (row_is (held_lines entries month) key rows is whole) ∙ same (held_lines entries month)
        ∙ of_records (pos 0) ◌+ℤ◌ unit_ℤ left_ℤ swap_ℤ (sum of_line key) refl (sum_append of_line key) month days h 1 (recs entries) are
        ∙ over_sums amount (λ (d : ℕ). sum of_line key (held_on entries (is_within (Day d)))) day_row days (λ d.
        sym (same (held_on entries (is_within (Day d))))
        ∙ sym (ap amount (row_is (held_on entries (is_within (Day d))) key (of d) is (each d))))

    counts : (row_or_none rows key).lines ≡ lines_over day_row days
    unfolding h
    counts =
        ap (λ (r : Row). r.lines) (row_is (held_lines entries month) key rows is whole)
        ∙ of_records 0 ◌+◌ unit_ℕ left_ℕ swap_ℕ (count key) refl (count_append key) month days h 1 (recs entries) are
        ∙ over_lines (λ (d : ℕ). count key (held_on entries (is_within (Day d)))) day_row days (λ d.
        sym (ap (λ (r : Row). r.lines) (row_is (held_on entries (is_within (Day d))) key (of d) is (each d))))

    pub added_up : IsSumOver days (λ (day : ℕ). row_or_none (of day) key) (row_or_none rows key)
    added_up = record {
      lines = counts;
      base = amounts (λ (r : Row). r.base) base_of (λ ls. refl);
      tax = amounts (λ (r : Row). r.tax) rate_tax (λ ls. refl);
      surcharge = amounts (λ (r : Row). r.surcharge) surcharge_tax (λ ls. refl);
    }

pub months_are_their_days : MonthsAreTheirDays
months_are_their_days entries month days rows of are whole each key is = added_up entries month days rows of are whole each key is

-- ---- a month has its days

days_below : (ℕ → Bool) → ℕ → List ℕ
days_below test zero = []
days_below test (suc n) = cond (test n) (n ∷ days_below test n) (days_below test n)

-- each day below n that passes stands there once
below : (test : ℕ → Bool) (n day : ℕ) → occurrences day (days_below test n) ≡ cond (nat_lt day n) (cond (test day) 1 0) 0
unfolding days_below
below test zero day = let e : nat_lt day 0 ≡ false = le-ltb day 0 (omega arith) in rw e refl
below test (suc n) day = elim (cases_eq day n) [
  | inl same ↦
      let rest : occurrences day (days_below test n) ≡ 0 =
      below test n day ∙ (let e : nat_lt day n ≡ false = le-ltb day n (omega (arith, same)) in rw e refl) in
      let lt : nat_lt day (suc n) ≡ true = lt-ltb day (suc n) (omega (arith, same)) in
      let eq : eqb day n ≡ true = eq-eqb day n same in
      let t : test day ≡ test n = ap test same in
      elim (cases_Bool (test n)) [
        | inl e ↦ let d : test day ≡ true = t ∙ e in rw (e, eq, lt, d) (omega (arith, rest))
        | inr e ↦ let d : test day ≡ false = t ∙ e in rw (e, lt, d) rest
      ]
  | inr other ↦
      let ne : eqb day n ≡ false = ne_eqb day n other in
      let same : nat_lt day (suc n) ≡ nat_lt day n = elim (cases_lt day n) [
        | inl lt ↦ lt-ltb day (suc n) (omega (arith, lt)) ∙ sym (lt-ltb day n lt)
        | inr le ↦ le-ltb day (suc n) (omega (arith, le, other)) ∙ sym (le-ltb day n le)
      ] in
      let rest = below test n day in
      elim (cases_Bool (test n)) [
        | inl e ↦ rw (e, ne, same) (omega (arith, rest))
        | inr e ↦ rw (e, same) rest
      ]
]

-- years never fall
kept : (b c : Bool) (d : CivilDate) →
    d.year ≤ (cond b (ymd d.year d.month (d.day + 1)) (cond c (ymd d.year (d.month + 1) 1) (ymd (d.year + 1) 1 1))).year
kept true c d = omega arith
kept false true d = omega arith
kept false false d = omega arith

year_after : (d : CivilDate) → d.year ≤ (day_after d).year
year_after d = kept _ _ d

years_rise : (k n : ℕ) → (date_at k).year ≤ (date_at (n + k)).year
unfolding date_at
years_rise k zero = let e : 0 + k ≡ k = omega arith in rw e (omega arith)
years_rise k (suc n) =
    let e : suc n + k ≡ suc (n + k) = omega arith in
    let rest = years_rise k n in
    let next = year_after (date_at (n + k)) in
    rw e (omega (arith, rest, next))

-- the day after the last one is of a year past those of the months
next_is : (k : ℕ) → date_at (suc k) ≡ day_after (date_at k)
unfolding date_at
next_is k = refl

past_last : (last : ℕ) → date_at last ≡ ymd 2100 12 31 → (date_at (suc last)).year ≡ 2101
past_last last e = ap (λ (d : CivilDate). d.year) (next_is last ∙ ap day_after e)

outside : (last : ℕ) (month : YearMonth) (day : ℕ) → date_at last ≡ ymd 2100 12 31 → IsMonth month → suc last ≤ day →
    is_in month day ≡ false
outside last month day e is le =
    let n : day - suc last + suc last ≡ day = omega (arith, le) in
    let first = past_last last e in
    let later : (date_at (suc last)).year ≤ (date_at day).year =
    subst (λ (k : ℕ). (date_at (suc last)).year ≤ (date_at k).year) n (years_rise (suc last) (day - suc last)) in
    let within = is.year in
    let ne : eqb (date_at day).year month.year ≡ false =
    ne_eqb (date_at day).year month.year (λ same. omega (arith, first, later, within, same)) in
    rw ne refl

-- those up to the last day
all_days : (last : ℕ) (month : YearMonth) (day : ℕ) → date_at last ≡ ymd 2100 12 31 → IsMonth month →
    (day < suc last) ⊎ (suc last ≤ day) → occurrences day (days_below (is_in month) (suc last)) ≡ cond (is_in month day) 1 0
all_days last month day e is (inl lt) =
    below (is_in month) (suc last) day ∙ ap (λ (b : Bool). cond b (cond (is_in month day) 1 0) 0) (lt-ltb day (suc last) lt)
all_days last month day e is (inr le) =
    below (is_in month) (suc last) day ∙ ap (λ (b : Bool). cond b (cond (is_in month day) 1 0) 0) (le-ltb day (suc last) le)
    ∙ sym (ap (λ (b : Bool). cond b 1 0) (outside last month day e is le))

pub months_have_days : (last : ℕ) → date_at last ≡ ymd 2100 12 31 → MonthsHaveDays
months_have_days last e month is =
    (days_below (is_in month) (suc last), λ day. all_days last month day e is (cases_lt day (suc last)))
