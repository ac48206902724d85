-- The statement of a month, day by day.
use Rattle.std.specs.Prelude.{◌≡◌, ℕ, ◌+◌, ◌==◌, List, [], ◌∷◌, ℤ, pos, ◌+ℤ◌, unwrap_or, if◌then◌else◌}
use Rattle.tax_lines.specs.Keys.{Key, IsKey}
use Rattle.record_codec.specs.declared.entry.Entry.{Entry}
use Rattle.statements.specs.Months.{IsMonth, YearMonth, is_in}
use Rattle.statements.specs.Periods.{IsStatementOf}
use Rattle.statements.specs.Rows.{row_at}
use Rattle.statements.specs.Statement.{IsStatement}
use Rattle.statements.specs.declared.periods.Period.TheVariants.{Day}
use Rattle.statements.specs.declared.rows.Row.{Row}

-- how often a day stands among these
abbrev pub occurrences : ℕ → List ℕ → ℕ
occurrences day [] = 0
occurrences day (other ∷ days) = (if day == other then 1 else 0) + occurrences day days

-- these are the days of the month, each once
abbrev pub AreDaysOf : YearMonth → List ℕ → Type 0
AreDaysOf month days = (day : ℕ) → occurrences day days ≡ (if is_in month day then 1 else 0)

-- each month has its days
abbrev pub MonthsHaveDays : Type 0
MonthsHaveDays = (month : YearMonth) → IsMonth month → (days : List ℕ) × AreDaysOf month days

-- the row of a key, or one of no lines
abbrev pub row_or_none : List Row → Key → Row
row_or_none rows key =
    unwrap_or (row_at rows key) (record { key = key; lines = 0; base = pos 0; tax = pos 0; surcharge = pos 0 })

abbrev pub lines_over : (ℕ → Row) → List ℕ → ℕ
lines_over of [] = 0
lines_over of (day ∷ days) = (of day).lines + lines_over of days

abbrev pub sum_over : (Row → ℤ) → (ℕ → Row) → List ℕ → ℤ
sum_over amount of [] = pos 0
sum_over amount of (day ∷ days) = amount (of day) +ℤ sum_over amount of days

-- the row has the sums over these days' rows
pub record IsSumOver (days : List ℕ) (of : ℕ → Row) (row : Row) : Type 0 where
  pub lines : row.lines ≡ lines_over of days
  pub base : row.base ≡ sum_over (λ (r : Row). r.base) of days
  pub tax : row.tax ≡ sum_over (λ (r : Row). r.tax) of days
  pub surcharge : row.surcharge ≡ sum_over (λ (r : Row). r.surcharge) of days

-- the statement of a month is those of its days added up, key by key
abbrev pub MonthsAreTheirDays : Type 0
MonthsAreTheirDays =
    (entries : List Entry) (month : YearMonth) (days : List ℕ) (rows : List Row) (of : ℕ → List Row) → AreDaysOf month days →
    IsStatement entries month rows → ((day : ℕ) → IsStatementOf entries (Day day) (of day)) →
    (key : Key) → IsKey key → IsSumOver days (λ (day : ℕ). row_or_none (of day) key) (row_or_none rows key)
