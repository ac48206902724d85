-- Periods, a month or a day of one, and the statement of a period.
use Rattle.std.specs.Prelude.{ℕ, ◌≤◌, ◌==◌, Bool, List, [], take, Option, Some, None, if◌then◌else◌}
use Rattle.tax_lines.specs.declared.lines.TaxLine.{TaxLine}
use Rattle.record_fields.specs.Records.{num_of}
use Rattle.record_fields.specs.declared.records.Sealed.{Sealed}
use Rattle.stamps.specs.Day.{date_at, last_day}
use Rattle.stamps.specs.Text.{date_text_of}
use Rattle.record_codec.specs.declared.entry.Entry.{Entry}
use Rattle.shop_core.specs.History.{recs}
use Rattle.statements.specs.Months.{IsMonth, is_in, month_text}
use Rattle.statements.specs.Rows.{AreRows}
use Rattle.statements.specs.Statement.{accepted_place, held_from, held_on, is_at, lines_on}
use Rattle.statements.specs.declared.periods.Period.{Period}
use Rattle.statements.specs.declared.periods.Period.TheVariants.{Month, Day}
use Rattle.statements.specs.declared.rows.Row.{Row}

-- a day from 01-01-2024 to 31-12-2100
pub record IsDay (day : ℕ) : Type 0 where
  pub year : 2024 ≤ (date_at day).year
  pub last : day ≤ last_day

-- a period of which statements are made
abbrev pub IsPeriod : Period → Type 0
IsPeriod (Month month) = IsMonth month
IsPeriod (Day day) = IsDay day

-- a month as `MM-YYYY`, a day as `DD-MM-YYYY`
abbrev pub period_text : Period → List ℕ
period_text (Month month) = month_text month
period_text (Day day) = date_text_of day

-- the day lies in the period
abbrev pub is_within : Period → ℕ → Bool
is_within (Month month) day = is_in month day
is_within (Day own) day = day == own

-- the statement of a period: of a month, that of the month
abbrev pub IsStatementOf : List Entry → Period → List Row → Type 0
IsStatementOf entries period rows = AreRows (held_on entries (is_within period)) rows

-- the lines that were found
abbrev pub lines_in : Option (List TaxLine) → List TaxLine
lines_in None = []
lines_in (Some lines) = lines

-- what the record at a place has in it
abbrev pub own_lines : List Entry → Period → ℕ → Sealed → List TaxLine
own_lines entries period place s =
    if is_at (accepted_place entries (num_of s.body)) place then lines_on (is_within period) s.body else []

-- the same of the first records alone
abbrev pub IsStatementUpTo : List Entry → Period → ℕ → List Row → Type 0
IsStatementUpTo entries period n rows =
    AreRows (held_from (accepted_place entries) (is_within period) 1 (take n (recs entries))) rows
