-- The statement of a month: the invoices that are held, by the last accepted alta of each.
use Rattle.std.specs.Prelude.{ℕ, ◌+◌, ◌==◌, Bool, false, List, [], ◌∷◌, ◌++◌, Option, Some, None, option_map}
use Rattle.std.specs.Prelude.{if◌then◌else◌}
use Rattle.tax_lines.specs.declared.lines.TaxLine.{TaxLine}
use Rattle.record_fields.specs.Records.{num_of}
use Rattle.record_fields.specs.declared.records.Record.{Record}
use Rattle.record_fields.specs.declared.records.Record.TheVariants as record_of
use Rattle.record_fields.specs.declared.records.Sealed.{Sealed}
use Rattle.record_codec.specs.declared.entry.Entry.{Entry}
use Rattle.shop_core.specs.History.{recs}
use Rattle.shop_core.specs.Standing.{last_accepted}
use Rattle.statements.specs.Months.{YearMonth, is_in}
use Rattle.statements.specs.Rows.{AreRows}
use Rattle.statements.specs.declared.rows.Row.{Row}

-- the place of an invoice's last accepted record
abbrev pub accepted_place : List Entry → List ℕ → Option ℕ
accepted_place entries num = option_map (λ (p : ℕ × Sealed). p.0) (last_accepted entries num)

-- the lines of an alta whose day is one of those; an anulación has none
abbrev pub lines_on : (ℕ → Bool) → Record → List TaxLine
lines_on days (record_of.Alta a) = if days a.id.day then a.draft.lines else []
lines_on days (record_of.Anulacion a) = []

abbrev pub is_at : Option ℕ → ℕ → Bool
is_at None place = false
is_at (Some n) place = n == place

-- of the records from a place on, those that stand where their invoice is said to be held: the lines of each, in order
abbrev pub held_from : (List ℕ → Option ℕ) → (ℕ → Bool) → ℕ → List Sealed → List TaxLine
held_from held_at days place [] = []
held_from held_at days place (s ∷ records) =
    (if is_at (held_at (num_of s.body)) place then lines_on days s.body else []) ++ held_from held_at days (place + 1) records

-- both for the days of a month
abbrev pub lines_in : YearMonth → Record → List TaxLine
lines_in month body = lines_on (is_in month) body

abbrev pub lines_from : (List ℕ → Option ℕ) → YearMonth → ℕ → List Sealed → List TaxLine
lines_from held_at month place records = held_from held_at (is_in month) place records

-- the lines of these days: an invoice is held where its last accepted record is an alta, and that is its last accepted alta. So
-- each record is taken that is its invoice's last accepted one, and it has lines where it is an alta
abbrev pub held_on : List Entry → (ℕ → Bool) → List TaxLine
held_on entries days = held_from (accepted_place entries) days 1 (recs entries)

-- the lines of the month
abbrev pub held_lines : List Entry → YearMonth → List TaxLine
held_lines entries month = lines_from (accepted_place entries) month 1 (recs entries)

-- the statement of a month
abbrev pub IsStatement : List Entry → YearMonth → List Row → Type 0
IsStatement entries month rows = AreRows (held_lines entries month) rows
