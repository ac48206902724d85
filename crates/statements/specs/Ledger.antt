-- What a ledger keeps: the rows of each month are those of its history.
use Rattle.std.specs.Prelude.{ℕ, List, take}
use Rattle.shop_core.specs.History.{recs}
use Rattle.record_codec.specs.declared.entry.Entry.{Entry}
use Rattle.statements.specs.Months.{month_at}
use Rattle.statements.specs.Statement.{accepted_place, held_lines, lines_from}
use Rattle.statements.specs.Postings.{AreMonths}
use Rattle.statements.specs.declared.rows.Row.{Row}

abbrev pub IsKept : List Entry → List (List Row) → Type 0
IsKept entries months = AreMonths (λ (i : ℕ). held_lines entries (month_at i)) months

-- the same of the first records alone
abbrev pub IsBooked : List Entry → ℕ → List (List Row) → Type 0
IsBooked entries n months =
    AreMonths (λ (i : ℕ). lines_from (accepted_place entries) (month_at i) 1 (take n (recs entries))) months
