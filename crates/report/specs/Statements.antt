-- The text of a statement. It is this project's own; keys are written as in a script, amounts as in the field text.
use Rattle.std.specs.Prelude.{ℕ, ℤ, List, ◌++◌, ◌+◌, ◌*◌, ◌≤◌, ◌+ℤ◌, codes, decimal, flat_map, map, sum_by, unsigned_abs}
use Rattle.amounts.specs.Text.{amount_text}
use Rattle.tax_lines.specs.Keys.{key_text}
use Rattle.tax_lines.specs.Totals.{sum_of}
use Rattle.report.specs.declared.statements.StatementLine.{StatementLine}
use Rattle.report.specs.declared.statements.Totals.{Totals}

-- how many lines, and the sums of the amounts, over these
abbrev pub totals : List StatementLine → Totals
totals rows = record {
  lines = sum_by (λ (row : StatementLine). row.lines) rows;
  base = sum_of (map (λ (row : StatementLine). row.base) rows);
  tax = sum_of (map (λ (row : StatementLine). row.tax) rows);
  surcharge = sum_of (map (λ (row : StatementLine). row.surcharge) rows);
}

abbrev pub more : Totals → StatementLine → Totals
more t row = record {
  lines = t.lines + row.lines;
  base = t.base +ℤ row.base;
  tax = t.tax +ℤ row.tax;
  surcharge = t.surcharge +ℤ row.surcharge;
}

-- what this many rows come to at most
pub record AreOf (n : ℕ) (t : Totals) : Type 0 where
  pub lines : t.lines ≤ 4_294_967_296 * n
  pub base : unsigned_abs t.base ≤ 9_223_372_036_854_775_808 * n
  pub tax : unsigned_abs t.tax ≤ 9_223_372_036_854_775_808 * n
  pub surcharge : unsigned_abs t.surcharge ≤ 9_223_372_036_854_775_808 * n

-- KEY LINES
abbrev pub head_text : StatementLine → List ℕ
head_text row = key_text row.key ++ codes " " ++ decimal row.lines

-- an amount with a blank before it
abbrev pub spaced_text : ℤ → List ℕ
spaced_text cents = codes " " ++ amount_text cents

-- BASE TAX SURCHARGE, each with a blank before it
abbrev pub amounts_text : StatementLine → List ℕ
amounts_text row = spaced_text row.base ++ spaced_text row.tax ++ spaced_text row.surcharge

-- KEY LINES BASE TAX SURCHARGE
abbrev pub row_text : StatementLine → List ℕ
row_text row = head_text row ++ amounts_text row ++ codes "\n"

-- a line for each row, in order
abbrev pub rows_text : List StatementLine → List ℕ
rows_text rows = flat_map row_text rows

-- statement MM-YYYY lines N
abbrev pub count_text : List ℕ → Totals → List ℕ
count_text month t = codes "statement " ++ month ++ codes " lines " ++ decimal t.lines

-- base X tax Y surcharge Z, with a blank before it
abbrev pub sums_text : Totals → List ℕ
sums_text t =
    codes " base " ++ amount_text t.base ++ codes " tax " ++ amount_text t.tax ++ codes " surcharge " ++ amount_text t.surcharge

-- the same as a line
abbrev pub totals_line : List ℕ → Totals → List ℕ
totals_line month t = count_text month t ++ sums_text t ++ codes "\n"

-- a line for each row, and one of their sums
abbrev pub statement_text : List ℕ → List StatementLine → List ℕ
statement_text month rows = rows_text rows ++ totals_line month (totals rows)
