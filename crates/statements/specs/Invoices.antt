-- A statement invoice by invoice: of each invoice that is held, and whose own day lies in the month, the lines of its last
-- accepted alta.
use Rattle.std.specs.Prelude.{ℕ, List, [], ◌∷◌, filter, flat_map, map, not, ◌&&◌, ◌↔◌, bytes_eq, Option, if◌then◌else◌}
use Rattle.std.specs.Option.{option_map_or}
use Rattle.tax_lines.specs.declared.lines.TaxLine.{TaxLine}
use Rattle.record_fields.specs.Records.{is_alta, num_of}
use Rattle.record_fields.specs.declared.records.Record.{Record}
use Rattle.record_fields.specs.declared.records.Record.TheVariants as record_of
use Rattle.record_fields.specs.declared.records.Sealed.{Sealed}
use Rattle.record_fields.specs.declared.versions.Version.{Version}
use Rattle.record_codec.specs.declared.entry.Entry.{Entry}
use Rattle.shop_core.specs.History.{recs}
use Rattle.shop_core.specs.Legal.{Legal}
use Rattle.shop_core.specs.Standing.{day_of, has_num, is_held, is_refused, last_where}
use Rattle.statements.specs.Months.{YearMonth, is_in}
use Rattle.statements.specs.Postings.{AreSame}
use Rattle.statements.specs.Rows.{AreRows}
use Rattle.statements.specs.Statement.{IsStatement, held_lines}
use Rattle.statements.specs.declared.rows.Row.{Row}

-- these numbers, each once
abbrev pub distinct : List (List ℕ) → List (List ℕ)
distinct [] = []
distinct (num ∷ nums) = num ∷ filter (λ (other : List ℕ). not (bytes_eq num other)) (distinct nums)

-- the invoices of a history, by their numbers
abbrev pub invoices : List Entry → List (List ℕ)
invoices entries = distinct (map (λ (s : Sealed). num_of s.body) (recs entries))

-- an invoice's last accepted alta, with its place
abbrev pub last_accepted_alta : List Entry → List ℕ → Option (ℕ × Sealed)
last_accepted_alta entries num =
    last_where (λ place s. (has_num num s && not (is_refused entries place)) && is_alta s.body) entries

-- the lines of an alta
abbrev pub lines_of : Record → List TaxLine
lines_of (record_of.Alta a) = a.draft.lines
lines_of (record_of.Anulacion a) = []

-- what an invoice has in the month
abbrev pub invoice_lines : List Entry → YearMonth → List ℕ → List TaxLine
invoice_lines entries month num =
    if is_held entries num && is_in month (day_of entries num)
    then option_map_or (λ (p : ℕ × Sealed). lines_of p.1.body) (last_accepted_alta entries num) [] else []

-- what all invoices have in it
abbrev pub lines_by_invoice : List Entry → YearMonth → List TaxLine
lines_by_invoice entries month = flat_map (invoice_lines entries month) (invoices entries)

-- the lines of a month are those that its invoices have in it
abbrev pub LinesAreOfInvoices : Type 0
LinesAreOfInvoices = (version : Version) (issuer : List ℕ) (entries : List Entry) (month : YearMonth) →
    Legal version issuer entries → AreSame (held_lines entries month) (lines_by_invoice entries month)

-- so a statement's rows are those of its invoices' lines
abbrev pub StatementsAreOfInvoices : Type 0
StatementsAreOfInvoices =
    (version : Version) (issuer : List ℕ) (entries : List Entry) (month : YearMonth) (rows : List Row) →
    Legal version issuer entries → IsStatement entries month rows ↔ AreRows (lines_by_invoice entries month) rows
