-- What is put into the months' rows, and taken out of them.
use Rattle.std.specs.Prelude.{◌≡◌, ℕ, ◌<◌, ◌≤◌, ◌==◌, List, [], ◌∷◌, ◌++◌, length, ℤ, if◌then◌else◌, Option, Some, None}
use Rattle.std.specs.Prelude.{get_or, Bool, true, false}
use Rattle.std.specs.List.{AllByRecursion}
use Rattle.tax_lines.specs.Breakdown.{IsBreakdown}
use Rattle.tax_lines.specs.Keys.{Key}
use Rattle.tax_lines.specs.declared.lines.TaxLine.{TaxLine}
use Rattle.record_codec.specs.declared.entry.TheConstants.{MAX_NOTES}
use Rattle.record_fields.specs.declared.records.Record.{Record}
use Rattle.record_fields.specs.declared.records.Sealed.{Sealed}
use Rattle.record_fields.specs.declared.lines.Line.{Line}
use Rattle.shop_core.specs.History.{noted, recs, sealed_at}
use Rattle.shop_core.specs.Places.{accepted_place}
use Rattle.record_codec.specs.declared.entry.Entry.{Entry}
use Rattle.statements.specs.Months.{month_at}
use Rattle.statements.specs.Rows.{count, sum, AreRows, AreFew}
use Rattle.statements.specs.Statement.{held_lines, lines_from, lines_in}
use Rattle.statements.specs.declared.months.TheConstants.{MONTHS}
use Rattle.statements.specs.declared.postings.Posting.{Posting}
use Rattle.statements.specs.declared.rows.Row.{Row}

-- these lines and those have the same rows
pub record AreSame (xs ys : List TaxLine) : Type 0 where
  pub count : (key : Key) → count key xs ≡ count key ys
  pub sum : (amount : TaxLine → ℤ) (key : Key) → sum amount key xs ≡ sum amount key ys

-- the lines that a posting has in the month of an index
abbrev pub lines_at : Posting → ℕ → List TaxLine
lines_at posting i = if posting.month == i then posting.lines else []

abbrev pub all_at : List Posting → ℕ → List TaxLine
all_at [] i = []
all_at (p ∷ postings) i = lines_at p i ++ all_at postings i

-- a posting is of a month that is kept, and its lines are those of an invoice
pub record IsPosting (p : Posting) : Type 0 where
  pub month : p.month < MONTHS
  pub lines : IsBreakdown p.lines

abbrev pub ArePostings : List Posting → Type 0
ArePostings postings = AllByRecursion (λ (p : Posting). IsPosting p) postings

-- each month's rows are those of its lines
pub record AreMonths (lines : ℕ → List TaxLine) (months : List (List Row)) : Type 0 where
  pub whole : length months ≡ MONTHS
  pub each : (i : ℕ) → i < MONTHS → AreRows (lines i) (get_or months i [])

-- there is room for more lines
pub record HaveRoomFor (more : ℕ → List TaxLine) (months : List (List Row)) : Type 0 where
  pub held : ℕ → List TaxLine
  pub are : AreMonths held months
  pub few : (i : ℕ) → i < MONTHS → AreFew (more i ++ held i)

-- they have these lines and others
pub record HaveAll (some : ℕ → List TaxLine) (months : List (List Row)) : Type 0 where
  pub rest : ℕ → List TaxLine
  pub are : AreMonths (λ (i : ℕ). some i ++ rest i) months
  pub few : (i : ℕ) → i < MONTHS → AreFew (some i ++ rest i)

-- the posting of a record: its lines, in the month of its day
abbrev pub IsPostingOf : Record → Option Posting → Type 0
IsPostingOf body None = (i : ℕ) → i < MONTHS → lines_in (month_at i) body ≡ []
IsPostingOf body (Some p) = IsPosting p × ((i : ℕ) → i < MONTHS → lines_in (month_at i) body ≡ lines_at p i)

-- the posting of the record that was found, where one was
abbrev pub IsPostingFor : Option (ℕ × Sealed) → Option Posting → Type 0
IsPostingFor None found = found ≡ None
IsPostingFor (Some p) found = IsPostingOf p.1.body found

-- what an entry changes: where the postings `put` are added and the postings `drop` are taken out, the lines of the history
-- become those of the history with the entry
pub record IsPlan (entries after : List Entry) (put drop : List Posting) : Type 0 where
  pub puts : ArePostings put
  pub drops : ArePostings drop
  pub few : length put ≤ MAX_NOTES
  pub few_out : length drop ≤ MAX_NOTES
  pub same : (i : ℕ) → i < MONTHS → AreSame (all_at drop i ++ held_lines after (month_at i))
      (all_at put i ++ held_lines entries (month_at i))

-- the same where these lines are noted after those of the history
pub record AreNoted (entries : List Entry) (lines : List Line) (put drop : List Posting) : Type 0 where
  pub puts : ArePostings put
  pub drops : ArePostings drop
  pub few : length put ≤ length lines
  pub few_out : length drop ≤ length lines
  pub same : (i : ℕ) → i < MONTHS →
      AreSame (all_at drop i ++ lines_from (accepted_place (recs entries) (noted entries ++ lines)) (month_at i) 1 (recs entries))
      (all_at put i ++ held_lines entries (month_at i))

-- the posting of the record at a place, where there is one
abbrev pub IsPostingAt : List Entry → Option ℕ → Option Posting → Type 0
IsPostingAt entries None found = found ≡ None
IsPostingAt entries (Some place) found = (s : Sealed) × (sealed_at entries place ≡ Some s) × IsPostingOf s.body found

-- the posting of a record, where its invoice is held by it
abbrev pub IsHeldPosting : Bool → Record → Option Posting → Type 0
IsHeldPosting true body found = IsPostingOf body found
IsHeldPosting false body found = found ≡ None
