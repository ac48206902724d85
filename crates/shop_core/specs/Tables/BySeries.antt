-- The table from a series to the count of its sales.
use Rattle.std.specs.Prelude.{◌≡◌, ℕ, List, Bool, is_some, unwrap_or, bytes_eq}
use Rattle.std.specs.Map.{lookup}
use Rattle.record_fields.specs.declared.records.Sealed.{Sealed}
use Rattle.shop_core.specs.History.{sales_in}
use Rattle.shop_core.specs.declared.tables.by_series.BySeries.{BySeries}

-- the count that is kept for a series; 0 where there is none
abbrev pub count_at : BySeries → List ℕ → ℕ
count_at table series = unwrap_or (lookup (bytes_eq series) table.counts.entries) 0

-- it has been entered
abbrev pub has : BySeries → List ℕ → Bool
has table series = is_some (lookup (bytes_eq series) table.counts.entries)

-- each series has the count of its sales among these records
abbrev pub IsBySeries : List Sealed → BySeries → Type 0
IsBySeries records table = (series : List ℕ) → count_at table series ≡ sales_in records series
