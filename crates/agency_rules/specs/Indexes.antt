-- What the indexes over the list of processed records say.
use Rattle.std.specs.Prelude.{◌≡◌, ℕ, ◌<◌, ◌≤◌, List, length, Option, None, Some, false, bytes_eq, slice_get, unwrap_or}
use Rattle.std.specs.Prelude.{if◌then◌else◌}
use Rattle.std.specs.List.{position_or_len}
use Rattle.std.specs.Map.{lookup}
use Rattle.series.specs.declared.numbers.InvoiceId.{InvoiceId}
use Rattle.record_fields.specs.declared.lines.Line.{Line}
use Rattle.record_fields.specs.declared.records.Sealed.{Sealed}
use Rattle.agency_rules.specs.Judging.{same_id, past_of}
use Rattle.agency_rules.specs.declared.judging.Past.{Past}
use Rattle.agency_rules.specs.declared.pairs.TheConstants.{MAX_PAIRS}
use Rattle.agency_rules.specs.declared.indexes.Places.{Places}
use Rattle.agency_rules.specs.declared.indexes.Pasts.{Pasts}

-- the place of the first pair with this Huella, or the number of pairs
abbrev pub place_of : List (Sealed × Line) → List ℕ → ℕ
place_of processed huella = position_or_len (λ (p : Sealed × Line). bytes_eq p.0.huella huella) processed

-- the line of a pair, where it has this Huella, and of the pair at a place
abbrev pub line_if : List ℕ → Option (Sealed × Line) → Option Line
line_if huella None = None
line_if huella (Some p) = if bytes_eq p.0.huella huella then Some p.1 else None

abbrev pub line_at : List (Sealed × Line) → List ℕ → Option ℕ → Option Line
line_at processed huella None = None
line_at processed huella (Some place) = line_if huella (slice_get processed place)

-- the place that is noted for a Huella
abbrev pub place_at : Places → List ℕ → Option ℕ
place_at places huella = lookup (bytes_eq huella) places.by_huella.entries

-- nothing was processed
abbrev pub no_past : Past
no_past = record { count = 0; held = false; gone = false }

-- the past that is noted for an invoice
abbrev pub past_at : Pasts → InvoiceId → Past
past_at pasts id = unwrap_or (lookup (same_id id) pasts.by_id.entries) no_past

-- Each Huella of a pair is noted with its first place, others with any or none. Each invoice has its past.
pub record IsIndexed (processed : List (Sealed × Line)) (places : Places) (pasts : Pasts) : Type 0 where
  pub few : length processed ≤ MAX_PAIRS
  pub places_are : (huella : List ℕ) → place_of processed huella < length processed →
      place_at places huella ≡ Some (place_of processed huella)
  pub pasts_are : (id : InvoiceId) → past_at pasts id ≡ past_of processed id
