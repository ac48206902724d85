-- The table from a Huella to its place.
use Rattle.std.specs.Prelude.{◌≡◌, ℕ, List, Bool, is_some, unwrap_or, bytes_eq}
use Rattle.std.specs.List.{position_from}
use Rattle.std.specs.Map.{lookup}
use Rattle.record_fields.specs.declared.records.Sealed.{Sealed}
use Rattle.shop_core.specs.Place.{placed}
use Rattle.shop_core.specs.declared.tables.by_huella.ByHuella.{ByHuella}
use Rattle.shop_core.specs.declared.tables.by_huella.Key.{Key}

-- the key is this Huella
abbrev pub is_key : List ℕ → Key → Bool
is_key huella key = bytes_eq huella key.huella

-- the place that is kept for a Huella; 0 where there is none, or an empty one
abbrev pub place_at : ByHuella → List ℕ → ℕ
place_at table huella = unwrap_or (lookup (is_key huella) table.places.entries) 0

-- the Huella has been entered
abbrev pub has : ByHuella → List ℕ → Bool
has table huella = is_some (lookup (is_key huella) table.places.entries)

-- each Huella has its first place among these records
abbrev pub IsByHuella : List Sealed → ByHuella → Type 0
IsByHuella records table = (huella : List ℕ) → placed (place_at table huella)
    ≡ position_from (λ (s : Sealed). bytes_eq s.huella huella) 1 records
