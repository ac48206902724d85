-- The table from a number to how its invoice stands.
use Rattle.std.specs.Prelude.{◌≡◌, nat_lt, ℕ, List, [], Bool, false, not, ◌&&◌, is_some, unwrap_or, bytes_eq, filter, Option}
use Rattle.std.specs.Prelude.{None, Some, option_map, slice_get, Vec, if◌then◌else◌}
use Rattle.std.specs.Option.{option_map_or, option_or}
use Rattle.std.specs.List.{enumerate_from}
use Rattle.std.specs.Map.{lookup}
use Rattle.std.specs.declared.alloc.Global.{Global}
use Rattle.record_fields.specs.Picks.{last_of}
use Rattle.record_fields.specs.Records.{is_alta}
use Rattle.record_fields.specs.declared.lines.Line.{Line}
use Rattle.record_fields.specs.declared.records.Sealed.{Sealed}
use Rattle.shop_core.specs.History.{at_place}
use Rattle.shop_core.specs.Place.{placed}
use Rattle.shop_core.specs.Tables.Spots.{spot_of}
use Rattle.shop_core.specs.Standing.{has_num, is_incorrecto}
use Rattle.shop_core.specs.declared.tables.by_number.ByNumber.{ByNumber}
use Rattle.shop_core.specs.declared.tables.by_number.Change.{Change}
use Rattle.shop_core.specs.declared.tables.by_number.Change.TheVariants.{Recorded, Accepted}
use Rattle.shop_core.specs.declared.tables.by_number.Standing.{Standing}
use Rattle.shop_core.specs.declared.tables.spots.Spot.{Spot}

abbrev pub nothing : Standing
nothing = record { last = 0; settled = 0; alta = 0 }

abbrev pub after : Standing → ℕ → Bool → Standing
after s place alta = record { last = place; settled = s.settled; alta = if alta then place else s.alta }

abbrev pub settled : Standing → ℕ → Standing
settled s place = record { last = s.last; settled = place; alta = s.alta }

abbrev pub changed : Change → Standing → Standing
changed (Recorded place alta) s = after s place alta
changed (Accepted place) s = settled s place

-- the place of the last accepted record, with this many lines noted: that of the last one where it waits for its line
abbrev pub accepted : Standing → ℕ → ℕ
accepted s noted = if nat_lt noted s.last then s.last else s.settled

-- the standings of the first numbers of a series
abbrev pub list_of : ByNumber → List ℕ → List Standing
list_of table series =
    option_map_or (λ (list : Vec Standing Global). list.items) (lookup (bytes_eq series) table.lists.entries) []

-- the one at a place of a series
abbrev pub listed_at : ByNumber → Option Spot → Option Standing
listed_at table None = None
listed_at table (Some spot) = slice_get (list_of table spot.series) spot.index

-- the one of a number that stands in no list
abbrev pub other_at : ByNumber → List ℕ → Option Standing
other_at table num = lookup (bytes_eq num) table.others.entries

-- the standing of a number that was entered
abbrev pub entry_at : ByNumber → List ℕ → Option Standing
entry_at table num = option_or (other_at table num) (listed_at table (spot_of num))

-- the standing that is kept for a number; that of nothing where there is none
abbrev pub standing_at : ByNumber → List ℕ → Standing
standing_at table num = unwrap_or (entry_at table num) nothing

-- it has been entered
abbrev pub has : ByNumber → List ℕ → Bool
has table num = is_some (entry_at table num)

-- the last of these records that passes the test, with its place
abbrev pub last_in : (ℕ → Sealed → Bool) → List Sealed → Option (ℕ × Sealed)
last_in test records = last_of (filter (λ (p : ℕ × Sealed). test p.0 p.1) (enumerate_from 1 records))

-- its place
abbrev pub place_in : (ℕ → Sealed → Bool) → List Sealed → Option ℕ
place_in test records = option_map (λ (p : ℕ × Sealed). p.0) (last_in test records)

-- the line at this place, where there is one, accepts
abbrev pub is_accepted_in : List Line → ℕ → Bool
is_accepted_in lines place = option_map_or (λ (line : Line). not (is_incorrecto line)) (at_place lines place) false

abbrev pub is_any : List ℕ → ℕ → Sealed → Bool
is_any num place s = has_num num s

abbrev pub is_settled : List Line → List ℕ → ℕ → Sealed → Bool
is_settled lines num place s = has_num num s && is_accepted_in lines place

abbrev pub is_own_alta : List ℕ → ℕ → Sealed → Bool
is_own_alta num place s = has_num num s && is_alta s.body

-- how a number stands among these records with these lines
pub record Stands (records : List Sealed) (lines : List Line) (num : List ℕ) (s : Standing) : Type 0 where
  pub last : placed s.last ≡ place_in (is_any num) records
  pub settled : placed s.settled ≡ place_in (is_settled lines num) records
  pub alta : placed s.alta ≡ place_in (is_own_alta num) records

-- each number stands as the table says
abbrev pub IsByNumber : List Sealed → List Line → ByNumber → Type 0
IsByNumber records lines table = (num : List ℕ) → Stands records lines num (standing_at table num)
