-- The table from a till and a serial to their place.
use Rattle.std.specs.Prelude.{◌≡◌, ℕ, List, Bool, is_some, unwrap_or, ◌==◌, ◌&&◌}
use Rattle.std.specs.List.{position_from}
use Rattle.std.specs.Map.{lookup}
use Rattle.shop_core.specs.History.{Row}
use Rattle.shop_core.specs.Place.{placed}
use Rattle.shop_core.specs.declared.tables.by_serial.Slot.{Slot}
use Rattle.shop_core.specs.declared.tables.by_serial.BySerial.{BySerial}

abbrev pub same_slot : Slot → Slot → Bool
same_slot a b = (a.till == b.till) && (a.serial == b.serial)

-- the place that is kept for a till and serial; 0 where there is none, or an empty one
abbrev pub place_at : BySerial → Slot → ℕ
place_at table slot = unwrap_or (lookup (same_slot slot) table.places.entries) 0

-- they have been entered
abbrev pub has : BySerial → Slot → Bool
has table slot = is_some (lookup (same_slot slot) table.places.entries)

-- the row is of this till and serial
abbrev pub is_of : Slot → Row → Bool
is_of slot r = (r.till == slot.till) && (r.serial == slot.serial)

-- each till and serial have their first place among these rows
abbrev pub IsBySerial : List Row → BySerial → Type 0
IsBySerial rows table = (slot : Slot) → placed (place_at table slot) ≡ position_from (is_of slot) 1 rows
