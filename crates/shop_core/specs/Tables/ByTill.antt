-- The table from a till to its greatest serial.
use Rattle.std.specs.Prelude.{◌≡◌, ℕ, List, Bool, is_some, unwrap_or, nat_eq, ◌==◌, map, filter}
use Rattle.std.specs.Map.{lookup}
use Rattle.shop_core.specs.History.{Row, greatest}
use Rattle.shop_core.specs.declared.tables.by_till.ByTill.{ByTill}

-- the serial that is kept for a till; 0 where there is none
abbrev pub last_at : ByTill → ℕ → ℕ
last_at table till = unwrap_or (lookup (nat_eq till) table.lasts.entries) 0

-- it has been entered
abbrev pub has : ByTill → ℕ → Bool
has table till = is_some (lookup (nat_eq till) table.lasts.entries)

-- each till has the greatest serial of its rows among these
abbrev pub IsByTill : List Row → ByTill → Type 0
IsByTill rows table = (till : ℕ) → last_at table till
    ≡ greatest (map (λ (r : Row). r.serial) (filter (λ (r : Row). r.till == till) rows))
