-- A shop that has just begun.
use Rattle.std.specs.Prelude.{◌≡◌, ◌<◌, ◌++◌, ◌∷◌, [], ℕ, List, length, map, All}
use Rattle.chain_disk.specs.OnDisk.{OnDisk}
use Rattle.chain_disk.specs.declared.disk.Disk as disk
use Rattle.chain_lock.specs.Known.{IsNew, holders}
use Rattle.ports.specs.declared.Clock as clock
use Rattle.shop_core.specs.Legal.{Legal}
use Rattle.shop_core.specs.declared.items.Item.TheVariants as item
use Rattle.till_calls.specs.Root.{Parts, root_of}
use Rattle.till_calls.specs.Shop.{first_items, made_tills, numbers, places, seat_knows, seat_shop, shop_id, shop_root}
use Rattle.till_calls.specs.Shop.{tills_know, tills_shop}
use Rattle.till_calls.specs.declared.shop.Started.{Started}

-- its tills and its sender's seat are its own and new, each place is held once, and its history is legal and all that it recorded
pub record IsStarted {D C : Type 0} {g : disk.Ghosts D} {h : clock.Ghosts C} (s : Started D C g h) : Type 0 where
  pub own : (tills_shop s.tills ≡ shop_id s.shop) × (seat_shop s.seat ≡ shop_id s.shop)
  pub new : All (IsNew (first_items s.shop) (shop_root s.shop)) (tills_know s.tills ++ seat_knows s.seat ∷ [])
  pub whole : (n : ℕ) → n < places s.shop → holders n (tills_know s.tills ++ seat_knows s.seat ∷ []) ≡ 1
  pub legal : Legal (shop_root s.shop).version (shop_root s.shop).issuer (shop_root s.shop).history
  pub base : first_items s.shop ≡ map item.Entry (shop_root s.shop).history

-- it has begun over a store with these parts, and has a till for each of these numbers
pub record IsBegun {D C : Type 0} {g : disk.Ghosts D} {h : clock.Ghosts C} (on_disk : D → OnDisk) (faults : D → ℕ) (store : Parts D C)
    (tills : List ℕ) (s : Started D C g h) : Type 0 where
  pub started : IsStarted s
  pub root : shop_root s.shop ≡ root_of on_disk faults store
  pub numbers_are : numbers s.tills ≡ tills
  pub made : made_tills s.tills ≡ length tills
