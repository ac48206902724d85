-- The seat as an outbox.
use Rattle.std.specs.Prelude.{ℕ}
use Rattle.chain_disk.specs.declared.disk.Disk as disk
use Rattle.chain_lock.specs.Known.{Known}
use Rattle.once_world.specs.Outbox.{Sight}
use Rattle.ports.specs.declared.Clock as clock
use Rattle.shop_core.specs.declared.items.Item.{Item}
use Rattle.till_calls.specs.Mark.{Mark, mark_by, sight_by}
use Rattle.till_calls.specs.Root.{Root}
use Rattle.till_calls.specs.Shop.{seat_knows, seat_shop}
use Rattle.till_calls.specs.declared.seat.SeatBox.{SeatBox}

module _ {D C : Type 0} {g : disk.Ghosts D} {h : clock.Ghosts C} where
  abbrev pub sight_of : SeatBox D C g h → Sight
  sight_of box = sight_by (seat_knows box.seat)

  -- what its seat knows
  abbrev pub box_knows : SeatBox D C g h → Known Item (Root C)
  box_knows box = seat_knows box.seat

  abbrev pub mark_of : SeatBox D C g h → Mark C
  mark_of box = mark_by (seat_shop box.seat) (seat_knows box.seat)

  -- how many items its seat knows of
  abbrev pub least_of : SeatBox D C g h → ℕ
  least_of box = (seat_knows box.seat).least
