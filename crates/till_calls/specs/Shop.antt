-- The words in which contracts speak of a shop, its tills and the sender's seat.
use Rattle.std.specs.Prelude.{ℕ, List, Option, Result}
use Rattle.chain_disk.specs.declared.disk.Disk as disk
use Rattle.ports.specs.declared.Clock as clock
use Rattle.atomic_table.specs.Seated.{TableId}
use Rattle.chain_lock.specs.Known.{Known, Turns}
use Rattle.chain_lock.specs.Words.{all_known, known, lock_id, opening, pass_count, pass_lock, passes_lock}
use Rattle.journal.specs.declared.faults.StoreFault.{StoreFault}
use Rattle.shop_core.specs.Answer.Requests.{Asked}
use Rattle.shop_core.specs.declared.items.Item.{Item}
use Rattle.shop_core.specs.declared.answer.Reply.{Reply}
use Rattle.till_calls.specs.Root.{Root, items_in}
use Rattle.till_calls.specs.Turns.{TillTurn}
use Rattle.till_calls.specs.declared.shop.Shop.{Shop}
use Rattle.till_calls.specs.declared.tills.SenderSeat.{SenderSeat}
use Rattle.till_calls.specs.declared.tills.Till.{Till}
use Rattle.till_calls.specs.declared.tills.Tills.{Tills}

module _ {D C : Type 0} where
  -- which shop it is
  abbrev pub shop_id : Shop D C → TableId
  shop_id shop = lock_id shop.lock

  -- how it was at the start
  abbrev pub shop_root : Shop D C → Root C
  shop_root shop = (opening shop.lock).root

  -- what it had recorded then
  abbrev pub first_items : Shop D C → List Item
  first_items shop = items_in (opening shop.lock).parts

  -- how many tills and seats it has
  abbrev pub places : Shop D C → ℕ
  places shop = pass_count shop.lock

  abbrev pub till_shop : Till D C → TableId
  till_shop till = pass_lock till.pass

  abbrev pub till_number : Till D C → ℕ
  till_number till = till.number

  -- what a till knows of the shop's items: those that it has seen, its own, and how many there are at least
  abbrev pub till_knows : Till D C → Known Item (Root C)
  till_knows till = known till.pass

module _ {D C : Type 0} {g : disk.Ghosts D} {h : clock.Ghosts C} where
  abbrev pub seat_shop : SenderSeat D C g h → TableId
  seat_shop seat = pass_lock seat.pass

  abbrev pub seat_knows : SenderSeat D C g h → Known Item (Root C)
  seat_knows seat = known seat.pass

  abbrev pub tills_shop : Tills D C g h → TableId
  tills_shop tills = passes_lock tills.passes

  abbrev pub numbers : Tills D C g h → List ℕ
  numbers tills = tills.numbers.items

  abbrev pub tills_know : Tills D C g h → List (Known Item (Root C))
  tills_know tills = all_known tills.passes

  -- how many tills were made
  abbrev pub made_tills : Tills D C g h → ℕ
  made_tills tills = tills.made

module _ {C : Type 0} where
  -- one ask of a till: it found a list that goes on from all that the till knew, and the reply is the answer there
  abbrev pub Asks : (C → ℕ → Option ℕ) → Asked → Result Reply StoreFault → Known Item (Root C) → Known Item (Root C) →
      Type 0
  Asks coming ask reply old new = Turns (λ root before after. TillTurn coming ask reply root before after) old new
