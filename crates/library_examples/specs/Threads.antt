-- What a till of a shop is told of its requests, and what it adds.
use Rattle.std.specs.Prelude.{ℕ, Bool, List, drop, length, Option, Result}
use Rattle.journal.specs.declared.faults.StoreFault.{StoreFault}
use Rattle.shop_core.specs.declared.answer.Reply.{Reply}
use Rattle.shop_core.specs.declared.items.Item.{Item}
use Rattle.shop_core.specs.declared.answer.requests.Request.{Request}
use Rattle.till_calls.specs.Own.{AreTaken, records_of}
use Rattle.till_calls.specs.Root.{Root}
use Rattle.till_calls.specs.Client.{TillTold, asks_of}

-- the records of a till since the start, in the shop's list at the end
abbrev pub records_since : {C : Type 0} → Root C → List Item → ℕ → List Item
records_since root log till = records_of till (drop (length root.history) log)

-- One reply for each request of this till, in order, its serials from 1: the answer at a beginning of the shop's list at the end,
-- none shorter than the one before, or a fault. Its records since the start are those told as taken, in that order.
pub record AreReplies {C : Type 0} (coming : C → ℕ → Option ℕ) (root : Root C) (log : List Item) (till : ℕ)
    (requests : List Request) (replies : List (Result Reply StoreFault)) : Type 0 where
  pub seen : ℕ
  pub told : Bool
  pub run : TillTold coming root log (length root.history) (asks_of till requests) replies seen told
  pub own : AreTaken replies (records_since root log till)
