-- Runs of one till.
use Rattle.std.specs.Prelude.{◌≤◌, ℕ, Bool, true, false, List, [], ◌∷◌, ◌++◌, map, length, Option, Result, Ok, Err}
use Rattle.std.specs.List.{enumerate_from}
use Rattle.chain_lock.specs.Known.{Known}
use Rattle.chain_lock.specs.Lists.{StartsWith}
use Rattle.journal.specs.declared.faults.StoreFault.{StoreFault}
use Rattle.journal.specs.declared.faults.StoreFault.TheVariants.{DiskFault, Stopped, NoMemory}
use Rattle.record_codec.specs.declared.entry.Entry.{Entry}
use Rattle.shop_core.specs.Answer.Plans.{answer}
use Rattle.shop_core.specs.Answer.Requests.{Asked}
use Rattle.shop_core.specs.Answer.Replies.{Tells}
use Rattle.shop_core.specs.declared.answer.Reply.{Reply}
use Rattle.shop_core.specs.declared.items.Item.{Item}
use Rattle.shop_core.specs.declared.items.Item.TheVariants as item
use Rattle.shop_core.specs.declared.answer.requests.Request.{Request}
use Rattle.till_calls.specs.Root.{Root}
use Rattle.till_calls.specs.Shop.{Asks}
use Rattle.till_calls.specs.Turns.{IsReading}

-- the requests of a till, with serials from 1
abbrev pub asks_of : ℕ → List Request → List Asked
asks_of till requests =
    map (λ (p : ℕ × Request). record { till = till; serial = p.0; request = p.1 }) (enumerate_from 1 requests)

-- the asks of one till in order, with their replies, from what it knew to what it knows
pub data TillRun {C : Type 0} (coming : C → ℕ → Option ℕ) (old : Known Item (Root C)) :
    List Asked → List (Result Reply StoreFault) → Known Item (Root C) → Type 0 where
  begun : TillRun coming old [] [] old
  asked : (asks : List Asked) (replies : List (Result Reply StoreFault)) (mid new : Known Item (Root C)) (ask : Asked)
      (reply : Result Reply StoreFault) → TillRun coming old asks replies mid → Asks coming ask reply mid new →
      TillRun coming old (asks ++ ask ∷ []) (replies ++ reply ∷ []) new

-- The same asks, read off the shop's list at the end. Each reply is the answer at a beginning of it that is no shorter than the
-- ones before; what was taken is the next entry there. After a stop each ask is told of it. The number is how many entries the
-- till had seen at its last answer, the mark whether it was told of the stop
pub data TillTold {C : Type 0} (coming : C → ℕ → Option ℕ) (root : Root C) (log : List Item) (start : ℕ) :
    List Asked → List (Result Reply StoreFault) → ℕ → Bool → Type 0 where
  unasked : TillTold coming root log start [] [] start false
  answered : (asks : List Asked) (replies : List (Result Reply StoreFault)) (seen : ℕ) (ask : Asked) (reply : Reply)
      (history gained : List Entry) (seconds : ℕ) → TillTold coming root log start asks replies seen false →
      seen ≤ length history → StartsWith log (map item.Entry (history ++ gained)) → IsReading coming root seconds →
      Tells history (answer root.version root.issuer history ask seconds) reply gained →
      TillTold coming root log start (asks ++ ask ∷ []) (replies ++ Ok reply ∷ []) (length (history ++ gained)) false
  torn : (asks : List Asked) (replies : List (Result Reply StoreFault)) (seen : ℕ) (ask : Asked) →
      TillTold coming root log start asks replies seen false →
      TillTold coming root log start (asks ++ ask ∷ []) (replies ++ Err DiskFault ∷ []) seen true
  stopped : (asks : List Asked) (replies : List (Result Reply StoreFault)) (seen : ℕ) (told : Bool) (ask : Asked) (count : ℕ) →
      TillTold coming root log start asks replies seen told →
      TillTold coming root log start (asks ++ ask ∷ []) (replies ++ Err (Stopped count) ∷ []) seen true
  without_memory : (asks : List Asked) (replies : List (Result Reply StoreFault)) (seen : ℕ) (ask : Asked) →
      TillTold coming root log start asks replies seen false →
      TillTold coming root log start (asks ++ ask ∷ []) (replies ++ Err NoMemory ∷ []) seen false
