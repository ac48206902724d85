-- The tills of a shop in a row, which one thread holds.
use Rattle.std.specs.Prelude.{ℕ, ◌==◌, List, [], ◌∷◌, filter, length, map, zip, Option, Result}
use Rattle.std.specs.Int.{IsInRange}
use Rattle.chain_lock.specs.Known.{Known}
use Rattle.chain_store.specs.Replies.{Replies}
use Rattle.journal.specs.declared.faults.StoreFault.{StoreFault}
use Rattle.record_codec.specs.declared.entry.TheConstants.{LAST_TILL}
use Rattle.shop_core.specs.Answer.Requests.{Asked}
use Rattle.shop_core.specs.declared.answer.Reply.{Reply}
use Rattle.shop_core.specs.declared.items.Item.{Item}
use Rattle.till_calls.specs.Client.{TillRun}
use Rattle.till_calls.specs.Root.{Root}
use Rattle.till_calls.specs.Seen.{SeesOn}

-- the ask is one of a shop's tills
abbrev pub IsOfTill : Asked → Type 0
IsOfTill ask = IsInRange 1 LAST_TILL ask.till

-- the asks of one till, in their order
abbrev pub asks_of : ℕ → List Asked → List Asked
asks_of till asks = filter (λ (a : Asked). a.till == till) asks

-- the replies to the asks of one till, in their order
abbrev pub replies_of : ℕ → List Asked → Replies → Replies
replies_of till asks replies = map (λ (a : Asked × Result Reply StoreFault). a.1)
    (filter (λ (a : Asked × Result Reply StoreFault). a.0.till == till) (zip asks replies))

-- Tills in a row, the last one first: each ran its own of these asks, and was told its own of these replies, from what it knew to
-- what it knows.
abbrev pub AllRan : {C : Type 0} → (C → ℕ → Option ℕ) → List Asked → Replies → List (Known Item (Root C)) →
    List (Known Item (Root C)) → Type 0
AllRan coming asks replies [] [] = Unit {0}
AllRan coming asks replies (old ∷ olds) (new ∷ news) =
    TillRun coming old (asks_of (length (old ∷ olds)) asks) (replies_of (length (old ∷ olds)) asks replies) new
    × AllRan coming asks replies olds news
AllRan coming asks replies _ _ = ⊥

-- tills in a row that have seen on
abbrev pub AllSeeOn : {R : Type 0} → List (Known Item R) → List (Known Item R) → Type 0
AllSeeOn [] [] = Unit {0}
AllSeeOn (old ∷ olds) (new ∷ news) = SeesOn old new × AllSeeOn olds news
AllSeeOn _ _ = ⊥

-- each ran its own of these asks, and has seen on since its last one
pub record AllRanOn {C : Type 0} (coming : C → ℕ → Option ℕ) (asks : List Asked) (replies : Replies)
    (olds news : List (Known Item (Root C))) : Type 0 where
  pub mids : List (Known Item (Root C))
  pub ran : AllRan coming asks replies olds mids
  pub since : AllSeeOn mids news
