-- What the tills of a day do while their threads run.
use Rattle.std.specs.Prelude.{◌≡◌, ◌≤◌, ℕ, List, map, Option}
use Rattle.std.specs.List.{AllByRecursion}
use Rattle.chain_lock.specs.Known.{Known}
use Rattle.shop_core.specs.Answer.Requests.{Asked}
use Rattle.shop_core.specs.declared.items.Item.{Item}
use Rattle.till_calls.specs.Root.{Root}
use Rattle.till_calls.specs.Client.{TillRun}
use Rattle.chain_store.specs.Replies.{Replies}
use Rattle.sender_beside.specs.Days.{TillReplies}
use Rattle.sender_beside.specs.Tills.{asks_of}

-- the asks of a till and then a look at the count, from what it knew to what it knows
pub record Works {C : Type 0} (coming : C → ℕ → Option ℕ) (old : Known Item (Root C)) (asks : List Asked) (replies : Replies)
    (saw : ℕ) (new : Known Item (Root C)) : Type 0 where
  pub last : Known Item (Root C)
  pub run : TillRun coming old asks replies last
  pub at_least : last.least ≤ saw
  pub new_is : new ≡ record last { least = saw }

-- a till's part of the work, and what the till knew at first and at its last answer
pub record Row (C : Type 0) : Type 0 where
  pub part : TillReplies
  pub from : Known Item (Root C)
  pub last : Known Item (Root C)

-- what it knows once it has looked at the count
abbrev pub known_after : {C : Type 0} → Row C → Known Item (Root C)
known_after r = record r.last { least = r.part.saw }

-- it did its own asks of these
pub record Worked {C : Type 0} (coming : C → ℕ → Option ℕ) (asks : List Asked) (r : Row C) : Type 0 where
  pub run : TillRun coming r.from (asks_of r.part.till asks) r.part.replies r.last
  pub at_least : r.last.least ≤ r.part.saw

-- the tills of these numbers worked, each from what it knew to what it knows
pub record Ran {C : Type 0} (coming : C → ℕ → Option ℕ) (asks : List Asked) (tills : List ℕ)
    (old : List (Known Item (Root C))) (parts : List TillReplies) (new : List (Known Item (Root C))) : Type 0 where
  pub rows : List (Row C)
  pub tills_are : tills ≡ map (λ (r : Row C). r.part.till) rows
  pub old_are : old ≡ map (λ (r : Row C). r.from) rows
  pub parts_are : parts ≡ map (λ (r : Row C). r.part) rows
  pub new_are : new ≡ map (λ (r : Row C). known_after r) rows
  pub worked : AllByRecursion (λ (r : Row C). Worked coming asks r) rows
