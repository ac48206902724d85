-- The histories at which a dialogue's questions are answered.
use Rattle.std.specs.Prelude.{◌≡◌, ◌≤◌, ◌∷◌, ℕ, List, [], ◌++◌, length, map, take, Option, Some, Result, Ok, Err, slice_get, slice_set}
use Rattle.std.specs.List.{AllByRecursion}
use Rattle.chain_lock.specs.Known.{Fits, IsNew, Known}
use Rattle.chain_lock.specs.Lists.{StartsWith}
use Rattle.chain_store.specs.Replies.{Replies}
use Rattle.dialogue.specs.Protocol.{Look}
use Rattle.journal.specs.declared.faults.StoreFault.{StoreFault}
use Rattle.ports.specs.declared.faults.NoMemory.{NoMemory as NoRoom}
use Rattle.questions.specs.Answers.{IsAnswer}
use Rattle.questions.specs.declared.questions.TillQuestion.{TillQuestion}
use Rattle.record_codec.specs.declared.entry.Entry.{Entry}
use Rattle.shop_core.specs.Answer.Requests.{Asked}
use Rattle.shop_core.specs.History.{recs}
use Rattle.shop_core.specs.Items.{entries_of}
use Rattle.shop_core.specs.declared.answer.Reply.{Reply}
use Rattle.shop_core.specs.declared.answer.Reply.TheVariants.{Taken, Again, Refused}
use Rattle.shop_core.specs.declared.items.Item.{Item}
use Rattle.shop_core.specs.declared.items.Item.TheVariants as item
use Rattle.till_calls.specs.Root.{Root}
use Rattle.till_calls.specs.Seen.{SeesOn}
use Rattle.dialogue_loop.specs.OneRun.{RunsAmong}

-- no history is shorter than the one before it: each begins with it, the first with that at the start, and that at the end with
-- the last
abbrev pub Rise : List Entry → List Look → List Entry → Type 0
Rise start [] end = StartsWith end start
Rise start (look ∷ looks) end = StartsWith look.history start × Rise look.history looks end

-- a receipt is of one of the first records, by their count
abbrev pub IsWithin : ℕ → Result Reply StoreFault → Type 0
IsWithin records (Ok (Taken receipt)) = receipt.place ≤ records
IsWithin records (Ok (Again receipt)) = receipt.place ≤ records
IsWithin records (Ok (Refused why)) = Unit {0}
IsWithin records (Err fault) = Unit {0}

-- each record that was told before a look is of its history
pub record SeesTold (replies : Replies) (look : Look) : Type 0 where
  pub before : look.after ≤ length replies
  pub within : AllByRecursion (IsWithin (length (recs look.history))) (take look.after replies)

-- The questions of a dialogue were answered at histories from that at the start on to that at the end, in their order, and at none
-- that lacks a record which was told before.
pub record AreLooked (start end : List Entry) (replies : Replies) (looks : List Look) : Type 0 where
  pub rise : Rise start looks end
  pub told : AllByRecursion (SeesTold replies) looks

-- how many records are among the first items of a list, by their count
abbrev pub records_in : ℕ → List Item → ℕ
records_in n log = length (recs (entries_of (take n log)))

-- a shop's items at its start
abbrev pub items_at : {C : Type 0} → Root C → List Item
items_at root = map item.Entry root.history

module _ {C : Type 0} (coming : C → ℕ → Option ℕ) where
  -- The run so far, by a list that fits all tills: no record stands behind those that the first till knows of.
  pub record RunKnown (asks : List Asked) (replies : Replies) (looks : List Look) (news : List (Known Item (Root C)))
      (first : Known Item (Root C)) (root : Root C) (log : List Item) : Type 0 where
    pub roots : AllByRecursion (λ (k : Known Item (Root C)). k.root ≡ Some root) news
    pub least : length root.history ≤ first.least
    pub runs : RunsAmong root.version root.issuer (coming root.clock) root.history (entries_of log) asks replies looks
        (records_in first.least log)

  -- The looks and asks so far, of tills that knew this at first, by what the first till knows and what all do: that till has seen the
  -- history of each look, and knows of each record that was told.
  pub record FirstLooked (olds : List (Known Item (Root C))) (asks : List Asked) (replies : Replies) (looks : List Look)
      (news : List (Known Item (Root C))) (first : Known Item (Root C)) : Type 0 where
    pub rise : (root : Root C) (list : List Item) → first.root ≡ Some root → StartsWith list first.seen →
        StartsWith (entries_of list) root.history → Rise root.history looks (entries_of list)
    pub told : (log : List Item) → AllByRecursion (Fits log) news → AllByRecursion (SeesTold replies) looks
    pub within : (log : List Item) → AllByRecursion (Fits log) news → AllByRecursion (IsWithin (records_in first.least log)) replies
    pub run : (root : Root C) (log : List Item) → AllByRecursion (IsNew (items_at root) root) olds →
        AllByRecursion (Fits log) news → StartsWith log (items_at root) → RunKnown asks replies looks news first root log

  -- the first till stands last
  abbrev pub LookedOn : List (Known Item (Root C)) → List Asked → Replies → List Look → List (Known Item (Root C)) → Type 0
  LookedOn olds asks replies looks news = (first : Known Item (Root C)) → slice_get news 63 ≡ Some first →
      FirstLooked olds asks replies looks news first

  -- a look of a question, by its answer: none was made, or it is that at a history
  abbrev pub LookedFor : TillQuestion → Result (List ℕ) NoRoom → List (Known Item (Root C)) → List (Known Item (Root C)) → Type 0
  LookedFor asked (Ok text) mids news = (history : List Entry) × IsAnswer asked history text ×
      ((olds : List (Known Item (Root C))) (asks : List Asked) (replies : Replies) (looks : List Look) →
      LookedOn olds asks replies looks mids →
      LookedOn olds asks replies (looks ++ record { after = length replies; history = history } ∷ []) news)
  LookedFor asked (Err e) mids news = (olds : List (Known Item (Root C))) (asks : List Asked) (replies : Replies) (looks : List Look) →
      LookedOn olds asks replies looks mids → LookedOn olds asks replies looks news

  -- what was asked in a dialogue whose tills are of one shop, by any list that goes on from what they know at the end
  abbrev pub RunsAt : List (Known Item (Root C)) → List (Known Item (Root C)) → List Asked → Replies → List Look → Type 0
  RunsAt olds news asks replies looks = (root : Root C) (log : List Item) → AllByRecursion (IsNew (items_at root) root) olds →
      AllByRecursion (Fits log) news → StartsWith log (items_at root) →
      RunsAmong root.version root.issuer (coming root.clock) root.history (entries_of log) asks replies looks
      (length (recs (entries_of log)))

module _ {C : Type 0} where
  -- what was answered in a dialogue whose tills are of one shop, by any list that goes on from what they know at the end
  abbrev pub AreLookedAt : List (Known Item (Root C)) → List (Known Item (Root C)) → Replies → List Look → Type 0
  AreLookedAt olds news replies looks = (root : Root C) (log : List Item) →
      AllByRecursion (λ (k : Known Item (Root C)). k.root ≡ Some root) olds → AllByRecursion (Fits log) news →
      StartsWith (entries_of log) root.history → AreLooked root.history (entries_of log) replies looks

-- the till at a place has seen on, and knows of as many items as another one
pub record Informed {R : Type 0} (olds : List (Known Item R)) (by place : ℕ) (news : List (Known Item R)) : Type 0 where
  pub now : Known Item R
  pub only : news ≡ slice_set olds place now
  pub sees : (old : Known Item R) → slice_get olds place ≡ Some old → SeesOn old now
  pub as_many : (till : Known Item R) → slice_get olds by ≡ Some till → till.least ≤ now.least
