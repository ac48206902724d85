-- What each till and the seat added to a shop's list.
use Rattle.std.specs.Prelude.{◌≡◌, ℕ, ◌==◌, Bool, true, false, List, [], ◌∷◌, filter, All, Result, Ok, Err}
use Rattle.chain_lock.specs.Known.{Known}
use Rattle.journal.specs.declared.faults.StoreFault.{StoreFault}
use Rattle.record_codec.specs.declared.entry.Entry.{Entry}
use Rattle.record_codec.specs.declared.entry.Entry.TheVariants.{Rec, Notes}
use Rattle.shop_core.specs.declared.items.Item.{Item}
use Rattle.shop_core.specs.declared.items.Item.TheVariants as item
use Rattle.shop_core.specs.Answer.Replies.{IsTakenAt}
use Rattle.shop_core.specs.declared.answer.Reply.{Reply}
use Rattle.shop_core.specs.declared.answer.Reply.TheVariants.{Taken, Again, Refused}

-- the item is a record of this till
abbrev pub is_of : ℕ → Item → Bool
is_of till (item.Entry (Rec own serial sealed)) = own == till
is_of till (item.Entry (Notes first lines)) = false
is_of till (item.Stop faults torn) = false

-- the item is a record of this till, or a stop over one
abbrev pub is_by : ℕ → Item → Bool
is_by till (item.Entry e) = is_of till (item.Entry e)
is_by till (item.Stop faults torn) = is_of till (item.Entry torn)

-- the records of a till among these items
abbrev pub records_of : ℕ → List Item → List Item
records_of till items = filter (is_of till) items

-- the items told as taken, in the order of the replies
abbrev pub AreTaken : List (Result Reply StoreFault) → List Item → Type 0
AreTaken [] items = items ≡ []
AreTaken (Ok (Taken receipt) ∷ replies) items = (e : Entry) × (place : ℕ) × (rest : List Item) ×
    (items ≡ item.Entry e ∷ rest) × IsTakenAt place e (Taken receipt) × AreTaken replies rest
AreTaken (Ok (Again receipt) ∷ replies) items = AreTaken replies items
AreTaken (Ok (Refused why) ∷ replies) items = AreTaken replies items
AreTaken (Err fault ∷ replies) items = AreTaken replies items

-- a pass owns no record of this till
abbrev pub OwnsNone : {R : Type 0} → ℕ → Known Item R → Type 0
OwnsNone till k = All (λ (x : ℕ × Item). is_of till x.1 ≡ false) k.own

-- all that a pass owns is a record of this till, or a stop over one
abbrev pub OwnsOnly : {R : Type 0} → ℕ → Known Item R → Type 0
OwnsOnly till k = All (λ (x : ℕ × Item). is_by till x.1 ≡ true) k.own
