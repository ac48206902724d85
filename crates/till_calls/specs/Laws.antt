-- Laws of runs.
use Rattle.std.specs.Prelude.{◌≡◌, ◌≢◌, ◌⊎◌, ◌≤◌, ◌<◌, ℕ, Bool, List, length, drop, All, Option, Result}
use Rattle.chain_lock.specs.Known.{Known, IsNew, Fits, OwnsBelow, owners}
use Rattle.chain_lock.specs.Lists.{StartsWith}
use Rattle.journal.specs.declared.faults.StoreFault.{StoreFault}
use Rattle.shop_core.specs.Answer.Requests.{Asked}
use Rattle.shop_core.specs.declared.answer.Reply.{Reply}
use Rattle.shop_core.specs.declared.items.Item.{Item}
use Rattle.till_calls.specs.Own.{AreTaken, OwnsNone, OwnsOnly, records_of}
use Rattle.till_calls.specs.Root.{Root}
use Rattle.till_calls.specs.Seen.{SeesOn}
use Rattle.till_calls.specs.Shop.{Asks}
use Rattle.till_calls.specs.Client.{TillRun, TillTold}

-- a run of a new till is told of the list at the end
abbrev pub ToldAtTheEnd : {C : Type 0} → (C → ℕ → Option ℕ) → Type 0
ToldAtTheEnd {C} coming = (root : Root C) (items log : List Item) (old new : Known Item (Root C)) (asks : List Asked)
    (replies : List (Result Reply StoreFault)) → IsNew items root old → Fits log new → TillRun coming old asks replies new →
    (seen : ℕ) × (told : Bool) × TillTold coming root log (length items) asks replies seen told

-- A new till's run adds what it is told as taken, and nothing else: where each other pass owns no record of this till, its
-- records in the list since the start are those, in that order
abbrev pub AddsWhatIsTaken : {C : Type 0} → (C → ℕ → Option ℕ) → Type 0
AddsWhatIsTaken {C} coming = (till : ℕ) (root : Root C) (items log : List Item) (old new : Known Item (Root C))
    (asks : List Asked) (replies : List (Result Reply StoreFault)) (passes : List (Known Item (Root C))) →
    IsNew items root old → TillRun coming old asks replies new → All (λ (a : Asked). a.till ≡ till) asks →
    StartsWith log items → Fits log new → All (Fits log) passes → All (λ k. (k ≡ new) ⊎ OwnsNone till k) passes →
    ((n : ℕ) → length items ≤ n → n < length log → owners n passes ≡ 1) →
    AreTaken replies (records_of till (drop (length items) log))

-- and it owns no record of another till
abbrev pub AddsForNoOther : {C : Type 0} → (C → ℕ → Option ℕ) → Type 0
AddsForNoOther {C} coming = (till other : ℕ) (root : Root C) (items : List Item) (old new : Known Item (Root C))
    (asks : List Asked) (replies : List (Result Reply StoreFault)) → IsNew items root old →
    TillRun coming old asks replies new → All (λ (a : Asked). a.till ≡ till) asks → other ≢ till → OwnsNone other new

-- and all that it owns is a record of its own, or a stop over one
abbrev pub OwnsRecordsAndStops : {C : Type 0} → (C → ℕ → Option ℕ) → Type 0
OwnsRecordsAndStops {C} coming = (till : ℕ) (root : Root C) (items : List Item) (old new : Known Item (Root C))
    (asks : List Asked) (replies : List (Result Reply StoreFault)) → IsNew items root old →
    TillRun coming old asks replies new → All (λ (a : Asked). a.till ≡ till) asks → OwnsOnly till new

-- and it stands within as many items as the till knows of
abbrev pub OwnsWithinKnown : {C : Type 0} → (C → ℕ → Option ℕ) → Type 0
OwnsWithinKnown {C} coming = (till : ℕ) (root : Root C) (items : List Item) (old new : Known Item (Root C))
    (asks : List Asked) (replies : List (Result Reply StoreFault)) → IsNew items root old →
    TillRun coming old asks replies new → All (λ (a : Asked). a.till ≡ till) asks → OwnsBelow new.least new

-- who sees on twice sees on
abbrev pub SeesOnTwice : Type 0 → Type 0
SeesOnTwice C = (old mid new : Known Item (Root C)) → SeesOn old mid → SeesOn mid new → SeesOn old new

-- an ask of a till that saw on is one of what it knew before
abbrev pub AsksFromBefore : {C : Type 0} → (C → ℕ → Option ℕ) → Type 0
AsksFromBefore {C} coming = (ask : Asked) (reply : Result Reply StoreFault) (old mid new : Known Item (Root C)) →
    SeesOn old mid → Asks coming ask reply mid new → Asks coming ask reply old new

-- a list that fits what a till has seen on to fits what it knew before
abbrev pub FitsBefore : Type 0 → Type 0
FitsBefore C = (log : List Item) (old new : Known Item (Root C)) → SeesOn old new → Fits log new → Fits log old
