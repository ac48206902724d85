-- Several stores, one an issuer.
use Rattle.std.specs.Prelude.{◌≡◌, ◌≢◌, ℕ, List, [], ◌∷◌, ◌++◌, Some, Result, slice_get, slice_set}
use Rattle.std.specs.List.{AllByRecursion}
use Rattle.ports.specs.declared.Clock as clock
use Rattle.chain_disk.specs.declared.disk.Disk as disk
use Rattle.journal.specs.declared.faults.StoreFault.{StoreFault}
use Rattle.shop_core.specs.Answer.Requests.{Asked}
use Rattle.shop_core.specs.declared.answer.Reply.{Reply}
use Rattle.chain_store.specs.Store.{state_of}
use Rattle.chain_store.specs.declared.store.Store.{Store}
use Rattle.chain_store.specs.Replies.{Replies}
use Rattle.chain_store.specs.Taking.{Along}
use Rattle.chain_store.specs.Took.{Took}
use Rattle.issuers.specs.declared.office.Office.{Office}

-- its stores
abbrev pub stores_of : {D C : Type 0} {g : disk.Ghosts D} → Office D C g → List (Store D C g)
stores_of office = office.stores.items

-- a store's issuer
abbrev pub issuer_of : {D C : Type 0} {g : disk.Ghosts D} → Store D C g → List ℕ
issuer_of store = (state_of store).issuer

-- no issuer stands twice
abbrev pub AreOwn : List (List ℕ) → Type 0
AreOwn [] = Unit {0}
AreOwn (issuer ∷ issuers) = AllByRecursion (λ (other : List ℕ). issuer ≢ other) issuers × AreOwn issuers

-- The store of this index was asked, as a store alone is, and every other store is as before. A run that has come to it goes on.
pub record TookAt {D C : Type 0} (d : disk.Ghosts D) (c : clock.Ghosts C) (before after : List (Store D C d)) (index : ℕ)
    (ask : Asked) (replied : Result Reply StoreFault) : Type 0 where
  pub old : Store D C d
  pub new : Store D C d
  pub there : slice_get before index ≡ Some old
  pub changed : after ≡ slice_set before index new
  pub took : Took d c old new ask replied
  pub along : (first : Store D C d) (asks : List Asked) (replies : Replies) → Along d c first old asks replies →
      Along d c first new (asks ++ ask ∷ []) (replies ++ replied ∷ [])
