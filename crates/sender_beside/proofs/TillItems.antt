-- What a till owns are its records, and stops over one of them.
use Rattle.std.proofs.Common.{◌≡◌, ℕ, List, All, Option, Result, true}
use Rattle.std.specs.List.{AllByRecursion}
use Rattle.chain_lock.specs.Known.{IsNew, Known}
use Rattle.journal.specs.declared.faults.StoreFault.{StoreFault}
use Rattle.record_codec.specs.declared.entry.Entry.TheVariants.{Rec, Notes}
use Rattle.shop_core.specs.Answer.Requests.{Asked}
use Rattle.shop_core.specs.declared.answer.Reply.{Reply}
use Rattle.shop_core.specs.declared.items.Item.{Item}
use Rattle.shop_core.specs.declared.items.Item.TheVariants as item
use Rattle.till_calls.specs.Client.{TillRun}
use Rattle.till_calls.specs.Laws.{OwnsRecordsAndStops}
use Rattle.till_calls.specs.Own.{is_by}
use Rattle.till_calls.specs.Root.{Root}
use Rattle.sender_session.proofs.Lists.{each_of_all, each_weaker}

abbrev pub IsOfTill : Item → Type 0
IsOfTill (item.Entry (Rec till serial sealed)) = Unit {0}
IsOfTill (item.Entry (Notes first lines)) = ⊥
IsOfTill (item.Stop faults (Rec till serial sealed)) = Unit {0}
IsOfTill (item.Stop faults (Notes first lines)) = ⊥

abbrev pub Theirs : {C : Type 0} → Known Item (Root C) → Type 0
Theirs k = AllByRecursion (λ (z : ℕ × Item). IsOfTill z.1) k.own

of_a_till : (till : ℕ) (x : Item) → is_by till x ≡ true → IsOfTill x
of_a_till till (item.Entry (Rec own serial sealed)) e = tt
of_a_till till (item.Entry (Notes first lines)) e = absurd cc
of_a_till till (item.Stop faults (Rec own serial sealed)) e = tt
of_a_till till (item.Stop faults (Notes first lines)) e = absurd cc

-- a run leaves a new till its records, and stops over one of them
pub run_of_till : {C : Type 0} (coming : C → ℕ → Option ℕ) (till : ℕ) (root : Root C) (items : List Item)
    (old new : Known Item (Root C)) (asks : List Asked) (replies : List (Result Reply StoreFault)) → OwnsRecordsAndStops coming →
    IsNew items root old → TillRun coming old asks replies new → All (λ (a : Asked). a.till ≡ till) asks → Theirs new
run_of_till coming till root items old new asks replies owns fresh run own =
    each_weaker (λ (z : ℕ × Item). is_by till z.1 ≡ true) (λ (z : ℕ × Item). IsOfTill z.1) new.own (λ z e. of_a_till till z.1 e)
    (each_of_all (λ (z : ℕ × Item). is_by till z.1 ≡ true) new.own (owns till root items old new asks replies fresh run own))
