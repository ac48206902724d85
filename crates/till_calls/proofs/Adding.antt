-- What a till's run adds to the list, told of the list at the end.
use Rattle.std.proofs.Common.{◌≡◌, ◌⊎◌, inl, inr, ℕ, zero, suc, ◌+◌, ◌<◌, ◌≤◌, true, false, List, [], ◌∷◌, length, drop, All, Option}
use Rattle.std.proofs.Common.{Result, refl, ap, sym, subst, arith}
use Rattle.std.specs.Prelude.{◌≢◌}
use Rattle.std.proofs.lemmas.List.{length-append}
use Rattle.chain_lock.specs.Known.{Known, IsNew, Fits, OwnsBelow, owners}
use Rattle.chain_lock.specs.Lists.{EachOf, StartsWith}
use Rattle.journal.specs.declared.faults.StoreFault.{StoreFault}
use Rattle.shop_core.specs.Answer.Requests.{Asked}
use Rattle.shop_core.specs.declared.answer.Reply.{Reply}
use Rattle.shop_core.specs.declared.items.Item.{Item}
use Rattle.till_calls.specs.Own.{is_by, is_of, records_of, AreTaken, OwnsNone, OwnsOnly}
use Rattle.till_calls.specs.Root.{Root}
use Rattle.till_calls.specs.Client.{TillRun}
use Rattle.till_calls.specs.Client.TillRun.{begun, asked}
use Rattle.till_calls.proofs.Places.{Rises, its_own, all_each}
use Rattle.till_calls.proofs.Serving.{IsServed, serves_run, served_new, rises_more}

each_all : {X : Type 0} (P : X → Type 0) (xs : List X) → EachOf P xs → All P xs
each_all P [] h i d l = absurd (omega (arith, l))
each_all P (x ∷ xs) h zero d l = h.0
each_all P (x ∷ xs) h (suc i) d l = each_all P xs h.1 i d (omega (arith, l))

each_weaker : {X : Type 0} (P Q : X → Type 0) (xs : List X) → ((x : X) → P x → Q x) → EachOf P xs → EachOf Q xs
each_weaker P Q [] f h = tt
each_weaker P Q (x ∷ xs) f h = (f x h.0, each_weaker P Q xs f h.1)

below_high : {I : Type 0} (low high : ℕ) (own : List (ℕ × I)) → Rises low high own → EachOf (λ (x : ℕ × I). x.0 < high) own
below_high low high [] r = tt
below_high low high (x ∷ xs) r = (r.1, below_high (x.0 + 1) high xs r.2)

-- a run leaves a till that knows of as many items as it has seen
knows_seen : {C : Type 0} (coming : C → ℕ → Option ℕ) (old new : Known Item (Root C)) (asks : List Asked)
    (replies : List (Result Reply StoreFault)) → length old.seen ≤ old.least → TillRun coming old asks replies new →
    length new.seen ≤ new.least
knows_seen coming old new asks replies first begun = first
knows_seen {C} coming old new asks' replies' first (asked asks replies mid _ ask reply run this) =
    subst (λ (k : Known Item (Root C)). length k.seen ≤ k.least) (sym this.after) (omega arith)

module _ {C : Type 0} (coming : C → ℕ → Option ℕ) (till : ℕ) (root : Root C) (items : List Item) (old new : Known Item (Root C))
    (asks : List Asked) (replies : List (Result Reply StoreFault))
    (fresh : IsNew items root old) (run : TillRun coming old asks replies new) (own : All (λ (a : Asked). a.till ≡ till) asks)
  where
    served : IsServed till replies (length items) new
    served = serves_run till (length items) coming old new asks replies (all_each (λ (a : Asked). a.till ≡ till) asks own)
        (served_new till (length items) items root old refl fresh) run

    pub adds_for_no_other : (other : ℕ) → other ≢ till → OwnsNone other new
    adds_for_no_other other apart = each_all (λ (x : ℕ × Item). is_of other x.1 ≡ false) new.own (served.others other apart)

    pub owns_only : OwnsOnly till new
    owns_only = each_all (λ (x : ℕ × Item). is_by till x.1 ≡ true) new.own served.only

    pub owns_within : OwnsBelow new.least new
    owns_within =
        let first : length old.seen ≤ old.least = (let e = ap (λ (l : List Item). length l) fresh.seen in let f = fresh.least in
        omega (arith, e, f)) in
        let all = knows_seen coming old new asks replies first run in
        each_all (λ (x : ℕ × Item). x.0 < new.least) new.own (below_high (length items) new.least new.own
        (rises_more (length items) (length new.seen) new.least new.own all served.rises))

    either_way : (k : Known Item (Root C)) → (k ≡ new) ⊎ OwnsNone till k → (k ≡ new) ⊎
        EachOf (λ (x : ℕ × Item). is_of till x.1 ≡ false) k.own
    either_way k (inl same) = inl same
    either_way k (inr none) = inr (all_each (λ (x : ℕ × Item). is_of till x.1 ≡ false) k.own none)

    pub adds_what_is_taken : (log : List Item) (passes : List (Known Item (Root C))) → StartsWith log items → Fits log new →
        All (Fits log) passes → All (λ (k : Known Item (Root C)). (k ≡ new) ⊎ OwnsNone till k) passes →
        ((n : ℕ) → length items ≤ n → n < length log → owners n passes ≡ 1) →
        AreTaken replies (records_of till (drop (length items) log))
    adds_what_is_taken log passes begins fit fits apart since =
        let longer : length new.seen ≤ length log = (let e = ap (λ (l : List Item). length l) fit.begins.1 in
        let f = length-append new.seen fit.begins.0 in omega (arith, e, f)) in
        let each = each_weaker _ (λ (k : Known Item (Root C)). (k ≡ new) ⊎ EachOf (λ (x : ℕ × Item). is_of till x.1 ≡ false)
        k.own)
        passes either_way (all_each (λ (k : Known Item (Root C)). (k ≡ new) ⊎ OwnsNone till k) passes apart) in
        let e = its_own (is_of till) log new items begins.0 passes begins.1 each (all_each (Fits log) passes fits) fit
        (rises_more (length items) (length new.seen) (length log) new.own longer served.rises) since in
        subst (λ (l : List Item). AreTaken replies l) (sym e) served.taken
