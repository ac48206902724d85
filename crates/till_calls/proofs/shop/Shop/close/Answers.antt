use Rattle.std.proofs.Common.{◌≡◌, ◌≤◌, ◌<◌, ◌++◌, ◌∷◌, [], ℕ, List, length, All, sym, subst}
use Rattle.chain_lock.specs.Known.{Fits, Known, owners}
use Rattle.shop_core.specs.declared.items.Item.{Item}
use Rattle.till_calls.specs.Root.{Parts, Root, items_in}
use Rattle.till_calls.specs.Shop.{first_items, seat_knows, tills_know}
use Rattle.till_calls.proofs.shop.Shop.close.Goals as goal

pub returns-clause-each : goal.returns-clause-each
returns-clause-each g c =
    let each = subst (λ (ks : List (Known Item (Root g.row.C.Denot))). All (Fits (items_in c.close.result.parts)) ks)
    c.hand_back.ensures.passes c.close.ensures.each in
    subst (λ (p : Parts g.row.D.Denot g.row.C.Denot). All (Fits (items_in p)) (tills_know c.args.tills ++ seat_knows c.args.seat ∷
    [])) (sym c.into_store.ensures.parts) each

pub returns-clause-before : goal.returns-clause-before
returns-clause-before g c =
    subst (λ (ks : List (Known Item (Root g.row.C.Denot))). (n : ℕ) → n < length (first_items c.args.self) → owners n ks ≡ 0)
    c.hand_back.ensures.passes c.close.ensures.before

pub returns-clause-since : goal.returns-clause-since
returns-clause-since g c =
    let start = length (first_items c.args.self) in
    let since = subst (λ (ks : List (Known Item (Root g.row.C.Denot))). (n : ℕ) → start ≤ n →
    n < length (items_in c.close.result.parts) → owners n ks ≡ 1) c.hand_back.ensures.passes c.close.ensures.since in
    subst (λ (p : Parts g.row.D.Denot g.row.C.Denot). (n : ℕ) → start ≤ n → n < length (items_in p) →
    owners n (tills_know c.args.tills ++ seat_knows c.args.seat ∷ []) ≡ 1) (sym c.into_store.ensures.parts) since
