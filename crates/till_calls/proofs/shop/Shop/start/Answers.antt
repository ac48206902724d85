use Rattle.std.proofs.Common.{◌≡◌, ◌<◌, ◌++◌, ◌∷◌, [], ℕ, List, All, sym, subst}
use Rattle.chain_lock.specs.Known.{IsNew, Known, holders}
use Rattle.chain_lock.specs.Words.{all_known, known}
use Rattle.shop_core.specs.declared.items.Item.{Item}
use Rattle.till_calls.specs.Root.{Guarded, Root, items_in}
use Rattle.till_calls.proofs.Seating.{last_new, within_new}
use Rattle.till_calls.proofs.shop.Shop.start.Goals as goal

pub invariant_of-result-in-Ok : goal.invariant_of-result-in-Ok
invariant_of-result-in-Ok g c =
    let new = last_new (items_in c.new.result.parts) c.new.result.root (all_known c.in-Ok.passes) (all_known c.pull.new.self)
    (known c.in-Some-pull.pass) c.in-Ok.ensures.each c.in-Some-pull.ensures.some in
    record { within = within_new (known c.in-Some-pull.pass) new.own }

pub returns-in-Some-pull-clause-new : goal.returns-in-Some-pull-clause-new
returns-in-Some-pull-clause-new g c =
    let each = subst (λ (ks : List (Known Item (Root g.row.C.Denot))). All (IsNew (items_in c.new.result.parts) c.new.result.root)
    ks) c.in-Some-pull.ensures.some c.in-Ok.ensures.each in
    subst (λ (v : Guarded g.row.D.Denot g.row.C.Denot). All (IsNew (items_in v.parts) v.root) (all_known c.pull.new.self ++ known
    c.in-Some-pull.pass ∷ [])) (sym c.in-Ok.ensures.lock.0) each

pub returns-in-Some-pull-clause-whole : goal.returns-in-Some-pull-clause-whole
returns-in-Some-pull-clause-whole g c = λ n l.
    subst (λ (ks : List (Known Item (Root g.row.C.Denot))). holders n ks ≡ 1) c.in-Some-pull.ensures.some
    (c.in-Ok.ensures.whole n (subst (λ (m : ℕ). n < m) c.in-Ok.ensures.lock.1 l))
