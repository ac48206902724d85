use Rattle.std.proofs.Common.{◌≡◌, ◌∙◌, ◌<◌, List, length, map, ap, sym, subst, arith, Some, slice_get}
use Rattle.std.proofs.Math.Seq.{map-set_same}
use Rattle.std.proofs.lemmas.List.{length-map, map-set}
use Rattle.chain_lock.specs.Known.{Known}
use Rattle.shop_core.specs.declared.items.Item.{Item}
use Rattle.till_calls.specs.Root.{Root}
use Rattle.till_calls.specs.Shop.{till_knows, till_number}
use Rattle.dialogue_loop.specs.InARow.{AllRanOn}
use Rattle.dialogue_loop.specs.Looked.{LookedFor}
use Rattle.dialogue_loop.proofs.InARow.{at_place, row_size, seen_on}
use Rattle.dialogue_loop.proofs.Looking.{looked_by}
use Rattle.dialogue_loop.proofs.held.look_held.Goals as goal

pub returns-clause-numbers : goal.returns-clause-numbers
returns-clause-numbers g c =
    map-set_same till_number c.args.held.now.items 63 c.look.new.till c.index_mut-first.result.now
    (c.look.ensures.same.1 ∙ ap till_number c.index_mut-first.ensures.value)

pub returns-clause-runs : goal.returns-clause-runs
returns-clause-runs g c = λ coming asks replies olds ran.
    let items = c.args.held.now.items in
    let old = c.index_mut-first.result.now in
    let new = c.look.new.till in
    let long : 63 < length items =
    (let a = row_size (map till_number items) c.requires.numbers in let e = length-map items till_number in omega (arith, a, e)) in
    let at : slice_get (map till_knows items) 63 ≡ Some (till_knows old) = at_place till_knows items 63 old long c.index_mut-first.ensures.value in
    subst (λ (l : List (Known Item (Root g.row.C.Denot))). AllRanOn (λ k. coming) asks replies olds l)
    (sym (map-set till_knows items 63 new))
    (seen_on (λ k. coming) c.who_sees_on_twice_sees_on.ensures asks replies olds (map till_knows items) 63 (till_knows old)
    (till_knows new) at c.look.ensures.looks.sees ran)

pub returns-clause-looked : goal.returns-clause-looked
returns-clause-looked g c = λ coming.
    let items = c.args.held.now.items in
    let old = c.index_mut-first.result.now in
    let new = c.look.new.till in
    let long : 63 < length items =
    (let a = row_size (map till_number items) c.requires.numbers in let e = length-map items till_number in omega (arith, a, e)) in
    let at : slice_get (map till_knows items) 63 ≡ Some (till_knows old) = at_place till_knows items 63 old long c.index_mut-first.ensures.value in
    subst (λ (l : List (Known Item (Root g.row.C.Denot))). LookedFor (λ k. coming) c.args.question.now c.look.result (map till_knows items) l)
    (sym (map-set till_knows items 63 new))
    (looked_by (λ k. coming) c.a_list_fits_what_was_known_before.ensures c.args.question.now c.look.result (map till_knows items) (till_knows old)
    (till_knows new) at c.look.ensures.looks)
