use Rattle.std.proofs.Common.{◌≡◌, ◌∙◌, ◌++◌, List, ℕ, get_or, length, map, max, ap, sym, subst, arith}
use Rattle.chain_lock.specs.Known.{Known}
use Rattle.shop_core.specs.declared.items.Item.{Item}
use Rattle.till_calls.specs.Root.{Root}
use Rattle.till_calls.specs.Shop.{till_knows, till_number}
use Rattle.till_calls.specs.declared.tills.Till.{Till}
use Rattle.std.proofs.lemmas.List.{length-map}
use Rattle.dialogue_loop.specs.Looked.{Informed}
use Rattle.dialogue_loop.proofs.InARow.{informed_back, informed_self, raised_sees, same_of, whole}
use Rattle.dialogue_loop.proofs.held.inform_till.Goals as goal

pub returns-then-place-lt-FIRST-clause-numbers : goal.returns-then-place-lt-FIRST-clause-numbers
returns-then-place-lt-FIRST-clause-numbers g c =
    let T : Type 0 = Till g.row.D.Denot g.row.C.Denot in
    let items : List T = c.args.held.now.items in
    let others : List T = c.split_at_mut-others.result.0.now in
    let firsts : List T = c.split_at_mut-others.result.1.now in
    let till : T = c.index-others-place.result in
    let first : T = c.index-first-0.result in
    let a = c.index-others-place.is in
    let b = c.index-first-0.is in
    let s = c.split_at_mut-others.ensures in
    let parts : items ≡ others ++ firsts = sym c.deref_mut.ensures.value ∙ s.value in
    let long : length items ≡ 64 = (let n = c.requires.size in omega (arith, n)) in
    let front : length others ≡ 63 = s.front_len in
    let back : length firsts ≡ 1 = (let n = s.back_len in let l = c.deref_mut.ensures.len in omega (arith, n, l, long)) in
    let below = c.if-place-lt-FIRST.true in
    ap (λ (l : List T). map till_number l)
    (whole items others firsts c.args.place till c.inform.new.to first c.inform.new.from parts front back below a b c.args.held.now.len (long ∙ sym c.requires.size))
    ∙ same_of items others firsts c.args.place till c.inform.new.to first c.inform.new.from parts front back below a b till_number
    (c.inform.ensures.to.1 ∙ sym (ap till_number a)) (c.inform.ensures.from.1 ∙ sym (ap till_number b))

pub returns-then-place-lt-FIRST-clause-informed : goal.returns-then-place-lt-FIRST-clause-informed
returns-then-place-lt-FIRST-clause-informed g c =
    let T : Type 0 = Till g.row.D.Denot g.row.C.Denot in
    let K : Type 0 = Known Item (Root g.row.C.Denot) in
    let items : List T = c.args.held.now.items in
    let others : List T = c.split_at_mut-others.result.0.now in
    let firsts : List T = c.split_at_mut-others.result.1.now in
    let till : T = c.index-others-place.result in
    let first : T = c.index-first-0.result in
    let a = c.index-others-place.is in
    let b = c.index-first-0.is in
    let s = c.split_at_mut-others.ensures in
    let parts : items ≡ others ++ firsts = sym c.deref_mut.ensures.value ∙ s.value in
    let long : length items ≡ 64 = (let n = c.requires.size in omega (arith, n)) in
    let front : length others ≡ 63 = s.front_len in
    let back : length firsts ≡ 1 = (let n = s.back_len in let l = c.deref_mut.ensures.len in omega (arith, n, l, long)) in
    let below = c.if-place-lt-FIRST.true in
    let old : K = till_knows till in
    let new : K = till_knows c.inform.new.to in
    let raised : new ≡ record old { least = max old.least (till_knows first).least } =
    c.inform.ensures.raised ∙
    ap (λ (t : T). record (till_knows (get_or others c.args.place till)) { least = max (till_knows (get_or others c.args.place till)).least (till_knows t).least })
    (sym b) ∙ ap (λ (t : T). record (till_knows t) { least = max (till_knows t).least (till_knows first).least }) (sym a) in
    let sees = raised_sees old new (till_knows first).least raised in
    subst (λ (l : List T). Informed (map till_knows items) 63 c.args.place (map till_knows l))
    (sym (whole items others firsts c.args.place till c.inform.new.to first c.inform.new.from parts front back below a b c.args.held.now.len (long ∙ sym c.requires.size)))
    (informed_back items others firsts c.args.place till c.inform.new.to first c.inform.new.from parts front back below a b till_knows
    (c.inform.ensures.knows ∙ sym (ap till_knows b)) sees.0 sees.1)

pub returns-else-place-lt-FIRST-clause-informed : goal.returns-else-place-lt-FIRST-clause-informed
returns-else-place-lt-FIRST-clause-informed g c =
    let is : c.args.place ≡ 63 = (let e = c.if-place-lt-FIRST.false in let w = c.requires.within in omega (arith, e, w)) in
    let ks = map till_knows c.args.held.now.items in
    subst (λ (n : ℕ). Informed ks 63 n ks) (sym is)
    (informed_self ks (let e = length-map c.args.held.now.items till_knows in let s = c.requires.size in omega (arith, e, s)))
