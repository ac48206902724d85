use Rattle.std.proofs.Common.{◌≡◌, ◌∙◌, List, ℕ, length, ap, sym, refl, rules, subst, arith, All, append-nil}
use Rattle.std.proofs.lemmas.List.{length_push}
use Rattle.std.proofs.lemmas.List.Elements.{All-push}
use Rattle.till_calls.specs.declared.tills.Till.{Till}
use Rattle.till_calls.specs.Shop.{tills_know, numbers, till_knows, till_number, till_shop, tills_shop}
use Rattle.dialogue_loop.proofs.Lists.{put_back}
use Rattle.dialogue_loop.proofs.held.hold_all.Goals as goal

pub loop-till-init : goal.loop-till-init
loop-till-init g c =
    let none = c.requires.room.0 in
    record {
      shop = refl;
      made = refl;
      row = rw (none) (append-nil (numbers c.args.tills.now));
      knows = rw (none) (append-nil (tills_know c.args.tills.now));
      space = (let e = ap (λ (l : List (Till g.row.D.Denot g.row.C.Denot)). length l) none in let r = c.requires.room.1 in search rules);
      own = rw (none) (λ i d l. absurd (omega (arith, l)));
    }

pub push_reserved-requires : goal.push_reserved-requires
push_reserved-requires g c =
    let e = ap (λ (l : List ℕ). length l) c.in-Some.ensures.some in
    let f = length_push (numbers c.pull.new.self) (till_number c.in-Some.till) in
    let s = c.loop-till.invariant.space in
    search rules

pub loop-till-smaller : goal.loop-till-smaller
loop-till-smaller g c =
    let e = ap (λ (l : List ℕ). length l) c.in-Some.ensures.some in
    let f = length_push (numbers c.pull.new.self) (till_number c.in-Some.till) in
    omega (arith, e, f)

pub loop-till-preserved : goal.loop-till-preserved
loop-till-preserved g c =
    let v = c.loop-till.invariant in
    let till = c.in-Some.till in
    let e = ap (λ (l : List ℕ). length l) c.in-Some.ensures.some in
    let f = length_push (numbers c.pull.new.self) (till_number till) in
    record {
      shop = c.in-Some.ensures.shop.0 ∙ v.shop;
      made = c.in-Some.ensures.shop.1 ∙ v.made;
      row = put_back till_number c.loop-till.held.items c.push_reserved.new.self.items till (numbers c.loop-till.tills)
          (numbers c.pull.new.self) (numbers c.args.tills.now) (till_number till) c.push_reserved.ensures.items refl
          c.in-Some.ensures.some v.row;
      knows = put_back till_knows c.loop-till.held.items c.push_reserved.new.self.items till (tills_know c.loop-till.tills)
          (tills_know c.pull.new.self) (tills_know c.args.tills.now) (till_knows till) c.push_reserved.ensures.items refl
          c.in-Some.ensures.knows v.knows;
      space = (let s = v.space in search rules);
      own = subst (λ (l : List (Till g.row.D.Denot g.row.C.Denot)). All (λ (t : Till g.row.D.Denot g.row.C.Denot). till_shop t ≡ tills_shop c.args.tills.now) l)
          (sym c.push_reserved.ensures.items) (All-push (λ (t : Till g.row.D.Denot g.row.C.Denot). till_shop t ≡ tills_shop c.args.tills.now)
          c.loop-till.held.items till v.own (c.in-Some.ensures.own ∙ v.shop));
    }
