use Rattle.std.proofs.Common.{◌≡◌, ◌∙◌, ◌≤◌, ◌+◌, ◌++◌, ◌∷◌, [], List, ℕ, All, length, max, ap, sym, rules, append_assoc, arith, subst}
use Rattle.chain_lock.specs.Known.{Known}
use Rattle.shop_core.specs.declared.items.Item.{Item}
use Rattle.std.proofs.lemmas.List.{length_push}
use Rattle.std.proofs.lemmas.List.Elements.{All-weaker}
use Rattle.till_calls.specs.Root.{Root}
use Rattle.till_calls.specs.Shop.{numbers, seat_knows, till_knows, till_number, till_shop, tills_know, tills_shop}
use Rattle.till_calls.specs.declared.tills.Till.{Till}
use Rattle.dialogue_loop.proofs.Lists.{all_front, take_back, told_more}
use Rattle.dialogue_loop.proofs.held.give_back.Goals as goal

pub loop-till-preserved : goal.loop-till-preserved
loop-till-preserved g c =
    let v = c.loop-till.invariant in
    let till = c.in-Some.till in
    let out = v.back.0 in
    let last = c.in-Some.ensures.items in
    let held : c.args.held.items ≡ c.pop.new.self.items ++ (till ∷ out) =
    v.back.1 ∙ ap (λ (l : List (Till g.row.D.Denot g.row.C.Denot)). l ++ out) last ∙ append_assoc c.pop.new.self.items (till ∷ [])
    out in
    let knows = take_back till_knows out till (tills_know c.loop-till.tills) (tills_know c.hand_back.new.self)
    (till_knows c.tell_seat.new.till) v.back.2 c.hand_back.ensures.knows c.tell_seat.ensures.knows in
    let raised = c.tell_seat.ensures.raised in
    let first = seat_knows c.args.seat.now in
    let old = seat_knows c.loop-till.seat in
    let new = seat_knows c.tell_seat.new.seat in
    let most = max old.least (till_knows till).least in
    let is : new.least ≡ most = ap (λ (k : Known Item (Root g.row.C.Denot)). k.least) raised in
    record {
      shop = c.hand_back.ensures.shop.0 ∙ v.shop;
      made = c.hand_back.ensures.shop.1 ∙ v.made;
      back = (till ∷ out, held, knows);
      count = (let e : length (numbers c.hand_back.new.self) ≡ length (numbers c.loop-till.tills) + 1 =
          ap (λ (l : List ℕ). length l) c.hand_back.ensures.numbers ∙ length_push (numbers c.loop-till.tills)
          (till_number c.tell_seat.new.till) in
          let m = v.count in let k = c.hand_back.ensures.shop.1 in search rules);
      seat = (
        c.tell_seat.ensures.shop ∙ v.seat.0,
        raised ∙ ap (λ (k : Known Item (Root g.row.C.Denot)). record k { least = most }) v.seat.1 ∙
            ap (λ (n : ℕ). record first { least = n }) (sym is),
      );
      told = subst (λ (ks : List (Known Item (Root g.row.C.Denot))). All (λ k. k.least ≤ new.least) ks)
          (sym c.hand_back.ensures.knows) (told_more old.least new.least (tills_know c.loop-till.tills)
          (till_knows c.tell_seat.new.till) (omega (arith, is))
          (let e = ap (λ (k : Known Item (Root g.row.C.Denot)). k.least) c.tell_seat.ensures.knows in omega (arith, is, e))
          v.told);
      own = All-weaker (λ (t : Till g.row.D.Denot g.row.C.Denot). till_shop t ≡ tills_shop c.loop-till.tills)
          (λ (t : Till g.row.D.Denot g.row.C.Denot). till_shop t ≡ tills_shop c.hand_back.new.self)
          (λ t e. e ∙ sym c.hand_back.ensures.shop.0) c.pop.new.self.items
          (all_front (λ (t : Till g.row.D.Denot g.row.C.Denot). till_shop t ≡ tills_shop c.loop-till.tills)
          c.loop-till.held.items c.pop.new.self.items till last v.own);
    }
