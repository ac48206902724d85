use Rattle.std.proofs.Common.{◌∙◌, rules, ◌≡◌, ◌+◌, arith, ap, subst}
use Rattle.chain_lock.specs.Lists.{EachOf, placed, times, total}
use Rattle.chain_lock.specs.Rule.{FitsAll}
use Rattle.chain_lock.proofs.Lists.{each_front_as, each_snoc_as, total_snoc_as}
use Rattle.chain_lock.proofs.Sums.{all_fit, holders_are, of_one, owners_are}
use Rattle.chain_lock.proofs.lock.ChainLock.close.Goals as goal

pub take_out-requires-clause-whole : goal.take_out-requires-clause-whole
take_out-requires-clause-whole g c = let is = c.args.self.counted.0 in let some_passes = c.args.self.counted.1 in (
  omega arith,
  λ n l.
      let t : total (λ p. times n p.place.me.0.numbers) c.args.passes.seats.list.items ≡ total (λ p. times n p.place.me.0.numbers)
      c.pop-last.new.self.items + times n c.in-Some.seat.place.me.0.numbers =
      total_snoc_as _ _ _ _ c.in-Some.ensures.items in
      let j = c.join_all.ensures.numbers n in let k = ap (λ q. times n q.me.0.numbers) c.place_of-place.ensures.same in
      let a = c.requires.whole n (omega arith) in let h = holders_are n c.args.passes.seats.list.items in omega arith,
)

pub returns-clause-each : goal.returns-clause-each
returns-clause-each g c = let log = g.V.Recorded.items c.take_out.result in
    let f = c.join_all.ensures.fits log c.take_out.ensures.fits in
    all_fit log _ (each_snoc_as _ _ _ _ c.in-Some.ensures.items f.1 (subst (λ q. FitsAll log q.me.0) c.place_of-place.ensures.same
    f.0))

pub returns-clause-before : goal.returns-clause-before
returns-clause-before g c = λ n a.
    let t : total (λ p. placed n p.place.me.0.own) c.args.passes.seats.list.items ≡ total (λ p. placed n p.place.me.0.own)
    c.pop-last.new.self.items + placed n c.in-Some.seat.place.me.0.own =
    total_snoc_as _ _ _ _ c.in-Some.ensures.items in
    let j = c.join_all.ensures.places n in let k = ap (λ q. placed n q.me.0.own) c.place_of-place.ensures.same in
    let w = c.take_out.ensures.before n a in let o = owners_are n c.args.passes.seats.list.items in omega arith

pub returns-clause-since : goal.returns-clause-since
returns-clause-since g c = λ n a b.
    let t : total (λ p. placed n p.place.me.0.own) c.args.passes.seats.list.items ≡ total (λ p. placed n p.place.me.0.own)
    c.pop-last.new.self.items + placed n c.in-Some.seat.place.me.0.own =
    total_snoc_as _ _ _ _ c.in-Some.ensures.items in
    let j = c.join_all.ensures.places n in let k = ap (λ q. placed n q.me.0.own) c.place_of-place.ensures.same in
    let w = c.take_out.ensures.since n a b in let o = owners_are n c.args.passes.seats.list.items in omega arith

pub join_all-requires-clause-list : goal.join_all-requires-clause-list
join_all-requires-clause-list g c = (each_front_as _ _ _ _ c.in-Some.ensures.items
    (of_one _ _ _ c.requires.own c.args.passes.seats.own)).0

pub join_all-requires-clause-table : goal.join_all-requires-clause-table
join_all-requires-clause-table g c =
    let own : EachOf (λ p. p.place.table_id ≡ c.args.self.board.shared.table_id) c.pop-last.new.self.items ×
    (c.in-Some.seat.place.table_id ≡ c.args.self.board.shared.table_id) =
    each_front_as _ _ _ _ c.in-Some.ensures.items (of_one _ _ _ c.requires.own c.args.passes.seats.own) in
    (ap (λ q. q.table_id) c.place_of-place.ensures.same ∙ own.1, search rules)
