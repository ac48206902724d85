use Rattle.std.proofs.Common.{◌≡◌, ◌+◌, length, arith, ap, ◌∙◌, subst, length-append}
use Rattle.chain_lock.specs.Lists.{EachOf, placed, times, total}
use Rattle.chain_lock.specs.Rule.{FitsAll, joined}
use Rattle.chain_lock.proofs.Lists.{each_front_as, each_snoc_as, total_snoc_as, times_append, placed_append}
use Rattle.chain_lock.proofs.Keeps.{joins, fits_joined}
use Rattle.chain_lock.proofs.close.join_all.Goals as goal

pub join_seat-requires : goal.join_seat-requires
join_seat-requires g c = let v = c.loop-seat.invariant in let rest = c.place_of.ensures.at_rest in
    let own : EachOf (λ p. p.place.table_id ≡ c.args.board.now.shared.table_id) c.pop.new.self.items ×
    (c.in-Some.seat.place.table_id ≡ c.args.board.now.shared.table_id) = each_front_as _ _ _ _ c.in-Some.ensures.items v.list
    in (
      v.table,
      ap (λ q. q.table_id) c.place_of.ensures.same ∙ own.1,
      rest.0,
      c.requires.table.1,
      joins _ _ _ _ _ _ _ _ _ v.rest.1 rest.1 v.rest.2,
    )

pub loop-seat-preserved : goal.loop-seat-preserved
loop-seat-preserved g c = let v = c.loop-seat.invariant in let s = c.join_seat.ensures in let e = c.in-Some.ensures.items in
    let d = c.loop-seat.place.me.0 in let f = c.place_of.result.me.0 in
    let pass = c.in-Some.seat in let same = c.place_of.ensures.same in
    let own : EachOf (λ p. p.place.table_id ≡ c.args.board.now.shared.table_id) c.pop.new.self.items ×
    (pass.place.table_id ≡ c.args.board.now.shared.table_id) = each_front_as _ _ _ _ e v.list in record {
      table = s.0 ∙ v.table;
      rest = (
        ap (λ m. m.1) s.2 ∙ v.rest.0,
        ap (λ m. m.0.turning) s.2 ∙ v.rest.1,
        (let a = ap (λ m. length m.0.numbers) s.2 in let b = length-append d.numbers f.numbers in let h = v.rest.2 in
            omega arith),
        (let a = ap (λ m. length m.0.seen) s.2 in let b = ap (λ m. m.0.least) s.2 in let h = v.rest.3 in omega arith),
      );
      list = own.0;
      fits = λ log h.
          let both : FitsAll log (joined d f) = subst (λ m. FitsAll log m.0) s.2 h in let apart = fits_joined log d f both in
          let so = v.fits log apart.0 in (
            so.0,
            λ rest. so.1 (each_snoc_as _ _ _ _ e rest (subst (λ q. FitsAll log q.me.0) same
                apart.1)),
          );
      numbers = λ n.
          let a = ap (λ m. times n m.0.numbers) s.2 in let b = times_append n d.numbers f.numbers in
          let k = ap (λ q. times n q.me.0.numbers) same in
          let t : total (λ p. times n p.place.me.0.numbers) c.loop-seat.list.items ≡ total (λ p. times n p.place.me.0.numbers)
          c.pop.new.self.items + times n pass.place.me.0.numbers = total_snoc_as _ _ _ _ e in
          let w = v.numbers n in omega arith;
      places = λ n.
          let a = ap (λ m. placed n m.0.own) s.2 in let b = placed_append n d.own f.own in let k = ap (λ q. placed n q.me.0.own)
          same in
          let t : total (λ p. placed n p.place.me.0.own) c.loop-seat.list.items ≡ total (λ p. placed n p.place.me.0.own)
          c.pop.new.self.items + placed n pass.place.me.0.own = total_snoc_as _ _ _ _ e in
          let w = v.places n in omega arith;
    }
