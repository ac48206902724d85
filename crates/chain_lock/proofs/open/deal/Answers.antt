use Rattle.std.proofs.Common.{rules, ◌≡◌, ◌<◌, ◌+◌, length, arith, ap, sym, ◌∙◌, refl, subst}
use Rattle.std.proofs.lemmas.Grind.{common_steps}
use Rattle.chain_lock.specs.Lists.{times, total, up_from}
use Rattle.chain_lock.specs.Known.{IsNew}
use Rattle.chain_lock.specs.Rule.{known_of}
use Rattle.chain_lock.proofs.Lists.{length_up, times_up, times_cut, cut_lengths, total_snoc_as, each_snoc_as}
use Rattle.chain_lock.proofs.Keeps.{splits}
use Rattle.chain_lock.proofs.open.deal.Goals as goal

pub loop-made-init : goal.loop-made-init
loop-made-init g c = let f = c.requires.first in let empty = c.requires.list.0 in let ok = c.args.list.now.ok.0 in
    let up = length_up c.args.passes 0 in record {
      table = c.requires.table.0;
      rest = (ap (λ m. m.1) f, ap (λ m. m.0.turning) f);
      left = (let e = ap (λ m. length m.0.numbers) f in omega arith);
      new = record {
        seen = ap (λ m. m.0.seen) f;
        least = ap (λ m. m.0.least) f;
        own = ap (λ m. m.0.own) f;
        root_is = ap (λ m. m.0.root) f;
      };
      count = (let e = ap length empty in omega arith);
      room = refl;
      each = rw empty tt;
      whole = λ n l.
          let e = ap (λ xs. total (λ p. times n p.place.me.0.numbers) xs) empty in let h = ap (λ m. times n m.0.numbers) f in
          let t = (times_up c.args.passes 0 n).0 in
          let a : times n (up_from 0 c.args.passes) ≡ 1 = t (omega arith) (omega arith) in omega arith;
    }

pub split_seat-other-requires : goal.split_seat-other-requires
split_seat-other-requires g c = let v = c.loop-made.invariant in let left = v.left in
    let more : c.loop-made.made < c.args.passes = c.loop-made-test.true in
    (c.loop-made.invariant.table, search rules, splits _ _ _ _ _ _ _ v.rest.1 (omega arith))

pub loop-made-preserved : goal.loop-made-preserved
loop-made-preserved g c = let v = c.loop-made.invariant in let left = v.left in let s = c.split_seat-other.ensures in
    let new = v.new in
    let more : c.loop-made.made < c.args.passes = c.loop-made-test.true in let numbers = c.loop-made.place.me.0.numbers in
    let lens = cut_lengths numbers (omega arith) in let l₀ = lens.0 in record {
      table = s.0 ∙ v.table;
      rest = (ap (λ m. m.1) s.2 ∙ v.rest.0, ap (λ m. m.0.turning) s.2 ∙ v.rest.1);
      left = (let e = ap (λ m. length m.0.numbers) s.2 in omega arith);
      new = record {
        seen = ap (λ m. m.0.seen) s.2 ∙ new.seen;
        least = ap (λ m. m.0.least) s.2 ∙ new.least;
        own = ap (λ m. m.0.own) s.2 ∙ new.own;
        root_is = ap (λ m. m.0.root) s.2 ∙ new.root_is;
      };
      count = first_of (search rules, grind (arith, common_steps));
      room = first_of (search rules, grind (arith, common_steps));
      each = each_snoc_as _ _ _ _ c.push_reserved.ensures.items v.each
          (subst (λ q. (q.table_id ≡ c.args.board.now.shared.table_id) × IsNew (g.V.Recorded.items c.args.value.now.value)
          (g.V.Recorded.root c.args.value.now.value) (known_of q.me.0)) (sym c.resting.ensures) (
            s.3 ∙ v.table,
            record {
              seen = ap (λ m. m.0.seen) s.4 ∙ new.seen;
              least = ap (λ m. m.0.least) s.4 ∙ new.least;
              own = ap (λ m. m.0.own) s.4;
              root_is = ap (λ m. m.0.root) s.4 ∙ new.root_is;
            },
          ));
      whole = λ n l.
          let e : total (λ p. times n p.place.me.0.numbers) c.push_reserved.new.self.items ≡ total
          (λ p. times n p.place.me.0.numbers) c.loop-made.list.items + times n c.resting.result.place.me.0.numbers =
          total_snoc_as _ _ _ _ c.push_reserved.ensures.items in
          let a = ap (λ q. times n q.me.0.numbers) c.resting.ensures in let b = ap (λ m. times n m.0.numbers) s.4 in
          let d = ap (λ m. times n m.0.numbers) s.2 in
          let k = times_cut n numbers in let w = v.whole n l in omega arith;
    }

pub returns-clause-each : goal.returns-clause-each
returns-clause-each g c = let v = c.loop-made.invariant in
    each_snoc_as _ _ _ _ c.push_reserved-2.ensures.items v.each (subst (λ q. (q.table_id ≡ c.args.board.now.shared.table_id) ×
    IsNew (g.V.Recorded.items c.args.value.now.value) (g.V.Recorded.root c.args.value.now.value) (known_of q.me.0))
    (sym c.resting-2.ensures) (v.table, v.new))

pub returns-clause-whole : goal.returns-clause-whole
returns-clause-whole g c = λ n l. let v = c.loop-made.invariant in
    let e : total (λ p. times n p.place.me.0.numbers) c.push_reserved-2.new.self.items ≡ total (λ p. times n p.place.me.0.numbers)
    c.loop-made.list.items + times n c.resting-2.result.place.me.0.numbers =
    total_snoc_as _ _ _ _ c.push_reserved-2.ensures.items in
    let a = ap (λ q. times n q.me.0.numbers) c.resting-2.ensures in let w = v.whole n l in omega arith
