use Rattle.std.proofs.Common.{◌≡◌, ◌++◌, ◌∷◌, [], ◌+◌, ℕ, List, ap, sym, ◌∙◌, arith}
use Rattle.std.specs.Prelude.{filter}
use Rattle.std.specs.List.{range_with_len}
use Rattle.sender_beside.specs.Tills.{has_asks}
use Rattle.sender_beside.proofs.TillDays.{filter_next}
use Rattle.shop_day.proofs.tills.till_days.Goals as goal

pub loop-before-preserved : goal.loop-before-preserved
loop-before-preserved c = record {
  tills = c.in_ok-add_till.ensures.till ∙ ap (λ (l : List ℕ). l ++ filter (has_asks c.args.asks.now)
      ((c.loop-before.before + 1) ∷ [])) c.loop-before.invariant.tills ∙
      sym (filter_next (has_asks c.args.asks.now) c.loop-before.before);
  room = c.in_ok-add_till.ensures.room;
}

pub returns-clause-tills : goal.returns-clause-tills
returns-clause-tills c = c.loop-before.invariant.tills ∙ ap (λ (n : ℕ). filter (has_asks c.args.asks.now) (range_with_len 1 n))
    (let e = c.loop-before-test.false in let f = c.loop-before.auto.before-end in let g : c.loop-before.before ≡ 64 =
    omega (arith, e, f) in g)
