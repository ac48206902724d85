use Rattle.std.proofs.Common.{arith, ◌-◌}
use Rattle.series.proofs.NumberLemmas.{before_dash_is, no_dash_is}
use Rattle.series.proofs.numbers.before_dash.Goals as goal

pub returns-then-number-end-eq45 : goal.returns-then-number-end-eq45
returns-then-number-end-eq45 c =
    before_dash_is c.args.number.now (c.loop-end.end - 1) (omega arith) c.if-number-end-eq45.true
    (λ k low high. c.loop-end.invariant.past k (omega arith) high)

pub returns : goal.returns
returns c = no_dash_is c.args.number.now (λ k high. c.loop-end.invariant.past k (omega arith) high)
