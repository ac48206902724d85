use Rattle.std.proofs.Common.{arith}
use Rattle.tax_lines.proofs.Nearness.{near_one}
use Rattle.tax_lines.proofs.total_lines.one_base.Goals as goal

pub returns-clause-none : goal.returns-clause-none
returns-clause-none c = λ e base is.
    let near = near_one c.args.key c.args.total c.quotient-near.result base
    (record { low = c.quotient-near.ensures.low; high = c.quotient-near.ensures.high }) is in
    c.loop-base.invariant base (omega (arith, near.1)) (omega (arith, near.0, c.loop-base-test.false)) is
