use Rattle.std.proofs.Common.{arith}
use Rattle.tax_lines.proofs.total_lines.first_sum.Goals as goal

pub returns-clause-none : goal.returns-clause-none
returns-clause-none c = λ e i inside. c.loop-sum.invariant i (omega (arith, inside, c.loop-sum-test.false))
