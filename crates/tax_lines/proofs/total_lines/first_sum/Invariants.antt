use Rattle.std.proofs.Common.{◌<◌, ℕ, get_or}
use Rattle.tax_lines.specs.TotalLines.{HasNone}
use Rattle.tax_lines.proofs.total_lines.first_sum.Given as goal

abbrev pub invariant-loop-sum : goal.invariant-loop-sum
invariant-loop-sum l = (i : ℕ) → i < l.sum-index → HasNone l.key l.total (get_or l.sums i 0)
