use Rattle.std.proofs.Common.{◌≤◌, ◌<◌, ◌-◌, ℕ}
use Rattle.tax_lines.specs.TotalLines.{IsOne}
use Rattle.tax_lines.proofs.total_lines.one_base.Given as goal

abbrev pub invariant-loop-base : goal.invariant-loop-base
invariant-loop-base l = (b : ℕ) → l.near - 1 ≤ b → b < l.base → ¬ (IsOne l.key l.total b)
