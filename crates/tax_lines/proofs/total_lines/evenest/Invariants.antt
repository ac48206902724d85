use Rattle.std.proofs.Common.{◌≤◌, ◌<◌, ◌/◌, ℕ}
use Rattle.tax_lines.proofs.Splitting.{IsSplit}
use Rattle.tax_lines.proofs.total_lines.evenest.Given as goal

abbrev pub invariant-loop-half : goal.invariant-loop-half
invariant-loop-half l = (h : ℕ) → h < l.half → h ≤ l.sum / 2 → ¬ (IsSplit l.key l.total l.sum h)
