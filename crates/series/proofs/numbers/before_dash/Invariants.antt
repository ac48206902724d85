use Rattle.std.proofs.Common.{◌≢◌, ◌≤◌, ◌<◌, length, ℕ, get_or}
use Rattle.series.proofs.numbers.before_dash.Given as goal

abbrev pub invariant-loop-end : goal.invariant-loop-end
invariant-loop-end l = record {
  within : l.end ≤ length l.number;
  past : (k : ℕ) → l.end ≤ k → k < length l.number → get_or l.number k 0 ≢ 45;
}

abbrev pub decreases-loop-end : goal.decreases-loop-end
decreases-loop-end l = l.end
