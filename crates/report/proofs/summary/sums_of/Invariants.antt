use Rattle.std.proofs.Common.{◌≡◌, ◌≤◌, ◌+◌, ◌*◌, take, unsigned_abs}
use Rattle.shop_core.specs.History.{recs}
use Rattle.report.specs.Summary.{sums}
use Rattle.report.proofs.summary.sums_of.Given as goal

abbrev pub invariant-loop-n : goal.invariant-loop-n
invariant-loop-n l = record {
  same : l.sums ≡ sums (take l.n (recs l.state.entries));
  counts : l.sums.altas + l.sums.anulaciones ≡ l.n;
  bases : unsigned_abs l.sums.bases ≤ 120_000_000_000 * l.n;
  cuotas : unsigned_abs l.sums.cuotas ≤ 120_000_000_000 * l.n;
}
