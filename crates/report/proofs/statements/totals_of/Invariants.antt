use Rattle.std.proofs.Common.{◌≡◌, take}
use Rattle.report.specs.Statements.{AreOf, totals}
use Rattle.report.proofs.statements.totals_of.Given as goal

abbrev pub invariant-loop-i : goal.invariant-loop-i
invariant-loop-i l = record {
  same : l.totals ≡ totals (take l.i l.rows);
  bound : AreOf l.i l.totals;
}
