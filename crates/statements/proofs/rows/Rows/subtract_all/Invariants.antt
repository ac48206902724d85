use Rattle.std.proofs.Common.{◌++◌, List, length}
use Rattle.tax_lines.specs.declared.lines.TaxLine.{TaxLine}
use Rattle.statements.specs.Rows.{AreRows, Has}
use Rattle.statements.proofs.rows.Rows.subtract_all.Given as goal

abbrev pub invariant-loop-rest : goal.invariant-loop-rest
invariant-loop-rest l = record {
  has : Has l.rest l.self;
  left : (ls : List TaxLine) → AreRows (l.lines ++ ls) l.fn.self → AreRows (l.rest ++ ls) l.self;
}

abbrev pub decreases-loop-rest : goal.decreases-loop-rest
decreases-loop-rest l = length l.rest
