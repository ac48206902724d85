use Rattle.statements.specs.Periods.{IsStatementUpTo}
use Rattle.statements.proofs.periods.rows_of.Given as goal

abbrev pub invariant-loop-index : goal.invariant-loop-index
invariant-loop-index l = IsStatementUpTo l.state.entries l.period l.index l.rows
