use Rattle.std.proofs.Common.{◌≡◌, ◌++◌, length}
use Rattle.report.specs.Statements.{rows_text}
use Rattle.report.proofs.statements.put_rows.Given as goal

abbrev pub invariant-loop-rest : goal.invariant-loop-rest
invariant-loop-rest l = l.text.items ++ rows_text l.rest ≡ l.initial.text.items ++ rows_text l.rows

abbrev pub decreases-loop-rest : goal.decreases-loop-rest
decreases-loop-rest l = length l.rest
