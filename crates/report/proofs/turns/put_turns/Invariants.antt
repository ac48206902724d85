use Rattle.std.proofs.Common.{◌≡◌, ◌++◌, length}
use Rattle.report.specs.Turns.{turn_lines}
use Rattle.report.proofs.turns.put_turns.Given as goal

abbrev pub invariant-loop-rest : goal.invariant-loop-rest
invariant-loop-rest l = l.text.items ++ turn_lines l.rest ≡ l.initial.text.items ++ turn_lines l.turns

abbrev pub decreases-loop-rest : goal.decreases-loop-rest
decreases-loop-rest l = length l.rest
