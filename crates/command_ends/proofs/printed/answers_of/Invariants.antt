use Rattle.std.proofs.Common.{◌≡◌, ◌++◌, length}
use Rattle.command_ends.specs.Printed.{answers}
use Rattle.command_ends.proofs.printed.answers_of.Given as goal

abbrev pub invariant-loop-asked : goal.invariant-loop-asked
invariant-loop-asked l = l.lines.items ++ answers l.asked l.told ≡ answers l.asks l.replies

abbrev pub decreases-loop-asked : goal.decreases-loop-asked
decreases-loop-asked l = length l.asked
