use Rattle.std.proofs.Common.{◌+◌}
use Rattle.file_commands.specs.Exporting.{objects_of}
use Rattle.file_commands.specs.Exporting.Exported.{history}
use Rattle.file_commands.specs.Lines.{lines_of}
use Rattle.file_commands.proofs.Places.{SameSoFar}
use Rattle.file_commands.proofs.matching.first_difference.Given as goal

abbrev pub invariant-loop-index : goal.invariant-loop-index
invariant-loop-index l = SameSoFar (lines_of l.bytes) (objects_of (history l.state.version l.state.issuer l.state.entries))
    (l.index + 1) (lines_of l.rest)
