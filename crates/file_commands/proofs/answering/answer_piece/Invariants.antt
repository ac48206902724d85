use Rattle.std.proofs.Common.{length}
use Rattle.link_check.specs.Checking.Chain.{begun}
use Rattle.file_commands.specs.Lines.{lines_of}
use Rattle.file_commands.proofs.Pieces.{AreSoFar}
use Rattle.file_commands.proofs.answering.answer_piece.Given as goal

abbrev pub invariant-loop-line : goal.invariant-loop-line
invariant-loop-line l = AreSoFar (begun l.state.issuer l.state.entries) (lines_of l.piece) (lines_of l.rest) l.answers.items

abbrev pub decreases-loop-line : goal.decreases-loop-line
decreases-loop-line l = length (lines_of l.rest)
