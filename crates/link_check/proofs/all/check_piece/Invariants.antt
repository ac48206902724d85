use Rattle.std.proofs.Common.{take}
use Rattle.link_check.specs.Checking.{AreChecked}
use Rattle.link_check.specs.Checking.Chain.{begun}
use Rattle.link_check.proofs.all.check_piece.Given as goal

abbrev pub invariant-loop-line : goal.invariant-loop-line
invariant-loop-line l = AreChecked (begun l.state.issuer l.state.entries) (take l.line-index l.piece) l.answers.items
