use Rattle.std.proofs.Common.{take}
use Rattle.link_check.specs.Checking.{AreChecked}
use Rattle.link_check.specs.Checking.Chain.{not_begun}
use Rattle.link_check.proofs.all.check_unbegun.Given as goal

abbrev pub invariant-loop-line : goal.invariant-loop-line
invariant-loop-line l = AreChecked not_begun (take l.line-index l.line-items) l.answers.items
