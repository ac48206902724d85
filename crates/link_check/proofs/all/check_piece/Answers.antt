use Rattle.std.proofs.Common.{List, ℕ, subst}
use Rattle.link_check.specs.Checking.{IsChecked}
use Rattle.link_check.specs.Checking.Chain.{begun}
use Rattle.link_check.proofs.Lines.{next_checked}
use Rattle.link_check.proofs.all.check_piece.Goals as goal

pub loop-line-preserved : goal.loop-line-preserved
loop-line-preserved c =
    let chain = begun c.args.state.now.issuer c.args.state.now.entries in
    next_checked chain c.args.piece.now c.loop-line.line-index c.loop-line.answers.items c.push.new.self.items c.line-item.result
    c.in_ok-answer.answer c.loop-line.invariant c.loop-line-test.true c.line-item.is
    (subst (λ (l : List ℕ). IsChecked chain l c.in_ok-answer.answer) c.as_slice.ensures c.in_ok-answer.ensures)
    c.in_ok-push.ensures.items
