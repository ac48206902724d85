use Rattle.std.proofs.Common.{◌≡◌, List, IfOk, subst}
use Rattle.link_check.specs.declared.checked.Checked.{Checked}
use Rattle.link_check.specs.Checking.Chain.{begun}
use Rattle.file_commands.specs.Lines.{lines_of}
use Rattle.link_check.specs.Texts.{checks_text}
use Rattle.file_commands.proofs.Pieces.{all_answered}
use Rattle.file_commands.proofs.answering.answer_piece.Goals as goal

pub returns : goal.returns
returns c =
    let text = c.checks_text-2.result in
    all_answered (begun c.args.state.now.issuer c.args.state.now.entries) (lines_of c.args.piece.now)
    (lines_of c.loop-line.rest.now) c.loop-line.answers.items text c.loop-line.invariant c.in_default.ensures
    (subst (λ (answers : List Checked). IfOk text (λ t. t ≡ checks_text answers)) c.of.ensures c.checks_text-2.ensures)
