use Rattle.std.proofs.Common.{◌∙◌, ap, ◌++◌, List}
use Rattle.link_check.specs.declared.checked.Checked.{Checked}
use Rattle.link_check.proofs.Lines.{join_more}
use Rattle.link_check.proofs.all.joined.Goals as goal

pub loop-piece-preserved : goal.loop-piece-preserved
loop-piece-preserved c =
    let answers = c.loop-piece.answers.items in
    let joined = join_more c.args.pieces.now c.loop-piece.piece-index answers c.extend_from_slice.new.self.items
    c.piece-item.result c.in-Ok.more (record { each = c.loop-piece.invariant.each; all = c.loop-piece.invariant.all })
    c.loop-piece-test.true c.piece-item.is c.in-Ok.is
    (c.in_ok-extend_from_slice-in-Ok.ensures.items ∙ ap (λ (xs : List Checked). answers ++ xs) c.deref.ensures.value) in
    record { each = joined.each; all = joined.all }
