use Rattle.std.proofs.Common.{◌∙◌, ap, ◌++◌, List, ℕ}
use Rattle.file_commands.proofs.Pieces.{join_more}
use Rattle.file_commands.proofs.answering.joined.Goals as goal

pub loop-text-preserved : goal.loop-text-preserved
loop-text-preserved c =
    let all = c.loop-text.all.items in
    let joined = join_more c.args.texts.now c.loop-text.text-index all c.extend_from_slice.new.self.items c.text-item.result
    c.in-Ok.text (record { each = c.loop-text.invariant.each; all = c.loop-text.invariant.all }) c.loop-text-test.true
    c.text-item.is c.in-Ok.is
    (c.in_ok-extend_from_slice-in-Ok.ensures.items ∙ ap (λ (bytes : List ℕ). all ++ bytes) c.as_slice.ensures) in
    record { each = joined.each; all = joined.all }
