use Rattle.std.proofs.Common.{sym, ◌∙◌, below_more}
use Rattle.verify_link.proofs.encoding.agree_but_in_case.Goals as goal

pub loop-k-preserved : goal.loop-k-preserved
loop-k-preserved c = below_more _ _ c.loop-k.invariant (sym c.agrees_at.ensures ∙ c.if-not-agrees_at.false)
