use Rattle.std.proofs.Common.{arith, length, ap}
use Rattle.series.specs.Inline.{length_front}
use Rattle.series.proofs.PaddingLemmas.{IsPadded-put_mid}
use Rattle.series.proofs.inline.Inline.append.Goals as goal

pub invariant_of-self : goal.invariant_of-self
invariant_of-self g c =
    IsPadded-put_mid _ _ _ _ _ _ c.self.invariant (omega (arith, ap length c.copy_from_slice.ensures.after)) (omega arith)
    (omega (arith, length_front _ _ _ c.self.invariant, ap length c.self.view_is, c.requires))
