use Rattle.std.proofs.Common.{refl}
use Rattle.second_disk.proofs.Halves.{goes_on_as}
use Rattle.second_disk.proofs.lasting.each_half_goes_on.Goals as goal

pub returns-clause-first : goal.returns-clause-first
returns-clause-first g c = λ tells. goes_on_as _ _ _ _ (c.each_half_is_an_image.ensures.first tells) refl

pub returns-clause-second : goal.returns-clause-second
returns-clause-second g c = λ tells. goes_on_as _ _ _ _ (c.each_half_is_an_image.ensures.second tells) refl
