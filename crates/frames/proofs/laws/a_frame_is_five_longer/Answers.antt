use Rattle.frames.proofs.Parts.{is_five_longer}
use Rattle.frames.proofs.laws.a_frame_is_five_longer.Goals as goal

pub returns : goal.returns
returns c = is_five_longer
