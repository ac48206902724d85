use Rattle.frames.proofs.Parts.{one_frame}
use Rattle.frames.proofs.laws.bytes_begin_with_one_frame.Goals as goal

pub returns : goal.returns
returns c = one_frame
