use Rattle.frames.proofs.Parts.{reads_as_written}
use Rattle.frames.proofs.laws.a_frame_reads_as_written.Goals as goal

pub returns : goal.returns
returns c = reads_as_written
