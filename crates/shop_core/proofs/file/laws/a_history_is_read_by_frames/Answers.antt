use Rattle.shop_core.proofs.FileFrames.{sound_begins, sound_goes_on, sound_ends}
use Rattle.shop_core.proofs.file.laws.a_history_is_read_by_frames.Goals as goal

pub returns-clause-begins : goal.returns-clause-begins
returns-clause-begins c = sound_begins c.a_file_is_walked.ensures.begins

pub returns-clause-goes_on : goal.returns-clause-goes_on
returns-clause-goes_on c = sound_goes_on c.a_file_is_walked.ensures.goes_on c.a_legal_history_goes_on.ensures

pub returns-clause-ends : goal.returns-clause-ends
returns-clause-ends c = sound_ends c.a_file_is_walked.ensures.ends
