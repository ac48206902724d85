use Rattle.shop_core.proofs.FileCuts.{cut_is_damaged}
use Rattle.shop_core.proofs.file.laws.a_cut_file_is_damaged.Goals as goal

pub returns : goal.returns
returns c = cut_is_damaged c.bytes_begin_with_one_frame.ensures c.a_file_is_walked.ensures.ends
    c.a_history_is_read_by_frames.ensures.begins c.a_history_is_read_by_frames.ensures.goes_on
