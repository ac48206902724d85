use Rattle.verifactu.proofs.Promised.{found_again}
use Rattle.verifactu.proofs.laws.what_a_run_left_is_found_again.Goals as goal

pub returns : goal.returns
returns c = found_again c.a_file_has_one_meaning.ensures.history c.a_file_has_one_meaning.ensures.not_begun
