use Rattle.journal.proofs.Walks.{walks_agree}
use Rattle.journal.proofs.laws.walks_over_a_file_agree.Goals as goal

pub returns : goal.returns
returns c = walks_agree
