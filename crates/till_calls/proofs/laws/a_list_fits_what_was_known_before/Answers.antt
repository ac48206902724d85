use Rattle.till_calls.proofs.Seeing.{fits_before}
use Rattle.till_calls.proofs.laws.a_list_fits_what_was_known_before.Goals as goal

pub returns : goal.returns
returns g c = λ log old new s f. fits_before log old new s f
