use Rattle.till_calls.proofs.Seeing.{asks_from_before}
use Rattle.till_calls.proofs.laws.an_ask_goes_on_from_what_was_known_before.Goals as goal

pub returns : goal.returns
returns g c = λ coming ask reply old mid new s t. asks_from_before coming ask reply old mid new s t
