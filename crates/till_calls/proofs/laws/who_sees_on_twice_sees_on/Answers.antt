use Rattle.till_calls.proofs.Seeing.{sees_twice}
use Rattle.till_calls.proofs.laws.who_sees_on_twice_sees_on.Goals as goal

pub returns : goal.returns
returns g c = λ old mid new s t. sees_twice old mid new s t
