use Rattle.till_calls.proofs.Adding.{adds_for_no_other}
use Rattle.till_calls.proofs.laws.a_till_adds_for_no_other.Goals as goal

pub returns : goal.returns
returns g c = λ coming till other root items old new asks replies fresh run own apart.
    adds_for_no_other coming till root items old new asks replies fresh run own other apart
