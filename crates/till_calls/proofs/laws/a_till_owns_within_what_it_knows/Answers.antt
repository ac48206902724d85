use Rattle.till_calls.proofs.Adding.{owns_within}
use Rattle.till_calls.proofs.laws.a_till_owns_within_what_it_knows.Goals as goal

pub returns : goal.returns
returns g c = λ coming till root items old new asks replies fresh run own.
    owns_within coming till root items old new asks replies fresh run own
