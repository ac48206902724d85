use Rattle.till_calls.proofs.Adding.{owns_only}
use Rattle.till_calls.proofs.laws.a_till_owns_records_and_stops.Goals as goal

pub returns : goal.returns
returns g c = λ coming till root items old new asks replies fresh run own.
    owns_only coming till root items old new asks replies fresh run own
