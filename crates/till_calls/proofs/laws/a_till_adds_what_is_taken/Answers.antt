use Rattle.till_calls.proofs.Adding.{adds_what_is_taken}
use Rattle.till_calls.proofs.laws.a_till_adds_what_is_taken.Goals as goal

pub returns : goal.returns
returns g c = λ coming till root items log old new asks replies passes fresh run own begins fit fits apart since.
    adds_what_is_taken coming till root items old new asks replies fresh run own log passes begins fit fits apart since
