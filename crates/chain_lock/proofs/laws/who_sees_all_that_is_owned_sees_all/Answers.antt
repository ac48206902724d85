use Rattle.chain_lock.proofs.Seen.{sees_all}
use Rattle.chain_lock.proofs.laws.who_sees_all_that_is_owned_sees_all.Goals as goal

pub returns : goal.returns
returns g c = λ base log seen passes begins above below since. sees_all base log seen passes begins above below since
