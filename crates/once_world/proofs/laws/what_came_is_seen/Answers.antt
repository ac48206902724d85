use Rattle.once_world.proofs.Replying.{only_adds, delivered_seen, seen_stays}
use Rattle.once_world.proofs.laws.what_came_is_seen.Goals as goal

pub returns-clause-grows : goal.returns-clause-grows
returns-clause-grows c = only_adds

pub returns-clause-delivered : goal.returns-clause-delivered
returns-clause-delivered c = delivered_seen

pub returns-clause-stays : goal.returns-clause-stays
returns-clause-stays c = seen_stays
