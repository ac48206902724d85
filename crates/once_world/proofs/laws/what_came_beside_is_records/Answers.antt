use Rattle.once_world.proofs.Owns.{came_quietly, came_by_own}
use Rattle.once_world.proofs.laws.what_came_beside_is_records.Goals as goal

pub returns-clause-quiet : goal.returns-clause-quiet
returns-clause-quiet c = came_quietly

pub returns-clause-own : goal.returns-clause-own
returns-clause-own c = came_by_own
