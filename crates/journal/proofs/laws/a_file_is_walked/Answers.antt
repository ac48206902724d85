use Rattle.journal.proofs.Walks.{walk_goes_on, walk_ends, one_walk}
use Rattle.journal.proofs.laws.a_file_is_walked.Goals as goal

pub returns-clause-goes_on : goal.returns-clause-goes_on
returns-clause-goes_on c = walk_goes_on

pub returns-clause-ends : goal.returns-clause-ends
returns-clause-ends c = walk_ends

pub returns-clause-one : goal.returns-clause-one
returns-clause-one c = one_walk
