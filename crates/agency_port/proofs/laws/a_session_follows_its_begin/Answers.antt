use Rattle.agency_port.proofs.Sessions.{follows_its_begin, goes_on, stands_last}
use Rattle.agency_port.proofs.laws.a_session_follows_its_begin.Goals as goal

pub returns-clause-begins : goal.returns-clause-begins
returns-clause-begins c = follows_its_begin

pub returns-clause-goes_on : goal.returns-clause-goes_on
returns-clause-goes_on c = goes_on

pub returns-clause-last : goal.returns-clause-last
returns-clause-last c = stands_last
