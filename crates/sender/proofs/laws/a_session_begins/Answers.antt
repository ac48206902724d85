use Rattle.sender.proofs.Beginning.{begins_careful, agreed_runs, begins_in_session, begins_without_reply}
use Rattle.sender.proofs.laws.a_session_begins.Goals as goal

pub returns-clause-careful : goal.returns-clause-careful
returns-clause-careful c = begins_careful

pub returns-clause-runs : goal.returns-clause-runs
returns-clause-runs c = agreed_runs

pub returns-clause-session : goal.returns-clause-session
returns-clause-session c = begins_in_session

pub returns-clause-reply : goal.returns-clause-reply
returns-clause-reply c = begins_without_reply
