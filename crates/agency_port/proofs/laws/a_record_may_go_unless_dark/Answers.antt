use Rattle.agency_port.proofs.Sessions.{may_go_unless_dark}
use Rattle.agency_port.proofs.laws.a_record_may_go_unless_dark.Goals as goal

pub returns : goal.returns
returns c = may_go_unless_dark
