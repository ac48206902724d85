use Rattle.agency_rules.proofs.Deliveries.{delivered-append}
use Rattle.agency_rules.proofs.Comings.{meetings-append}
use Rattle.agency_rules.proofs.laws.deliveries_join.Goals as goal

pub returns-clause-lists : goal.returns-clause-lists
returns-clause-lists c = delivered-append

pub returns-clause-answers : goal.returns-clause-answers
returns-clause-answers c = meetings-append
