use Rattle.agency_rules.proofs.Comings.{again_where_it_came, all_new}
use Rattle.agency_rules.proofs.laws.only_what_came_comes_again.Goals as goal

pub returns-clause-again : goal.returns-clause-again
returns-clause-again c = again_where_it_came

pub returns-clause-new : goal.returns-clause-new
returns-clause-new c = all_new
