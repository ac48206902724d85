use Rattle.agency_port.proofs.Duplicados.{answers_join, duplicado_where, all_first}
use Rattle.agency_port.proofs.laws.only_what_came_is_duplicado.Goals as goal

pub returns-clause-join : goal.returns-clause-join
returns-clause-join c = answers_join c.deliveries_join.ensures.answers

pub returns-clause-duplicado : goal.returns-clause-duplicado
returns-clause-duplicado c = duplicado_where c.only_what_came_comes_again.ensures.again

pub returns-clause-first : goal.returns-clause-first
returns-clause-first c = all_first c.only_what_came_comes_again.ensures.new
