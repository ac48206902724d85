use Rattle.once_world.proofs.Looking.{looked_next, no_hole}
use Rattle.once_world.proofs.Replying.{first_lines}
use Rattle.once_world.proofs.laws.answers_are_next.Goals as goal

pub returns-clause-first : goal.returns-clause-first
returns-clause-first c = first_lines c.legal_is_chained.ensures.linked c.a_sale_has_a_new_number.ensures

pub returns-clause-looked : goal.returns-clause-looked
returns-clause-looked c = looked_next c.legal_is_chained.ensures.linked c.a_sale_has_a_new_number.ensures

pub returns-clause-whole : goal.returns-clause-whole
returns-clause-whole c = no_hole c.legal_is_chained.ensures.linked c.a_sale_has_a_new_number.ensures
