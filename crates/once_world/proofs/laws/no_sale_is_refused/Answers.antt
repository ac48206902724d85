use Rattle.once_world.proofs.Agreements.{refuse_no_sale}
use Rattle.once_world.proofs.laws.no_sale_is_refused.Goals as goal

pub returns : goal.returns
returns c = refuse_no_sale c.legal_is_chained.ensures.linked c.a_sale_has_a_new_number.ensures
