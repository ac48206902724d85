use Rattle.once_world.proofs.Sound.{sound}
use Rattle.once_world.proofs.laws.every_world_is_sound.Goals as goal

pub returns : goal.returns
returns c = sound c.what_is_made_continues.ensures c.a_legal_history_goes_on.ensures c.what_is_made_is_a_record.ensures
    c.legal_is_chained.ensures.linked c.a_sale_has_a_new_number.ensures
