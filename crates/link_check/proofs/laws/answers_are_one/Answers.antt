use Rattle.link_check.proofs.Reading.{one_list}
use Rattle.link_check.proofs.laws.answers_are_one.Goals as goal

pub returns : goal.returns
returns c = one_list c.text_determines_reading.ensures
