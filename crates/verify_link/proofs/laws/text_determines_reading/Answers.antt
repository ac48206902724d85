use Rattle.verify_link.proofs.DeterminedLemmas.{one_reading}
use Rattle.verify_link.proofs.laws.text_determines_reading.Goals as goal

pub returns : goal.returns
returns c = one_reading c.text_determines_day.ensures c.text_determines_amount.ensures
