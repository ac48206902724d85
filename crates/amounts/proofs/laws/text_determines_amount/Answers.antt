use Rattle.amounts.proofs.ReadingLemmas.{amount_text_injective}
use Rattle.amounts.proofs.laws.text_determines_amount.Goals as goal

pub returns : goal.returns
returns c v w e = amount_text_injective v w e
