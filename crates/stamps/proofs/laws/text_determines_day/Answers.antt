use Rattle.stamps.proofs.TextLemmas.{date_text_of_injective}
use Rattle.stamps.proofs.laws.text_determines_day.Goals as goal

pub returns : goal.returns
returns c n m e = date_text_of_injective n m e
