use Rattle.verify_link.proofs.ValueLemmas.{value_text}
use Rattle.verify_link.proofs.values.nif_of.Goals as goal

pub returns-in-Err-clause-none : goal.returns-in-Err-clause-none
returns-in-Err-clause-none c = λ is. c.in-Err.ensures.cases.0 (value_text 0 c.args.bytes.now is)
