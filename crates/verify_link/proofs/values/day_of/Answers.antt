use Rattle.verify_link.proofs.ValueLemmas.{value_text}
use Rattle.verify_link.proofs.values.day_of.Goals as goal

pub returns-in-Err-clause-none : goal.returns-in-Err-clause-none
returns-in-Err-clause-none c = λ n within is. c.in-Err.ensures.cases.0 (value_text 2 c.args.bytes.now (n, within, is))
