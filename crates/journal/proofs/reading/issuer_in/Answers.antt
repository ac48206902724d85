use Rattle.parties.proofs.NifLemmas.{nif_text}
use Rattle.journal.proofs.reading.issuer_in.Goals as goal

pub returns-in-Err-clause-none : goal.returns-in-Err-clause-none
returns-in-Err-clause-none c = λ nif. c.in-Err.ensures.cases.0 (nif_text c.args.bytes.now nif)
