use Rattle.parties.proofs.NifLemmas.{nif_ascii}
use Rattle.parties.proofs.laws.a_nif_is_nine_bytes.Goals as goal

pub returns-clause-ascii : goal.returns-clause-ascii
returns-clause-ascii c nif is = nif_ascii nif is
