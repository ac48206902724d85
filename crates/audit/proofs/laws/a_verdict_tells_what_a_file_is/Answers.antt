use Rattle.audit.proofs.Tellings.{tells}
use Rattle.audit.proofs.laws.a_verdict_tells_what_a_file_is.Goals as goal

pub returns : goal.returns
returns c = tells c.a_broken_file_is_damaged.ensures
