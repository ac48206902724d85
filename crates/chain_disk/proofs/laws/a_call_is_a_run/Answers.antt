use Rattle.chain_disk.proofs.RunLaws as law
use Rattle.chain_disk.proofs.laws.a_call_is_a_run.Goals as goal

pub returns : goal.returns
returns c = law.call_is_a_run
