use Rattle.chain_disk.proofs.RunLaws as law
use Rattle.chain_disk.proofs.laws.runs_follow.Goals as goal

pub returns : goal.returns
returns c = law.runs_follow
