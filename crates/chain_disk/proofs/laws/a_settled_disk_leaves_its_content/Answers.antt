use Rattle.chain_disk.proofs.RunLaws as law
use Rattle.chain_disk.proofs.laws.a_settled_disk_leaves_its_content.Goals as goal

pub returns : goal.returns
returns c = law.settled_leaves
