use Rattle.std.proofs.Common.{length}
use Rattle.verifactu.proofs.pairs.+nifs_apart.Given as goal

abbrev pub decreases-nifs_apart : goal.decreases-nifs_apart
decreases-nifs_apart l = length l.nifs.now
