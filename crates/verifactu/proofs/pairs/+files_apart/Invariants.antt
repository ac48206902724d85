use Rattle.std.proofs.Common.{length}
use Rattle.verifactu.proofs.pairs.+files_apart.Given as goal

abbrev pub decreases-files_apart : goal.decreases-files_apart
decreases-files_apart l = length l.words.now
