use Rattle.std.proofs.Common.{length}
use Rattle.verifactu.proofs.command_line.+has_help.Given as goal

abbrev pub decreases-has_help : goal.decreases-has_help
decreases-has_help l = length l.words.now
