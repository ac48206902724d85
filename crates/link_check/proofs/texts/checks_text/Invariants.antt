use Rattle.std.proofs.Common.{◌≡◌, ◌++◌, length}
use Rattle.link_check.specs.Texts.{checks_text}
use Rattle.link_check.proofs.texts.checks_text.Given as goal

abbrev pub invariant-loop-rest : goal.invariant-loop-rest
invariant-loop-rest l = l.text.items ++ checks_text l.rest ≡ checks_text l.answers

abbrev pub decreases-loop-rest : goal.decreases-loop-rest
decreases-loop-rest l = length l.rest
