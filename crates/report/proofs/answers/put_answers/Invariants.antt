use Rattle.std.proofs.Common.{◌≡◌, ◌++◌, length}
use Rattle.report.specs.Answers.{answers_text}
use Rattle.report.proofs.answers.put_answers.Given as goal

abbrev pub invariant-loop-rest : goal.invariant-loop-rest
invariant-loop-rest l = l.text.items ++ answers_text l.rest ≡ l.initial.text.items ++ answers_text l.answers

abbrev pub decreases-loop-rest : goal.decreases-loop-rest
decreases-loop-rest l = length l.rest
