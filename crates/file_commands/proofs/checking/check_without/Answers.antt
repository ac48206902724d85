use Rattle.std.proofs.Common.{List, ℕ, subst}
use Rattle.link_check.specs.Checking.{AreChecked}
use Rattle.link_check.specs.Checking.Chain.{not_begun}
use Rattle.file_commands.specs.Checking.AnswersPrinted.{answered, no_memory}
use Rattle.file_commands.proofs.Bytewise.{took_nothing}
use Rattle.file_commands.proofs.checking.check_without.Goals as goal

pub returns-in-Err : goal.returns-in-Err
returns-in-Err g c = no_memory (took_nothing (g.K.Sink.taken c.args.sink.now))

pub returns-in-Ok-check_unbegun : goal.returns-in-Ok-check_unbegun
returns-in-Ok-check_unbegun g c =
    let answers = c.in-Ok-check_unbegun.answers in
    answered answers c.print_answers.result
    (subst (λ (lines : List (List ℕ)). AreChecked not_begun lines answers) c.in-Ok.ensures c.in-Ok-check_unbegun.ensures)
    c.print_answers.ensures

pub returns : goal.returns
returns g c = no_memory (took_nothing (g.K.Sink.taken c.args.sink.now))
