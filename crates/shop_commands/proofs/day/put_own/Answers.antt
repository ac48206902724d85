use Rattle.std.proofs.Common.{List, ◌++◌, ◌∷◌, ap, sym, ◌∙◌}
use Rattle.sender_beside.specs.Tills.{asks_of}
use Rattle.report.specs.declared.answers.AnswerLine.{AnswerLine}
use Rattle.shop_commands.proofs.DayTexts.{no_answers}
use Rattle.shop_commands.proofs.day.put_own.Goals as goal

pub returns-in_default : goal.returns-in_default
returns-in_default c = λ more. ap (λ (l : List AnswerLine). c.args.lines.now.items ++ l)
    (no_answers (asks_of c.args.till more) c.args.told.now c.in_default.len_below ∙
    sym (no_answers (asks_of c.args.till (c.args.ask.now ∷ more)) c.args.told.now c.in_default.len_below))
