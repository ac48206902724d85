use Rattle.std.proofs.Common.{◌≡◌, ◌∙◌, List, ℕ, subst}
use Rattle.report.specs.declared.status.Detail.TheVariants as detail
use Rattle.ports.specs.Sinks.{this_sink}
use Rattle.file_commands.specs.Checking.AnswersPrinted.{answered, no_memory}
use Rattle.file_commands.specs.Checking.AreTold.{told}
use Rattle.file_commands.specs.Output.{PrintEnds}
use Rattle.link_check.specs.Texts.{checks_text}
use Rattle.file_commands.proofs.Bytewise.{took_nothing}
use Rattle.file_commands.proofs.checking.check_in.Goals as goal

pub returns-in-Ok : goal.returns-in-Ok
returns-in-Ok g c =
    let s = this_sink g.K.Sink.taken g.K.Sink.faults c.args.sink.now c.print.new.sink in
    let are = c.in-Ok.ensures in
    let same : c.as_slice.result.now ≡ checks_text are.0 = c.as_slice.ensures ∙ are.2 in
    answered are.0 c.print.result are.1
    (told c.print.result (subst (λ (t : List ℕ). PrintEnds t detail.Done s c.print.result) same c.print.ensures))

pub returns-in-Err : goal.returns-in-Err
returns-in-Err g c = no_memory (took_nothing (g.K.Sink.taken c.args.sink.now))
