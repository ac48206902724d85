use Rattle.std.proofs.Common.{ℕ, List, subst}
use Rattle.file_commands.proofs.Bytewise.{took_nothing}
use Rattle.file_commands.specs.Output.{PrintEnds}
use Rattle.ports.specs.Sinks.{this_sink}
use Rattle.report.specs.declared.status.Detail.TheVariants as detail
use Rattle.file_commands.specs.Generate.GenerateEnds.{ran, no_memory}
use Rattle.file_commands.proofs.generate.generate.Goals as goal

pub returns-in-Ok : goal.returns-in-Ok
returns-in-Ok g c =
    let sink = this_sink g.K.Sink.taken g.K.Sink.faults c.args.sink.now c.print.new.sink in
    ran c.in-Ok.text c.print.result c.in-Ok.ensures
    (subst (λ (text : List ℕ). PrintEnds text detail.Done sink c.print.result) c.as_slice.ensures c.print.ensures)

pub returns-in-Err : goal.returns-in-Err
returns-in-Err g c = no_memory (took_nothing (g.K.Sink.taken c.args.sink.now))
