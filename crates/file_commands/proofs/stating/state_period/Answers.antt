use Rattle.std.proofs.Common.{List, subst}
use Rattle.ports.specs.Sinks.{this_sink}
use Rattle.statements.specs.declared.rows.Row.{Row}
use Rattle.file_commands.specs.Statements.{RowsPrinted}
use Rattle.file_commands.specs.Statements.StatementPrinted.{stated, no_memory}
use Rattle.file_commands.proofs.Bytewise.{took_nothing}
use Rattle.file_commands.proofs.stating.state_period.Goals as goal

pub returns-in-Ok : goal.returns-in-Ok
returns-in-Ok g c =
    let s = this_sink g.K.Sink.taken g.K.Sink.faults c.args.sink.now c.print_rows.new.sink in
    stated c.in-Ok.rows c.print_rows.result c.in-Ok.ensures
    (subst (λ (rs : List Row). RowsPrinted c.args.period.now rs s c.print_rows.result) c.as_slice.ensures c.print_rows.ensures)

pub returns-in-Err : goal.returns-in-Err
returns-in-Err g c = no_memory (took_nothing (g.K.Sink.taken c.args.sink.now))
