use Rattle.std.proofs.Common.{◌≡◌, ◌∙◌, List, ℕ, subst}
use Rattle.ports.specs.Sinks.{this_sink}
use Rattle.report.specs.declared.status.Detail.TheVariants as detail
use Rattle.file_commands.specs.Output.{PrintEnds}
use Rattle.file_commands.specs.Statements.{statement_text}
use Rattle.file_commands.specs.Statements.RowsPrinted.{told, no_memory}
use Rattle.file_commands.proofs.Bytewise.{took_nothing}
use Rattle.file_commands.proofs.stating.print_rows.Goals as goal

pub returns-in-Ok : goal.returns-in-Ok
returns-in-Ok g c =
    let s = this_sink g.K.Sink.taken g.K.Sink.faults c.args.sink.now c.print.new.sink in
    let same : c.as_slice.result.now ≡ statement_text c.args.period.now c.args.rows.now = c.as_slice.ensures ∙ c.in-Ok.ensures in
    told c.print.result (subst (λ (t : List ℕ). PrintEnds t detail.Done s c.print.result) same c.print.ensures)

pub returns-in-Err : goal.returns-in-Err
returns-in-Err g c = no_memory (took_nothing (g.K.Sink.taken c.args.sink.now))
