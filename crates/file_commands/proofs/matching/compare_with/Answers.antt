use Rattle.std.proofs.Common.{ℕ, Option, MatchOption, subst}
use Rattle.ports.specs.Sinks.{this_sink}
use Rattle.file_commands.specs.Exporting.{objects_of}
use Rattle.file_commands.specs.Exporting.Exported.{history}
use Rattle.file_commands.specs.Lines.{lines_of}
use Rattle.file_commands.specs.Matching.{AreLinesOf, DifferFirst, IsCountTold}
use Rattle.file_commands.specs.Matching.Compared.{same, differs, no_memory}
use Rattle.file_commands.proofs.Bytewise.{took_nothing}
use Rattle.file_commands.proofs.matching.compare_with.Goals as goal

pub returns-in-Ok-None : goal.returns-in-Ok-None
returns-in-Ok-None g c =
    let state = c.args.state.now in
    let s = this_sink g.K.Sink.taken g.K.Sink.faults c.args.sink.now c.print_count.new.sink in
    same c.print_count.result
    (subst (λ (found : Option ℕ). MatchOption found (AreLinesOf (lines_of c.args.bytes.now)
    (objects_of (history state.version state.issuer state.entries)))
    (λ line. DifferFirst (lines_of c.args.bytes.now) (objects_of (history state.version state.issuer state.entries)) line))
    c.in-Ok-None.field-0-is c.in-Ok-None.ensures)
    (subst (λ (n : ℕ). IsCountTold n s c.print_count.result) c.entries.ensures.count c.print_count.ensures)

pub returns-in-Ok-Some : goal.returns-in-Ok-Some
returns-in-Ok-Some g c =
    let state = c.args.state.now in
    differs c.in-Ok-Some.line
    (subst (λ (found : Option ℕ). MatchOption found (AreLinesOf (lines_of c.args.bytes.now)
    (objects_of (history state.version state.issuer state.entries)))
    (λ line. DifferFirst (lines_of c.args.bytes.now) (objects_of (history state.version state.issuer state.entries)) line))
    c.in-Ok-Some.field-0-is c.in-Ok-Some.ensures)
    (took_nothing (g.K.Sink.taken c.args.sink.now))

pub returns-in-Err : goal.returns-in-Err
returns-in-Err g c = no_memory (took_nothing (g.K.Sink.taken c.args.sink.now))
