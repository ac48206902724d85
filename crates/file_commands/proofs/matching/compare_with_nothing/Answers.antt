use Rattle.file_commands.specs.Matching.Compared.{same, differs}
use Rattle.file_commands.specs.Lines.{lines_of}
use Rattle.file_commands.proofs.Bytewise.{took_nothing}
use Rattle.file_commands.proofs.Places.{first_too_many, nothing_same}
use Rattle.file_commands.proofs.matching.compare_with_nothing.Goals as goal

pub returns-in-None : goal.returns-in-None
returns-in-None g c = same c.print_count.result (nothing_same (lines_of c.args.bytes.now) c.in-None.ensures) c.print_count.ensures

pub returns-in-Some : goal.returns-in-Some
returns-in-Some g c =
    differs 1
    (first_too_many (lines_of c.args.bytes.now) c.in-Some.field-0.0.now (lines_of c.in-Some.field-0.1.now) c.in-Some.ensures)
    (took_nothing (g.K.Sink.taken c.args.sink.now))
