use Rattle.std.proofs.Common.{ap}
use Rattle.ports.specs.Sources.{this_source}
use Rattle.line_reader.proofs.ReadOn.{read_on}
use Rattle.line_reader.proofs.reader.LineReader.next_line.Goals as goal

pub returns-clause-read : goal.returns-clause-read
returns-clause-read g c = λ left lines h.
    read_on (this_source g.S.Source.left g.S.Source.faults c.args.source.now c.advance.new.source) c.args.self.now
    c.advance.new.self c.advance.result c.advance.ensures.next (λ over. ap (λ s. g.S.Source.left s) (c.advance.ensures.over over)) left lines h
