use Rattle.std.proofs.Common.{◌≡◌, subst}
use Rattle.ports.specs.Memory.{counted_up}
use Rattle.ports.specs.Sinks.{this_sink}
use Rattle.ports.specs.Sources.{this_source}
use Rattle.agency_pipe.specs.Speaking.{SendsAndReads, call_of}
use Rattle.agency_pipe.proofs.Greetings.{conversed}
use Rattle.agency_pipe.proofs.exchange.exchange.Goals as goal

pub returns-in-Ok-clause-exchanges : goal.returns-in-Ok-clause-exchanges
returns-in-Ok-clause-exchanges g c =
    let met = c.in-Ok.ensures.meets in
    let next : c.saturating_add.result ≡ counted_up c.args.number = c.saturating_add.ensures in
    let s = this_source g.S.Source.left g.S.Source.faults c.meet.new.source c.send_and_read.new.source in
    let k = this_sink g.K.Sink.taken g.K.Sink.faults c.meet.new.sink c.send_and_read.new.sink in
    conversed (call_of c.args.opening.now c.args.number c.args.message.now)
    (g.S.Source.left c.args.source.now) (g.S.Source.left c.meet.new.source) (g.S.Source.left c.send_and_read.new.source)
    (g.S.Source.faults c.args.source.now) (g.S.Source.faults c.meet.new.source) (g.S.Source.faults c.send_and_read.new.source)
    (g.K.Sink.taken c.args.sink.now) (g.K.Sink.taken c.meet.new.sink) (g.K.Sink.taken c.send_and_read.new.sink)
    (g.K.Sink.faults c.args.sink.now) (g.K.Sink.faults c.meet.new.sink) (g.K.Sink.faults c.send_and_read.new.sink)
    c.send_and_read.result met.0 met.1 c.in-Ok.ensures.source_later c.in-Ok.ensures.sink_later
    (subst (λ n. SendsAndReads s k n c.args.message.now c.send_and_read.result) next c.send_and_read.ensures.sends_and_reads)
