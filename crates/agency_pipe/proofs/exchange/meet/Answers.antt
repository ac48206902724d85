use Rattle.agency_pipe.proofs.Greetings.{closed, greets_from}
use Rattle.agency_pipe.proofs.exchange.meet.Goals as goal

pub returns-in-Err-clause-meets : goal.returns-in-Err-clause-meets
returns-in-Err-clause-meets g c = closed _ _ c.args.number c.args.opening.now _ c.in-Err.ensures

pub returns-in-Ok-clause-meets : goal.returns-in-Ok-clause-meets
returns-in-Ok-clause-meets g c =
    greets_from c.args.number c.args.opening.now
    (g.S.Source.left c.args.source.now) (g.S.Source.left c.knock.new.source) (g.S.Source.left c.greet-in-Ok.new.source)
    (g.S.Source.faults c.args.source.now) (g.S.Source.faults c.knock.new.source) (g.S.Source.faults c.greet-in-Ok.new.source)
    (g.K.Sink.taken c.args.sink.now) (g.K.Sink.taken c.knock.new.sink) (g.K.Sink.taken c.greet-in-Ok.new.sink)
    (g.K.Sink.faults c.args.sink.now) (g.K.Sink.faults c.knock.new.sink) (g.K.Sink.faults c.greet-in-Ok.new.sink)
    c.greet-in-Ok.result c.in-Ok.ensures.read c.in-Ok.ensures.wrote c.in-Ok.ensures.source_later c.in-Ok.ensures.sink_later
    c.greet-in-Ok.ensures.greets
