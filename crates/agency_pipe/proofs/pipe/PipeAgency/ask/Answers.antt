use Rattle.std.proofs.Common.{◌≡◌, ◌∙◌, Ok, Err, refl, subst, sym, true}
use Rattle.ports.specs.Sinks.{this_sink}
use Rattle.ports.specs.Sources.{this_source}
use Rattle.agency_port.specs.declared.answers.AgencyFault.TheVariants.{Failed, NoMemory}
use Rattle.agency_pipe.specs.Speaking.{Asks, call_of}
use Rattle.agency_pipe.proofs.Misheard.{came, failed, without_memory}
use Rattle.agency_pipe.proofs.pipe.PipeAgency.ask.Goals as goal

pub returns-in-Ok-clause-asks : goal.returns-in-Ok-clause-asks
returns-in-Ok-clause-asks g c =
    let old = c.args.self.now in
    let s = this_source g.S.Source.left g.S.Source.faults old.source c.exchange.new.source in
    let k = this_sink g.K.Sink.taken g.K.Sink.faults old.sink c.exchange.new.sink in
    subst (λ o. Asks s k (call_of o c.args.number c.args.message.now) old.is_open true (Ok c.in-Ok.value))
    (c.deref.ensures.value ∙ c.in_ok-opening.ensures)
    (came s k (call_of c.deref.result.now c.args.number c.args.message.now) c.in-Ok.value old.is_open true refl c.in-Ok.ensures.exchanges)

pub returns-then-wants_memory-clause-asks : goal.returns-then-wants_memory-clause-asks
returns-then-wants_memory-clause-asks g c =
    let old = c.args.self.now in
    let s = this_source g.S.Source.left g.S.Source.faults old.source c.exchange.new.source in
    let k = this_sink g.K.Sink.taken g.K.Sink.faults old.sink c.exchange.new.sink in
    subst (λ o. Asks s k (call_of o c.args.number c.args.message.now) old.is_open c.goes_on-self.result (Err NoMemory))
    (c.deref.ensures.value ∙ c.in_ok-opening.ensures)
    (without_memory s k (call_of c.deref.result.now c.args.number c.args.message.now) old.is_open c.goes_on-self.result c.in-Err.why
    (sym c.wants_memory.ensures ∙ c.if-wants_memory.true) c.goes_on-self.ensures c.in-Err.ensures.exchanges)

pub returns-clause-asks : goal.returns-clause-asks
returns-clause-asks g c =
    let old = c.args.self.now in
    let s = this_source g.S.Source.left g.S.Source.faults old.source c.exchange.new.source in
    let k = this_sink g.K.Sink.taken g.K.Sink.faults old.sink c.exchange.new.sink in
    subst (λ o. Asks s k (call_of o c.args.number c.args.message.now) old.is_open c.goes_on-self.result (Err Failed))
    (c.deref.ensures.value ∙ c.in_ok-opening.ensures)
    (failed s k (call_of c.deref.result.now c.args.number c.args.message.now) old.is_open c.goes_on-self.result c.in-Err.why
    (sym c.wants_memory.ensures ∙ c.if-wants_memory.false) c.goes_on-self.ensures c.in-Err.ensures.exchanges)
