use Rattle.std.proofs.Common.{◌≡◌, ◌<◌, [], ◌∷◌, ◌++◌, Ok, arith, false, length, length-append, le_trans, subst, true}
use Rattle.ports.specs.Sinks.{this_sink}
use Rattle.ports.specs.Sources.{this_source}
use Rattle.agency_pipe.specs.Greeting.{Steps}
use Rattle.agency_pipe.specs.declared.answer_reader.TheConstants.{MOST_EARLIER}
use Rattle.agency_pipe.proofs.Greetings.{began_here, not_here, passed_more, wrote_more}
use Rattle.agency_pipe.proofs.greet.greet.Goals as goal

pub returns-in-Ok-true-clause-greets : goal.returns-in-Ok-true-clause-greets
returns-in-Ok-true-clause-greets g c =
    let inv = c.loop.invariant in
    let few : length inv.passed < MOST_EARLIER = omega (arith, inv.count, c.loop-test.true) in
    let s = this_source g.S.Source.left g.S.Source.faults c.loop.source c.heed_once.new.source in
    let k = this_sink g.K.Sink.taken g.K.Sink.faults c.loop.sink c.heed_once.new.sink in
    let test : c.in-Ok-true.field-0 ≡ true = c.in-Ok-true.field-0-test in
    began_here c.args.number c.args.opening.now (g.S.Source.left c.args.source.now) _ _ 0 _ _ (g.K.Sink.taken c.args.sink.now) _ _ 0 0 0
    inv.passed few inv.after inv.wrote
    (subst (λ b. Steps s k c.args.number c.args.opening.now (Ok b)) test c.in-Ok-true.ensures.steps)

pub returns-in-Err-heed_once-clause-greets : goal.returns-in-Err-heed_once-clause-greets
returns-in-Err-heed_once-clause-greets g c =
    let inv = c.loop.invariant in
    let few : length inv.passed < MOST_EARLIER = omega (arith, inv.count, c.loop-test.true) in
    not_here c.args.number c.args.opening.now (g.S.Source.left c.args.source.now) _ _ _ _ _ (g.K.Sink.taken c.args.sink.now) _ _ _ _ _
    inv.passed few inv.after inv.wrote inv.source_later inv.sink_later _ c.in-Err-heed_once.ensures.steps

pub loop-preserved : goal.loop-preserved
loop-preserved g c =
    let inv = c.loop.invariant in
    let s = this_source g.S.Source.left g.S.Source.faults c.loop.source c.heed_once.new.source in
    let k = this_sink g.K.Sink.taken g.K.Sink.faults c.loop.sink c.heed_once.new.sink in
    let test : c.in-Ok-false.field-0 ≡ false = c.in-Ok-false.field-0-test in
    let step = subst (λ b. Steps s k c.args.number c.args.opening.now (Ok b)) test c.in-Ok-false.ensures.steps in
    record {
      passed = inv.passed ++ step.0 ∷ [];
      count = rw (length-append, inv.count);
      after = passed_more c.args.number _ _ _ inv.passed step.0 inv.after step.1 step.2;
      wrote = wrote_more c.args.opening.now c.args.number _ _ _ inv.passed step.0 inv.wrote step.3;
      source_later = le_trans inv.source_later c.in-Ok-false.ensures.source_later;
      sink_later = le_trans inv.sink_later c.in-Ok-false.ensures.sink_later;
      room = c.in-Ok-false.ensures.room;
    }
