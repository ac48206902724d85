use Rattle.chain_store.proofs.Taken.{run_goes}
use Rattle.chain_store.proofs.runs.take_next.Goals as goal

pub returns-clause-along : goal.returns-clause-along
returns-clause-along g c = λ first asks replies along. record {
  ready = c.take.ensures.ready;
  run = run_goes g.D.Disk g.C.Clock first c.args.store.now c.take.new.self asks replies c.args.ask.now c.take.result along.ready
      along.run c.take.ensures;
  read = g.met.C.Clock.reading_goes_on _ _ _ along.read c.take.ensures.read;
}
