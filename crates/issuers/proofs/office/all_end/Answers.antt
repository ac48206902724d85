use Rattle.std.proofs.Common.{subst, All, arith}
use Rattle.std.proofs.lemmas.List.{take_all}
use Rattle.std.proofs.lemmas.List.Elements.{All-more}
use Rattle.issuers.specs.Serving.{ComesTo}
use Rattle.issuers.proofs.Going.{stays_own, went_on}
use Rattle.issuers.proofs.office.all_end.Goals as goal

pub loop-store-preserved : goal.loop-store-preserved
loop-store-preserved g c =
    let stores = c.args.stores.now in
    let store = c.store-item.result in
    All-more (ComesTo g.D.Disk g.C.Clock) stores c.loop-store.store-index store c.loop-store-test.true c.loop-store.invariant
    (subst (ComesTo g.D.Disk g.C.Clock) c.store-item.is
    (record {
      own = c.a_run_ends.ensures.own;
      fails = c.a_run_ends.ensures.fails;
      stays = λ first asks replies along. stays_own g.D.Disk g.C.Clock first store asks replies along;
      goes_on = λ first asks replies along going all. went_on g.D.Disk g.C.Clock first store asks replies along going all;
    }))

pub returns : goal.returns
returns g c =
    let stores = c.args.stores.now in
    subst (All (ComesTo g.D.Disk g.C.Clock)) (take_all c.loop-store.store-index stores (omega arith)) c.loop-store.invariant
