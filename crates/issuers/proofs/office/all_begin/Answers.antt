use Rattle.std.proofs.Common.{[], subst, All, arith}
use Rattle.std.proofs.lemmas.List.{take_all}
use Rattle.std.proofs.lemmas.List.Elements.{All-more}
use Rattle.chain_store.specs.declared.store.Store.{Store}
use Rattle.chain_store.specs.Taking.{Along}
use Rattle.issuers.proofs.office.all_begin.Goals as goal

pub loop-store-preserved : goal.loop-store-preserved
loop-store-preserved g c =
    let stores = c.args.stores.now in
    let store = c.store-item.result in
    let P = λ (s : Store g.row.D.Denot g.row.C.Denot g.D.Disk). Along g.D.Disk g.C.Clock s s [] [] in
    All-more P stores c.loop-store.store-index store c.loop-store-test.true c.loop-store.invariant
    (subst P c.store-item.is c.a_run_begins.ensures)

pub returns : goal.returns
returns g c =
    let stores = c.args.stores.now in
    let P = λ (s : Store g.row.D.Denot g.row.C.Denot g.D.Disk). Along g.D.Disk g.C.Clock s s [] [] in
    subst (All P) (take_all c.loop-store.store-index stores (omega arith)) c.loop-store.invariant
