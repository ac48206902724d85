use Rattle.std.proofs.Common.{subst}
use Rattle.shop_core.specs.History.{History}
use Rattle.shop_core.specs.Legal.{Legal}
use Rattle.chain_store.specs.Store.{journal_of, state_of}
use Rattle.journal.specs.Journal.{disk_of}
use Rattle.chain_store.proofs.Taken.{run_ends, run_fails}
use Rattle.chain_store.proofs.runs.a_run_ends.Goals as goal

pub returns-clause-own : goal.returns-clause-own
returns-clause-own g c = λ first asks replies along.
    let store = c.args.store.now in
    let legal : Legal (state_of store).version (state_of store).issuer (state_of store).entries =
    subst (λ (h : History). Legal h.version h.issuer h.entries)
    c.state.ensures c.is_legal.ensures in
    run_ends g.D.Disk g.C.Clock first store asks replies along.run along.ready legal
    (record { linked = c.legal_is_chained.ensures.linked; rising = c.legal_is_chained.ensures.rising })
    (λ says. g.met.D.Disk.reads_an_image (disk_of (journal_of store)) says)

pub returns-clause-fails : goal.returns-clause-fails
returns-clause-fails g c = λ first asks replies along going.
    run_fails g.D.Disk g.C.Clock first c.args.store.now asks replies going along.run
