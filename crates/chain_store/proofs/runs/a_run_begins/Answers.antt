use Rattle.std.proofs.Common.{subst}
use Rattle.shop_core.specs.History.{History}
use Rattle.shop_core.specs.Legal.{Legal}
use Rattle.chain_store.specs.Store.{clock_of, state_of}
use Rattle.chain_store.proofs.Taken.{run_begins}
use Rattle.chain_store.proofs.runs.a_run_begins.Goals as goal

pub returns : goal.returns
returns g c =
    let store = c.args.store.now in
    let legal : Legal (state_of store).version (state_of store).issuer (state_of store).entries =
    subst (λ (h : History). Legal h.version h.issuer h.entries)
    c.state.ensures c.is_legal.ensures in
    record {
      ready = c.requires;
      run = run_begins g.D.Disk g.C.Clock store c.requires legal;
      read = g.met.C.Clock.unread (clock_of store);
    }
