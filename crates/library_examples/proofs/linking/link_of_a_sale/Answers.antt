use Rattle.std.proofs.Common.{inr, subst}
use Rattle.chain_store.specs.Loading.{IsLoaded}
use Rattle.chain_store.specs.declared.loading.Loaded.{Loaded}
use Rattle.library_examples.proofs.linking.link_of_a_sale.Goals as goal

pub returns-in-Ok-clause-link : goal.returns-in-Ok-clause-link
returns-in-Ok-clause-link g c tells =
    let file = (g.D.Disk.on_disk c.args.disk.now).content in
    let h = subst (λ (l : Loaded). IsLoaded file l) c.in-Begun.is (c.in_ok-load.ensures.content tells) in
    inr (c.in-Begun.state.version, c.in-Begun.state.issuer, c.in-Begun.state.entries, h.0, c.in-Ok.ensures)
