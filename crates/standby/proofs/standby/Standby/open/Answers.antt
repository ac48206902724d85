use Rattle.std.proofs.Common.{◌≡◌, ◌∙◌, ap, subst, sym}
use Rattle.chain_disk.specs.OnDisk.{synced}
use Rattle.chain_store.specs.Opening.{IsFound}
use Rattle.standby.specs.Chains.{ChainOnDisk}
use Rattle.standby.proofs.standby.Standby.open.Goals as goal

pub returns-clause-found : goal.returns-clause-found
returns-clause-found g c = λ tells.
    subst (λ (s : ChainOnDisk g.row.D.Denot). IsFound c.args.created s.history.version c.args.issuer.now s.history.entries
    (g.D.Disk.on_disk c.args.disk).content) (sym c.of-standby.ensures) (c.in_ok-state.ensures.found tells)

pub returns-clause-unwritten : goal.returns-clause-unwritten
returns-clause-unwritten g c = λ tells begun.
    ap (λ (s : ChainOnDisk g.row.D.Denot). g.D.Disk.on_disk s.disk) c.of-standby.ensures ∙ c.in_ok-state.ensures.unwritten tells begun
