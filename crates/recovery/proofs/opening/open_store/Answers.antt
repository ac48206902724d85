use Rattle.std.proofs.Common.{subst, sym}
use Rattle.chain_disk.specs.OnDisk.{LeavesNow, LeavesOnly, synced}
use Rattle.journal.specs.Journal.{disk_of}
use Rattle.shop_core.specs.File.Files.{StandsFor}
use Rattle.shop_core.specs.History.{History}
use Rattle.recovery.specs.Opening.{IsFound}
use Rattle.recovery.proofs.opening.open_store.Goals as goal

pub returns-in-Ok-clause-every_crash : goal.returns-in-Ok-clause-every_crash
returns-in-Ok-clause-every_crash g c = λ tells.
    let parts = c.of.ensures.parts in
    subst (λ (j : _). LeavesNow (g.D.Disk.on_disk (disk_of j))
    (StandsFor c.of.result.state.version c.args.issuer.now c.of.result.state.entries)) (sym parts.1)
    (subst (λ (s : History). LeavesNow (g.D.Disk.on_disk (disk_of c.in-Ok.field-0.journal))
    (StandsFor s.version c.args.issuer.now s.entries)) (sym parts.0) (c.in-Ok.ensures.every_crash tells))

pub returns-in-Ok-clause-any_moment : goal.returns-in-Ok-clause-any_moment
returns-in-Ok-clause-any_moment g c = λ tells.
    let parts = c.of.ensures.parts in
    let old = synced (g.D.Disk.on_disk c.args.disk) in
    subst (λ (j : _). LeavesOnly old (g.D.Disk.on_disk (disk_of j))
    (IsFound c.of.result.state.version c.args.issuer.now c.of.result.state.entries)) (sym parts.1)
    (subst (λ (s : History). LeavesOnly old (g.D.Disk.on_disk (disk_of c.in-Ok.field-0.journal))
    (IsFound s.version c.args.issuer.now s.entries)) (sym parts.0) (c.in-Ok.ensures.any_moment tells))
