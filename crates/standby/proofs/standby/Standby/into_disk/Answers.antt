use Rattle.std.proofs.Common.{◌≡◌, ap, subst, sym, ◌∙◌, None, option_map}
use Rattle.chain_disk.specs.OnDisk.{LeavesNow}
use Rattle.shop_core.specs.File.Files.{StandsFor}
use Rattle.standby.specs.Chains.{ChainOnDisk, chain_by}
use Rattle.standby.proofs.Chained.{sound_whole}
use Rattle.standby.proofs.standby.Standby.into_disk.Goals as goal

pub returns-clause-every_crash : goal.returns-clause-every_crash
returns-clause-every_crash g c = λ going tells.
    let s = c.self.inside in
    let chain : ChainOnDisk g.row.D.Denot = chain_by s.state s.journal (option_map (λ t. t.value) s.torn) in
    let was : chain.stopped ≡ None = ap (λ (v : ChainOnDisk g.row.D.Denot). v.stopped) c.self.view_is ∙ going in
    let whole = sound_whole g.D.Disk.tells g.D.Disk.on_disk g.D.Disk.faults chain c.self.invariant was tells in
    let seen = subst (λ (v : ChainOnDisk g.row.D.Denot). LeavesNow (g.D.Disk.on_disk v.disk)
    (StandsFor v.history.version v.history.issuer v.history.entries)) c.self.view_is whole in
    subst (λ (d : _). LeavesNow (g.D.Disk.on_disk d)
    (StandsFor c.args.self.history.version c.args.self.history.issuer c.args.self.history.entries))
    (sym (c.into_disk.ensures ∙ ap (λ (v : ChainOnDisk g.row.D.Denot). v.disk) c.self.view_is)) seen
