use Rattle.std.proofs.Common.{◌≡◌, ap, subst, sym, ◌∙◌, None, option_map}
use Rattle.chain_disk.specs.OnDisk.{LeavesNow}
use Rattle.journal.specs.Journal.{disk_of}
use Rattle.shop_core.specs.File.Files.{StandsFor}
use Rattle.shop_core.specs.History.{History}
use Rattle.shop_core.specs.Legal.{Legal}
use Rattle.standby.specs.Chains.{ChainOnDisk, chain_by}
use Rattle.standby.proofs.Chained.{sound_whole}
use Rattle.standby.proofs.standby.Standby.promote.Goals as goal

pub returns-clause-legal : goal.returns-clause-legal
returns-clause-legal g c =
    subst (λ (h : History). Legal h.version h.issuer h.entries) (sym c.of.ensures.parts.0) c.self.invariant.legal

pub returns-clause-linked : goal.returns-clause-linked
returns-clause-linked g c =
    let legal : Legal c.of.result.state.version c.of.result.state.issuer c.of.result.state.entries =
    subst (λ (h : History). Legal h.version h.issuer h.entries) (sym c.of.ensures.parts.0) c.self.invariant.legal in
    c.legal_is_chained.ensures.linked c.of.result.state.version c.of.result.state.issuer c.of.result.state.entries legal

pub returns-clause-every_crash : goal.returns-clause-every_crash
returns-clause-every_crash g c tells =
    let s = c.self.inside in
    let parts = c.of.ensures.parts in
    let chain : ChainOnDisk g.row.D.Denot = chain_by s.state s.journal (option_map (λ t. t.value) s.torn) in
    let was : chain.stopped ≡ None = ap (λ (v : ChainOnDisk g.row.D.Denot). v.stopped) c.self.view_is ∙ c.requires in
    let whole = sound_whole g.D.Disk.tells g.D.Disk.on_disk g.D.Disk.faults chain c.self.invariant was tells in
    subst (λ (j : _). LeavesNow (g.D.Disk.on_disk (disk_of j)) (StandsFor c.of.result.state.version c.of.result.state.issuer c.of.result.state.entries))
    (sym parts.1)
    (subst (λ (h : History). LeavesNow (g.D.Disk.on_disk (disk_of s.journal)) (StandsFor h.version h.issuer h.entries)) (sym parts.0) whole)
