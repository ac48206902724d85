use Rattle.std.proofs.Common.{◌≡◌, ap, subst, ◌∙◌, sym, None, Some, Ok, Err, option_map}
use Rattle.journal.specs.declared.faults.StoreFault.{StoreFault}
use Rattle.journal.specs.declared.faults.StoreFault.TheVariants.{DiskFault}
use Rattle.shop_core.specs.History.{History}
use Rattle.shop_core.specs.Legal.{Continues}
use Rattle.standby.specs.Arriving.{KeepsEntry}
use Rattle.standby.specs.Chains.{ChainOnDisk, chain_by}
use Rattle.standby.proofs.Chained.{kept}
use Rattle.standby.proofs.standby.Standby.keep.Goals as goal

pub returns-in-Ok-clause-keeps : goal.returns-in-Ok-clause-keeps
returns-in-Ok-clause-keeps g c =
    let s = c.self.inside in
    let e = c.in-Ok.ensures in
    let old : ChainOnDisk g.row.D.Denot = chain_by s.state s.journal (option_map (λ t. t.value) s.torn) in
    let new : ChainOnDisk g.row.D.Denot = chain_by c.keep.new.state c.keep.new.journal (option_map (λ t. t.value) s.torn) in
    let going : old.stopped ≡ None = ap (λ (v : ChainOnDisk g.row.D.Denot). v.stopped) c.self.view_is ∙ c.requires.going_on in
    let continues : Continues old.history.version old.history.issuer old.history.entries c.args.entry =
    subst (λ (v : ChainOnDisk g.row.D.Denot). Continues v.history.version v.history.issuer v.history.entries c.args.entry) (sym c.self.view_is)
    c.requires.continues in
    let both = kept g.D.Disk.tells g.D.Disk.on_disk g.D.Disk.faults {E = StoreFault} old new c.args.entry (Ok tt)
    c.a_legal_history_goes_on.ensures c.self.invariant going continues
    (record {
      ready = e.ready;
      issuer = e.issuer;
      version = e.version;
      added = e.added;
      same = tt;
      any_moment = e.any_moment;
      never_loses = e.never_loses;
      acknowledged = e.acknowledged;
      content = e.content;
      torn = tt;
      fault = tt;
      later = e.later;
    }) in
    subst (λ (v : ChainOnDisk g.row.D.Denot). KeepsEntry {E = StoreFault} g.D.Disk.tells g.D.Disk.on_disk g.D.Disk.faults v new
    c.args.entry (Ok tt)) c.self.view_is both.1

pub returns-in-Err-clause-keeps : goal.returns-in-Err-clause-keeps
returns-in-Err-clause-keeps g c =
    let s = c.self.inside in
    let e = c.in-Err.ensures in
    let old : ChainOnDisk g.row.D.Denot = chain_by s.state s.journal (option_map (λ t. t.value) s.torn) in
    let new : ChainOnDisk g.row.D.Denot = chain_by c.keep.new.state c.keep.new.journal (Some c.of-torn.result.value) in
    let going : old.stopped ≡ None = ap (λ (v : ChainOnDisk g.row.D.Denot). v.stopped) c.self.view_is ∙ c.requires.going_on in
    let continues : Continues old.history.version old.history.issuer old.history.entries c.args.entry =
    subst (λ (v : ChainOnDisk g.row.D.Denot). Continues v.history.version v.history.issuer v.history.entries c.args.entry) (sym c.self.view_is)
    c.requires.continues in
    let both = kept g.D.Disk.tells g.D.Disk.on_disk g.D.Disk.faults {E = StoreFault} old new c.args.entry (Err DiskFault)
    c.a_legal_history_goes_on.ensures c.self.invariant going continues
    (record {
      ready = e.ready;
      issuer = e.issuer;
      version = e.version;
      added = tt;
      same = ap (λ (h : History). h.entries) e.same;
      any_moment = e.any_moment;
      never_loses = e.never_loses;
      acknowledged = tt;
      content = tt;
      torn = ap (λ (x : _). Some x) c.of-torn.ensures;
      fault = e.fault;
      later = e.later;
    }) in
    subst (λ (v : ChainOnDisk g.row.D.Denot). KeepsEntry {E = StoreFault} g.D.Disk.tells g.D.Disk.on_disk g.D.Disk.faults v new
    c.args.entry (Err DiskFault)) c.self.view_is both.1
