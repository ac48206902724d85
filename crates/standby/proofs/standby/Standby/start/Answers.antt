use Rattle.std.proofs.Common.{◌≤◌, ◌∙◌, inl, sym, ap, subst, subst₂}
use Rattle.chain_disk.specs.OnDisk.{LeavesOnly, synced}
use Rattle.chain_store.specs.Losing.{NeverLoses}
use Rattle.chain_store.specs.Opening.{IsCreation, IsFound, IsOnlySynced}
use Rattle.journal.specs.Journal.{disk_of}
use Rattle.record_fields.specs.declared.versions.Version.{Version}
use Rattle.standby.specs.Chains.{ChainOnDisk}
use Rattle.standby.specs.Starting.{IsLeftUnstarted}
use Rattle.standby.specs.declared.causes.StandbyCause.{StandbyCause}
use Rattle.standby.proofs.Starting.{if_err, if_ok, not_a_fault, other_version}
use Rattle.standby.proofs.standby.Standby.start.Goals as goal

pub returns-in-Ok-clause-going_on : goal.returns-in-Ok-clause-going_on
returns-in-Ok-clause-going_on g c = if_ok _ _ c.of_opened.result c.of_opened.ensures.same
    (λ standby h. ap (λ (s : ChainOnDisk g.row.D.Denot). s.stopped) h.1)

pub returns-in-Ok-clause-issuer : goal.returns-in-Ok-clause-issuer
returns-in-Ok-clause-issuer g c = if_ok _ _ c.of_opened.result c.of_opened.ensures.same
    (λ standby h. ap (λ (s : ChainOnDisk g.row.D.Denot). s.history.issuer) h.1 ∙ c.in-Ok.ensures.issuer)

pub returns-in-Ok-clause-version : goal.returns-in-Ok-clause-version
returns-in-Ok-clause-version g c = if_ok _ _ c.of_opened.result c.of_opened.ensures.same
    (λ standby h. ap (λ (s : ChainOnDisk g.row.D.Denot). s.history.version) h.1 ∙ h.0)

pub returns-in-Ok-clause-found : goal.returns-in-Ok-clause-found
returns-in-Ok-clause-found g c = if_ok _ _ c.of_opened.result c.of_opened.ensures.same (λ standby h tells.
    let version = c.args.version in
    let file = (g.D.Disk.on_disk c.args.disk).content in
    subst (λ (s : ChainOnDisk g.row.D.Denot). IsFound version version c.args.issuer.now s.history.entries file) (sym h.1)
    (subst (λ (v : Version). IsFound version v c.args.issuer.now c.in-Ok.opened.state.entries file) h.0
    (c.in-Ok.ensures.found tells)))

pub returns-in-Ok-clause-any_moment : goal.returns-in-Ok-clause-any_moment
returns-in-Ok-clause-any_moment g c = if_ok _ _ c.of_opened.result c.of_opened.ensures.same (λ standby h tells.
    let version = c.args.version in
    let start = synced (g.D.Disk.on_disk c.args.disk) in
    subst (λ (s : ChainOnDisk g.row.D.Denot). LeavesOnly start (g.D.Disk.on_disk s.disk)
    (IsFound version version c.args.issuer.now s.history.entries)) (sym h.1)
    (subst (λ (v : Version). LeavesOnly start (g.D.Disk.on_disk (disk_of c.in-Ok.opened.journal))
    (IsFound version v c.args.issuer.now c.in-Ok.opened.state.entries)) h.0 (c.in-Ok.ensures.any_moment tells)))

pub returns-in-Ok-clause-never_loses : goal.returns-in-Ok-clause-never_loses
returns-in-Ok-clause-never_loses g c = if_ok _ _ c.of_opened.result c.of_opened.ensures.same (λ standby h tells.
    subst (λ (s : ChainOnDisk g.row.D.Denot). NeverLoses (g.D.Disk.on_disk c.args.disk) (g.D.Disk.on_disk s.disk)) (sym h.1)
    (c.in-Ok.ensures.never_loses tells))

pub returns-in-Ok-clause-never_loses_err : goal.returns-in-Ok-clause-never_loses_err
returns-in-Ok-clause-never_loses_err g c = if_err _ _ c.of_opened.result c.of_opened.ensures.other (λ fault h tells.
    subst (λ (d : g.row.D.Denot). NeverLoses (g.D.Disk.on_disk c.args.disk) (g.D.Disk.on_disk d)) (sym h.2)
    (c.in-Ok.ensures.never_loses tells))

pub returns-in-Ok-clause-unwritten : goal.returns-in-Ok-clause-unwritten
returns-in-Ok-clause-unwritten g c = if_ok _ _ c.of_opened.result c.of_opened.ensures.same (λ standby h tells.
    subst (λ (s : ChainOnDisk g.row.D.Denot). IsOnlySynced (g.D.Disk.on_disk c.args.disk) (g.D.Disk.on_disk s.disk)) (sym h.1)
    (c.in-Ok.ensures.unwritten tells))

pub returns-in-Ok-clause-created : goal.returns-in-Ok-clause-created
returns-in-Ok-clause-created g c = if_ok _ _ c.of_opened.result c.of_opened.ensures.same (λ standby h tells not.
    subst (λ (s : ChainOnDisk g.row.D.Denot). IsCreation c.args.version c.args.issuer.now (synced (g.D.Disk.on_disk c.args.disk))
    (g.D.Disk.on_disk s.disk)) (sym h.1) (c.in-Ok.ensures.created tells not))

pub returns-in-Ok-clause-unwritten_err : goal.returns-in-Ok-clause-unwritten_err
returns-in-Ok-clause-unwritten_err g c = if_err _ _ c.of_opened.result c.of_opened.ensures.other (λ fault h tells begun.
    inl (ap (λ d. g.D.Disk.on_disk d) h.2 ∙ c.in-Ok.ensures.unwritten tells begun))

pub returns-in-Ok-clause-later : goal.returns-in-Ok-clause-later
returns-in-Ok-clause-later g c = if_ok _ _ c.of_opened.result c.of_opened.ensures.same (λ standby h.
    subst (λ (s : ChainOnDisk g.row.D.Denot). g.D.Disk.faults c.args.disk ≤ g.D.Disk.faults s.disk) (sym h.1)
    c.in-Ok.ensures.later)

pub returns-in-Ok-clause-left : goal.returns-in-Ok-clause-left
returns-in-Ok-clause-left g c = if_err _ _ c.of_opened.result c.of_opened.ensures.other (λ fault h tells.
    let version = c.args.version in
    let state = c.in-Ok.opened.state in
    let old = g.D.Disk.on_disk c.args.disk in
    let other = other_version c.a_file_not_begun_is_no_chain.ensures version state.version c.args.issuer.now state.entries old
    (g.D.Disk.on_disk (disk_of c.in-Ok.opened.journal)) h.1 (c.in-Ok.ensures.found tells) (c.in-Ok.ensures.unwritten tells) in
    subst₂ (λ (e : StandbyCause) (d : g.row.D.Denot). IsLeftUnstarted version c.args.issuer.now e old (g.D.Disk.on_disk d))
    (sym h.0) (sym h.2) other)

pub returns-in-Ok-clause-disk_fault : goal.returns-in-Ok-clause-disk_fault
returns-in-Ok-clause-disk_fault g c = if_err _ _ c.of_opened.result c.of_opened.ensures.other (λ fault h failed.
    absurd (not_a_fault c.in-Ok.opened.state.version (sym h.0 ∙ failed)))

pub returns-in-Ok-clause-later_err : goal.returns-in-Ok-clause-later_err
returns-in-Ok-clause-later_err g c = if_err _ _ c.of_opened.result c.of_opened.ensures.other (λ fault h.
    subst (λ (d : g.row.D.Denot). g.D.Disk.faults c.args.disk ≤ g.D.Disk.faults d) (sym h.2) c.in-Ok.ensures.later)
