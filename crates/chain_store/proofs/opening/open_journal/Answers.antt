use Rattle.std.proofs.Common.{◌∙◌, sym, ap, subst}
use Rattle.chain_disk.specs.OnDisk.{OnDisk, LeavesOnly}
use Rattle.journal.specs.File.{IsNotBegun}
use Rattle.journal.specs.Journal.{disk_of}
use Rattle.chain_store.specs.Opening.{IsCreation, IsFound}
use Rattle.chain_store.specs.declared.loading.Loaded.TheVariants.{Begun}
use Rattle.chain_store.specs.Losing.{none_lost_by, none_lost_in_both, sync_failed_loses_none, sync_loses_none}
use Rattle.chain_store.proofs.Opens.{if_err, if_ok, loaded_settled}
use Rattle.chain_store.proofs.opening.open_journal.Goals as goal

pub open_held-requires-clause-holds : goal.open_held-requires-clause-holds
open_held-requires-clause-holds g c tells = loaded_settled _ _ _ (Begun c.in-Ok-Begun.state c.in-Ok-Begun.end)
    (c.in-Ok.ensures.ok tells) c.load.ensures.same (rw c.in-Ok-Begun.field-0-is at (c.in-Ok-Begun.ensures.content tells))

pub returns-in-Ok-Begun-clause-any_moment : goal.returns-in-Ok-Begun-clause-any_moment
returns-in-Ok-Begun-clause-any_moment g c =
    if_ok _ _ c.open_held.result c.open_held.ensures.any_moment (λ opened h tells.
    subst (λ (t : OnDisk). LeavesOnly t (g.D.Disk.on_disk (disk_of opened.journal))
    (IsFound c.args.created opened.state.version c.args.issuer.now opened.state.entries))
    (c.load.ensures.same ∙ c.in-Ok.ensures.ok tells) (h tells))

pub returns-in-Ok-Begun-clause-unwritten : goal.returns-in-Ok-Begun-clause-unwritten
returns-in-Ok-Begun-clause-unwritten g c =
    if_ok _ _ c.open_held.result c.open_held.ensures.same (λ opened h tells begun.
    ap (λ d. g.D.Disk.on_disk d) h.2 ∙ c.load.ensures.same ∙ c.in-Ok.ensures.ok tells)

pub returns-in-Ok-NotBegun-clause-unwritten : goal.returns-in-Ok-NotBegun-clause-unwritten
returns-in-Ok-NotBegun-clause-unwritten g c =
    if_ok _ _ c.begin.result c.begin.ensures.going_on (λ opened h tells begun.
    let not = rw c.in-Ok-NotBegun.field-0-is at (c.in-Ok-NotBegun.ensures.content tells) in
    let content = ap (λ (t : OnDisk). t.content) (c.in-Ok.ensures.ok tells) in
    absurd (begun (subst IsNotBegun content not)))

pub returns-in-Ok-Begun-clause-created : goal.returns-in-Ok-Begun-clause-created
returns-in-Ok-Begun-clause-created g c =
    if_ok _ _ c.open_held.result c.open_held.ensures.same (λ opened h tells not.
    let loaded = rw c.in-Ok-Begun.field-0-is at (c.in-Ok-Begun.ensures.content tells) in
    let content = ap (λ (t : OnDisk). t.content) (c.in-Ok.ensures.ok tells) in
    absurd (c.a_file_not_begun_is_no_chain.ensures _ _ _ _ (subst IsNotBegun (sym content) not) loaded.0.frames))

pub returns-in-Ok-NotBegun-clause-created : goal.returns-in-Ok-NotBegun-clause-created
returns-in-Ok-NotBegun-clause-created g c =
    if_ok _ _ c.begin.result c.begin.ensures.created (λ opened h tells not.
    subst (λ (t : OnDisk). IsCreation c.args.created c.args.issuer.now t (g.D.Disk.on_disk (disk_of opened.journal)))
    (c.load.ensures.same ∙ c.in-Ok.ensures.ok tells) (h tells))

pub returns-in_default-clause-never_loses_err : goal.returns-in_default-clause-never_loses_err
returns-in_default-clause-never_loses_err g c tells = sync_failed_loses_none (g.D.Disk.on_disk c.args.disk) _
    (c.in_default.ensures.err tells)

pub returns-in-Err-clause-never_loses_err : goal.returns-in-Err-clause-never_loses_err
returns-in-Err-clause-never_loses_err g c tells = sync_loses_none (g.D.Disk.on_disk c.args.disk) (g.D.Disk.on_disk c.load.new.disk) (c.load.ensures.same ∙ c.in-Ok.ensures.ok tells)
    (g.met.D.Disk.reads_an_image c.args.disk tells)

pub returns-in-Ok-NotBegun-clause-never_loses : goal.returns-in-Ok-NotBegun-clause-never_loses
returns-in-Ok-NotBegun-clause-never_loses g c =
    if_ok _ _ c.begin.result c.begin.ensures.never_loses (λ opened h tells.
    none_lost_in_both (g.D.Disk.on_disk c.args.disk) (g.D.Disk.on_disk c.load.new.disk) _ (sync_loses_none (g.D.Disk.on_disk c.args.disk) (g.D.Disk.on_disk c.load.new.disk) (c.load.ensures.same ∙ c.in-Ok.ensures.ok tells)
    (g.met.D.Disk.reads_an_image c.args.disk tells)) (h tells))

pub returns-in-Ok-NotBegun-clause-never_loses_err : goal.returns-in-Ok-NotBegun-clause-never_loses_err
returns-in-Ok-NotBegun-clause-never_loses_err g c =
    if_err _ _ c.begin.result c.begin.ensures.never_loses_err (λ fault h tells.
    none_lost_in_both (g.D.Disk.on_disk c.args.disk) (g.D.Disk.on_disk c.load.new.disk) _ (sync_loses_none (g.D.Disk.on_disk c.args.disk) (g.D.Disk.on_disk c.load.new.disk) (c.load.ensures.same ∙ c.in-Ok.ensures.ok tells)
    (g.met.D.Disk.reads_an_image c.args.disk tells)) (h tells))

pub returns-in-Ok-Begun-clause-never_loses : goal.returns-in-Ok-Begun-clause-never_loses
returns-in-Ok-Begun-clause-never_loses g c =
    if_ok _ _ c.open_held.result c.open_held.ensures.same (λ opened h tells.
    none_lost_in_both (g.D.Disk.on_disk c.args.disk) (g.D.Disk.on_disk c.load.new.disk) _ (sync_loses_none (g.D.Disk.on_disk c.args.disk) (g.D.Disk.on_disk c.load.new.disk) (c.load.ensures.same ∙ c.in-Ok.ensures.ok tells)
    (g.met.D.Disk.reads_an_image c.args.disk tells))
    (none_lost_by (g.D.Disk.on_disk c.load.new.disk) _ (ap (λ d. g.D.Disk.on_disk d) h.2)))

pub returns-in-Ok-Begun-clause-never_loses_err : goal.returns-in-Ok-Begun-clause-never_loses_err
returns-in-Ok-Begun-clause-never_loses_err g c =
    if_err _ _ c.open_held.result c.open_held.ensures.other (λ fault h tells.
    none_lost_in_both (g.D.Disk.on_disk c.args.disk) (g.D.Disk.on_disk c.load.new.disk) _ (sync_loses_none (g.D.Disk.on_disk c.args.disk) (g.D.Disk.on_disk c.load.new.disk) (c.load.ensures.same ∙ c.in-Ok.ensures.ok tells)
    (g.met.D.Disk.reads_an_image c.args.disk tells))
    (none_lost_by (g.D.Disk.on_disk c.load.new.disk) _ (ap (λ d. g.D.Disk.on_disk d) h.2)))
