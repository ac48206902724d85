use Rattle.std.proofs.Common.{[], sym, subst}
use Rattle.chain_disk.specs.OnDisk.{LeavesNow, LeavesOnly}
use Rattle.journal.specs.Journal.{disk_of}
use Rattle.shop_core.specs.History.{History}
use Rattle.shop_core.specs.Legal.{Legal}
use Rattle.shop_core.specs.File.Files.{StandsFor}
use Rattle.chain_store.specs.Opening.{IsFound}
use Rattle.chain_store.proofs.Opens.{begun, begins}
use Rattle.chain_store.proofs.Losing.{creation_loses_none}
use Rattle.chain_store.proofs.Readies.{ready_empty}
use Rattle.chain_store.proofs.opening.begin.Goals as goal

pub returns-in-Ok-clause-every_crash : goal.returns-in-Ok-clause-every_crash
returns-in-Ok-clause-every_crash g c tells =
    let issuer = c.args.issuer.now in
    let now = g.D.Disk.on_disk (disk_of c.in-Ok.journal) in
    let legal : Legal c.args.created issuer [] =
    subst (λ (h : History). Legal h.version h.issuer h.entries) c.empty-state.ensures c.is_legal.ensures in
    subst (λ (h : History). LeavesNow now (StandsFor h.version issuer h.entries)) (sym c.empty-state.ensures)
    (begun c.args.created issuer now legal (c.in-Ok.ensures.every_crash tells))

pub returns-in-Ok-clause-any_moment : goal.returns-in-Ok-clause-any_moment
returns-in-Ok-clause-any_moment g c tells =
    let issuer = c.args.issuer.now in
    let created = c.args.created in
    let old = g.D.Disk.on_disk c.args.disk in
    let now = g.D.Disk.on_disk (disk_of c.in-Ok.journal) in
    let legal : Legal created issuer [] =
    subst (λ (h : History). Legal h.version h.issuer h.entries) c.empty-state.ensures c.is_legal.ensures in
    subst (λ (h : History). LeavesOnly old now (IsFound created h.version issuer h.entries)) (sym c.empty-state.ensures)
    (begins created issuer old now legal (c.in-Ok.ensures.any_moment tells))

pub returns-in-Ok-clause-ready : goal.returns-in-Ok-clause-ready
returns-in-Ok-clause-ready g c = ready_empty g.D.Disk.tells c.args.created c.args.issuer.now c.empty-state.result _ _ _
    c.empty-state.ensures c.in-Ok.ensures.place c.in-Ok.ensures.empty

pub returns-in-Ok-clause-created : goal.returns-in-Ok-clause-created
returns-in-Ok-clause-created g c tells = record { content = c.in-Ok.ensures.content tells; takes = c.in-Ok.ensures.moments tells }

pub returns-in-Ok-clause-never_loses : goal.returns-in-Ok-clause-never_loses
returns-in-Ok-clause-never_loses g c tells =
    let issuer = c.args.issuer.now in
    let created = c.args.created in
    let legal : Legal created issuer [] =
    subst (λ (h : History). Legal h.version h.issuer h.entries) c.empty-state.ensures c.is_legal.ensures in
    creation_loses_none c.encodings_are_apart.ensures c.a_file_stands_for_one_chain.ensures c.a_file_not_begun_is_no_chain.ensures
    created issuer legal (g.D.Disk.on_disk c.args.disk) (g.D.Disk.on_disk (disk_of c.in-Ok.journal))
    (c.in-Ok.ensures.any_moment tells) (c.in-Ok.ensures.never_loses tells)

pub returns-in-Err-clause-never_loses_err : goal.returns-in-Err-clause-never_loses_err
returns-in-Err-clause-never_loses_err g c tells =
    let issuer = c.args.issuer.now in
    let created = c.args.created in
    let legal : Legal created issuer [] =
    subst (λ (h : History). Legal h.version h.issuer h.entries) c.empty-state.ensures c.is_legal.ensures in
    creation_loses_none c.encodings_are_apart.ensures c.a_file_stands_for_one_chain.ensures c.a_file_not_begun_is_no_chain.ensures
    created issuer legal (g.D.Disk.on_disk c.args.disk) _
    (c.in-Err.ensures.any_moment_err tells) (c.in-Err.ensures.never_loses_err tells)
