use Rattle.std.proofs.Common.{◌∙◌, ℕ, List, IsTrue, Result, sym, subst, subst₂}
use Rattle.record_fields.specs.declared.versions.Version.{Version}
use Rattle.chain_disk.specs.OnDisk.{LeavesOnly, synced}
use Rattle.chain_store.specs.Opening.{IsFound}
use Rattle.standby.specs.Starting.{IsLeftUnstarted}
use Rattle.chain_disk.specs.Disks.{this_disk}
use Rattle.ports.specs.Sinks.{this_sink}
use Rattle.report.specs.declared.status.Detail.{Detail}
use Rattle.file_commands.proofs.Bytewise.{took_nothing}
use Rattle.shop_commands.specs.Follow.{BringsUp, FollowEnds}
use Rattle.shop_commands.proofs.Follows.{brought_images, brought_loses_none, followed_ends, unbrought_ends, unstarted, unstarted_end}
use Rattle.shop_commands.proofs.follow.follow_state.Goals as goal

pub returns-in-Err-clause-ends : goal.returns-in-Err-clause-ends
returns-in-Err-clause-ends g c = λ file stands.
    let s = c.args.state.now in
    let sink = this_sink g.K.Sink.taken g.K.Sink.faults c.args.sink.now c.args.sink.now in
    let new = this_disk g.D.Disk.tells g.D.Disk.on_disk g.D.Disk.faults c.args.copy c.in-Err.fault.disk in
    let left = subst₂ (λ (v : Version) (n : List ℕ). IsTrue g.D.Disk.tells → IsLeftUnstarted v n c.in-Err.fault.cause
    (g.D.Disk.on_disk c.args.copy) (g.D.Disk.on_disk c.in-Err.fault.disk)) c.version.ensures c.issuer.ensures c.in-Err.ensures.left in
    subst (λ (d : Detail). FollowEnds sink file new d) (sym c.start_end.ensures)
    (unstarted_end sink file g.D.Disk.tells g.D.Disk.on_disk g.D.Disk.faults c.args.copy c.in-Err.fault.disk s.version s.issuer
    s.entries c.in-Err.fault.cause stands left c.in-Err.ensures.disk_fault
    (took_nothing (g.K.Sink.taken c.args.sink.now)))

pub returns-in-Err-clause-images : goal.returns-in-Err-clause-images
returns-in-Err-clause-images g c = λ tells.
    let s = c.args.state.now in
    let left = subst₂ (λ (v : Version) (n : List ℕ). IsTrue g.D.Disk.tells → IsLeftUnstarted v n c.in-Err.fault.cause
    (g.D.Disk.on_disk c.args.copy) (g.D.Disk.on_disk c.in-Err.fault.disk)) c.version.ensures c.issuer.ensures c.in-Err.ensures.left in
    unstarted s.version s.issuer s.entries (g.D.Disk.on_disk c.args.copy) (g.met.D.Disk.reads_an_image c.args.copy tells)
    c.in-Err.fault.cause (g.D.Disk.on_disk c.in-Err.fault.disk) (left tells)

pub returns-in-Ok-told-clause-ends : goal.returns-in-Ok-told-clause-ends
returns-in-Ok-told-clause-ends g c = λ file stands.
    let s = c.args.state.now in
    let sink = this_sink g.K.Sink.taken g.K.Sink.faults c.args.sink.now c.print_counts.new.sink in
    let after = c.bring_up-told.result.1 in
    let brings = subst (λ (r : Result ℕ Detail). BringsUp g.D.Disk.tells g.D.Disk.on_disk g.D.Disk.faults s.version s.issuer s.entries
    c.in-Ok.standby after r) c.in-Ok-told.is c.bring_up-told.ensures.brings in
    let found = subst₂ (λ (v : Version) (n : List ℕ). IsTrue g.D.Disk.tells → IsFound v v n c.in-Ok.standby.history.entries
    (g.D.Disk.on_disk c.args.copy).content) c.version.ensures c.issuer.ensures c.in-Ok.ensures.found in
    followed_ends g.D.Disk.tells g.D.Disk.on_disk g.D.Disk.faults s.version s.issuer s.entries sink file c.args.copy after
    c.in-Ok.standby stands found c.in-Ok-told.kept c.entries.result c.print_counts.result
    (λ disk tells. g.met.D.Disk.reads_an_image disk tells) brings c.entries.ensures.count c.print_counts.ensures

pub returns-in-Err-told-clause-ends : goal.returns-in-Err-told-clause-ends
returns-in-Err-told-clause-ends g c = λ file stands.
    let s = c.args.state.now in
    let sink = this_sink g.K.Sink.taken g.K.Sink.faults c.args.sink.now c.args.sink.now in
    let after = c.bring_up-told.result.1 in
    let brings = subst (λ (r : Result ℕ Detail). BringsUp g.D.Disk.tells g.D.Disk.on_disk g.D.Disk.faults s.version s.issuer s.entries
    c.in-Ok.standby after r) c.in-Err-told.is c.bring_up-told.ensures.brings in
    let found = subst₂ (λ (v : Version) (n : List ℕ). IsTrue g.D.Disk.tells → IsFound v v n c.in-Ok.standby.history.entries
    (g.D.Disk.on_disk c.args.copy).content) c.version.ensures c.issuer.ensures c.in-Ok.ensures.found in
    unbrought_ends g.D.Disk.tells g.D.Disk.on_disk g.D.Disk.faults s.version s.issuer s.entries sink file c.args.copy after
    c.in-Ok.standby stands found c.a_file_has_one_meaning.ensures.not_begun c.in-Err-told.end
    c.in-Ok.ensures.unwritten c.in-Ok.ensures.later (took_nothing (g.K.Sink.taken c.args.sink.now)) brings

pub returns-in-Ok-told-clause-images : goal.returns-in-Ok-told-clause-images
returns-in-Ok-told-clause-images g c = λ tells.
    let s = c.args.state.now in
    let found = subst₂ (λ (v : Version) (n : List ℕ). IsTrue g.D.Disk.tells → IsFound v v n c.in-Ok.standby.history.entries
    (g.D.Disk.on_disk c.args.copy).content) c.version.ensures c.issuer.ensures c.in-Ok.ensures.found in
    let only = subst₂ (λ (v : Version) (n : List ℕ). IsTrue g.D.Disk.tells → LeavesOnly (synced (g.D.Disk.on_disk c.args.copy))
    (g.D.Disk.on_disk c.in-Ok.standby.disk) (IsFound v v n c.in-Ok.standby.history.entries)) c.version.ensures c.issuer.ensures
    c.in-Ok.ensures.any_moment in
    brought_images g.D.Disk.tells g.D.Disk.on_disk g.D.Disk.faults s.version s.issuer s.entries
    c.a_file_has_one_meaning.ensures.not_begun c.args.copy c.bring_up-told.result.1 c.in-Ok.standby
    (g.met.D.Disk.reads_an_image c.args.copy tells) (c.in-Ok.ensures.version ∙ c.version.ensures)
    (c.in-Ok.ensures.issuer ∙ c.issuer.ensures) (found tells) (only tells) (c.in-Ok.ensures.unwritten tells) tells
    c.bring_up-told.ensures.images

pub returns-in-Err-told-clause-images : goal.returns-in-Err-told-clause-images
returns-in-Err-told-clause-images g c = λ tells.
    let s = c.args.state.now in
    let found = subst₂ (λ (v : Version) (n : List ℕ). IsTrue g.D.Disk.tells → IsFound v v n c.in-Ok.standby.history.entries
    (g.D.Disk.on_disk c.args.copy).content) c.version.ensures c.issuer.ensures c.in-Ok.ensures.found in
    let only = subst₂ (λ (v : Version) (n : List ℕ). IsTrue g.D.Disk.tells → LeavesOnly (synced (g.D.Disk.on_disk c.args.copy))
    (g.D.Disk.on_disk c.in-Ok.standby.disk) (IsFound v v n c.in-Ok.standby.history.entries)) c.version.ensures c.issuer.ensures
    c.in-Ok.ensures.any_moment in
    brought_images g.D.Disk.tells g.D.Disk.on_disk g.D.Disk.faults s.version s.issuer s.entries
    c.a_file_has_one_meaning.ensures.not_begun c.args.copy c.bring_up-told.result.1 c.in-Ok.standby
    (g.met.D.Disk.reads_an_image c.args.copy tells) (c.in-Ok.ensures.version ∙ c.version.ensures)
    (c.in-Ok.ensures.issuer ∙ c.issuer.ensures) (found tells) (only tells) (c.in-Ok.ensures.unwritten tells) tells
    c.bring_up-told.ensures.images

pub returns-in-Ok-told-clause-never_loses : goal.returns-in-Ok-told-clause-never_loses
returns-in-Ok-told-clause-never_loses g c = λ tells.
    brought_loses_none g.D.Disk.tells g.D.Disk.on_disk c.args.state.now.entries c.args.copy c.bring_up-told.result.1 c.in-Ok.standby tells
    (c.in-Ok.ensures.never_loses tells) c.bring_up-told.ensures.images

pub returns-in-Err-told-clause-never_loses : goal.returns-in-Err-told-clause-never_loses
returns-in-Err-told-clause-never_loses g c = λ tells.
    brought_loses_none g.D.Disk.tells g.D.Disk.on_disk c.args.state.now.entries c.args.copy c.bring_up-told.result.1 c.in-Ok.standby tells
    (c.in-Ok.ensures.never_loses tells) c.bring_up-told.ensures.images
