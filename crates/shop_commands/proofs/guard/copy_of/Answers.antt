use Rattle.std.proofs.Common.{◌∙◌, IsTrue, List, ℕ, subst₂}
use Rattle.chain_disk.specs.OnDisk.{LeavesOnly, synced}
use Rattle.chain_store.specs.Opening.{IsFound}
use Rattle.record_fields.specs.declared.versions.Version.{Version}
use Rattle.standby.specs.Starting.{IsLeftUnstarted}
use Rattle.shop_commands.proofs.Copied.{copied_result, not_started, uncopied_result}
use Rattle.shop_commands.proofs.guard.copy_of.Goals as goal

pub returns-in-Err-clause-uncopied : goal.returns-in-Err-clause-uncopied
returns-in-Err-clause-uncopied g c =
    let s = c.args.state.now in
    let h = c.in-Err.ensures in
    let cause = c.in-Err.field-0.cause in
    let left = c.in-Err.field-0.disk in
    let kept = subst₂ (λ (w : Version) (n : List ℕ). IsTrue g.D.Disk.tells →
    IsLeftUnstarted w n cause (g.D.Disk.on_disk c.args.disk) (g.D.Disk.on_disk left)) c.version.ensures c.issuer.ensures h.left in
    not_started g.D.Disk.tells g.D.Disk.on_disk g.D.Disk.faults c.args.disk left s.version s.issuer s.entries cause
    c.start_end.result c.start_end.ensures (λ says. g.met.D.Disk.reads_an_image c.args.disk says) kept h.disk_fault h.never_loses_err h.later_err

pub returns-in-Ok-clause-copied : goal.returns-in-Ok-clause-copied
returns-in-Ok-clause-copied g c =
    let s = c.args.state.now in
    let h = c.in-Ok.ensures in
    let first = c.in-Ok.standby in
    let r = c.bring_copy.ensures in
    let found = subst₂ (λ (w : Version) (n : List ℕ). IsTrue g.D.Disk.tells → IsFound w w n first.history.entries
    (g.D.Disk.on_disk c.args.disk).content) c.version.ensures c.issuer.ensures h.found in
    let any = subst₂ (λ (w : Version) (n : List ℕ). IsTrue g.D.Disk.tells → LeavesOnly (synced (g.D.Disk.on_disk c.args.disk))
    (g.D.Disk.on_disk first.disk) (IsFound w w n first.history.entries)) c.version.ensures c.issuer.ensures h.any_moment in
    copied_result g.D.Disk.tells g.D.Disk.on_disk g.D.Disk.faults s.version s.issuer s.entries c.args.disk first
    (h.version ∙ c.version.ensures) (h.issuer ∙ c.issuer.ensures) found any h.later
    c.a_file_has_one_meaning.ensures.not_begun h.unwritten h.never_loses (λ says. g.met.D.Disk.reads_an_image c.args.disk says)
    c.bring_copy.result r.front r.entries r.going_on r.follows r.later

pub returns-in-Ok-clause-uncopied : goal.returns-in-Ok-clause-uncopied
returns-in-Ok-clause-uncopied g c =
    let s = c.args.state.now in
    let h = c.in-Ok.ensures in
    let first = c.in-Ok.standby in
    let r = c.bring_copy.ensures in
    let found = subst₂ (λ (w : Version) (n : List ℕ). IsTrue g.D.Disk.tells → IsFound w w n first.history.entries
    (g.D.Disk.on_disk c.args.disk).content) c.version.ensures c.issuer.ensures h.found in
    let any = subst₂ (λ (w : Version) (n : List ℕ). IsTrue g.D.Disk.tells → LeavesOnly (synced (g.D.Disk.on_disk c.args.disk))
    (g.D.Disk.on_disk first.disk) (IsFound w w n first.history.entries)) c.version.ensures c.issuer.ensures h.any_moment in
    uncopied_result g.D.Disk.tells g.D.Disk.on_disk g.D.Disk.faults s.version s.issuer s.entries c.args.disk first
    (h.version ∙ c.version.ensures) (h.issuer ∙ c.issuer.ensures) found any h.later
    c.a_file_has_one_meaning.ensures.not_begun h.unwritten h.never_loses (λ says. g.met.D.Disk.reads_an_image c.args.disk says)
    c.bring_copy.result r.why r.images r.later_err
