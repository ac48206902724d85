use Rattle.std.proofs.Common.{◌≡◌, ◌∙◌, sym, ap, subst, subst₂}
use Rattle.chain_disk.specs.OnDisk.{LeavesOnly, synced}
use Rattle.chain_store.specs.Opening.{IsFound}
use Rattle.record_fields.specs.declared.versions.Version.{Version}
use Rattle.standby.specs.Starting.{IsLeftUnstarted}
use Rattle.second_disk.specs.Level.{IsNotLevel}
use Rattle.second_disk.specs.declared.causes.LevelCause.{LevelCause}
use Rattle.second_disk.proofs.Left.{not_opened_first, not_started_second}
use Rattle.second_disk.proofs.Ups.{begun_by_entry, found_new, opened_goes}
use Rattle.second_disk.proofs.opening.open_first.Goals as goal

pub returns-in-Err-clause-left : goal.returns-in-Err-clause-left
returns-in-Err-clause-left g c = λ tells others.
    let first = g.D.Disk.on_disk c.args.first in
    let second = g.M.Disk.on_disk c.args.second in
    let new = g.D.Disk.on_disk c.in-Err.field-0.disk in
    subst (λ (cause : LevelCause). IsNotLevel c.args.issuer.now cause first second new second) (sym c.opened_cause.ensures)
    (not_opened_first c.args.created c.args.issuer.now c.in-Err.field-0.cause first second new (c.in-Err.ensures.left tells))

pub returns-in-Err-start-clause-left : goal.returns-in-Err-start-clause-left
returns-in-Err-start-clause-left g c = λ tells others.
    let first = g.D.Disk.on_disk c.args.first in
    let second = g.M.Disk.on_disk c.args.second in
    let opened = c.in-Ok.first in
    let new = g.D.Disk.on_disk opened.disk in
    let last = g.M.Disk.on_disk c.in-Err-start.field-0.disk in
    let version = opened.history.version in
    let same : c.version.result ≡ version = c.version.ensures ∙ ap (λ h. h.version) c.state.ensures in
    let left = subst (λ (v : Version). IsLeftUnstarted v c.args.issuer.now c.in-Err-start.field-0.cause second last) same
    (c.in-Err-start.ensures.left others) in
    let goes = opened_goes c.args.created version c.args.issuer.now opened.history.entries first new (c.in-Ok.ensures.found tells)
    (c.in-Ok.ensures.any_moment tells) in
    subst₂ (λ (cause : LevelCause) (d : g.row.D.Denot). IsNotLevel c.args.issuer.now cause first second (g.D.Disk.on_disk d) last)
    (sym c.started_cause.ensures) (sym c.into_disk.ensures.disk)
    (not_started_second c.a_file_has_one_meaning.ensures.not_begun version c.args.issuer.now c.in-Err-start.field-0.cause
    opened.history.entries first new second last left goes
    (λ begun. c.in-Ok.ensures.unwritten tells (λ not. begun (c.requires tells others not))) (c.requires tells others))

pub returns-in-Ok-start-clause-found : goal.returns-in-Ok-start-clause-found
returns-in-Ok-start-clause-found g c = λ tells others.
    let first = g.D.Disk.on_disk c.args.first in
    let second = g.M.Disk.on_disk c.args.second in
    let a = c.in-Ok.first in
    let b = c.in-Ok-start.second in
    let new = g.D.Disk.on_disk a.disk in
    let last = g.M.Disk.on_disk b.disk in
    let same : c.version.result ≡ a.history.version = c.version.ensures ∙ ap (λ h. h.version) c.state.ensures in
    let found = subst (λ (v : Version). IsFound v v c.args.issuer.now b.history.entries second.content) same
    (c.in-Ok-start.ensures.found others) in
    let only = subst (λ (v : Version). LeavesOnly (synced second) last (IsFound v v c.args.issuer.now b.history.entries)) same
    (c.in-Ok-start.ensures.any_moment others) in
    record {
      first_goes = opened_goes c.args.created a.history.version c.args.issuer.now a.history.entries first new
          (c.in-Ok.ensures.found tells) (c.in-Ok.ensures.any_moment tells);
      second_goes = opened_goes a.history.version a.history.version c.args.issuer.now b.history.entries second last found only;
      unwritten = λ some.
          let begun = begun_by_entry c.a_file_has_one_meaning.ensures.not_begun a.history.version a.history.version
          c.args.issuer.now b.history.entries second.content found some in (
            c.in-Ok.ensures.unwritten tells (λ not. begun (c.requires tells others not)),
            c.in-Ok-start.ensures.unwritten others begun,
          );
      not_begun = λ not. (found_new c.a_file_has_one_meaning.ensures.not_begun a.history.version a.history.version c.args.issuer.now
          b.history.entries second.content found (c.requires tells others not)).0;
      both_not_begun = λ not none. (found_new c.a_file_has_one_meaning.ensures.not_begun c.args.created a.history.version
          c.args.issuer.now a.history.entries first.content (c.in-Ok.ensures.found tells) not).1;
    }
