use Rattle.std.proofs.Common.{◌≡◌, ◌<◌, ◌∙◌, inl, inr, [], length, refl, sym, ap, subst, subst₂, arith}
use Rattle.chain_disk.specs.OnDisk.{synced}
use Rattle.record_fields.specs.declared.versions.Version.{Version}
use Rattle.shop_core.specs.History.{History}
use Rattle.second_disk.specs.Level.{GoesUp, IsNotLevel}
use Rattle.second_disk.specs.Level.HalfLeft.{not_called, only_synced}
use Rattle.second_disk.specs.declared.causes.LevelCause.{LevelCause}
use Rattle.second_disk.proofs.Left.{not_opened_second, not_started_first}
use Rattle.second_disk.proofs.Ups.{found_held, no_entry, opened_goes}
use Rattle.second_disk.proofs.opening.open_second.Goals as goal

pub returns-then-entries-gt0-clause-left : goal.returns-then-entries-gt0-clause-left
returns-then-entries-gt0-clause-left g c = λ tells others.
    let second = g.M.Disk.on_disk c.args.second in
    let b = c.in-Ok.second in
    let count : c.entries.result ≡ length b.history.entries = c.entries.ensures.count ∙ ap (λ (h : History). length h.entries) c.state.ensures in
    let some : 0 < length b.history.entries = omega (arith, count, c.if-entries-gt0.true) in
    let only : g.M.Disk.on_disk c.into_disk.result ≡ synced second = ap (λ (d : g.row.M.Denot). g.M.Disk.on_disk d) c.into_disk.ensures.disk
    ∙ c.in-Ok.ensures.unwritten others (c.requires.second others) in
    record {
      first_left = not_called refl;
      second_left = only_synced only;
      reason = record {
        version = b.history.version;
        held = [];
        others = b.history.entries;
        first_is = inl (c.requires.first tells, refl);
        second_is = found_held c.args.created b.history.version c.args.issuer.now b.history.entries second.content
            (c.in-Ok.ensures.found others);
        so = (c.requires.first tells, some);
      };
      refused = λ is. (inl refl, inr only);
    }

pub returns-in-Err-clause-left : goal.returns-in-Err-clause-left
returns-in-Err-clause-left g c = λ tells others.
    let first = g.D.Disk.on_disk c.args.first in
    let second = g.M.Disk.on_disk c.args.second in
    let new = g.M.Disk.on_disk c.in-Err.field-0.disk in
    subst (λ (cause : LevelCause). IsNotLevel c.args.issuer.now cause first second first new) (sym c.opened_cause.ensures)
    (not_opened_second c.args.created c.args.issuer.now c.in-Err.field-0.cause first second new (c.in-Err.ensures.left others))

pub returns-in-Err-start-clause-left : goal.returns-in-Err-start-clause-left
returns-in-Err-start-clause-left g c = λ tells others.
    let first = g.D.Disk.on_disk c.args.first in
    let second = g.M.Disk.on_disk c.args.second in
    let new = g.D.Disk.on_disk c.in-Err-start.field-0.disk in
    let last = g.M.Disk.on_disk c.in-Ok.second.disk in
    subst₂ (λ (cause : LevelCause) (d : g.row.M.Denot). IsNotLevel c.args.issuer.now cause first second new (g.M.Disk.on_disk d))
    (sym c.started_cause.ensures) (sym c.into_disk-in-Err-start.ensures.disk)
    (not_started_first c.a_file_has_one_meaning.ensures.not_begun c.version.result c.args.issuer.now c.in-Err-start.field-0.cause
    first new second last (c.requires.first tells) (c.in-Err-start.ensures.left tells)
    (c.in-Ok.ensures.unwritten others (c.requires.second others)))

pub returns-in-Ok-start-clause-found : goal.returns-in-Ok-start-clause-found
returns-in-Ok-start-clause-found g c = λ tells others.
    let first = g.D.Disk.on_disk c.args.first in
    let second = g.M.Disk.on_disk c.args.second in
    let a = c.in-Ok-start.first in
    let b = c.in-Ok.second in
    let new = g.D.Disk.on_disk a.disk in
    let last = g.M.Disk.on_disk b.disk in
    let v = c.version.result in
    let own : a.history.version ≡ v = c.in-Ok-start.ensures.version in
    let other : v ≡ b.history.version = c.version.ensures ∙ ap (λ (h : History). h.version) c.state-in-Ok.ensures in
    let count : c.entries.result ≡ length b.history.entries = c.entries.ensures.count ∙ ap (λ (h : History). length h.entries) c.state.ensures in
    record {
      first_goes = subst (λ (w : Version). GoesUp w c.args.issuer.now a.history.entries a.history.entries first new) (sym own)
          (opened_goes v v c.args.issuer.now a.history.entries first new (c.in-Ok-start.ensures.found tells)
          (c.in-Ok-start.ensures.any_moment tells));
      second_goes = subst (λ (w : Version). GoesUp w c.args.issuer.now b.history.entries b.history.entries second last)
          (sym (own ∙ other)) (opened_goes c.args.created b.history.version c.args.issuer.now b.history.entries second last
          (c.in-Ok.ensures.found others) (c.in-Ok.ensures.any_moment others));
      unwritten = λ some. absurd (omega (arith, some, count, c.if-entries-gt0.false));
      not_begun = λ not. no_entry b.history.entries (omega (arith, count, c.if-entries-gt0.false));
      both_not_begun = λ not none. absurd (c.requires.second others none);
    }
