use Rattle.std.proofs.Common.{◌≡◌, ◌≤◌, ap, subst, sym, ◌∙◌, List, length, Result}
use Rattle.journal.specs.declared.faults.StoreFault.{StoreFault}
use Rattle.once_world.specs.Outbox.{Grows, HasStopped, NotedBy, OwnWithin}
use Rattle.record_codec.specs.declared.entry.Entry.{Entry}
use Rattle.shop_core.specs.History.{waiting}
use Rattle.standby.specs.Pairs.{Both, Paired, sight_of}
use Rattle.standby.proofs.Sights.{entries_seen, grows_by, noted_by, room_for, told_by, within_seen}
use Rattle.standby.proofs.pair.PairOutbox.note.Goals as goal

pub note_both-requires-clause-fits : goal.note_both-requires-clause-fits
note_both-requires-clause-fits g c =
    subst (λ (es : List Entry). length c.args.lines.now ≤ length (waiting es)) (entries_seen c.args.self.now.present)
    c.requires.fits

pub returns-clause-grows : goal.returns-clause-grows
returns-clause-grows g c =
    let old = c.args.self.now in
    let new = c.note_both.new.self in
    let e = c.note_both.ensures in
    let v : Paired g.row.D.Denot g.row.C.Denot g.row.M.Denot = record { start = old.start; present = new.present } in
    let is : new ≡ v = ap (λ (s : Both g.row.D.Denot g.row.C.Denot g.row.M.Denot).
    let w : Paired g.row.D.Denot g.row.C.Denot g.row.M.Denot = record { start = s; present = new.present } in w) e.start in
    subst (λ (w : Paired g.row.D.Denot g.row.C.Denot g.row.M.Denot). Grows (sight_of old) (sight_of w)) (sym is)
    (grows_by g.D.Disk.tells g.D.Disk.on_disk g.D.Disk.faults g.M.Disk.tells g.M.Disk.on_disk g.M.Disk.faults old.start
    old.present new.present c.args.lines.now e.pair e.after c.note_both.result
    (e.after.standby_goes.issuer ∙ sym e.pair.standby_goes.issuer)
    (e.after.standby_goes.version ∙ sym e.pair.standby_goes.version) e.notes)

pub returns-clause-within : goal.returns-clause-within
returns-clause-within g c =
    let old = c.args.self.now in
    let new = c.note_both.new.self in
    let e = c.note_both.ensures in
    let v : Paired g.row.D.Denot g.row.C.Denot g.row.M.Denot = record { start = old.start; present = new.present } in
    let is : new ≡ v = ap (λ (s : Both g.row.D.Denot g.row.C.Denot g.row.M.Denot).
    let w : Paired g.row.D.Denot g.row.C.Denot g.row.M.Denot = record { start = s; present = new.present } in w) e.start in
    subst (λ (w : Paired g.row.D.Denot g.row.C.Denot g.row.M.Denot). OwnWithin (sight_of w)) (sym is)
    (within_seen g.D.Disk.tells g.D.Disk.on_disk g.D.Disk.faults g.M.Disk.tells g.M.Disk.on_disk g.M.Disk.faults old.start
    new.present e.after)

pub returns-clause-noted : goal.returns-clause-noted
returns-clause-noted g c =
    let old = c.args.self.now in
    let new = c.note_both.new.self in
    let e = c.note_both.ensures in
    let v : Paired g.row.D.Denot g.row.C.Denot g.row.M.Denot = record { start = old.start; present = new.present } in
    let is : new ≡ v = ap (λ (s : Both g.row.D.Denot g.row.C.Denot g.row.M.Denot).
    let w : Paired g.row.D.Denot g.row.C.Denot g.row.M.Denot = record { start = s; present = new.present } in w) e.start in
    let few = subst (λ (es : List Entry). length c.args.lines.now ≤ length (waiting es)) (entries_seen old.present)
    c.requires.fits in
    let whole = c.a_history_notes_its_records.ensures old.present.standby.history.version old.present.standby.history.issuer old.present.standby.history.entries
    e.pair.standby.legal in
    subst (λ (w : Paired g.row.D.Denot g.row.C.Denot g.row.M.Denot). NotedBy (sight_of old) (sight_of w) c.args.lines.now
    c.note_both.result) (sym is)
    (noted_by g.D.Disk.tells g.D.Disk.on_disk g.D.Disk.faults g.M.Disk.tells g.M.Disk.on_disk g.M.Disk.faults old.start
    old.present new.present c.args.lines.now e.pair e.after c.note_both.result
    (room_for old.present.standby.history.entries c.args.lines.now few whole) e.notes)

pub returns-clause-stopped : goal.returns-clause-stopped
returns-clause-stopped g c = λ faults.
    let old = c.args.self.now in
    let new = c.note_both.new.self in
    let e = c.note_both.ensures in
    let v : Paired g.row.D.Denot g.row.C.Denot g.row.M.Denot = record { start = old.start; present = new.present } in
    let is : new ≡ v = ap (λ (s : Both g.row.D.Denot g.row.C.Denot g.row.M.Denot).
    let w : Paired g.row.D.Denot g.row.C.Denot g.row.M.Denot = record { start = s; present = new.present } in w) e.start in
    let few = subst (λ (es : List Entry). length c.args.lines.now ≤ length (waiting es)) (entries_seen old.present)
    c.requires.fits in
    let whole = c.a_history_notes_its_records.ensures old.present.standby.history.version old.present.standby.history.issuer old.present.standby.history.entries
    e.pair.standby.legal in
    let told = noted_by g.D.Disk.tells g.D.Disk.on_disk g.D.Disk.faults g.M.Disk.tells g.M.Disk.on_disk g.M.Disk.faults
    old.start old.present new.present c.args.lines.now e.pair e.after c.note_both.result
    (room_for old.present.standby.history.entries c.args.lines.now few whole) e.notes in (
      λ answer. subst (λ (w : Paired g.row.D.Denot g.row.C.Denot g.row.M.Denot). HasStopped (sight_of old) (sight_of w) faults)
          (sym is)
          (subst (λ (r : Result (Unit {0}) StoreFault). NotedBy (sight_of old) (sight_of v) c.args.lines.now r) answer told),
      λ stopped. told_by g.D.Disk.tells g.D.Disk.on_disk g.D.Disk.faults g.M.Disk.tells g.M.Disk.on_disk g.M.Disk.faults
          old.start old.present new.present c.args.lines.now e.pair e.after c.note_both.result faults e.notes
          (subst (λ (w : Paired g.row.D.Denot g.row.C.Denot g.row.M.Denot). HasStopped (sight_of old) (sight_of w) faults) is
          stopped),
    )
