use Rattle.std.proofs.Common.{◌≡◌, subst}
use Rattle.chain_disk.specs.OnDisk.{IsSyncFailed, synced}
use Rattle.mirror_disk.specs.Mirror.{Mirrored, told}
use Rattle.mirror_disk.proofs.Mirrors.{if_err, mirror_syncs, on_err, on_ok}
use Rattle.mirror_disk.proofs.mirror.MirrorDiskDisk.sync.Goals as goal

pub invariant_of-self : goal.invariant_of-self
invariant_of-self g c =
    let s = c.self.inside in
    let call = c.sync_both-self-inside in
    (mirror_syncs g.D.Disk.tells g.D.Disk.on_disk g.D.Disk.faults g.M.Disk.tells g.M.Disk.on_disk g.M.Disk.faults
    s.first call.new.first s.second call.new.second s.first_made.value s.second_made.value s.standing
    call.result s.faults c.answer.new.faults g.met.D.Disk.reads_an_image c.self.invariant call.ensures.whole
    call.ensures.broken).mirror

pub returns-clause-ok : goal.returns-clause-ok
returns-clause-ok g c =
    let s = c.self.inside in
    let call = c.sync_both-self-inside in
    let new : Mirrored g.row.D.Denot g.row.M.Denot = record {
      first = call.new.first;
      second = call.new.second;
      first_made = s.first_made.value;
      second_made = s.second_made.value;
      standing = call.result;
      faults = c.answer.new.faults;
    } in
    let goes = (mirror_syncs g.D.Disk.tells g.D.Disk.on_disk g.D.Disk.faults g.M.Disk.tells g.M.Disk.on_disk g.M.Disk.faults
    s.first call.new.first s.second call.new.second s.first_made.value s.second_made.value s.standing
    call.result s.faults c.answer.new.faults g.met.D.Disk.reads_an_image c.self.invariant call.ensures.whole
    call.ensures.broken).goes in
    on_ok c.answer.result c.answer.ensures.ok (λ is both. subst (λ (m : Mirrored g.row.D.Denot g.row.M.Denot).
    told g.D.Disk.on_disk g.M.Disk.on_disk new ≡ synced (told g.D.Disk.on_disk g.M.Disk.on_disk m))
    c.self.view_is ((goes both).ok is))

pub returns-clause-err : goal.returns-clause-err
returns-clause-err g c =
    let s = c.self.inside in
    let call = c.sync_both-self-inside in
    let new : Mirrored g.row.D.Denot g.row.M.Denot = record {
      first = call.new.first;
      second = call.new.second;
      first_made = s.first_made.value;
      second_made = s.second_made.value;
      standing = call.result;
      faults = c.answer.new.faults;
    } in
    let goes = (mirror_syncs g.D.Disk.tells g.D.Disk.on_disk g.D.Disk.faults g.M.Disk.tells g.M.Disk.on_disk g.M.Disk.faults
    s.first call.new.first s.second call.new.second s.first_made.value s.second_made.value s.standing
    call.result s.faults c.answer.new.faults g.met.D.Disk.reads_an_image c.self.invariant call.ensures.whole
    call.ensures.broken).goes in
    on_err c.answer.result (if_err c.answer.result c.answer.ensures.answers.0) (λ cannot both.
    subst (λ (m : Mirrored g.row.D.Denot g.row.M.Denot). IsSyncFailed
    (told g.D.Disk.on_disk g.M.Disk.on_disk m) (told g.D.Disk.on_disk g.M.Disk.on_disk new))
    c.self.view_is ((goes both).err cannot))
