use Rattle.std.proofs.Common.{refl, sym, subst}
use Rattle.chain_disk.specs.Disks.{this_disk}
use Rattle.ports.specs.Sinks.{this_sink}
use Rattle.report.specs.declared.status.Detail.{Detail}
use Rattle.file_commands.proofs.Bytewise.{took_nothing}
use Rattle.shop_commands.specs.Follow.{FollowEnds}
use Rattle.shop_commands.proofs.Follows.{load_failed, only_followed, only_left}
use Rattle.shop_commands.proofs.follow.follow_file.Goals as goal

pub returns-in-Err-clause-ends : goal.returns-in-Err-clause-ends
returns-in-Err-clause-ends g c =
    let s = this_sink g.K.Sink.taken g.K.Sink.faults c.args.sink.now c.args.sink.now in
    let file = this_disk g.D.Disk.tells g.D.Disk.on_disk g.D.Disk.faults c.args.shop.now c.load.new.disk in
    let new = this_disk g.D.Disk.tells g.D.Disk.on_disk g.D.Disk.faults c.args.copy c.args.copy in
    subst (λ (d : Detail). FollowEnds s file new d) (sym c.load_end.ensures)
    (load_failed s file new c.in-Err.fault c.in-Err.ensures.damaged c.in-Err.ensures.fault
    (took_nothing (g.K.Sink.taken c.args.sink.now)))

pub returns-in-Err-clause-follows : goal.returns-in-Err-clause-follows
returns-in-Err-clause-follows g c =
    only_left (this_disk g.D.Disk.tells g.D.Disk.on_disk g.D.Disk.faults c.args.shop.now c.load.new.disk)
    g.D.Disk.tells g.D.Disk.on_disk g.D.Disk.faults c.args.copy c.args.copy refl
    (λ disk tells. g.met.D.Disk.reads_an_image disk tells)

pub returns-in-Ok-NotBegun-clause-ends : goal.returns-in-Ok-NotBegun-clause-ends
returns-in-Ok-NotBegun-clause-ends g c =
    c.follow_nothing.ensures.ends (this_disk g.D.Disk.tells g.D.Disk.on_disk g.D.Disk.faults c.args.shop.now c.load.new.disk)
    (λ tells. rw c.in-Ok-NotBegun.field-0-is at (c.in-Ok-NotBegun.ensures.content tells))

pub returns-in-Ok-NotBegun-clause-follows : goal.returns-in-Ok-NotBegun-clause-follows
returns-in-Ok-NotBegun-clause-follows g c =
    only_left (this_disk g.D.Disk.tells g.D.Disk.on_disk g.D.Disk.faults c.args.shop.now c.load.new.disk)
    g.D.Disk.tells g.D.Disk.on_disk g.D.Disk.faults c.args.copy c.follow_nothing.result.1 c.follow_nothing.ensures.same
    (λ disk tells. g.met.D.Disk.reads_an_image disk tells)

pub returns-in-Ok-Begun-clause-ends : goal.returns-in-Ok-Begun-clause-ends
returns-in-Ok-Begun-clause-ends g c =
    c.follow_state.ensures.ends (this_disk g.D.Disk.tells g.D.Disk.on_disk g.D.Disk.faults c.args.shop.now c.load.new.disk)
    (λ tells. (rw c.in-Ok-Begun.field-0-is at (c.in-Ok-Begun.ensures.content tells)).0)

pub returns-in-Ok-Begun-clause-follows : goal.returns-in-Ok-Begun-clause-follows
returns-in-Ok-Begun-clause-follows g c =
    let state = c.in-Ok-Begun.state in
    let one = c.a_file_has_one_meaning.ensures in
    only_followed one.history one.not_begun one.sound
    (this_disk g.D.Disk.tells g.D.Disk.on_disk g.D.Disk.faults c.args.shop.now c.load.new.disk)
    g.D.Disk.tells g.D.Disk.on_disk g.D.Disk.faults c.args.copy c.follow_state.result.1 state.version state.issuer state.entries
    (λ tells. (rw c.in-Ok-Begun.field-0-is at (c.in-Ok-Begun.ensures.content tells)).0) c.follow_state.ensures.images
    c.follow_state.ensures.never_loses
