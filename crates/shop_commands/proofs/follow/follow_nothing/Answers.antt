use Rattle.std.proofs.Common.{inl, sym, subst}
use Rattle.chain_disk.specs.Disks.{this_disk}
use Rattle.ports.specs.Sinks.{this_sink}
use Rattle.report.specs.declared.status.Detail.{Detail}
use Rattle.file_commands.proofs.Bytewise.{took_nothing}
use Rattle.shop_commands.specs.Follow.{FollowEnds}
use Rattle.shop_commands.proofs.Follows.{beside_ends, copy_failed, nothing_ends}
use Rattle.shop_commands.proofs.follow.follow_nothing.Goals as goal

pub returns-in-Err-clause-ends : goal.returns-in-Err-clause-ends
returns-in-Err-clause-ends g c = λ file none.
    let s = this_sink g.K.Sink.taken g.K.Sink.faults c.args.sink.now c.args.sink.now in
    let new = this_disk g.D.Disk.tells g.D.Disk.on_disk g.D.Disk.faults c.args.copy c.load.new.disk in
    subst (λ (d : Detail). FollowEnds s file new d) (sym c.load_end.ensures)
    (copy_failed s file new c.in-Err.fault none c.in-Err.ensures.damaged c.in-Err.ensures.fault
    (took_nothing (g.K.Sink.taken c.args.sink.now)))

pub returns-in-Ok-NotBegun-clause-ends : goal.returns-in-Ok-NotBegun-clause-ends
returns-in-Ok-NotBegun-clause-ends g c = λ file none.
    let s = this_sink g.K.Sink.taken g.K.Sink.faults c.args.sink.now c.print_counts.new.sink in
    let new = this_disk g.D.Disk.tells g.D.Disk.on_disk g.D.Disk.faults c.args.copy c.load.new.disk in
    nothing_ends s file new c.print_counts.result none
    (λ tell. inl (rw c.in-Ok-NotBegun.field-0-is at (c.in-Ok-NotBegun.ensures.content tell))) c.print_counts.ensures

pub returns-in-Ok-Begun-clause-ends : goal.returns-in-Ok-Begun-clause-ends
returns-in-Ok-Begun-clause-ends g c = λ file none.
    let s = this_sink g.K.Sink.taken g.K.Sink.faults c.args.sink.now c.beside_nothing.new.sink in
    let new = this_disk g.D.Disk.tells g.D.Disk.on_disk g.D.Disk.faults c.args.copy c.load.new.disk in
    let copy = c.in-Ok-Begun.state in
    beside_ends s file new c.beside_nothing.result copy.version copy.issuer copy.entries none
    (λ tell. (rw c.in-Ok-Begun.field-0-is at (c.in-Ok-Begun.ensures.content tell)).0) c.load.ensures.same
    c.beside_nothing.ensures
