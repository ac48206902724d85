use Rattle.std.proofs.Common.{◌≡◌, ◌∙◌, List, ℕ, subst, sym}
use Rattle.chain_disk.specs.Disks.{this_disk}
use Rattle.ports.specs.Sinks.{this_sink}
use Rattle.report.specs.Moves.{migrated_text}
use Rattle.report.specs.declared.status.Detail.{Detail}
use Rattle.report.specs.declared.status.Detail.TheVariants as detail
use Rattle.file_commands.proofs.Bytewise.{took_nothing}
use Rattle.file_commands.specs.Output.{PrintEnds}
use Rattle.shop_commands.specs.Migrate.{MigrateEnds}
use Rattle.shop_commands.specs.Migrate.MigrateEnds.{moved, untold, not_moved}
use Rattle.shop_commands.proofs.migrate.move_file.Goals as goal

pub returns-in-Err-clause-ends : goal.returns-in-Err-clause-ends
returns-in-Err-clause-ends g c =
    let s = this_sink g.K.Sink.taken g.K.Sink.faults c.args.sink.now c.args.sink.now in
    let old = this_disk g.D.Disk.tells g.D.Disk.on_disk g.D.Disk.faults c.args.old.now c.migrate_counted.new.old in
    let new = this_disk g.D.Disk.tells g.D.Disk.on_disk g.D.Disk.faults c.args.new c.in-Err.fault.new in
    subst (λ (d : Detail). MigrateEnds s old new d) (sym c.move_end.ensures)
    (not_moved c.in-Err.fault.cause c.in-Err.ensures.cause (took_nothing (g.K.Sink.taken c.args.sink.now)))

pub returns-in-Ok-migrated_text-clause-ends : goal.returns-in-Ok-migrated_text-clause-ends
returns-in-Ok-migrated_text-clause-ends g c =
    let s = this_sink g.K.Sink.taken g.K.Sink.faults c.args.sink.now c.print.new.sink in
    let same : c.as_slice.result.now ≡ migrated_text c.in-Ok.moved.records c.in-Ok.moved.noted =
    c.as_slice.ensures ∙ c.in-Ok-migrated_text.ensures in
    moved c.in-Ok.moved.records c.in-Ok.moved.noted c.print.result
    (record {
      free = c.in-Ok.ensures.moved.free;
      counts = c.in-Ok.ensures.counts;
      every_crash = c.in-Ok.ensures.moved.every_crash;
      reads = c.in-Ok.ensures.moved.reads;
    })
    (subst (λ (t : List ℕ). PrintEnds t detail.Done s c.print.result) same c.print.ensures)

pub returns-in-Err-migrated_text-clause-ends : goal.returns-in-Err-migrated_text-clause-ends
returns-in-Err-migrated_text-clause-ends g c =
    untold c.in-Ok.moved.records c.in-Ok.moved.noted
    (record {
      free = c.in-Ok.ensures.moved.free;
      counts = c.in-Ok.ensures.counts;
      every_crash = c.in-Ok.ensures.moved.every_crash;
      reads = c.in-Ok.ensures.moved.reads;
    })
    (took_nothing (g.K.Sink.taken c.args.sink.now))

pub returns-in-Err-clause-moves : goal.returns-in-Err-clause-moves
returns-in-Err-clause-moves g c = record {
  images = c.in-Err.ensures.not_moved.any_moment;
  kept = c.in-Err.ensures.not_moved.kept;
  never_loses = c.in-Err.ensures.not_moved.never_loses;
}

pub returns-in-Ok-migrated_text-clause-moves : goal.returns-in-Ok-migrated_text-clause-moves
returns-in-Ok-migrated_text-clause-moves g c = record {
  images = c.in-Ok.ensures.moved.any_moment;
  kept = λ old new unfree. absurd (unfree (c.in-Ok.ensures.moved.free old new));
  never_loses = c.in-Ok.ensures.moved.never_loses;
}

pub returns-in-Err-migrated_text-clause-moves : goal.returns-in-Err-migrated_text-clause-moves
returns-in-Err-migrated_text-clause-moves g c = record {
  images = c.in-Ok.ensures.moved.any_moment;
  kept = λ old new unfree. absurd (unfree (c.in-Ok.ensures.moved.free old new));
  never_loses = c.in-Ok.ensures.moved.never_loses;
}
