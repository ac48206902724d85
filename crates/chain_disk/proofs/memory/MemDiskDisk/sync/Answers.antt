use Rattle.std.proofs.Common.{refl, vec_capacity, vec_len}
use Rattle.chain_disk.specs.declared.event.Event.TheVariants.{Synced, Unsynced}
use Rattle.chain_disk.proofs.Replay.{either_way, content_either, content_push, sync_failed_either, sync_told, told_push, told_either, with_room}
use Rattle.chain_disk.proofs.memory.MemDiskDisk.sync.Goals as goal

pub returns-then-next_fails-clause-recorded : goal.returns-then-next_fails-clause-recorded
returns-then-next_fails-clause-recorded c = λ listed.
    let first = c.args.self.now.first.items in
    let old = c.args.self.now.events.items in
    let new = c.note_failure.new.events.items in
    record {
      with_room = λ room. told_push first old new Unsynced (with_room c.note_failure.result old new Unsynced
          (vec_capacity c.args.self.now.events) (vec_len c.args.self.now.events) c.note_failure.ensures.ok c.note_failure.ensures.full room);
      or_not = told_either first old new Unsynced (either_way c.note_failure.result old new Unsynced
          c.note_failure.ensures.ok c.note_failure.ensures.err);
    }

pub invariant_of-self : goal.invariant_of-self
invariant_of-self c =
    let events = either_way c.note_failure.result c.args.self.now.events.items c.note_failure.new.events.items Unsynced c.note_failure.ensures.ok
    c.note_failure.ensures.err in
    record {
      content = content_either c.args.self.now.first.items _ c.args.self.now.events.items c.note_failure.new.events.items Unsynced
          events c.args.self.now.content refl;
    }

pub returns-then-next_fails-clause-err : goal.returns-then-next_fails-clause-err
returns-then-next_fails-clause-err c = λ tells.
    let events = either_way c.note_failure.result c.args.self.now.events.items c.note_failure.new.events.items Unsynced c.note_failure.ensures.ok
    c.note_failure.ensures.err in
    sync_failed_either c.args.self.now.first.items c.args.self.now.events.items c.note_failure.new.events.items events

pub invariant_of-self-in-Ok : goal.invariant_of-self-in-Ok
invariant_of-self-in-Ok c = record {
  content = content_push c.args.self.now.first.items _ c.args.self.now.events.items
      c.note.new.events.items Synced c.in-Ok.ensures.ok c.args.self.now.content;
}

pub returns-in-Ok-clause-ok : goal.returns-in-Ok-clause-ok
returns-in-Ok-clause-ok c = λ tells. sync_told c.args.self.now.first.items c.args.self.now.events.items c.note.new.events.items
    c.in-Ok.ensures.ok
