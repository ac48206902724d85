use Rattle.std.proofs.Common.{refl, length, vec_capacity, vec_len}
use Rattle.chain_disk.specs.Memory.{content_of}
use Rattle.chain_disk.specs.declared.event.Event.TheVariants.{Tore}
use Rattle.chain_disk.proofs.Replay.{either_way, content_either, content_wrote, write_failed_either, write_told, told_push, told_either, with_room}
use Rattle.chain_disk.proofs.memory.MemDiskDisk.write_at.Goals as goal

pub returns-then-next_fails-clause-recorded : goal.returns-then-next_fails-clause-recorded
returns-then-next_fails-clause-recorded c = λ listed.
    let first = c.args.self.now.first.items in
    let old = c.args.self.now.events.items in
    let new = c.note_failure.new.events.items in
    let event = Tore c.args.at (length c.args.bytes.now) in
    record {
      with_room = λ room. told_push first old new event (with_room c.note_failure.result old new event
          (vec_capacity c.args.self.now.events) (vec_len c.args.self.now.events) c.note_failure.ensures.ok c.note_failure.ensures.full room);
      or_not = told_either first old new event (either_way c.note_failure.result old new event
          c.note_failure.ensures.ok c.note_failure.ensures.err);
    }

pub invariant_of-self : goal.invariant_of-self
invariant_of-self c =
    let events = either_way c.note_failure.result c.args.self.now.events.items c.note_failure.new.events.items
    (Tore c.args.at (length c.args.bytes.now)) c.note_failure.ensures.ok c.note_failure.ensures.err in
    record {
      content = content_either c.args.self.now.first.items _ c.args.self.now.events.items c.note_failure.new.events.items
          (Tore c.args.at (length c.args.bytes.now)) events c.args.self.now.content refl;
    }

pub returns-then-next_fails-clause-err : goal.returns-then-next_fails-clause-err
returns-then-next_fails-clause-err c = λ tells.
    let events = either_way c.note_failure.result c.args.self.now.events.items c.note_failure.new.events.items
    (Tore c.args.at (length c.args.bytes.now)) c.note_failure.ensures.ok c.note_failure.ensures.err in
    write_failed_either c.args.self.now.first.items c.args.self.now.events.items c.note_failure.new.events.items c.args.at
    (length c.args.bytes.now) events

pub invariant_of-self-in-Ok : goal.invariant_of-self-in-Ok
invariant_of-self-in-Ok c =
    let event = c.in-Ok.ensures.event in
    record {
      content = content_wrote c.args.self.now.first.items (content_of c.args.self.now.first.items c.args.self.now.current)
          (content_of c.args.self.now.first.items c.note_write.new.current) c.args.bytes.now c.args.self.now.events.items
          c.note_write.new.events.items c.args.at event.0 event.2 event.1
          c.args.self.now.content (rw c.deref-2.ensures.value at c.in-Ok.ensures.content);
    }

pub returns-in-Ok-clause-ok : goal.returns-in-Ok-clause-ok
returns-in-Ok-clause-ok c = λ tells.
    let event = c.in-Ok.ensures.event in
    write_told c.args.self.now.first.items c.args.bytes.now c.args.self.now.events.items c.note_write.new.events.items c.args.at
    event.0 event.2 event.1
