use Rattle.std.proofs.Common.{◌≡◌, rules}
use Rattle.chain_disk.proofs.memory.note_write.Goals as goal

pub returns-in_ok-note-clause-event : goal.returns-in_ok-note-clause-event
returns-in_ok-note-clause-event c =
    let same : c.in_ok-copy.copy.items ≡ c.args.bytes.now = search rules in
    (c.in_ok-copy.copy, same, c.in_ok-note.ensures.ok)
