use Rattle.std.proofs.Common.{◌∙◌, sym}
use Rattle.command_ends.specs.Ending.RunEnds.{done, write_fault, disk_fault, no_memory}
use Rattle.command_ends.proofs.Bytewise.{part_of_output}
use Rattle.command_ends.proofs.RunEnding.{all_replied, written_either, written_whole, written_part}
use Rattle.command_ends.proofs.ending.run_end.Goals as goal

pub returns-then-lacks_memory : goal.returns-then-lacks_memory
returns-then-lacks_memory c = λ text s h. no_memory (part_of_output s text c.args.written h)

pub returns-then-lacks_disk : goal.returns-then-lacks_disk
returns-then-lacks_disk c = λ text s h. disk_fault (sym c.lacks_memory.ensures ∙ c.if-lacks_memory.false)
    (sym c.lacks_disk.ensures ∙ c.if-lacks_disk.true) (written_either text s c.args.written h)

pub returns-in-Ok : goal.returns-in-Ok
returns-in-Ok c = λ text s h. done
    (all_replied c.args.replies.now (sym c.lacks_memory.ensures ∙ c.if-lacks_memory.false) (sym c.lacks_disk.ensures ∙
    c.if-lacks_disk.false))
    (written_whole text s c.args.written _ c.in-Ok.is h)

pub returns-in-Err : goal.returns-in-Err
returns-in-Err c = λ text s h. write_fault
    (all_replied c.args.replies.now (sym c.lacks_memory.ensures ∙ c.if-lacks_memory.false) (sym c.lacks_disk.ensures ∙
    c.if-lacks_disk.false))
    (written_part text s c.args.written _ c.in-Err.is h)
