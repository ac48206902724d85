use Rattle.command_ends.specs.DrainEnds.DrainRunEnds.{done, write_fault}
use Rattle.command_ends.proofs.DrainAnswers.{answer_ends}
use Rattle.command_ends.proofs.RunEnding.{written_part, written_whole}
use Rattle.command_ends.proofs.drains.end_by.Goals as goal

pub returns-in-Err : goal.returns-in-Err
returns-in-Err c = λ text s h. answer_ends c.args.answer.now _ text s c.args.written c.fault_end.result c.in-Err.is
    c.fault_end.ensures h

pub returns-in-Ok-written : goal.returns-in-Ok-written
returns-in-Ok-written c = λ text s h. done c.in-Ok.is (written_whole text s c.args.written _ c.in-Ok-written.is h)

pub returns-in-Err-written : goal.returns-in-Err-written
returns-in-Err-written c = λ text s h. write_fault c.in-Ok.is (written_part text s c.args.written _ c.in-Err-written.is h)
