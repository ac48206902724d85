use Rattle.file_commands.proofs.Bytewise.{failed_in_first, wrote_both}
use Rattle.file_commands.proofs.output.write_texts.Goals as goal

pub returns-in-Ok : goal.returns-in-Ok
returns-in-Ok g c =
    wrote_both (g.K.Sink.taken c.args.sink.now) _ _ _ _ _ c.args.first.now c.args.second.now _ c.in-Ok.ensures.output
    c.in-Ok.ensures.later c.write_text-in-Ok.ensures.output

pub returns-in-Err : goal.returns-in-Err
returns-in-Err g c = failed_in_first _ c.args.first.now c.args.second.now c.in-Err.ensures.output
