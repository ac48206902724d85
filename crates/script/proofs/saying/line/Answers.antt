use Rattle.std.proofs.Common.{sym}
use Rattle.script.specs.SoFar.{known}
use Rattle.script.specs.Lines.{line_said}
use Rattle.script.proofs.Reading.{answers_along, read_on, no_text}
use Rattle.script.proofs.saying.line.Goals as goal

pub returns-in-Ok : goal.returns-in-Ok
returns-in-Ok c =
    let below = rw c.in-Ok.ensures.cases.0 at c.fields_line.ensures in
    answers_along (line_said c.args.form (known c.args.read.now) c.args.text.now) _ _
    (read_on c.args.form (known c.args.read.now) c.args.text.now (sym c.if-is_empty.ensures) c.if-text-eq35.false
    c.in-Ok.ensures.cases.1) below

pub returns-in-Err : goal.returns-in-Err
returns-in-Err c =
    no_text c.args.form (known c.args.read.now) c.args.text.now (sym c.if-is_empty.ensures) c.if-text-eq35.false
    c.in-Err.ensures.cases.0
