use Rattle.std.proofs.Common.{Ok, subst}
use Rattle.line_reader.specs.Lines.{line_of}
use Rattle.line_reader.specs.Lists.{with_lf, without_lf}
use Rattle.line_reader.specs.Read.{HasReadOn}
use Rattle.line_reader.specs.declared.reader.Next.{Next}
use Rattle.dialogue_loop.proofs.Dialogues.{read_past}
use Rattle.dialogue_loop.proofs.listener.Listener.next_action.Goals as goal

pub returns-in-Err-clause-line_read : goal.returns-in-Err-clause-line_read
returns-in-Err-clause-line_read g c = λ left t h.
    (tt, c.in-Err.ensures.read left t.lines h.read)

pub returns-in-Ok-End-clause-line_read : goal.returns-in-Ok-End-clause-line_read
returns-in-Ok-End-clause-line_read g c = λ left t h. (
  tt,
  subst (λ (n : Next). HasReadOn left (g.S.Source.left c.next_line.new.source) c.next_line.new.self t.lines (Ok n))
      c.in-Ok-End.field-0-is (c.in-Ok-End.ensures.read left t.lines h.read),
)

pub returns-in-Ok-clause-line_read : goal.returns-in-Ok-clause-line_read
returns-in-Ok-clause-line_read g c = λ left t h.
    let one = subst (λ (n : Next). HasReadOn left (g.S.Source.left c.next_line.new.source) c.next_line.new.self t.lines (Ok n))
    c.in-Ok-TooLong.field-0-is (c.in-Ok-TooLong.ensures.read left t.lines h.read) in
    record { line = one.long; read = one.read; on = c.in-Ok.ensures.continues one.long one.past t h.so_far }

pub returns-in-Err-long_line_action-clause-line_read : goal.returns-in-Err-long_line_action-clause-line_read
returns-in-Err-long_line_action-clause-line_read g c = λ left t h.
    let one = subst (λ (n : Next). HasReadOn left (g.S.Source.left c.next_line.new.source) c.next_line.new.self t.lines (Ok n))
    c.in-Ok-TooLong.field-0-is (c.in-Ok-TooLong.ensures.read left t.lines h.read) in
    (tt, read_past left (g.S.Source.left c.next_line.new.source) c.next_line.new.self t.lines one.long one.read)

pub returns-in-Ok-next_action-clause-line_read : goal.returns-in-Ok-next_action-clause-line_read
returns-in-Ok-next_action-clause-line_read g c = λ left t h.
    let one = subst (λ (n : Next). HasReadOn left (g.S.Source.left c.next_line.new.source) c.next_line.new.self t.lines (Ok n))
    c.in-Ok-Line.field-0-is (c.in-Ok-Line.ensures.read left t.lines h.read) in
    record {
      line = with_lf c.line.result.now;
      read = rw (c.line.ensures) one.read;
      on = c.in-Ok-next_action.ensures.continues t h.so_far;
    }

pub returns-in-Err-next_action-clause-line_read : goal.returns-in-Err-next_action-clause-line_read
returns-in-Err-next_action-clause-line_read g c = λ left t h.
    let one = subst (λ (n : Next). HasReadOn left (g.S.Source.left c.next_line.new.source) c.next_line.new.self t.lines (Ok n))
    c.in-Ok-Line.field-0-is (c.in-Ok-Line.ensures.read left t.lines h.read) in
    (tt, read_past left (g.S.Source.left c.next_line.new.source) c.next_line.new.self t.lines _ one.read)

pub returns-in-Ok-unended_line_action-clause-line_read : goal.returns-in-Ok-unended_line_action-clause-line_read
returns-in-Ok-unended_line_action-clause-line_read g c = λ left t h.
    let one = subst (λ (n : Next). HasReadOn left (g.S.Source.left c.next_line.new.source) c.next_line.new.self t.lines (Ok n))
    c.in-Ok-Unended.field-0-is (c.in-Ok-Unended.ensures.read left t.lines h.read) in
    let text = line_of c.next_line.new.self in
    record {
      line = without_lf text;
      read = one.read;
      on = c.in-Ok-unended_line_action.ensures.continues text one.within t h.so_far;
    }

pub returns-in-Err-unended_line_action-clause-line_read : goal.returns-in-Err-unended_line_action-clause-line_read
returns-in-Err-unended_line_action-clause-line_read g c = λ left t h.
    let one = subst (λ (n : Next). HasReadOn left (g.S.Source.left c.next_line.new.source) c.next_line.new.self t.lines (Ok n))
    c.in-Ok-Unended.field-0-is (c.in-Ok-Unended.ensures.read left t.lines h.read) in
    (tt, read_past left (g.S.Source.left c.next_line.new.source) c.next_line.new.self t.lines _ one.read)
