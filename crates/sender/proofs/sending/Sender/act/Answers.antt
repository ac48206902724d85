use Rattle.std.proofs.Common.{◌∙◌, sym, ap, refl, arith}
use Rattle.pacing.specs.declared.pace.Pace.{Pace}
use Rattle.pacing.specs.Pace.{is_due, due_at}
use Rattle.sender.specs.Sending.{Sending}
use Rattle.sender.specs.Turning.{Nothing, count_waiting}
use Rattle.sender.proofs.Looks.{is_look}
use Rattle.sender.proofs.sending.Sender.act.Goals as goal

pub consult-requires-clause-look : goal.consult-requires-clause-look
consult-requires-clause-look g c = is_look c.a_history_notes_its_records.ensures _ c.args.shown.now c.requires.shows
    c.requires.legal c.if-shown-records.false c.counted.ensures

pub overflow_sub-records : goal.overflow_sub-records
overflow_sub-records g c =
    let l = (is_look c.a_history_notes_its_records.ensures _ c.args.shown.now c.requires.shows c.requires.legal
    c.if-shown-records.false c.counted.ensures).some in
    omega arith

pub returns-in-Err-clause-ends : goal.returns-in-Err-clause-ends
returns-in-Err-clause-ends g c =
    let pace = ap (λ (s : Sending). s.pace) c.self.view_is in
    record {
      deed = Nothing;
      dealt = refl;
      ends = (
        (
          (is_look c.a_history_notes_its_records.ensures _ c.args.shown.now c.requires.shows c.requires.legal
              c.if-shown-records.false c.counted.ensures).some,
          sym (ap (λ (s : Sending). s.doubt) c.self.view_is) ∙ c.if-self.false,
          ap (λ (p : Pace). is_due p c.args.now (count_waiting c.args.shown.now)) (sym pace) ∙ c.in-Err.ensures.0,
          c.in-Err.ensures.1 ∙ ap due_at pace,
        ),
        refl,
        refl,
      );
    }

pub submit-requires-clause-look : goal.submit-requires-clause-look
submit-requires-clause-look g c = is_look c.a_history_notes_its_records.ensures _ c.args.shown.now c.requires.shows
    c.requires.legal c.if-shown-records.false c.counted.ensures
