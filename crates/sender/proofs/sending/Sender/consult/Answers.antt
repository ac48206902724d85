use Rattle.std.proofs.Common.{arith, ◌≡◌, ◌∙◌, sym, ap, refl, Ok, Err, length, ◌≤◌, List, [], false, subst}
use Rattle.std.proofs.lemmas.List.{length-map}
use Rattle.record_fields.specs.declared.records.Sealed.{Sealed}
use Rattle.record_fields.specs.declared.lines.Line.{Line}
use Rattle.batches.specs.Batches.{Named, huellas_of, named_of}
use Rattle.agency_port.specs.declared.answers.AgencyFault.TheVariants as agency
use Rattle.sender.specs.Sending.{Sending}
use Rattle.sender.specs.Turning.{first_place}
use Rattle.sender.proofs.Looks.{counts}
use Rattle.sender.proofs.Ending.{asked_deal, same_learns, seen_none, seen_cleared, seen_noted, no_lines, some_lines, learnt_few}
use Rattle.sender.proofs.Ending.{learns_then}
use Rattle.sender.proofs.sending.Sender.consult.Goals as goal

pub consult-requires-clause-few : goal.consult-requires-clause-few
consult-requires-clause-few g c =
    let n = counts _ c.args.shown.now c.requires.look in
    let few = n.few in
    let e = ap (λ (n : Named). length n.huellas) c.in_ok-huellas.ensures in
    let s = ap length c.as_slice-records.ensures in
    omega (arith, length-map c.as_slice-records.result.now (λ (s : Sealed). s.huella))

pub returns-in-Err-Failed-clause-ends : goal.returns-in-Err-Failed-clause-ends
returns-in-Err-Failed-clause-ends g c = λ now. asked_deal _ _ _ _ _ _ _ _ _ _ c.in_ok-huellas.huellas c.consult.result
    (Err agency.Failed) c.requires.look c.requires.doubt
    (c.in_ok-huellas.ensures ∙ ap named_of c.as_slice-records.ensures) (c.in-Err-Failed.is ∙ ap Err c.in-Err-Failed.field-0-is)
    c.consult.ensures.cause c.consult.ensures.lists c.consult.ensures.rules (refl, refl, refl)

pub returns-in-Err-NoMemory-clause-ends : goal.returns-in-Err-NoMemory-clause-ends
returns-in-Err-NoMemory-clause-ends g c = λ now. asked_deal _ _ _ _ _ _ _ _ _ _ c.in_ok-huellas.huellas c.consult.result
    (Err agency.NoMemory) c.requires.look c.requires.doubt
    (c.in_ok-huellas.ensures ∙ ap named_of c.as_slice-records.ensures) (c.in-Err-NoMemory.is ∙
    ap Err c.in-Err-NoMemory.field-0-is) c.consult.ensures.cause c.consult.ensures.lists c.consult.ensures.rules
    (refl, refl, refl)

pub overflow_add-shown : goal.overflow_add-shown
overflow_add-shown g c = let l = c.requires.look.some in let m = c.requires.look.small in omega arith

pub learn-requires-clause-room : goal.learn-requires-clause-room
learn-requires-clause-room g c =
    let n = (counts _ c.args.shown.now c.requires.look).room in
    let m = c.requires.look.small in
    let s = ap length c.as_slice-records.ensures in
    omega arith

pub returns-in-Err-clause-ends : goal.returns-in-Err-clause-ends
returns-in-Err-clause-ends g c = λ now.
    let records = c.as_slice-records.ensures in
    let hs = c.in_ok-huellas.ensures ∙ ap named_of records in
    asked_deal _ _ _ _ _ _ _ _ _ _ c.in_ok-huellas.huellas c.consult.result (Ok c.in-Ok.seen) c.requires.look c.requires.doubt
    hs c.in-Ok.is c.consult.ensures.cause c.consult.ensures.lists c.consult.ensures.rules
    (seen_none c.args.self.now (record {
      doubt = c.self.inside.in_doubt;
      pace = c.self.inside.at_pace;
      said = c.take-said.new.self;
    }) c.args.shown.now c.in-Ok.seen _ c.in-Err.fault
    (c.in-Ok.ensures.count ∙ ap (λ (n : Named). length n.huellas) hs ∙ length-map c.args.shown.now.list (λ (s : Sealed). s.huella))
    (ap (λ (s : Sending). s.pace) c.self.view_is) c.take-said.ensures.after (ap (λ (s : Sending). s.doubt) c.self.view_is ∙
    c.requires.doubt)
    (same_learns c.take-said.result c.args.self.now.said (first_place c.args.shown.now) c.as_slice-records.result.now
    c.args.shown.now.list c.as_slice.result.now c.in-Ok.seen (Err c.in-Err.fault)
    (c.take-said.ensures.value ∙ ap (λ (s : Sending). s.said) c.self.view_is) records c.as_slice.ensures c.in-Err.ensures))

pub returns-then-is_empty-clause-ends : goal.returns-then-is_empty-clause-ends
returns-then-is_empty-clause-ends g c = λ now.
    let records = c.as_slice-records.ensures in
    let hs = c.in_ok-huellas.ensures ∙ ap named_of records in
    let none : c.in-Ok-learn.lines ≡ [] = sym c.as_slice-in-Ok-learn.ensures ∙ no_lines c.as_slice-in-Ok-learn.result.now
    c.is_empty.result c.is_empty.ensures c.if-is_empty.true in
    asked_deal _ _ _ _ _ _ _ _ _ _ c.in_ok-huellas.huellas c.consult.result (Ok c.in-Ok.seen) c.requires.look c.requires.doubt
    hs c.in-Ok.is c.consult.ensures.cause c.consult.ensures.lists c.consult.ensures.rules
    (seen_cleared c.args.self.now (record { doubt = false; pace = c.self.inside.at_pace; said = c.take-said.new.self })
    c.args.shown.now c.in-Ok.seen _ c.in-Ok-learn.lines
    (c.in-Ok.ensures.count ∙ ap (λ (n : Named). length n.huellas) hs ∙ length-map c.args.shown.now.list (λ (s : Sealed). s.huella))
    (ap (λ (s : Sending). s.pace) c.self.view_is) c.take-said.ensures.after refl none
    (same_learns c.take-said.result c.args.self.now.said (first_place c.args.shown.now) c.as_slice-records.result.now
    c.args.shown.now.list c.as_slice.result.now c.in-Ok.seen (Ok c.in-Ok-learn.lines)
    (c.take-said.ensures.value ∙ ap (λ (s : Sending). s.said) c.self.view_is) records c.as_slice.ensures c.in-Ok-learn.ensures))

pub note-requires-clause-few : goal.note-requires-clause-few
note-requires-clause-few g c =
    let n = (counts _ c.args.shown.now c.requires.look).few in
    let f = learnt_few c.in-Ok-learn.lines c.as_slice.result.now c.in-Ok-learn.ensures.0 in
    let a = ap length c.as_slice.ensures in
    let b = c.in-Ok.ensures.count in
    let h = ap (λ (n : Named). length n.huellas) c.in_ok-huellas.ensures in
    let r = ap length c.as_slice-records.ensures in
    let l = ap length c.as_slice-in-Ok-learn-2.ensures in
    omega (arith, length-map c.as_slice-records.result.now (λ (s : Sealed). s.huella))

pub note-requires-clause-fits : goal.note-requires-clause-fits
note-requires-clause-fits g c =
    let n = (counts _ c.args.shown.now c.requires.look).fits in
    let f = learnt_few c.in-Ok-learn.lines c.as_slice.result.now c.in-Ok-learn.ensures.0 in
    let a = ap length c.as_slice.ensures in
    let b = c.in-Ok.ensures.count in
    let h = ap (λ (n : Named). length n.huellas) c.in_ok-huellas.ensures in
    let r = ap length c.as_slice-records.ensures in
    let l = ap length c.as_slice-in-Ok-learn-2.ensures in
    omega (arith, length-map c.as_slice-records.result.now (λ (s : Sealed). s.huella))

pub returns-clause-ends : goal.returns-clause-ends
returns-clause-ends g c = λ now.
    let records = c.as_slice-records.ensures in
    let hs = c.in_ok-huellas.ensures ∙ ap named_of records in
    let lines = c.as_slice-in-Ok-learn-2.ensures in
    asked_deal _ _ _ _ _ _ _ _ _ _ c.in_ok-huellas.huellas c.consult.result (Ok c.in-Ok.seen) c.requires.look c.requires.doubt
    hs c.in-Ok.is c.consult.ensures.cause c.consult.ensures.lists c.consult.ensures.rules
    (seen_noted c.args.self.now (record {
      doubt = c.self.inside.in_doubt;
      pace = c.self.inside.at_pace;
      said = c.take-said.new.self;
    }) c.note.new.self c.args.shown.now c.in-Ok.seen _ _ c.as_slice-in-Ok-learn-2.result.now
    c.note.result
    (c.in-Ok.ensures.count ∙ ap (λ (n : Named). length n.huellas) hs ∙ length-map c.args.shown.now.list (λ (s : Sealed). s.huella))
    (ap (λ (s : Sending). s.pace) c.self.view_is) c.take-said.ensures.after (ap (λ (s : Sending). s.doubt) c.self.view_is ∙
    c.requires.doubt)
    (subst (λ (ls : List Line). 1 ≤ length ls) (c.as_slice-in-Ok-learn.ensures ∙ sym lines)
    (some_lines c.as_slice-in-Ok-learn.result.now c.is_empty.result c.is_empty.ensures c.if-is_empty.false))
    (let n = (counts _ c.args.shown.now c.requires.look).few in
    let f = learnt_few c.in-Ok-learn.lines c.as_slice.result.now c.in-Ok-learn.ensures.0 in
    let a = ap length c.as_slice.ensures in
    let b = c.in-Ok.ensures.count in
    let h = ap (λ (n : Named). length n.huellas) c.in_ok-huellas.ensures in
    let r = ap length records in
    let l = ap length lines in
    omega (arith, length-map c.as_slice-records.result.now (λ (s : Sealed). s.huella)))
    (same_learns c.take-said.result c.args.self.now.said (first_place c.args.shown.now) c.as_slice-records.result.now
    c.args.shown.now.list c.as_slice.result.now c.in-Ok.seen (Ok c.as_slice-in-Ok-learn-2.result.now)
    (c.take-said.ensures.value ∙ ap (λ (s : Sending). s.said) c.self.view_is) records c.as_slice.ensures
    (learns_then c.take-said.result (first_place c.args.shown.now) (huellas_of c.as_slice-records.result.now)
    c.as_slice.result.now c.in-Ok-learn.lines c.as_slice-in-Ok-learn-2.result.now (sym lines) c.in-Ok-learn.ensures))
    c.note.ensures.ends)
