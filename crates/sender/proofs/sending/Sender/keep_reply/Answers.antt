use Rattle.std.proofs.Common.{◌≡◌, ◌∙◌, sym, ap, refl, arith, length, ℕ, Some, List, map, subst}
use Rattle.batches.specs.Batches.{huellas_of}
use Rattle.std.proofs.lemmas.List.{length-map}
use Rattle.record_fields.specs.declared.records.Sealed.{Sealed}
use Rattle.record_fields.specs.declared.lines.Line.{Line}
use Rattle.agency_port.specs.declared.answers.ReplyLine.TheVariants.{First}
use Rattle.agency_replies.specs.Sorting.{SortedAs}
use Rattle.agency_replies.specs.declared.sorting.Sorted.{Sorted}
use Rattle.sender.specs.Sending.{Sending}
use Rattle.sender.proofs.Looks.{counts}
use Rattle.sender.proofs.Ending.{as_many, reply_noted, again_within}
use Rattle.sender.proofs.sending.Sender.keep_reply.Goals as goal

pub overflow_add-result-in-Ok-Doubt : goal.overflow_add-result-in-Ok-Doubt
overflow_add-result-in-Ok-Doubt g c =
    let s = subst (λ (s : Sorted). SortedAs c.args.batch.now c.args.reply s) c.in-Ok-Doubt.field-0-is c.in-Ok-Doubt.ensures in
    let w = again_within c.args.reply.lines c.in-Ok-Doubt.index s.1 in
    let room = (counts _ c.args.shown.now c.requires.look).room in
    let small = c.requires.look.small in
    let m = c.lines-matched.ensures.matched in
    let v = ap length c.lines-matched.ensures.value in
    let n = ap length c.requires.names in
    let b = ap length c.requires.all in
    omega (arith, length-map c.args.batch.now (λ (s : Sealed). s.huella))

pub note-requires-clause-few : goal.note-requires-clause-few
note-requires-clause-few g c =
    let s = subst (λ (s : Sorted). SortedAs c.args.batch.now c.args.reply s) c.in-Ok-All.field-0-is c.in-Ok-All.ensures in
    let m = as_many c.args.reply c.args.batch.now c.in-Ok-All.lines c.requires.names
    (ap length (sym c.lines-matched.ensures.value) ∙ c.lines-matched.ensures.matched) s.1 in
    let few = (counts _ c.args.shown.now c.requires.look).few in
    let b = ap length c.requires.all in
    let l = ap length c.as_slice.ensures in
    omega arith

pub note-requires-clause-fits : goal.note-requires-clause-fits
note-requires-clause-fits g c =
    let s = subst (λ (s : Sorted). SortedAs c.args.batch.now c.args.reply s) c.in-Ok-All.field-0-is c.in-Ok-All.ensures in
    let m = as_many c.args.reply c.args.batch.now c.in-Ok-All.lines c.requires.names
    (ap length (sym c.lines-matched.ensures.value) ∙ c.lines-matched.ensures.matched) s.1 in
    let fits = (counts _ c.args.shown.now c.requires.look).fits in
    let b = ap length c.requires.all in
    let l = ap length c.as_slice.ensures in
    omega arith

pub returns-in-Ok-All-clause-ends : goal.returns-in-Ok-All-clause-ends
returns-in-Ok-All-clause-ends g c =
    let s = subst (λ (s : Sorted). SortedAs c.args.batch.now c.args.reply s) c.in-Ok-All.field-0-is c.in-Ok-All.ensures in
    let matched = ap length (sym c.lines-matched.ensures.value) ∙ c.lines-matched.ensures.matched in
    let m = as_many c.args.reply c.args.batch.now c.in-Ok-All.lines c.requires.names matched s.1 in
    let n = counts _ c.args.shown.now c.requires.look in
    let b = ap length c.requires.all in
    let l = ap length c.as_slice.ensures in
    let some = n.some in
    let few = n.few in
    let pace : c.told.new.self ≡ record { last = c.args.self.now.pace.last; wait = c.args.reply.wait } =
    c.told.ensures ∙ ap (λ (k : ℕ). record { last = c.self.inside.at_pace.last; wait = k }) c.wait.ensures ∙
    ap (λ (t : Sending). record { last = t.pace.last; wait = c.args.reply.wait }) c.self.view_is in
    reply_noted (record { doubt = c.self.inside.in_doubt; pace = c.told.new.self; said = Some c.args.reply }) c.note.new.self
    c.args.self.now.pace.last c.args.shown.now c.args.reply _ _ c.as_slice.result.now c.note.result
    (c.requires.names ∙ ap huellas_of c.requires.all) matched pace refl (ap (λ (t : Sending). t.doubt) c.self.view_is ∙
    c.requires.doubt) (omega arith) (omega arith)
    (s.1 ∙ ap (λ (ls : List Line). map First ls) (sym c.as_slice.ensures)) c.note.ensures.ends
