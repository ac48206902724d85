use Rattle.std.proofs.Common.{ℕ, ◌∙◌, sym, ap, refl, Ok, Err, inl, inr, List, subst}
use Rattle.record_fields.specs.declared.records.Sealed.{Sealed}
use Rattle.record_fields.specs.Links.{LinkedRun}
use Rattle.agency_port.specs.declared.answers.AgencyFault.TheVariants as agency
use Rattle.pacing.specs.declared.pace.Pace.{Pace}
use Rattle.sender.specs.Sending.{Sending}
use Rattle.sender.specs.Turning.{Replies}
use Rattle.sender.proofs.Looks.{shown_linked, cut_all}
use Rattle.sender.proofs.Ending.{handed_deal, unanswered_is, stale_ends}
use Rattle.sender.proofs.sending.Sender.submit.Goals as goal

pub cut-requires : goal.cut-requires
cut-requires g c = subst (λ (xs : List Sealed). LinkedRun xs) (sym c.as_slice.ensures)
    (shown_linked c.a_run_of_a_history_is_linked.ensures _ c.args.shown.now c.requires.look)

pub returns-in-Err-Failed-clause-ends : goal.returns-in-Err-Failed-clause-ends
returns-in-Err-Failed-clause-ends g c =
    let all = cut_all _ c.args.shown.now c.as_slice.result.now c.in_ok-batch.field-0 c.in-Some.batch c.requires.look
    c.as_slice.ensures c.in-Some.is c.in_ok-batch.ensures.some in
    handed_deal _ _ _ _ _ _ _ _ _ _ c.in-Some.batch c.submit.result (Err agency.Failed) c.requires.look c.requires.doubt
    c.requires.due all (c.in-Err-Failed.is ∙ ap Err c.in-Err-Failed.field-0-is)
    c.submit.ensures.cause c.submit.ensures.stale c.submit.ensures.lists c.submit.ensures.rules (
      refl,
      unanswered_is c.args.self.now c.args.now c.self.inside.at_pace c.sent.new.self c.self.inside.last_said
          (ap (λ (s : Sending). s.pace) c.self.view_is) c.sent.ensures (ap (λ (s : Sending). s.said) c.self.view_is),
      refl,
    )

pub returns-in-Err-NoMemory-clause-ends : goal.returns-in-Err-NoMemory-clause-ends
returns-in-Err-NoMemory-clause-ends g c =
    let all = cut_all _ c.args.shown.now c.as_slice.result.now c.in_ok-batch.field-0 c.in-Some.batch c.requires.look
    c.as_slice.ensures c.in-Some.is c.in_ok-batch.ensures.some in
    handed_deal _ _ _ _ _ _ _ _ _ _ c.in-Some.batch c.submit.result (Err agency.NoMemory) c.requires.look c.requires.doubt
    c.requires.due all (c.in-Err-NoMemory.is ∙ ap Err c.in-Err-NoMemory.field-0-is)
    c.submit.ensures.cause c.submit.ensures.stale c.submit.ensures.lists c.submit.ensures.rules (
      refl,
      unanswered_is c.args.self.now c.args.now c.self.inside.at_pace c.sent.new.self c.self.inside.last_said
          (ap (λ (s : Sending). s.pace) c.self.view_is) c.sent.ensures (ap (λ (s : Sending). s.said) c.self.view_is),
      refl,
    )

pub returns-then-not-are_of-clause-ends : goal.returns-then-not-are_of-clause-ends
returns-then-not-are_of-clause-ends g c =
    let all = cut_all _ c.args.shown.now c.as_slice.result.now c.in_ok-batch.field-0 c.in-Some.batch c.requires.look
    c.as_slice.ensures c.in-Some.is c.in_ok-batch.ensures.some in
    handed_deal _ _ _ _ _ _ _ _ _ _ c.in-Some.batch c.submit.result (Ok c.in-Ok.reply) c.requires.look c.requires.doubt
    c.requires.due all c.in-Ok.is
    c.submit.ensures.cause c.submit.ensures.stale c.submit.ensures.lists c.submit.ensures.rules
    (inr (stale_ends c.args.self.now c.args.now c.args.shown.now _ c.in-Ok.reply _ c.huellas.result.now
    c.as_slice-in-Ok.result.now c.in-Some.batch c.are_of.result c.if-not-are_of.true c.huellas.ensures
    c.as_slice-in-Ok.ensures.value all c.are_of.ensures.1
    (unanswered_is c.args.self.now c.args.now c.self.inside.at_pace c.sent.new.self c.self.inside.last_said
    (ap (λ (s : Sending). s.pace) c.self.view_is) c.sent.ensures (ap (λ (s : Sending). s.said) c.self.view_is))))

pub keep_reply-requires-clause-all : goal.keep_reply-requires-clause-all
keep_reply-requires-clause-all g c = cut_all _ c.args.shown.now c.as_slice.result.now c.in_ok-batch.field-0 c.in-Some.batch
    c.requires.look c.as_slice.ensures c.in-Some.is c.in_ok-batch.ensures.some

pub returns-clause-ends : goal.returns-clause-ends
returns-clause-ends g c =
    let all = cut_all _ c.args.shown.now c.as_slice.result.now c.in_ok-batch.field-0 c.in-Some.batch c.requires.look
    c.as_slice.ensures c.in-Some.is c.in_ok-batch.ensures.some in
    handed_deal _ _ _ _ _ _ _ _ _ _ c.in-Some.batch c.submit.result (Ok c.in-Ok.reply) c.requires.look c.requires.doubt
    c.requires.due all c.in-Ok.is
    c.submit.ensures.cause c.submit.ensures.stale c.submit.ensures.lists c.submit.ensures.rules
    (inl (subst (λ (t : ℕ). Replies t c.args.shown.now (g.O.Outbox.sight c.args.outbox.now) (g.O.Outbox.sight c.keep_reply.new.outbox)
    c.in-Ok.reply c.keep_reply.result c.keep_reply.new.self) (ap (λ (p : Pace). p.last) c.sent.ensures) c.keep_reply.ensures.ends))
