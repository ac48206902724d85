use Rattle.std.proofs.Common.{◌∙◌, ap, ◌++◌, ◌∷◌, []}
use Rattle.agency_port.specs.declared.answers.ReplyLine.{ReplyLine}
use Rattle.agency_rules.proofs.Deliveries.{delivered_more}
use Rattle.agency_port.proofs.Deliveries.{answers_more, front_after}
use Rattle.agency_port.proofs.delivering.deliver_answered.Goals as goal

pub loop-i-preserved : goal.loop-i-preserved
loop-i-preserved c =
    let v = c.args.verdicts.now in
    let i = c.loop-i.i in
    let s = c.index-batch-i.result in
    record {
      said = answers_more v c.args.pairs.now c.loop-i.pairs c.args.batch.now i s c.in_ok-met.met c.loop-i.lines.items
          c.push.new.self.items
          c.loop-i-test.true c.index-batch-i.is c.loop-i.invariant.so_far c.loop-i.invariant.said c.in_ok-met.ensures.met
          (c.in_ok-push.ensures.items ∙ ap (λ (r : ReplyLine). c.loop-i.lines.items ++ r ∷ []) c.reply_line.ensures);
      so_far = delivered_more v c.args.pairs.now c.loop-i.pairs c.deliver_record.new.self c.args.batch.now i s
          c.loop-i-test.true c.index-batch-i.is c.loop-i.invariant.so_far c.in_ok-met.ensures.ok;
      front = front_after v c.args.pairs.now c.loop-i.pairs c.deliver_record.new.self s c.loop-i.invariant.front
          c.in_ok-met.ensures.ok;
    }
