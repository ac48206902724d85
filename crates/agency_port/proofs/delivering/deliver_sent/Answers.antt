use Rattle.std.proofs.Common.{◌+◌, ◌∙◌, ap, sym, option_to_list, take}
use Rattle.agency_rules.specs.Pairs.{delivered_all}
use Rattle.agency_port.specs.declared.messages.Logged.{Logged}
use Rattle.agency_port.specs.Messages.{batch_in}
use Rattle.agency_port.specs.Practice.{sent_in}
use Rattle.agency_port.proofs.Deliveries.{all_more, front_on}
use Rattle.agency_port.proofs.Logs.{sent_more}
use Rattle.agency_port.proofs.delivering.deliver_sent.Goals as goal

pub loop-i-preserved : goal.loop-i-preserved
loop-i-preserved c =
    let i = c.loop-i.i in
    let l = c.index-log-i.result in
    record {
      so_far = all_more c.args.verdicts.now c.args.pairs.now c.loop-i.pairs c.deliver_message.new.pairs
          (sent_in (take i c.args.log.now)) (option_to_list (batch_in l.message)) (sent_in (take (i + 1) c.args.log.now))
          c.loop-i.invariant.so_far
          (c.in_ok-deliver_message.ensures.ok ∙ ap (λ (x : Logged). delivered_all c.args.verdicts.now c.loop-i.pairs
          (option_to_list (batch_in x.message))) (sym c.index-log-i.is)) (sent_more c.args.log.now i l c.loop-i-test.true
          c.index-log-i.is);
      front = front_on c.args.pairs.now c.loop-i.pairs c.deliver_message.new.pairs c.loop-i.invariant.front
          c.in_ok-deliver_message.ensures.front;
    }
