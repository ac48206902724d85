use Rattle.std.proofs.Common.{◌+◌, option_to_list, take}
use Rattle.agency_port.specs.Practice.{late_in, late_for}
use Rattle.agency_port.proofs.Deliveries.{all_more, front_on}
use Rattle.agency_port.proofs.Logs.{late_more}
use Rattle.agency_port.proofs.delivering.deliver_late.Goals as goal

pub loop-i-preserved : goal.loop-i-preserved
loop-i-preserved c =
    let i = c.loop-i.i in
    let l = c.index-log-i.result in
    let call = c.args.call in
    record {
      so_far = all_more c.args.verdicts.now c.args.pairs.now c.loop-i.pairs c.deliver_if_late.new.pairs
          (late_for call (take i c.args.log.now)) (option_to_list (late_in call l)) (late_for call (take (i + 1) c.args.log.now))
          c.loop-i.invariant.so_far c.in_ok-deliver_if_late.ensures.ok (late_more call c.args.log.now i l c.loop-i-test.true
          c.index-log-i.is);
      front = front_on c.args.pairs.now c.loop-i.pairs c.deliver_if_late.new.pairs c.loop-i.invariant.front
          c.in_ok-deliver_if_late.ensures.front;
    }
