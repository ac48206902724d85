use Rattle.std.proofs.Common.{arith}
use Rattle.agency_rules.proofs.Pasts.{past_step_in}
use Rattle.agency_rules.proofs.pairs.past_in.Goals as goal

pub loop-i-preserved : goal.loop-i-preserved
loop-i-preserved c = record {
  same = past_step_in c.args.pairs.now c.loop-i.i c.index-pairs-i.result c.args.id.now c.loop-i.past c.past_with-past.result
      c.loop-i-test.true c.index-pairs-i.is
      c.loop-i.invariant.same c.past_with-past.ensures.same c.past_with-past.ensures.other;
  few = (let a = c.past_with-past.ensures.bound in let b = c.loop-i.invariant.few in omega arith);
}
