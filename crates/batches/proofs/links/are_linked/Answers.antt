use Rattle.std.proofs.Common.{arith, refl}
use Rattle.batches.proofs.Runs.{linked_back, not_linked, linked_at_end}
use Rattle.batches.proofs.links.are_linked.Goals as goal

pub returns-then-not-follows : goal.returns-then-not-follows
returns-then-not-follows c = (
  λ no. absurd cc,
  λ run. c.if-not-follows.ensures.1 (not_linked c.args.records.now c.loop-i.i c.index-records-i-in-loop-i.result
      c.index-records-i.result
      c.loop-i.invariant.from_1 c.loop-i-test.true c.index-records-i-in-loop-i.is c.index-records-i.is run),
)

pub loop-i-preserved : goal.loop-i-preserved
loop-i-preserved c = record {
  from_1 = omega arith;
  so_far = linked_back c.args.records.now c.loop-i.i c.index-records-i-in-loop-i.result c.index-records-i.result
      c.loop-i.invariant.from_1 c.loop-i-test.true c.index-records-i-in-loop-i.is c.index-records-i.is
      (c.if-not-follows.ensures.0 refl) c.loop-i.invariant.so_far;
}

pub returns : goal.returns
returns c = (
  λ yes. linked_at_end c.args.records.now c.loop-i.i c.loop-i.invariant.from_1 c.loop-i-test.false
      c.loop-i.invariant.so_far,
  λ run. refl,
)
