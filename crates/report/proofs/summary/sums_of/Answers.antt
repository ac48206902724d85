use Rattle.std.proofs.Common.{◌∙◌, sym, arith}
use Rattle.shop_core.specs.History.{recs}
use Rattle.report.proofs.Totalled.{sums_more}
use Rattle.report.proofs.summary.sums_of.Goals as goal

pub loop-n-preserved : goal.loop-n-preserved
loop-n-preserved c = record {
  same = sums_more (recs c.args.state.now.entries) c.loop-n.n c.in-Some.sealed c.loop-n.sums c.add-sums.result
      (sym c.in_ok-sealed.ensures ∙ c.in-Some.is) c.loop-n.invariant.same c.add-sums.ensures.sums;
  counts = (let one = c.add-sums.ensures.counts in let before = c.loop-n.invariant.counts in omega (arith, one, before));
  bases = (let one = c.add-sums.ensures.bases in let before = c.loop-n.invariant.bases in omega (arith, one, before));
  cuotas = (let one = c.add-sums.ensures.cuotas in let before = c.loop-n.invariant.cuotas in omega (arith, one, before));
}
