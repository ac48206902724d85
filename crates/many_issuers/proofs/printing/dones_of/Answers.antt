use Rattle.std.proofs.Common.{arith}
use Rattle.many_issuers.specs.Dones.{dones_in}
use Rattle.many_issuers.proofs.Dones.{dones_more}
use Rattle.many_issuers.proofs.printing.dones_of.Goals as goal

pub loop-job-preserved : goal.loop-job-preserved
loop-job-preserved g c =
    let v = c.loop-job.invariant in
    record {
      dones = dones_more c.pop.new.self.items c.loop-job.jobs.items c.in-Some.job c.loop-job.dones.items c.keep_done.new.dones.items
          (dones_in c.args.jobs.items) c.in-Some.ensures.items c.keep_done.ensures.kept v.dones;
      room = (let a = c.in-Some.ensures.len in let b = c.keep_done.ensures.few in let d = c.keep_done.ensures.room in let r = v.room in
          omega (arith, a, b, d, r));
    }
