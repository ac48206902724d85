use Rattle.std.proofs.Common.{◌≡◌, ◌≤◌, ◌+◌, ◌++◌, vec_capacity, vec_len}
use Rattle.std.specs.Prelude.{reverse}
use Rattle.many_issuers.specs.Dones.{dones_in}
use Rattle.many_issuers.proofs.printing.dones_of.Given as goal

abbrev pub invariant-loop-job : goal.invariant-loop-job
invariant-loop-job g l = record {
  dones : dones_in l.jobs.items ++ reverse l.dones.items ≡ dones_in l.fn.jobs.items;
  room : vec_len l.jobs + vec_len l.dones ≤ vec_capacity l.dones;
}

abbrev pub decreases-loop-job : goal.decreases-loop-job
decreases-loop-job g l = vec_len l.jobs
