use Rattle.std.proofs.Common.{◌≡◌, ◌≤◌, ◌+◌, length, vec_capacity, vec_len}
use Rattle.parties.specs.declared.limits.TheConstants.{MAX_ISSUERS}
use Rattle.many_issuers.specs.IssuerJobs.{open_files}
use Rattle.many_issuers.proofs.IssuerJobs.{JobsRest}
use Rattle.many_issuers.proofs.joining.jobs_of.Given as goal

abbrev pub invariant-loop-issuer_file : goal.invariant-loop-issuer_file
invariant-loop-issuer_file g l = record {
  rest : JobsRest l.answers l.all l.fn.issuer_files.items l.fn.stores.items l.fn.parts.items l.issuer_files.items l.stores.items l.parts.items
      l.jobs.items;
  fit : open_files l.issuer_files.items ≡ length l.stores.items;
  parts : length l.parts.items ≡ length l.stores.items;
  few : length l.stores.items ≤ MAX_ISSUERS;
  room : vec_len l.issuer_files + vec_len l.jobs ≤ vec_capacity l.jobs;
}

abbrev pub decreases-loop-issuer_file : goal.decreases-loop-issuer_file
decreases-loop-issuer_file g l = vec_len l.issuer_files
