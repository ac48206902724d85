use Rattle.std.proofs.Common.{◌≡◌, ◌+◌}
use Rattle.std.specs.Prelude.{vec_len}
use Rattle.program.proofs.posts_of.Given as goal

abbrev pub invariant-loop-agency : goal.invariant-loop-agency
invariant-loop-agency g l = vec_len l.posts + vec_len l.agencies ≡ vec_len l.fn.agencies

abbrev pub decreases-loop-agency : goal.decreases-loop-agency
decreases-loop-agency g l = vec_len l.agencies
