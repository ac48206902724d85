use Rattle.std.proofs.Common.{◌≡◌, ◌≤◌, ◌+◌, ◌++◌, map, vec_capacity, vec_len}
use Rattle.std.specs.Prelude.{reverse}
use Rattle.many_issuers.proofs.printing.give_back.Given as goal

abbrev pub invariant-loop-done : goal.invariant-loop-done
invariant-loop-done g l = record {
  posts : map (λ d. d.post) l.dones.items ++ reverse l.posts.items ≡ map (λ d. d.post) l.fn.dones.items;
  room : vec_len l.dones + vec_len l.posts ≤ vec_capacity l.posts;
}

abbrev pub decreases-loop-done : goal.decreases-loop-done
decreases-loop-done g l = vec_len l.dones
