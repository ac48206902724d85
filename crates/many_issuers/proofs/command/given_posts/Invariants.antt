use Rattle.std.proofs.Common.{◌≤◌, ◌+◌, vec_capacity, vec_len}
use Rattle.many_issuers.proofs.Times.{GivenRest}
use Rattle.many_issuers.proofs.command.given_posts.Given as goal

abbrev pub invariant-loop-post : goal.invariant-loop-post
invariant-loop-post g l = record {
  rest : GivenRest l.fn.own.items l.own.items l.posts.items;
  room : vec_len l.own + vec_len l.posts ≤ vec_capacity l.posts;
}

abbrev pub decreases-loop-post : goal.decreases-loop-post
decreases-loop-post g l = vec_len l.own
