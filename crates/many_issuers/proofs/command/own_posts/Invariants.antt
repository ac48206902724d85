use Rattle.std.proofs.Common.{◌≤◌, ◌+◌, length, vec_capacity, vec_len}
use Rattle.many_issuers.proofs.Times.{OwnRest}
use Rattle.many_issuers.proofs.command.own_posts.Given as goal

abbrev pub invariant-loop-post : goal.invariant-loop-post
invariant-loop-post g l = record {
  rest : OwnRest g.C.Clock.coming l.parts l.fn.posts.items l.posts.items l.own.items;
  within : length l.posts.items ≤ length l.parts;
  room : vec_len l.posts + vec_len l.own ≤ vec_capacity l.own;
}

abbrev pub decreases-loop-post : goal.decreases-loop-post
decreases-loop-post g l = vec_len l.posts
