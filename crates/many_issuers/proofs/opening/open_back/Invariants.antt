use Rattle.std.proofs.Common.{◌≡◌, ◌≤◌, length, vec_capacity, vec_len}
use Rattle.many_issuers.specs.IssuerFiles.{HasRoom}
use Rattle.many_issuers.proofs.Opened.{OpensRest}
use Rattle.many_issuers.proofs.opening.open_back.Given as goal

abbrev pub invariant-loop-post : goal.invariant-loop-post
invariant-loop-post g l = record {
  opens : OpensRest g.D.Disk g.C.Clock l.issuers l.fn.parts.items l.fn.posts.items l.parts.items l.posts.items l.installation.issuer_files.items
      l.installation.stores.items l.installation.parts.items;
  even : length l.parts.items ≡ length l.posts.items;
  within : length l.posts.items ≤ length l.issuers;
  room : HasRoom (length l.posts.items) l.installation;
  capacity : vec_capacity l.posts ≡ vec_capacity l.fn.posts;
}

abbrev pub decreases-loop-post : goal.decreases-loop-post
decreases-loop-post g l = vec_len l.posts
