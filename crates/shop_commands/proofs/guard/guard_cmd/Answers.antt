use Rattle.std.proofs.Common.{refl}
use Rattle.shop_drain.specs.declared.posts.Post.{Post}
use Rattle.shop_commands.proofs.guard.guard_cmd.Goals as goal

pub returns-clause-ends : goal.returns-clause-ends
returns-clause-ends g c =
    let post = c.take_further-other.result.0 in
    let after : Post g.row.D.Denot g.row.C.Denot g.row.Z.Denot g.row.G.Denot = record {
      disk = c.guard_source-ended.result.2;
      clock = post.clock;
      sleeper = post.sleeper;
      agency = post.agency;
    } in
    record {
      post = post;
      after = after;
      posts = record {
        one = c.take_further-other.ensures.one;
        one_after = c.put_further-more.ensures;
        clock = refl;
        sleeper = refl;
        agency = refl;
      };
      ends = c.guard_source-ended.ensures.ends;
    }
