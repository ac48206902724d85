use Rattle.std.proofs.Common.{refl}
use Rattle.shop_drain.specs.declared.posts.Post.{Post}
use Rattle.verifactu.proofs.running.follow_by_further.Goals as goal

pub returns-clause-follows : goal.returns-clause-follows
returns-clause-follows g c =
    let post = c.take_further-other.result.0 in
    let after : Post g.row.D.Denot g.row.C.Denot g.row.Z.Denot g.row.G.Denot = record {
      disk = c.follow_cmd-ended.result.2;
      clock = post.clock;
      sleeper = post.sleeper;
      agency = post.agency;
    } in
    record {
      only = record {
        post = post;
        after = after;
        posts = record {
          one = c.take_further-other.ensures.one;
          one_after = c.put_further-more.ensures;
          clock = refl;
          sleeper = refl;
          agency = refl;
        };
        follows = c.follow_cmd-ended.ensures.follows;
      };
      ends = c.follow_cmd-ended.ensures.ends;
    }
