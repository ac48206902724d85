use Rattle.std.proofs.Common.{refl}
use Rattle.shop_drain.specs.declared.posts.Post.{Post}
use Rattle.verifactu.proofs.running.move_to_further.Goals as goal

pub returns-clause-moves : goal.returns-clause-moves
returns-clause-moves g c =
    let post = c.take_further-other.result.0 in
    let after : Post g.row.D.Denot g.row.C.Denot g.row.Z.Denot g.row.G.Denot = record {
      disk = c.migrate_cmd-ended.result.2;
      clock = post.clock;
      sleeper = post.sleeper;
      agency = post.agency;
    } in
    record {
      only = record {
        post = post;
        after = after;
        posts = record {
          one = c.take_further-other.ensures.one;
          one_after = c.put_further-more.ensures;
          clock = refl;
          sleeper = refl;
          agency = refl;
        };
        moves = c.migrate_cmd-ended.ensures.moves;
      };
      ends = c.migrate_cmd-ended.ensures.ends;
    }
