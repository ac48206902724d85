use Rattle.std.proofs.Common.{◌≡◌, length, ap, arith}
use Rattle.many_issuers.proofs.Times.{given_more, given_none}
use Rattle.many_issuers.proofs.command.given_posts.Goals as goal

pub loop-post-init : goal.loop-post-init
loop-post-init g c = record {
  rest = given_none c.args.own.items c.args.posts.items c.requires.none;
  room = (let a = c.requires.room in let k = c.args.posts.ok in let j = c.args.own.ok in
      let e : length c.args.posts.items ≡ 0 = ap length c.requires.none in omega (arith, a, k, j, e));
}

pub loop-post-preserved : goal.loop-post-preserved
loop-post-preserved g c =
    let v = c.loop-post.invariant in
    record {
      rest = given_more c.args.own.items c.loop-post.own.items c.pop.new.self.items c.loop-post.posts.items c.push_reserved.new.self.items
          c.in-Some.post c.given_post.result c.in-Some.ensures.items c.push_reserved.ensures.items c.given_post.ensures v.rest;
      room = (let r = v.room in let a = c.in-Some.ensures.len in let b = c.push_reserved.ensures.len in
          let d = c.push_reserved.ensures.capacity in omega (arith, r, a, b, d));
    }
