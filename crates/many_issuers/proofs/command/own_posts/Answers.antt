use Rattle.std.proofs.Common.{◌≡◌, ◌+◌, ◌<◌, ◌∙◌, ℕ, length, get_or, ap, sym, subst, arith}
use Rattle.std.proofs.lemmas.List.{length_push}
use Rattle.issuers.specs.declared.parts.Part.{Part}
use Rattle.many_issuers.specs.Times.{IsOwnPost}
use Rattle.many_issuers.proofs.Times.{own_more, own_none}
use Rattle.many_issuers.proofs.command.own_posts.Goals as goal

pub loop-post-init : goal.loop-post-init
loop-post-init g c = record {
  rest = own_none g.C.Clock.coming c.args.parts.now c.args.posts.items c.args.own.items c.requires.one_each c.requires.none;
  within = (let e = c.requires.one_each in omega (arith, e));
  room = (let a = c.requires.room in let k = c.args.posts.ok in let j = c.args.own.ok in
      let e : length c.args.own.items ≡ 0 = ap length c.requires.none in omega (arith, a, k, j, e));
}

pub loop-post-preserved : goal.loop-post-preserved
loop-post-preserved g c =
    let v = c.loop-post.invariant in
    let posts = c.pop.new.self.items in
    let parts = c.args.parts.now in
    let part = c.index-parts-len.result in
    let long : length c.loop-post.posts.items ≡ length posts + 1 =
    (let e = ap length c.in-Some.ensures.items in let l = length_push posts c.in-Some.post in omega (arith, e, l)) in
    let within : length posts < length parts = (let w = v.within in omega (arith, w, long)) in
    let at : c.len.result ≡ length posts = (let k = c.pop.new.self.ok in let e = c.len.ensures in omega (arith, e, k)) in
    let is : part ≡ get_or parts (length posts) part = c.index-parts-len.is ∙ ap (λ (n : ℕ). get_or parts n part) at in
    record {
      rest = own_more g.C.Clock.coming parts c.args.posts.items c.loop-post.posts.items posts c.loop-post.own.items
          c.push_reserved.new.self.items part c.in-Some.post c.own_post.result c.in-Some.ensures.items long within is
          c.push_reserved.ensures.items
          (subst (λ (p : Part). IsOwnPost g.C.Clock.coming p c.in-Some.post c.own_post.result) (sym c.index-parts-len.is) (record {
            times = c.own_post.ensures.coming;
            given_is = c.own_post.ensures.given;
            replaced_is = c.own_post.ensures.replaced;
            disk_is = c.own_post.ensures.rest.0;
            sleeper_is = c.own_post.ensures.rest.1;
            agency_is = c.own_post.ensures.rest.2;
          })) v.rest;
      within = omega (arith, within);
      room = (let r = v.room in let a = c.in-Some.ensures.len in let b = c.push_reserved.ensures.len in
          let d = c.push_reserved.ensures.capacity in omega (arith, r, a, b, d));
    }
