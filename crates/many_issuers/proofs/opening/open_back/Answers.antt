use Rattle.std.proofs.Common.{◌≡◌, ℕ, ◌+◌, ◌<◌, length, get_or, ap, subst, ◌∙◌, arith}
use Rattle.std.proofs.lemmas.List.{length_push}
use Rattle.many_issuers.specs.IssuerFiles.{HasRoom}
use Rattle.many_issuers.proofs.Opened.{opens_more}
use Rattle.many_issuers.proofs.opening.open_back.Goals as goal

pub loop-post-preserved : goal.loop-post-preserved
loop-post-preserved g c =
    let v = c.loop-post.invariant in
    let posts = c.pop.new.self.items in
    let parts = c.pop-in-Some.new.self.items in
    let issuers = c.args.issuers.now in
    let issuer = c.index-issuers-len.result in
    let long : length c.loop-post.posts.items ≡ length posts + 1 =
    (let e = ap length c.in-Some.ensures.items in let l = length_push posts c.in-Some.post in omega (arith, e, l)) in
    let even : length c.loop-post.parts.items ≡ length parts + 1 =
    (let e = ap length c.in-Some-pop.ensures.items in let l = length_push parts c.in-Some-pop.part in omega (arith, e, l)) in
    let within : length posts < length issuers = (let w = v.within in omega (arith, w, long)) in
    let at : c.len.result ≡ length posts = (let k = c.pop.new.self.ok in let e = c.len.ensures in omega (arith, e, k)) in
    let is : issuer ≡ get_or issuers (length posts) issuer =
    c.index-issuers-len.is ∙ ap (λ (n : ℕ). get_or issuers n issuer) at in
    record {
      opens = opens_more g.D.Disk g.C.Clock issuers c.args.parts.now.items c.args.posts.now.items c.loop-post.parts.items parts
          c.loop-post.posts.items posts c.loop-post.installation.issuer_files.items c.open_next.new.installation.issuer_files.items c.loop-post.installation.stores.items
          c.open_next.new.installation.stores.items c.loop-post.installation.parts.items c.open_next.new.installation.parts.items issuer c.in-Some-pop.part
          c.in-Some.post c.in-Some.ensures.items c.in-Some-pop.ensures.items long within is v.opens
          (c.open_next.ensures.opened v.opens.rest v.opens.opened);
      even = (let e = v.even in omega (arith, e, long, even));
      within = omega (arith, within);
      room = c.open_next.ensures.room (length posts) (subst (λ (n : ℕ). HasRoom n c.loop-post.installation) long v.room);
      capacity = c.pop.ensures.capacity ∙ v.capacity;
    }
