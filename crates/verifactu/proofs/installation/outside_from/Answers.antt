use Rattle.std.proofs.Common.{◌∷◌, ◌∙◌, List, ap, arith}
use Rattle.shop_drain.specs.declared.posts.Post.{Post}
use Rattle.verifactu.proofs.ManyPromised.{front_back}
use Rattle.verifactu.proofs.installation.outside_from.Goals as goal

pub returns : goal.returns
returns g c =
    let all = front_back c.args.posts.items c.remove-first.new.self.items c.remove-first.result
    (let some = c.requires in let size = c.args.posts.ok in omega (arith, some, size)) c.remove-first.ensures.value
    c.remove-first.ensures.items in
    ap (λ (x : Post g.row.D.Denot g.row.C.Denot g.row.Z.Denot g.row.G.Denot). x ∷ c.outside_of.result.more) c.outside_of.ensures.0 ∙
    ap (λ (l : List (Post g.row.D.Denot g.row.C.Denot g.row.Z.Denot g.row.G.Denot)). c.remove-first.result ∷ l) c.outside_of.ensures.1 ∙ all
