use Rattle.std.proofs.Common.{◌≡◌, ◌∙◌, List, sym, subst}
use Rattle.chain_store.specs.declared.store.Store.{Store}
use Rattle.issuers.specs.Office.{stores_of}
use Rattle.issuers.specs.Parts.{HasLines}
use Rattle.issuers.specs.Serving.{Served}
use Rattle.many_issuers.proofs.Answered.{all_at, each_served}
use Rattle.many_issuers.proofs.serving.serve_stores.Goals as goal

pub returns-clause-served : goal.returns-clause-served
returns-clause-served g c =
    let parts = c.args.parts.now in
    let answers = c.serve-all.new.answers in
    let all = c.serve-all.result in
    let after = c.into_vec.result.items in
    let was : stores_of c.of-office.result ≡ c.args.stores.items = c.of-office.ensures ∙ c.of.ensures in
    let is : stores_of c.serve-all.new.self ≡ after = sym (c.into_vec.ensures ∙ c.into_stores.ensures) in
    each_served g.D.Disk g.C.Clock parts c.args.stores.items after answers all
    (λ index part own. all_at HasLines parts index part c.requires.lines own)
    (subst (λ (l : List (Store g.row.D.Denot g.row.C.Denot g.D.Disk)). Served g.D.Disk g.C.Clock parts c.args.stores.items l answers all) is
    (subst (λ (l : List (Store g.row.D.Denot g.row.C.Denot g.D.Disk)). Served g.D.Disk g.C.Clock parts l (stores_of c.serve-all.new.self)
    answers all) was c.serve-all.ensures.served))
