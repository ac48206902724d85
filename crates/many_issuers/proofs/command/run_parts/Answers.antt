use Rattle.std.proofs.Common.{inl, inr, refl, sym, ◌∙◌, subst, ap, length, All, List}
use Rattle.ports.specs.Sinks.{this_sink}
use Rattle.file_commands.proofs.Bytewise.{took_nothing}
use Rattle.issuers.specs.Parts.{HasLines}
use Rattle.issuers.specs.declared.parts.Part.{Part}
use Rattle.many_issuers.specs.Ends.{IssuersRun, RowEnds}
use Rattle.many_issuers.specs.Times.{AreOwnPosts}
use Rattle.shop_drain.specs.declared.posts.Post.{Post}
use Rattle.many_issuers.proofs.GivenBack.{given_run}
use Rattle.many_issuers.proofs.Times.{own_long}
use Rattle.many_issuers.proofs.command.run_parts.Goals as goal

pub returns-in_default : goal.returns-in_default
returns-in_default g c = inl (refl, record { wrote = took_nothing (g.K.Sink.taken c.args.sink.now); same = refl })

pub returns : goal.returns
returns g c =
    let sink = this_sink g.K.Sink.taken g.K.Sink.faults c.args.sink.now c.run_posts-end.new.sink in
    let Given : Type 0 = Post g.row.D.Denot g.row.C.Denot g.row.Z.Denot g.row.G.Denot in
    let parts = c.into_vec-parts.result.items in
    let posts = c.into_vec.result.items in
    let Runs : List Part → List Given → List Given → Type 0 = λ p q a.
    IssuersRun (RowEnds g.D.Disk g.C.Clock g.Z.Sleeper g.G.Agency) c.args.issuers.now p q a sink c.run_posts-end.result.0 in
    let owns = subst (λ (l : List Part). AreOwnPosts g.C.Clock.coming l posts c.own_posts-own.result.items) c.deref.ensures.value
    c.own_posts-own.ensures in
    inr (subst (λ (p : List Part). Runs p c.args.posts c.of.result) c.into_vec-parts.ensures
    (subst (λ (q : List Given). Runs parts q c.of.result) c.into_vec.ensures
    (subst (λ (a : List Given). Runs parts posts a) (sym c.of.ensures)
    (given_run g.D.Disk g.C.Clock g.Z.Sleeper g.G.Agency c.args.issuers.now parts posts c.given_posts.result.items c.own_posts-own.result.items
    c.run_posts-end.result.1.items sink c.run_posts-end.result.0 owns c.given_posts.ensures c.run_posts-end.ensures))))

pub run_posts-end-requires-clause-one_each : goal.run_posts-end-requires-clause-one_each
run_posts-end-requires-clause-one_each g c κs within =
    own_long g.C.Clock.coming c.deref.result.now c.into_vec.result.items c.own_posts-own.result.items c.own_posts-own.ensures ∙
    ap (λ (l : List (Post g.row.D.Denot g.row.C.Denot g.row.Z.Denot g.row.G.Denot)). length l) c.into_vec.ensures ∙ c.requires.one_each

pub run_posts-end-requires-clause-lines : goal.run_posts-end-requires-clause-lines
run_posts-end-requires-clause-lines g c κs within = subst (λ (l : List Part). All HasLines l) (sym c.into_vec-parts.ensures) c.requires.lines
