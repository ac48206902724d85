use Rattle.std.proofs.Common.{◌≡◌, ◌∷◌, ◌∙◌, List, ap, length, refl, subst, sym, arith}
use Rattle.ports.specs.Sinks.{this_sink}
use Rattle.ports.specs.Sources.{this_source}
use Rattle.report.specs.declared.status.Detail.{Detail}
use Rattle.file_commands.proofs.Bytewise.{took_nothing}
use Rattle.many_issuers.specs.Ends.{ManyEnds}
use Rattle.many_issuers.specs.Ends.ManyEnds.{no_memory}
use Rattle.shop_drain.specs.Devices.{this_call}
use Rattle.shop_drain.specs.declared.posts.Post.{Post}
use Rattle.shop_commands.specs.Further.{further, own_post}
use Rattle.verifactu.specs.Running.{ManyRan}
use Rattle.verifactu.proofs.ManyPromised.{posts_back}
use Rattle.verifactu.proofs.installation.run_issuers.Goals as goal

pub returns-in_default-clause-ends : goal.returns-in_default-clause-ends
returns-in_default-clause-ends g c =
    let Given : Type 0 = Post g.row.D.Denot g.row.C.Denot g.row.Z.Denot g.row.G.Denot in
    let out = c.args.outside in
    let o = c.outside_of.result in
    let a = this_call (this_source g.S.Source.left g.S.Source.faults c.args.source.now c.args.source.now)
    (this_sink g.K.Sink.taken g.K.Sink.faults c.args.sink.now c.args.sink.now) g.D.Disk g.C.Clock g.Z.Sleeper g.G.Agency
    (own_post out) (own_post o) in
    subst (λ (e : Detail). ManyRan g.D.Disk g.C.Clock g.Z.Sleeper g.G.Agency c.args.issuers.now a (further out o) e)
    (sym c.of.ensures.detail) (record {
      post = own_post out;
      after = own_post o;
      own = refl;
      one_each = (let e = c.requires.one_each in omega (arith, e));
      ends = no_memory (record {
        wrote = took_nothing (g.K.Sink.taken c.args.sink.now);
        same = ap (λ (p : Given). p ∷ o.more) c.outside_of.ensures.0 ∙
            ap (λ (l : List Given). own_post out ∷ l) (c.outside_of.ensures.1 ∙ c.reserve.ensures.items ∙ c.into_vec-more.ensures);
      });
    })

pub many_cmd-ended-requires-clause-one_each : goal.many_cmd-ended-requires-clause-one_each
many_cmd-ended-requires-clause-one_each g c κs within =
    let Given : Type 0 = Post g.row.D.Denot g.row.C.Denot g.row.Z.Denot g.row.G.Denot in
    let more = ap (λ (l : List Given). length l) (c.reserve.ensures.items ∙ c.into_vec-more.ensures) in
    let all = ap (λ (l : List Given). length l) (c.of-posts.ensures ∙ c.in_front.ensures) in
    let e = c.requires.one_each in
    omega (arith, more, all, e)

pub outside_from-requires : goal.outside_from-requires
outside_from-requires g c =
    let Given : Type 0 = Post g.row.D.Denot g.row.C.Denot g.row.Z.Denot g.row.G.Denot in
    let back = posts_back g.D.Disk g.C.Clock g.Z.Sleeper g.G.Agency c.args.issuers.now
    (this_source g.S.Source.left g.S.Source.faults c.args.source.now c.many_cmd-ended.new.source)
    (this_sink g.K.Sink.taken g.K.Sink.faults c.args.sink.now c.many_cmd-ended.new.sink) c.of-posts.result c.many_cmd-ended.result.1
    c.many_cmd-ended.result.0.detail c.many_cmd-ended.ensures.ends in
    let all = ap (λ (l : List Given). length l) (c.of-posts.ensures ∙ c.in_front.ensures) in
    let left = ap (λ (l : List Given). length l) c.into_vec.ensures in
    let ok = c.into_vec.result.ok in
    omega (arith, back, all, left, ok)

pub returns-clause-ends : goal.returns-clause-ends
returns-clause-ends g c =
    let Given : Type 0 = Post g.row.D.Denot g.row.C.Denot g.row.Z.Denot g.row.G.Denot in
    let out = c.args.outside in
    let o = c.outside_from.result in
    let source = this_source g.S.Source.left g.S.Source.faults c.args.source.now c.many_cmd-ended.new.source in
    let sink = this_sink g.K.Sink.taken g.K.Sink.faults c.args.sink.now c.many_cmd-ended.new.sink in
    let end = c.many_cmd-ended.result.0.detail in
    let given : c.of-posts.result ≡ own_post out ∷ out.more = c.of-posts.ensures ∙ c.in_front.ensures ∙
    ap (λ (l : List Given). own_post out ∷ l) (c.reserve.ensures.items ∙ c.into_vec-more.ensures) in
    let back : own_post o ∷ o.more ≡ c.many_cmd-ended.result.1 = c.outside_from.ensures ∙ c.into_vec.ensures in
    record {
      post = own_post out;
      after = own_post o;
      own = refl;
      one_each = (let e = c.requires.one_each in omega (arith, e));
      ends = subst (λ (l : List Given). ManyEnds g.D.Disk g.C.Clock g.Z.Sleeper g.G.Agency c.args.issuers.now source sink
          (own_post out ∷ out.more) l end) (sym back)
          (subst (λ (l : List Given). ManyEnds g.D.Disk g.C.Clock g.Z.Sleeper g.G.Agency c.args.issuers.now source sink l
          c.many_cmd-ended.result.1 end) given c.many_cmd-ended.ensures.ends);
    }
