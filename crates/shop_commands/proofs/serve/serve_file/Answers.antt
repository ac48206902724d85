use Rattle.std.proofs.Common.{◌≡◌, ◌∙◌, inl, inr, refl, ap, sym, subst}
use Rattle.dialogue_loop.specs.Speech.{ComesFirst, clock_first}
use Rattle.file_commands.proofs.Bytewise.{took_nothing}
use Rattle.ports.specs.Sinks.{this_sink}
use Rattle.ports.specs.Sources.{this_source}
use Rattle.till_calls.specs.Root.{parts_of}
use Rattle.shop_drain.specs.Devices.{around_in, this_call}
use Rattle.sender_session.specs.Kinds.{store_kind}
use Rattle.shop_drain.specs.Opening.{IsOpened}
use Rattle.shop_commands.specs.Serve.{FileServe, post_with}
use Rattle.shop_drain.specs.declared.posts.Post.{Post}
use Rattle.command_ends.proofs.RunEnding.{not_opened}
use Rattle.shop_commands.proofs.ServeEnding.{serve_ends}
use Rattle.shop_commands.proofs.serve.serve_file.Goals as goal

pub serve_first-detail-requires-clause-first : goal.serve_first-detail-requires-clause-first
serve_first-detail-requires-clause-first g c κs within =
    let left = g.S.Source.left c.args.source.now in
    record {
      left = left;
      faults = g.S.Source.faults c.args.source.now;
      comes = c.first_action-first.ensures.first left (c.in-Ok.ensures.heard left) c.in-Ok.ensures.first;
      later = c.first_action-first.ensures.later;
      cause = c.first_action-first.ensures.cause;
    }

pub returns-in-Err-clause-ends : goal.returns-in-Err-clause-ends
returns-in-Err-clause-ends g c =
    let u = c.in-Err.unopened in
    let h = c.in-Err.ensures in
    let all = this_call (this_source g.S.Source.left g.S.Source.faults c.args.source.now c.args.source.now)
    (this_sink g.K.Sink.taken g.K.Sink.faults c.args.sink.now c.args.sink.now) g.D.Disk g.C.Clock g.Z.Sleeper g.G.Agency
    c.args.post u.post in
    serve_ends c.args.issuer.now all c.opening_end.result (inr (inl (
      record { left = refl; faults = refl },
      not_opened u.why c.opening_end.ensures h.unopened.risen h.unopened.left_by h.unopened.never_loses
          (took_nothing (g.K.Sink.taken c.args.sink.now)) (record { clock = h.left.0; sleeper = h.left.1; agency = h.left.2 }),
    )))

pub returns-in-Ok-open-clause-ends : goal.returns-in-Ok-open-clause-ends
returns-in-Ok-open-clause-ends g c =
    let post = c.args.post in
    let o = c.in-Ok-open.opened in
    let k = c.in-Ok-open.ensures in
    let p = parts_of o.store in
    let first = c.first_action-first in
    let run = c.serve_first-detail in
    let end = run.result.0 in
    let made = parts_of run.result.1.store in
    let then = c.close.result in
    let left = g.S.Source.left c.args.source.now in
    let line = clock_first first.result in
    let sources = this_source g.S.Source.left g.S.Source.faults c.args.source.now run.new.source in
    let sink = this_sink g.K.Sink.taken g.K.Sink.faults c.args.sink.now run.new.sink in
    let is_opened : IsOpened c.args.issuer.now (store_kind g.D.Disk g.C.Clock) post.disk p.clock p = record {
      issuer_is = k.opened.issuer_is;
      clock_is = refl;
      found = k.opened.found;
      any_moment = k.opened.any_moment;
      never_loses = k.opened.never_loses;
      every_crash = k.opened.every_crash;
      later = k.opened.later;
    } in
    let At : Post g.row.D.Denot g.row.C.Denot g.row.Z.Denot g.row.G.Denot →
    Post g.row.D.Denot g.row.C.Denot g.row.Z.Denot g.row.G.Denot → Type 0 = λ x y. FileServe c.args.issuer.now line line sources
    (around_in sink g.D.Disk g.C.Clock g.Z.Sleeper g.G.Agency x y) end in
    let old = post_with post.disk p o.sleeper o.agency in
    let new = post_with made.disk made run.result.1.sleeper run.result.1.agency in
    let four : g.row.D.Denot → g.row.C.Denot → g.row.Z.Denot → g.row.G.Denot →
    Post g.row.D.Denot g.row.C.Denot g.row.Z.Denot g.row.G.Denot = λ d x y z. record { disk = d; clock = x; sleeper = y; agency = z } in
    let old_is : old ≡ post = ap (λ (x : g.row.C.Denot). four post.disk x o.sleeper o.agency) k.opened.clock_is ∙
    ap (λ (y : g.row.Z.Denot). four post.disk post.clock y o.agency) k.kept.0 ∙
    ap (λ (z : g.row.G.Denot). four post.disk post.clock post.sleeper z) k.kept.1 in
    let left_is : then ≡ new = ap (λ (d : g.row.D.Denot). four d then.clock then.sleeper then.agency) c.close.ensures.disk ∙
    ap (λ (x : g.row.C.Denot). four made.disk x then.sleeper then.agency) c.close.ensures.clock ∙
    ap (λ (y : g.row.Z.Denot). four made.disk made.clock y then.agency) c.close.ensures.rest.0 ∙
    ap (λ (z : g.row.G.Denot). four made.disk made.clock run.result.1.sleeper z) c.close.ensures.rest.1 in
    let came : ComesFirst left (g.S.Source.left first.new.source) first.new.self first.result =
    first.ensures.first left (c.in-Ok.ensures.heard left) c.in-Ok.ensures.first in
    let ran : At old new = run.ensures.ends c.args.issuer.now post.disk left (g.S.Source.faults c.args.source.now) is_opened came
    first.ensures.later first.ensures.cause in
    let all = this_call sources sink g.D.Disk g.C.Clock g.Z.Sleeper g.G.Agency post then in
    serve_ends c.args.issuer.now all end (inr (inr (
      line,
      subst (λ (y : Post g.row.D.Denot g.row.C.Denot g.row.Z.Denot g.row.G.Denot). At post y) (sym left_is)
          (subst (λ (x : Post g.row.D.Denot g.row.C.Denot g.row.Z.Denot g.row.G.Denot). At x new) old_is ran),
    )))

pub returns-in_default-clause-once : goal.returns-in_default-clause-once
returns-in_default-clause-once g c = λ counts. inl refl

pub returns-in-Err-clause-once : goal.returns-in-Err-clause-once
returns-in-Err-clause-once g c = λ counts. inl refl

pub returns-in-Ok-open-clause-once : goal.returns-in-Ok-open-clause-once
returns-in-Ok-open-clause-once g c = λ counts.
    c.serve_first-detail.ensures.once counts (g.S.Source.faults c.args.source.now) (c.first_action-first.ensures.once counts)
