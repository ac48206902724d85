use Rattle.std.proofs.Common.{subst}
use Rattle.std.specs.Prelude.{IfOk}
use Rattle.shop_core.specs.History.{History}
use Rattle.till_calls.specs.Root.{parts_of, root_of}
use Rattle.till_calls.proofs.Learning.{learns}
use Rattle.till_calls.proofs.kept.Kept.learn.Goals as goal

pub returns : goal.returns
returns g c =
    let root = root_of g.D.Disk.on_disk g.D.Disk.faults (parts_of c.self.inside.start.value) in
    let question = g.Q.Question.learns c.args.question.now in
    let answer = subst (λ (h : History). IfOk c.learn.result (question h.version h.issuer h.entries)) c.state.ensures
    c.learn.ensures.answer in
    let turn = learns g.D.Disk.tells g.D.Disk.on_disk g.D.Disk.faults g.C.Clock.coming root question c.learn.result
    (parts_of c.self.inside.store) c.self.invariant answer in
    rw (← c.self.view_is) (record { turn = turn })
