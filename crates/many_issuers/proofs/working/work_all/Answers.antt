use Rattle.std.proofs.Common.{rules, ◌≡◌, List, length, ap, sym, ◌∙◌, subst, All}
use Rattle.std.specs.Prelude.{vec_len}
use Rattle.many_issuers.specs.Work.{IsWaiting, WorksJob}
use Rattle.many_issuers.specs.Pairwise.{Both}
use Rattle.many_issuers.specs.declared.working.IssuerJob.{IssuerJob}
use Rattle.sender_session.proofs.Lists.{written_back}
use Rattle.many_issuers.proofs.Sent.{job_send}
use Rattle.many_issuers.proofs.Pairwise.{both_by_index}
use mir.Syntax.{of_param}
use denote.Exit.{no}
use denote.Param.Send.{Quiet-if}
use Rattle.many_issuers.proofs.working.work_all.Goals as goal

pub for_each_mut-requires-send-T : goal.for_each_mut-requires-send-T
for_each_mut-requires-send-T g c κs within =
    let j = job_send _ _ _ _ g.D.Disk c.type_bounds.send-D c.type_bounds.send-C c.type_bounds.send-Z c.type_bounds.send-G in
    record { owned = j.owned; leaving = λ k. Quiet-if (k (of_param 1)) _ _ (j.leaving no) (λ x w. tt) }

pub for_each_mut-requires-clause-accepts : goal.for_each_mut-requires-clause-accepts
for_each_mut-requires-clause-accepts g c κs within i p l is =
    let Waits : IssuerJob g.row.D.Denot g.row.C.Denot g.row.Z.Denot g.row.G.Denot g.D.Disk → Type 0 =
    IsWaiting g.D.Disk.tells g.D.Disk.on_disk in
    let all : All Waits c.deref_mut.result.now =
    subst (λ (xs : List (IssuerJob g.row.D.Denot g.row.C.Denot g.row.Z.Denot g.row.G.Denot g.D.Disk)). All Waits xs)
    (sym c.deref_mut.ensures.value) c.requires in
    let here : Waits p.now = subst Waits (sym is) (all i p.now l) in
    search (rules, here)

pub returns : goal.returns
returns g c =
    let W = WorksJob {C = g.row.C.Denot} g.D.Disk g.Z.Sleeper g.G.Agency in
    let xs = c.deref_mut.result.now in
    let ys = c.for_each_mut.new.s in
    let all = c.args.jobs.items in
    let long : length all ≡ length xs = ap length (sym c.deref_mut.ensures.value) in
    let written = written_back ys all (vec_len c.args.jobs) (c.for_each_mut.auto.s ∙ c.deref_mut.ensures.len)
    (long ∙ c.deref_mut.ensures.len) in
    subst (λ (l : List (IssuerJob g.row.D.Denot g.row.C.Denot g.row.Z.Denot g.row.G.Denot g.D.Disk)). Both W all l) (sym written)
    (subst (λ (l : List (IssuerJob g.row.D.Denot g.row.C.Denot g.row.Z.Denot g.row.G.Denot g.D.Disk)). Both W l ys) c.deref_mut.ensures.value
    (both_by_index W xs ys c.for_each_mut.auto.s (λ i d l. let h = c.for_each_mut.ensures i d l in search rules)))
