use Rattle.std.proofs.Common.{rules, ◌≡◌, List, length, map, ap, sym, ◌∙◌}
use Rattle.std.specs.Prelude.{reverse, vec_len}
use Rattle.shop_day.specs.TillJobs.{day_of, job_knows, tills_in, told_in}
use Rattle.shop_day.specs.declared.tills.TillJob.{TillJob}
use Rattle.sender_beside.proofs.Rows.{ran_as}
use Rattle.shop_day.proofs.TillJobs.{ran_of}
use Rattle.sender_session.proofs.Lists.{written_back}
use mir.Syntax.{erased, of_param}
use denote.Exit.{no}
use denote.Param.Send.{Quiet-if, shr_slice_sync}
use Rattle.till_calls.proofs.Sent.{shop_sync}
use Rattle.shop_day.proofs.JobsSent.{ask_sync, job_send}
use Rattle.sender_session.proofs.MeansSent.{means_sync}
use Rattle.shop_day.proofs.tills.work_all.Goals as goal

pub for_each_mut-requires-send-T : goal.for_each_mut-requires-send-T
for_each_mut-requires-send-T g c κs within =
    let j = job_send _ _ g.D.Disk g.C.Clock c.type_bounds.send-D c.type_bounds.send-C in
    record { owned = j.owned; leaving = λ k. Quiet-if (k (of_param 1)) _ _ (j.leaving no) (λ x w. tt) }

pub for_each_mut-requires-sync-F : goal.for_each_mut-requires-sync-F
for_each_mut-requires-sync-F g c κs within =
    let s = shop_sync _ _ g.D.Disk g.D.Disk-dict g.C.Clock g.C.Clock-dict c.type_bounds.send-D c.type_bounds.send-C in
    let m = means_sync (record { mir = erased; lft = κs.1.1.1.1.1.1.0 }) _ _ c.type_bounds.sync-R c.type_bounds.sync-T in
    let asks = shr_slice_sync erased κs.1.1.1.1.1.1.1.1.0 _ ask_sync in
    record {
      shared = λ x b o κ. (
        (m.shared x.0 _ _ κ, (((λ q. tt), s.shared x.1.now x.1.ref_ptr.0 x.1.ref_ptr.1 _), (asks.shared x.2 0 0 κ, tt))),
        (λ q. tt),
      );
    }

pub returns-clause-ran : goal.returns-clause-ran
returns-clause-ran g c =
    let xs = c.deref_mut.result.now in
    let ys = c.for_each_mut.new.s in
    let all = c.args.jobs.now.items in
    let long : length all ≡ length xs = ap (λ (l : List (TillJob g.row.D.Denot g.row.C.Denot)). length l)
    (sym c.deref_mut.ensures.value) in
    let written = written_back ys all (vec_len c.args.jobs.now) (c.for_each_mut.auto.s ∙ c.deref_mut.ensures.len)
    (long ∙ c.deref_mut.ensures.len) in
    let went : xs ≡ all = c.deref_mut.ensures.value in
    ran_as g.C.Clock.coming c.args.asks.now _ _ _ _ _ _ _ _
    (ap (λ (l : List (TillJob g.row.D.Denot g.row.C.Denot)). tills_in (reverse (map day_of l))) went)
    (ap (λ (l : List (TillJob g.row.D.Denot g.row.C.Denot)). reverse (map job_knows l)) went)
    (sym (ap (λ (l : List (TillJob g.row.D.Denot g.row.C.Denot)). map told_in (reverse (map day_of l))) written))
    (sym (ap (λ (l : List (TillJob g.row.D.Denot g.row.C.Denot)). reverse (map job_knows l)) written))
    (ran_of g.C.Clock.coming c.args.asks.now xs ys c.for_each_mut.auto.s
    (λ i d l. let h = c.for_each_mut.ensures i d l in (search rules, search rules)))
