use Rattle.std.proofs.Common.{◌≡◌, ◌+◌, ◌∙◌, List, [], ◌∷◌, length, ap, sym, refl, subst, arith, Some, None}
use Rattle.std.proofs.lemmas.List.{nil_from_length}
use Rattle.many_issuers.specs.IssuerJobs.{AreJobs, open_files}
use Rattle.many_issuers.specs.declared.working.IssuerJob.{IssuerJob}
use Rattle.many_issuers.proofs.IssuerJobs.{jobs_all, jobs_more, jobs_none, open_push}
use Rattle.many_issuers.proofs.joining.jobs_of.Goals as goal

pub loop-issuer_file-init : goal.loop-issuer_file-init
loop-issuer_file-init g c = record {
  rest = jobs_none c.args.answers.now c.args.all c.args.issuer_files.items c.args.stores.items c.args.parts.items c.args.jobs.items
      c.requires.none;
  fit = c.requires.stores;
  parts = c.requires.parts;
  few = c.requires.few;
  room = (let a = c.requires.room in let k = c.args.jobs.ok in
      let e : length c.args.jobs.items ≡ 0 = ap length c.requires.none in omega (arith, a, k, e));
}

pub next_task-task-requires-clause-stores : goal.next_task-task-requires-clause-stores
next_task-task-requires-clause-stores g c =
    let e = ap open_files c.in-Some.ensures.items in
    let p = open_push c.pop.new.self.items c.in-Some.issuer_file in
    let v = c.loop-issuer_file.invariant.fit in
    omega (arith, e, p, v)

pub loop-issuer_file-preserved : goal.loop-issuer_file-preserved
loop-issuer_file-preserved g c =
    let v = c.loop-issuer_file.invariant in
    let answers = c.args.answers.now in
    let issuer_file = c.in-Some.issuer_file in
    let t = c.next_task-task.result in
    let job : IssuerJob g.row.D.Denot g.row.C.Denot g.row.Z.Denot g.row.G.Denot g.D.Disk = record { task = Some t; done = None } in
    let open_is : open_files c.loop-issuer_file.issuer_files.items ≡ open_files c.pop.new.self.items + open_files (issuer_file ∷ []) =
    ap open_files c.in-Some.ensures.items ∙ open_push c.pop.new.self.items issuer_file in
    record {
      rest = jobs_more answers c.args.all c.args.issuer_files.items c.args.stores.items c.args.parts.items c.loop-issuer_file.issuer_files.items
          c.pop.new.self.items issuer_file c.loop-issuer_file.stores.items c.next_task-task.new.stores.items c.loop-issuer_file.parts.items
          c.next_task-task.new.parts.items c.loop-issuer_file.jobs.items c.push_reserved.new.self.items job t c.in-Some.ensures.items
          c.next_task-task.ensures.job refl c.push_reserved.ensures.items c.next_task-task.ensures.left v.rest;
      fit = (let l = c.next_task-task.ensures.left in let f = v.fit in omega (arith, l, f, open_is));
      parts = c.next_task-task.ensures.parts;
      few = (let l = c.next_task-task.ensures.left in let f = v.few in omega (arith, l, f));
      room = (let r = v.room in let a = c.in-Some.ensures.len in let b = c.push_reserved.ensures.len in
          let d = c.push_reserved.ensures.capacity in omega (arith, r, a, b, d));
    }

pub returns : goal.returns
returns g c =
    let v = c.loop-issuer_file.invariant in
    let sides_none = nil_from_length c.loop-issuer_file.issuer_files.items (let k = c.loop-issuer_file.issuer_files.ok in let a = c.in_default.ensures.cases.0 in
    omega (arith, k, a)) in
    let stores_none = nil_from_length c.loop-issuer_file.stores.items (let f = v.fit in let e = ap open_files sides_none in omega (arith, f, e)) in
    let parts_none = nil_from_length c.loop-issuer_file.parts.items (let p = v.parts in let e = ap length stores_none in omega (arith, p, e)) in
    subst (λ (l : List (IssuerJob g.row.D.Denot g.row.C.Denot g.row.Z.Denot g.row.G.Denot g.D.Disk)). AreJobs c.args.answers.now c.args.all 0
    c.args.issuer_files.items c.args.stores.items c.args.parts.items l) (sym c.turned.ensures)
    (jobs_all c.args.answers.now c.args.all c.args.issuer_files.items c.args.stores.items c.args.parts.items c.loop-issuer_file.issuer_files.items
    c.loop-issuer_file.stores.items c.loop-issuer_file.parts.items c.loop-issuer_file.jobs.items sides_none stores_none parts_none v.rest)
