use Rattle.std.proofs.Common.{◌≡◌, ◌∙◌, Some, refl, subst}
use Rattle.many_issuers.specs.Work.{DoesTask}
use Rattle.many_issuers.specs.declared.working.IssuerTask.{IssuerTask}
use Rattle.many_issuers.proofs.working.work.Goals as goal

pub returns-in-Some : goal.returns-in-Some
returns-in-Some g c = record {
  does = λ task is.
      let e : Some c.in-Some.task ≡ Some task = c.in-Some.ensures.value ∙ is in
      let same : c.in-Some.task ≡ task = cc in (
        c.finish.result,
        refl,
        subst (λ (t : IssuerTask g.row.D.Denot g.row.C.Denot g.row.Z.Denot g.row.G.Denot g.D.Disk). DoesTask g.D.Disk g.Z.Sleeper g.G.Agency t
            c.finish.result) same c.finish.ensures,
      );
}
