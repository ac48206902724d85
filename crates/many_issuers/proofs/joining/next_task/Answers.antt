use Rattle.std.proofs.Common.{◌≡◌, ℕ, length, refl, sym, subst, arith}
use Rattle.many_issuers.specs.IssuerJobs.{IsJob, TellsIf}
use Rattle.many_issuers.specs.declared.opening.IssuerFile.{IssuerFile}
use Rattle.many_issuers.specs.declared.working.IssuerTask.TheVariants as task
use Rattle.many_issuers.proofs.joining.next_task.Goals as goal

pub returns-in-Some-pop-clause-job : goal.returns-in-Some-pop-clause-job
returns-in-Some-pop-clause-job g c =
    let stores = c.pop.new.self.items in
    let answers = c.args.answers.now in
    let told = c.told_to-replies.result in
    let at : c.len.result ≡ length stores = (let k = c.pop.new.self.ok in let e = c.len.ensures in omega (arith, e, k)) in
    subst (λ (x : IssuerFile g.row.D.Denot g.row.C.Denot g.row.Z.Denot g.row.G.Denot). IsJob answers c.args.all x c.args.stores.now.items
    c.args.parts.now.items stores c.pop-in-Open.new.self.items (task.Open c.in-Open.issuer c.in-Some-pop.part told
    (record { store = c.in-Some.store; sleeper = c.in-Open.sleeper; agency = c.in-Open.agency }))) (sym c.in-Open.is) (
      c.in-Some.store,
      c.in-Some-pop.part,
      c.in-Some.ensures.items,
      c.in-Some-pop.ensures.items,
      record {
        told = told;
        is = refl;
        tells = subst (λ (n : ℕ). TellsIf answers c.args.all n told) at c.told_to-replies.ensures;
      },
    )
