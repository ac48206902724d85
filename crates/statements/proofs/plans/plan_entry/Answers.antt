use Rattle.std.proofs.Common.{◌++◌, ◌∷◌, []}
use Rattle.std.proofs.lemmas.Result.{IfOk-weaker}
use Rattle.record_codec.specs.declared.entry.Entry.TheVariants.{Notes}
use Rattle.statements.proofs.Noting.{notes_plan}
use Rattle.statements.specs.Postings.{AreNoted, IsPlan}
use Rattle.statements.specs.declared.plans.Plan.{Plan}
use Rattle.statements.proofs.plans.plan_entry.Goals as goal

pub returns : goal.returns
returns c =
    let e = c.args.state.now.entries in
    IfOk-weaker c.plan_notes.result (λ (p : Plan). AreNoted e c.args.lines.now p.put.items p.drop.items)
    (λ (p : Plan). IsPlan e (e ++ Notes c.args.first c.args.lines.now ∷ []) p.put.items p.drop.items)
    (λ p are. notes_plan e c.args.first c.args.lines.now p.put.items p.drop.items c.requires.few are) c.plan_notes.ensures
