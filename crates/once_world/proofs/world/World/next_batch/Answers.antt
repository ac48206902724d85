use Rattle.std.proofs.Common.{◌≡◌, ◌∙◌, subst, take, IfSome, Option, List}
use Rattle.record_fields.specs.declared.records.Sealed.{Sealed}
use Rattle.once_world.proofs.Sending.{next_linked, next_all}
use Rattle.once_world.proofs.world.World.next_batch.Goals as goal

pub cut-requires : goal.cut-requires
cut-requires c =
    let w = c.args.self.now in
    next_linked c.a_run_of_a_history_is_linked.ensures w.state.version w.state.issuer w.state.entries c.args.count
    c.deref.result.now
    c.is_legal.ensures (c.deref.ensures.value ∙ c.in_ok-records.ensures)

pub returns : goal.returns
returns c =
    let cut = subst (λ (o : Option (List Sealed)). IfSome o (λ batch. batch ≡ take 1000 c.deref.result.now)) c.in-Some.is
    c.in_ok-batch.ensures.some in
    next_all c.args.self.now c.args.count c.in-Some.batch c.deref.result.now c.requires (c.deref.ensures.value ∙
    c.in_ok-records.ensures) cut
