use Rattle.std.proofs.Common.{◌≡◌, ◌∙◌, ◌+◌, ◌∷◌, ◌++◌, List, length, length-append, take, sym, ap, subst, arith, []}
use Rattle.std.proofs.Common.{Result}
use Rattle.std.proofs.lemmas.List.{take_all, take_more}
use Rattle.journal.specs.declared.faults.StoreFault.{StoreFault}
use Rattle.shop_core.specs.Answer.Requests.{Asked}
use Rattle.shop_core.specs.declared.answer.Reply.{Reply}
use Rattle.chain_store.specs.Taking.{Along, FailsOnce}
use Rattle.chain_store.proofs.runs.run_commands.Goals as goal

pub loop-ask-init : goal.loop-ask-init
loop-ask-init g c =
    let store = c.args.store.now in
    record {
      along = subst (λ (rs : List (Result Reply StoreFault)). Along g.D.Disk g.C.Clock store store [] rs) (sym c.requires.none)
          c.a_run_begins.ensures;
      replied = ap length c.requires.none;
      room = c.requires.room;
    }

pub loop-ask-preserved : goal.loop-ask-preserved
loop-ask-preserved g c =
    let inv = c.loop-ask.invariant in
    let told = c.take_next.result in
    let first = c.args.store.now in
    let new = c.take_next.new.store in
    let i = c.loop-ask.ask-index in
    let asks = c.args.asks.now in
    let ask = c.ask-item.result in
    let replies = c.loop-ask.replies.items in
    let next = c.take_next.ensures.along first (take i asks) replies inv.along in
    let asked : take i asks ++ ask ∷ [] ≡ take (i + 1) asks =
    ap (λ (a : Asked). take i asks ++ a ∷ []) c.ask-item.is ∙ sym (take_more asks i ask c.loop-ask-test.true) in
    record {
      along = subst (λ (xs : List Asked). Along g.D.Disk g.C.Clock first new xs c.push_reserved.new.self.items) asked
          (subst (λ (rs : List (Result Reply StoreFault)). Along g.D.Disk g.C.Clock first new (take i asks ++ ask ∷ []) rs)
          (sym c.push_reserved.ensures.items) next);
      replied = rw (c.push_reserved.ensures.items, length-append replies (told ∷ [])) (ap (λ n. n + 1) inv.replied);
      room = omega (arith, inv.room, c.push_reserved.ensures.capacity);
    }

pub returns-clause-fails : goal.returns-clause-fails
returns-clause-fails g c =
    let first = c.args.store.now in
    let now = c.loop-ask.store in
    let asks = c.args.asks.now in
    let replies = c.loop-ask.replies.items in
    let i = c.loop-ask.ask-index in
    subst (λ (xs : List Asked). FailsOnce g.D.Disk g.C.Clock first now xs replies) (take_all i asks (omega arith))
    (c.a_run_ends.ensures.fails first (take i asks) replies c.loop-ask.invariant.along c.requires.going_on)
