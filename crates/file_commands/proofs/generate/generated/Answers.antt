use Rattle.std.proofs.Common.{List, Some, subst, sym}
use Rattle.chain_store.specs.Store.{clock_of, state_of}
use Rattle.ports.specs.Counting.{counting}
use Rattle.shop_core.specs.Answer.Requests.{Asked}
use Rattle.shop_core.specs.History.{History}
use Rattle.file_commands.specs.Generate.{Generated}
use Rattle.file_commands.specs.Generated.{AreCommands}
use Rattle.chain_store.specs.Replies.{Replies, AllReplied}
use Rattle.file_commands.proofs.Generating.{ran}
use Rattle.file_commands.proofs.generate.generated.Goals as goal

pub returns : goal.returns
returns c =
    let store = c.in_ok-store.store in
    let begun = c.in_ok-store.ensures in
    let asks = c.deref.result.now in
    let replies = c.run_commands.new.replies.items in
    let are : AreCommands c.args.n asks = subst (λ (xs : List Asked). AreCommands c.args.n xs) (sym c.deref.ensures.value)
    c.in_ok-asks.ensures in
    let replied : AllReplied replies = subst (λ (rs : Replies). AllReplied rs) c.deref-2.ensures.value
    (c.all_replied.ensures c.if-not-all_replied.false) in
    subst (λ (h : History). Generated c.args.n h.entries) (sym c.into_parts-state.ensures.0)
    (ran c.args.n asks replies (state_of store).entries (state_of c.run_commands.new.store).entries (state_of store).version
    (state_of store).issuer
    (λ k. Some (counting (clock_of store).next (clock_of store).step k)) are begun.version begun.issuer begun.empty begun.clock
    c.run_commands.ensures.answers.run replied)
