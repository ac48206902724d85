use Rattle.std.proofs.Common.{◌≡◌, ◌∙◌, ◌++◌, ℕ, List, ap, subst, Result}
use Rattle.chain_store.specs.Store.{state_of}
use Rattle.journal.specs.declared.faults.StoreFault.{StoreFault}
use Rattle.file_commands.proofs.Bytewise.{took_nothing}
use Rattle.ports.specs.Sinks.{this_sink}
use Rattle.shop_core.specs.History.{History}
use Rattle.shop_core.specs.declared.answer.Reply.{Reply}
use Rattle.command_ends.specs.Ending.{RunEnds}
use Rattle.command_ends.specs.Ending.RunEnds.{no_memory}
use Rattle.command_ends.specs.Printed.{printed}
use Rattle.shop_commands.proofs.chain.play.Goals as goal

pub returns-in_default-clause-end : goal.returns-in_default-clause-end
returns-in_default-clause-end g c = (
  c.run_commands.new.replies.items,
  c.run_commands.ensures.answers,
  no_memory (0, took_nothing (g.K.Sink.taken c.args.sink.now)),
)

pub returns-clause-end : goal.returns-clause-end
returns-clause-end g c =
    let asks = c.args.asks.now in
    let replies = c.run_commands.new.replies.items in
    let end = (state_of c.run_commands.new.store).entries in
    let sink = this_sink g.K.Sink.taken g.K.Sink.faults c.args.sink.now c.write_texts-written.new.sink in
    let text = c.in-Ok.told.answers ++ c.in-Ok.told.listing in
    let tells : text ≡ printed asks replies end =
    c.in-Ok.ensures ∙ ap (λ (rs : List (Result Reply StoreFault)). printed asks rs c.state.result.now.entries)
    c.deref.ensures.value
    ∙ ap (λ (h : History). printed asks replies h.entries) c.state.ensures in
    let written = rw (c.as_slice.ensures, c.as_slice-2.ensures) at c.write_texts-written.ensures in
    let ends : RunEnds c.deref-2.result.now text sink c.run_end.result = c.run_end.ensures text sink written in (
      replies,
      c.run_commands.ensures.answers,
      subst (λ (t : List ℕ). RunEnds replies t sink c.run_end.result) tells
          (subst (λ (rs : List (Result Reply StoreFault)). RunEnds rs text sink c.run_end.result) c.deref-2.ensures.value ends),
    )
