use Rattle.std.proofs.Common.{◌∙◌, ap, subst, sym, Some, true}
use Rattle.chain_disk.specs.MemDisk.{on_disk_of}
use Rattle.chain_store.specs.Ready.{IsReady}
use Rattle.journal.specs.Journal.{disk_of, end_of, stopped_of}
use Rattle.ports.specs.Counting.{counting}
use Rattle.ports.specs.declared.memory.CountingClock.{CountingClock}
use Rattle.file_commands.proofs.Generating.{ready_empty}
use Rattle.file_commands.proofs.generate.begun.Goals as goal

pub of-requires-clause-ready : goal.of-requires-clause-ready
of-requires-clause-ready c = ready_empty _ c.empty-state.result _ _ _ c.empty-state.ensures c.in-Ok.ensures.place
    c.in-Ok.ensures.empty

pub returns-in-Ok-clause-ready : goal.returns-in-Ok-clause-ready
returns-in-Ok-clause-ready c =
    let parts = c.of.ensures.parts in
    subst (λ (j : _). IsReady true c.of.result.state (stopped_of j) (end_of j) (on_disk_of (disk_of j))) (sym parts.1)
    (ready_empty _ c.of.result.state _ _ _ (parts.0 ∙ c.empty-state.ensures) c.in-Ok.ensures.place c.in-Ok.ensures.empty)

pub returns-in-Ok-clause-clock : goal.returns-in-Ok-clause-clock
returns-in-Ok-clause-clock c = λ k. ap (λ (clock : CountingClock). Some (counting clock.next clock.step k)) c.of.ensures.parts.2
    ∙ c.new-clock.ensures k
