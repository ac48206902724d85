use Rattle.std.proofs.Common.{◌∙◌, ℕ, List, subst, map}
use Rattle.std.proofs.lemmas.List.{append-nil}
use Rattle.ports.specs.Sinks.{OutputIs, this_sink}
use Rattle.file_commands.proofs.Bytewise.{took_nothing}
use Rattle.many_issuers.specs.Dones.IssuersEnd.{no_memory}
use Rattle.many_issuers.specs.declared.working.Done.{Done}
use Rattle.many_issuers.proofs.printing.print_blocks.Goals as goal

pub returns-in_default : goal.returns-in_default
returns-in_default g c = no_memory (took_nothing (g.K.Sink.taken c.args.sink.now))

pub returns : goal.returns
returns g c =
    let Finished : Type 0 = Done g.row.D.Denot g.row.C.Denot g.row.Z.Denot g.row.G.Denot in
    let dones = c.args.dones.now in
    let sink = this_sink g.K.Sink.taken g.K.Sink.faults c.args.sink.now c.write_texts-written.new.sink in
    c.end_of.ensures (map (λ (d : Finished). d.end) dones) (map (λ (d : Finished). d.block) dones) c.in-Ok.text.items sink
    c.first_bad-bad.ensures c.in-Ok.ensures
    (subst (λ (t : List ℕ). OutputIs sink t c.write_texts-written.result) (append-nil c.deref.result.now ∙ c.deref.ensures.value)
    c.write_texts-written.ensures)
