use Rattle.std.proofs.Common.{List, ℕ, subst, refl, Err}
use Rattle.ports.specs.Sinks.{this_sink}
use Rattle.ports.specs.Sources.{this_source}
use Rattle.chain_disk.specs.Disks.{this_disk}
use Rattle.file_commands.specs.Matching.{ComparedWith}
use Rattle.file_commands.specs.Matching.MatchesEnds.{input, read_fault, too_big, no_memory}
use Rattle.file_commands.specs.Input.{InputIs}
use Rattle.file_commands.specs.declared.input.InputFault.{InputFault}
use Rattle.file_commands.proofs.Bytewise.{took_nothing}
use Rattle.file_commands.proofs.matching.compare_source.Goals as goal

pub returns-in-Ok-clause-ends : goal.returns-in-Ok-clause-ends
returns-in-Ok-clause-ends g c =
    let s = this_sink g.K.Sink.taken g.K.Sink.faults c.args.sink.now c.compare_bytes.new.sink in
    let k = this_disk g.D.Disk.tells g.D.Disk.on_disk g.D.Disk.faults c.args.disk.now c.compare_bytes.new.disk in
    input c.in-Ok.bytes.items c.compare_bytes.result c.in-Ok.ensures.input
    (subst (λ (bytes : List ℕ). ComparedWith bytes s k c.compare_bytes.result) c.deref.ensures.value c.compare_bytes.ensures.ends)

pub returns-in-Err-ReadFault-clause-ends : goal.returns-in-Err-ReadFault-clause-ends
returns-in-Err-ReadFault-clause-ends g c =
    let r = this_source g.S.Source.left g.S.Source.faults c.args.source.now c.read_input.new.source in
    read_fault
    (subst (λ (f : InputFault). InputIs r (Err f)) c.in-Err-ReadFault.field-0-is c.in-Err-ReadFault.ensures.input)
    refl (took_nothing (g.K.Sink.taken c.args.sink.now))

pub returns-in-Err-TooBig-clause-ends : goal.returns-in-Err-TooBig-clause-ends
returns-in-Err-TooBig-clause-ends g c =
    let r = this_source g.S.Source.left g.S.Source.faults c.args.source.now c.read_input.new.source in
    too_big
    (subst (λ (f : InputFault). InputIs r (Err f)) c.in-Err-TooBig.field-0-is c.in-Err-TooBig.ensures.input)
    refl (took_nothing (g.K.Sink.taken c.args.sink.now))

pub returns-in-Err-NoMemory-clause-ends : goal.returns-in-Err-NoMemory-clause-ends
returns-in-Err-NoMemory-clause-ends g c = no_memory refl (took_nothing (g.K.Sink.taken c.args.sink.now))
