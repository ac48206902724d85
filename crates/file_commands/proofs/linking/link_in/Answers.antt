use Rattle.std.proofs.Common.{◌≡◌, ◌∙◌, ◌++◌, ◌∷◌, [], List, ℕ, sym, ap, subst, Some}
use Rattle.ports.specs.Sinks.{this_sink}
use Rattle.record_fields.specs.declared.records.Record.{Record}
use Rattle.report.specs.declared.status.Detail.TheVariants as detail
use Rattle.verify_link.specs.Parts.{link_text, parts_of}
use Rattle.file_commands.specs.Linking.LinkedFrom.{found, unknown, no_memory}
use Rattle.file_commands.specs.Output.{PrintEnds}
use Rattle.file_commands.proofs.Bytewise.{took_nothing}
use Rattle.file_commands.proofs.Lasts.{no_anulacion, none_last, some_last}
use Rattle.file_commands.proofs.linking.link_in.Goals as goal

pub returns-in-Ok-None : goal.returns-in-Ok-None
returns-in-Ok-None g c =
    unknown (none_last c.args.state.now.entries c.args.num.now (sym c.in-Ok-None.field-0-is ∙ c.in-Ok-None.ensures))
    (took_nothing (g.K.Sink.taken c.args.sink.now))

pub returns-in-Err : goal.returns-in-Err
returns-in-Err g c = no_memory (took_nothing (g.K.Sink.taken c.args.sink.now))

pub unreachable-requires : goal.unreachable-requires
unreachable-requires g c =
    no_anulacion c.args.state.now.entries c.args.num.now c.in-Ok-Some.sealed c.in_default.field-0 (sym c.in-Ok-Some.field-0-is ∙
    c.in-Ok-Some.ensures) c.in_default.is

pub returns-in-Ok : goal.returns-in-Ok
returns-in-Ok g c =
    let s = this_sink g.K.Sink.taken g.K.Sink.faults c.args.sink.now c.print_line.new.sink in
    let same : c.as_slice.result.now ≡ link_text (parts_of c.in-Alta.alta c.args.host) = c.as_slice.ensures ∙ c.in-Ok.ensures.text
    in
    found c.in-Alta.alta c.print_line.result
    (some_last c.args.state.now.entries c.args.num.now c.in-Ok-Some.sealed (sym c.in-Ok-Some.field-0-is ∙ c.in-Ok-Some.ensures)
    ∙ ap (λ (b : Record). Some b) c.in-Alta.is)
    (subst (λ (t : List ℕ). PrintEnds (t ++ 10 ∷ []) detail.Done s c.print_line.result) same c.print_line.ensures)

pub returns : goal.returns
returns g c = no_memory (took_nothing (g.K.Sink.taken c.args.sink.now))
