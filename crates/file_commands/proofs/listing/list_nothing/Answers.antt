use Rattle.std.proofs.Common.{◌≡◌, ◌∙◌, [], List, ℕ, subst, refl}
use Rattle.ports.specs.Sinks.{this_sink}
use Rattle.report.specs.Chosen.{chosen_text}
use Rattle.report.specs.Pieces.{chain_line}
use Rattle.report.specs.declared.chosen.Choice.{Choice}
use Rattle.report.specs.declared.chosen.Choice.TheVariants.{All, Waiting, Refused}
use Rattle.report.specs.declared.status.Detail.TheVariants as detail
use Rattle.file_commands.specs.Listing.ListPrinted.{told, no_memory}
use Rattle.file_commands.specs.Output.{PrintEnds}
use Rattle.file_commands.proofs.Bytewise.{took_nothing}
use Rattle.file_commands.proofs.listing.list_nothing.Goals as goal

-- no entries have the chain line alone
none : (choice : Choice) → chain_line 0 0 ≡ chosen_text choice []
none All = refl
none Waiting = refl
none Refused = refl

pub returns-in-Ok : goal.returns-in-Ok
returns-in-Ok g c =
    let s = this_sink g.K.Sink.taken g.K.Sink.faults c.args.sink.now c.print.new.sink in
    let same : c.as_slice.result.now ≡ chosen_text c.args.choice [] = c.as_slice.ensures ∙ c.in-Ok.ensures ∙ none c.args.choice in
    told c.print.result (subst (λ (t : List ℕ). PrintEnds t detail.Done s c.print.result) same c.print.ensures)

pub returns-in-Err : goal.returns-in-Err
returns-in-Err g c = no_memory (took_nothing (g.K.Sink.taken c.args.sink.now))
