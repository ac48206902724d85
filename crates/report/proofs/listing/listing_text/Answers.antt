use Rattle.std.proofs.Common.{◌≡◌, ◌∙◌, ℕ, List}
use Rattle.std.proofs.lemmas.Result.{IfOk-weaker}
use Rattle.report.specs.Chosen.{chosen_text}
use Rattle.report.specs.Listing.{listing_text}
use Rattle.report.specs.declared.chosen.Choice.TheVariants.{All}
use Rattle.report.proofs.Choosing.{all_listed}
use Rattle.report.proofs.listing.listing_text.Goals as goal

pub returns : goal.returns
returns c =
    let entries = c.args.state.now.entries in
    IfOk-weaker c.chosen_text.result (λ (text : List ℕ). text ≡ chosen_text All entries)
    (λ (text : List ℕ). text ≡ listing_text entries) (λ text is. is ∙ all_listed entries) c.chosen_text.ensures
