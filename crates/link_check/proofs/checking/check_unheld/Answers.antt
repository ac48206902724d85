use Rattle.std.proofs.Common.{subst, refl, Result}
use Rattle.verify_link.specs.declared.parts.LinkParts.{LinkParts}
use Rattle.link_check.specs.Checking.IsChecked.{link}
use Rattle.link_check.specs.BeforeChain.{IsSaid}
use Rattle.link_check.specs.declared.checked.Checked.{Checked}
use Rattle.link_check.specs.declared.checked.Checked.TheVariants.{Unknown}
use Rattle.link_check.proofs.checking.check_unheld.Goals as goal

pub returns-in-Ok : goal.returns-in-Ok
returns-in-Ok c =
    let said = subst (λ (r : Result LinkParts Checked). IsSaid c.args.line.now r) c.in-Ok.is c.in_ok-read_line.ensures in
    link c.in-Ok.field-0 Unknown said.0 said.1 refl
