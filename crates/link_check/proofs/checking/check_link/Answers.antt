use Rattle.std.proofs.Common.{◌≡◌, Some, subst, Result}
use Rattle.verify_link.specs.declared.parts.LinkParts.{LinkParts}
use Rattle.link_check.specs.Checking.{answer_to, IsChecked}
use Rattle.link_check.specs.Checking.Chain.{begun}
use Rattle.link_check.specs.Checking.IsChecked.{link}
use Rattle.link_check.specs.BeforeChain.{IsSaid}
use Rattle.link_check.specs.declared.checked.Checked.{Checked}
use Rattle.link_check.proofs.Reading.{ok_then}
use Rattle.link_check.proofs.checking.check_link.Goals as goal

pub returns-in-Ok : goal.returns-in-Ok
returns-in-Ok c =
    let chain = begun c.args.state.now.issuer c.args.state.now.entries in
    let line = c.args.line.now in
    let parts = c.in-Ok.parts in
    let said = subst (λ (r : Result LinkParts Checked). IsSaid line r) c.in-Ok.is c.in_ok-parts.ensures in
    ok_then c.answer.result (λ answer. answer_to chain parts ≡ Some answer) (IsChecked chain line) c.answer.ensures
    (λ answer h. link parts answer said.0 said.1 h)
