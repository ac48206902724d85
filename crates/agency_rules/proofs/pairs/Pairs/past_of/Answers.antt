use Rattle.std.proofs.Common.{◌≡◌, ◌∙◌, ap, arith}
use Rattle.agency_rules.specs.Judging.{past_of}
use Rattle.agency_rules.specs.declared.judging.Past.{Past}
use Rattle.agency_rules.proofs.Indexing.{few_of_one}
use Rattle.agency_rules.proofs.pairs.Pairs.past_of.Goals as goal

pub returns-clause-bound : goal.returns-clause-bound
returns-clause-bound c =
    let pairs = c.self.inside.list.items in
    let id = c.args.id.now in
    let is : c.at.result.count ≡ (past_of pairs id).count = ap (λ (q : Past). q.count) (c.at.ensures ∙ c.self.invariant.pasts_are
    id) in
    omega (arith, is, few_of_one pairs id, c.self.invariant.few)
