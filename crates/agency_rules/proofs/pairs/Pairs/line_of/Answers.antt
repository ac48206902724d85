use Rattle.std.proofs.Common.{◌∙◌, ap, List}
use Rattle.record_fields.specs.declared.lines.Line.{Line}
use Rattle.record_fields.specs.declared.records.Sealed.{Sealed}
use Rattle.agency_rules.specs.Pairs.{line_of}
use Rattle.agency_rules.specs.Indexes.{line_at}
use Rattle.agency_rules.proofs.Indexing.{line_found}
use Rattle.agency_rules.proofs.pairs.Pairs.line_of.Goals as goal

pub returns : goal.returns
returns c =
    let h = c.args.huella.now in
    c.line_at.ensures
    ∙ ap (λ (xs : List (Sealed × Line)). line_at xs h c.at.result) c.deref.ensures.value
    ∙ line_found c.self.inside.list.items h c.at.result (λ within. c.at.ensures ∙ c.self.invariant.places_are h within)
    ∙ ap (λ (xs : List (Sealed × Line)). line_of xs h) c.self.view_is
