use Rattle.std.proofs.Common.{◌∙◌, ap, sym}
use Rattle.shop_core.specs.History.{History}
use Rattle.issuers.proofs.Distinct.{not_own, own_less, own_more}
use Rattle.issuers.proofs.office.are_distinct.Goals as goal

pub returns-then-stands_in : goal.returns-then-stands_in
returns-then-stands_in g c =
    let same = c.issuer.ensures ∙ ap (λ (h : History). h.issuer) c.state.ensures in (
      λ wrong. absurd cc,
      λ own. absurd (not_own c.loop-first.rest.now c.in-Some.others.now c.in-Some.first.now c.issuer.result.now
          c.in-Some.ensures.cases.0 same (sym c.stands_in.ensures ∙ c.if-stands_in.true) (c.loop-first.invariant.down own)),
    )

pub loop-first-preserved : goal.loop-first-preserved
loop-first-preserved g c =
    let same = c.issuer.ensures ∙ ap (λ (h : History). h.issuer) c.state.ensures in
    record {
      down = λ own. own_less c.loop-first.rest.now c.in-Some.others.now c.in-Some.first.now c.in-Some.ensures.cases.0
          (c.loop-first.invariant.down own);
      up = λ own. c.loop-first.invariant.up (own_more c.loop-first.rest.now c.in-Some.others.now c.in-Some.first.now
          c.issuer.result.now c.in-Some.ensures.cases.0 same (sym c.stands_in.ensures ∙ c.if-stands_in.false) own);
    }
