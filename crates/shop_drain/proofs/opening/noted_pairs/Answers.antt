use Rattle.std.proofs.Common.{◌∷◌, [], ◌++◌, inl, inr, sym, ◌∙◌, ap, List, arith}
use Rattle.record_fields.specs.declared.records.Sealed.{Sealed}
use Rattle.record_fields.specs.declared.lines.Line.{Line}
use Rattle.shop_core.specs.History.{recs, noted}
use Rattle.shop_drain.proofs.Pairs.{pair_more, pairs_all, pairs_end}
use Rattle.shop_drain.proofs.opening.noted_pairs.Goals as goal

pub returns-in_default : goal.returns-in_default
returns-in_default c =
    let es = c.args.state.now.entries in
    c.loop-n.invariant ∙ pairs_end (recs es) (noted es) c.loop-n.n (inl (sym c.in_ok-sealed.ensures ∙ c.in_default.is))

pub returns-in_default-line : goal.returns-in_default-line
returns-in_default-line c =
    let es = c.args.state.now.entries in
    c.loop-n.invariant ∙ pairs_end (recs es) (noted es) c.loop-n.n (inr (sym c.line.ensures ∙ c.in_default-line.is))

pub loop-n-preserved : goal.loop-n-preserved
loop-n-preserved c =
    let es = c.args.state.now.entries in
    c.in_ok-push.ensures.items ∙ ap (λ (ps : List (Sealed × Line)). ps ++ (c.in-Some.sealed, c.in-Some-line.line) ∷ [])
    c.loop-n.invariant
    ∙ sym (pair_more (recs es) (noted es) c.loop-n.n c.in-Some.sealed c.in-Some-line.line (sym c.in_ok-sealed.ensures ∙
    c.in-Some.is) (sym c.line.ensures ∙ c.in-Some-line.is))

pub returns : goal.returns
returns c =
    let es = c.args.state.now.entries in
    c.loop-n.invariant ∙ pairs_all (recs es) (noted es) c.loop-n.n (omega (
      arith,
      c.noted-count.ensures.count,
      c.loop-n-test.false,
    ))
