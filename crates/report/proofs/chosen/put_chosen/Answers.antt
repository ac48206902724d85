use Rattle.std.proofs.Common.{◌∙◌, sym, refl, arith}
use Rattle.shop_core.specs.History.{recs}
use Rattle.report.specs.Chosen.{lines_among}
use Rattle.report.proofs.Choosing.{among_first}
use Rattle.report.proofs.Listed.{listed_more, listed_none, listed_all}
use Rattle.report.proofs.chosen.put_chosen.Goals as goal

pub loop-n-preserved : goal.loop-n-preserved
loop-n-preserved c =
    let entries = c.args.state.now.entries in
    listed_more (lines_among c.args.choice entries) (among_first c.args.choice entries) (recs entries) c.loop-n.n c.in-Some.sealed
    c.loop-n.text.items c.put_if_chosen.new.text.items _ (sym c.in_ok-sealed.ensures ∙ c.in-Some.is) c.in_ok-put_if_chosen.ensures
    c.loop-n.invariant

pub returns-in_default : goal.returns-in_default
returns-in_default c =
    let entries = c.args.state.now.entries in
    listed_none (lines_among c.args.choice entries) refl (recs entries) c.loop-n.n c.loop-n.text.items _
    (sym c.in_ok-sealed.ensures ∙ c.in_default.is) c.loop-n.invariant

pub returns : goal.returns
returns c =
    let entries = c.args.state.now.entries in
    let past = c.records-n-end.ensures.count in
    listed_all (lines_among c.args.choice entries) refl (recs entries) c.loop-n.n c.loop-n.text.items _ (omega (arith, past))
    c.loop-n.invariant
