use Rattle.std.proofs.Common.{rules, ◌≡◌, ◌+◌, ◌≤◌, arith, ap, ◌∙◌, length}
use Rattle.shop_core.proofs.Spotted.{dash_within}
use Rattle.shop_core.proofs.tables.spots.after_dash.Goals as goal

pub slice_bounds-result-count : goal.slice_bounds-result-count
slice_bounds-result-count c =
    let name : c.as_slice.result.now ≡ c.args.series.now = c.as_slice.ensures.value in
    let number : c.as_slice-2.result.now ≡ c.args.num.now = c.as_slice-2.ensures.value in
    let h = dash_within c.args.num.now c.as_slice.result.now (name ∙ c.requires) c.as_slice.ensures.name in
    omega (arith, h, ap length number)

pub slice_bounds-result-start : goal.slice_bounds-result-start
slice_bounds-result-start c =
    let name : c.as_slice.result.now ≡ c.args.series.now = c.as_slice.ensures.value in
    let number : c.as_slice-2.result.now ≡ c.args.num.now = c.as_slice-2.ensures.value in
    let h = dash_within c.args.num.now c.as_slice.result.now (name ∙ c.requires) c.as_slice.ensures.name in
    let k : 1 + length c.as_slice.result.now ≤ length c.as_slice-2.result.now = omega (arith, h, ap length number) in
    search rules
