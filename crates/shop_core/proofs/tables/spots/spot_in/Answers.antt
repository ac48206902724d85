use Rattle.std.proofs.Common.{◌≡◌, ◌+◌, ◌-◌, min, true, ap, sym, subst, ◌∙◌, List, ℕ, length, drop, Some}
use Rattle.std.specs.Str.Parse.{digits_value}
use Rattle.series.specs.Numbers.{is_series, series_of}
use Rattle.amounts.specs.Text.{whole_text}
use Rattle.amounts.specs.declared.whole.TheConstants.{WHOLE_LIMIT}
use Rattle.shop_core.specs.Tables.Spots.{count_of}
use Rattle.shop_core.proofs.Spotted.{spot_unwritten, spot_uncounted, spot_yes}
use Rattle.shop_core.proofs.tables.spots.spot_in.Goals as goal

-- what stands after the dash, by the number alone
rest_is : (name number rest : List ℕ) → name ≡ series_of number → rest ≡ drop (1 + length name) number →
    rest ≡ drop (1 + length (series_of number)) number
rest_is name number rest e is = is ∙ ap (λ (xs : List ℕ). drop (1 + length xs) number) e

pub returns-in-None : goal.returns-in-None
returns-in-None c =
    let rest = rest_is c.args.series c.args.num.now c.after_dash.result.now c.requires c.after_dash.ensures.value in
    spot_unwritten c.args.num.now (λ v e. c.in-None.ensures.none v (rest ∙ e))

pub returns-then-is_counted : goal.returns-then-is_counted
returns-then-is_counted c =
    let rest = rest_is c.args.series c.args.num.now c.after_dash.result.now c.requires c.after_dash.ensures.value in
    let text : whole_text (count_of c.args.num.now) ≡ drop (1 + length (series_of c.args.num.now)) c.args.num.now =
    ap (λ (ds : List ℕ). whole_text (digits_value 10 ds)) (sym rest) ∙ c.in-Some.ensures.text ∙ rest in
    let ok : is_series (series_of c.args.num.now) ≡ true = subst (λ (xs : List ℕ). is_series xs ≡ true) c.requires
    c.after_dash.ensures.named in
    ap (λ (xs : List ℕ). Some (record { series = xs; index = c.in-Some.k - 1 })) c.requires
    ∙ spot_yes c.args.num.now c.in-Some.k ok text
    (c.in-Some.ensures.value ∙ ap (λ (ds : List ℕ). min (digits_value 10 ds) WHOLE_LIMIT) rest)
    (sym c.is_counted.ensures ∙ c.if-is_counted.true)

pub returns-else-is_counted : goal.returns-else-is_counted
returns-else-is_counted c =
    let rest = rest_is c.args.series c.args.num.now c.after_dash.result.now c.requires c.after_dash.ensures.value in
    spot_uncounted c.args.num.now c.in-Some.k
    (c.in-Some.ensures.value ∙ ap (λ (ds : List ℕ). min (digits_value 10 ds) WHOLE_LIMIT) rest)
    (sym c.is_counted.ensures ∙ c.if-is_counted.false)
