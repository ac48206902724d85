use Rattle.std.proofs.Common.{◌∙◌, sym, ap, List, Option}
use Rattle.std.proofs.lemmas.Result.{on_ok_weaker}
use Rattle.tax_lines.specs.declared.lines.TaxLine.{TaxLine}
use Rattle.statements.specs.Periods.{lines_in}
use Rattle.statements.proofs.Counting.{counted_none, counted_some, room_for}
use Rattle.statements.proofs.periods.count.Goals as goal

pub add_all-requires : goal.add_all-requires
add_all-requires c =
    let e = c.args.state.now.entries in
    let found = c.in_ok-own_lines.ensures in
    room_for e c.args.period.now c.args.index found.0 c.requires.index found.1 c.args.state.now.version c.args.state.now.issuer
    c.lines-in-Some.result.now c.args.rows.now
    (c.lines-in-Some.ensures.value ∙ ap (λ (o : Option (List TaxLine)). lines_in o) (sym c.in-Some.is) ∙ found.2)
    c.is_bounded.ensures.legal c.is_bounded.ensures.few c.requires.counted

pub returns-in-None : goal.returns-in-None
returns-in-None c =
    let e = c.args.state.now.entries in
    let found = c.in_ok-own_lines.ensures in
    counted_none e c.args.period.now c.args.index found.0 c.requires.index found.1 c.args.rows.now
    (ap (λ (o : Option (List TaxLine)). lines_in o) (sym c.in-None.is) ∙ found.2) c.requires.counted

pub returns-in-Some : goal.returns-in-Some
returns-in-Some c =
    let e = c.args.state.now.entries in
    let found = c.in_ok-own_lines.ensures in
    on_ok_weaker c.add_all.result (λ adds.
    counted_some e c.args.period.now c.args.index found.0 c.requires.index found.1 c.lines-in-Some.result.now c.args.rows.now
    c.add_all.new.self
    (c.lines-in-Some.ensures.value ∙ ap (λ (o : Option (List TaxLine)). lines_in o) (sym c.in-Some.is) ∙ found.2)
    c.requires.counted adds) c.add_all.ensures.ok
