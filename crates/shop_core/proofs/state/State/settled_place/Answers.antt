use Rattle.std.proofs.Common.{◌∙◌, ap, List}
use Rattle.record_fields.specs.declared.lines.Line.{Line}
use Rattle.shop_core.specs.Tables.ByNumber.{is_settled, place_in}
use Rattle.shop_core.specs.History.{History, recs, noted}
use Rattle.shop_core.specs.Place.{placed}
use Rattle.shop_core.specs.declared.tables.by_number.Standing.{Standing}
use Rattle.shop_core.proofs.Beside.{opened}
use Rattle.shop_core.proofs.state.State.settled_place.Goals as goal

pub returns : goal.returns
returns c =
    let num = c.args.num.now in
    let entries = c.self.inside.log.entries in
    c.place_or_none.ensures ∙ ap (λ (s : Standing). placed s.settled) c.at-standing.ensures
    ∙ ((opened c.self.inside.log c.self.inside.lines c.self.inside.tables c.self.invariant.beside).tables_are.numbers num).settled
    ∙ ap (λ (ls : List Line). place_in (is_settled ls num) (recs entries)) c.self.invariant.lines_are
    ∙ ap (λ (v : History). place_in (is_settled (noted v.entries) num) (recs v.entries)) c.self.view_is
