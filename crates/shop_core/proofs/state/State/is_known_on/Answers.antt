use Rattle.std.proofs.Common.{◌∙◌, sym}
use Rattle.shop_core.proofs.Days.{none_known, some_known}
use Rattle.shop_core.proofs.state.State.is_known_on.Goals as goal

pub returns-in-None : goal.returns-in-None
returns-in-None c =
    none_known c.a_sale_has_a_new_number.ensures c.args.self.now.version c.args.self.now.issuer c.args.self.now.entries
    c.args.num.now c.args.day c.is_legal.ensures (sym c.in-None.is ∙ c.last.ensures)

pub returns-in-Some : goal.returns-in-Some
returns-in-Some c =
    c.eq.ensures ∙ some_known c.a_sale_has_a_new_number.ensures c.args.self.now.version c.args.self.now.issuer
    c.args.self.now.entries c.args.num.now c.args.day c.in-Some.found c.is_legal.ensures (sym c.in-Some.is ∙ c.last.ensures)
