use Rattle.std.proofs.Common.{◌≡◌, ◌∙◌, sym, ap, is_some, false, Option}
use Rattle.shop_core.specs.Tables.ByNumber.{other_at}
use Rattle.shop_core.specs.declared.tables.by_number.Standing.{Standing}
use Rattle.shop_core.proofs.Numbered.{changed_at}
use Rattle.shop_core.proofs.tables.by_number.ByNumber.change.Goals as goal

pub returns : goal.returns
returns c =
    let absent : is_some (other_at c.args.self.now c.args.num.now) ≡ false =
    sym (ap (λ (o : Option Standing). is_some o) c.other.ensures) ∙ sym c.is_some.ensures ∙ c.if-is_some.false in
    changed_at c.args.self.now c.change_at.new.self c.args.num.now c.args.change c.in-Some.spot
    (sym c.spot_of.ensures ∙ c.in-Some.is) absent c.change_at.ensures.others c.change_at.ensures.lists c.requires
