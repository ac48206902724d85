use Rattle.std.proofs.Common.{arith}
use Rattle.shop_core.proofs.Numbered.{last_entered, on_ok}
use Rattle.shop_core.proofs.tables.by_number.ByNumber.enter_at.Goals as goal

pub returns-clause-ok : goal.returns-clause-ok
returns-clause-ok c =
    on_ok c.append.result (λ lists.
    last_entered c.args.self.now c.append.new.self c.args.num.now c.args.spot.now c.requires.spot lists
    (omega (arith, c.len_of-len.ensures)))
    c.append.ensures.ok
