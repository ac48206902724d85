use Rattle.std.proofs.Common.{bytes_eq, sym, ap, is_some}
use Rattle.std.specs.Map.{lookup}
use Rattle.shop_core.proofs.Numbered.{lists_stay, on_err}
use Rattle.shop_core.proofs.tables.by_number.ByNumber.append.Goals as goal

pub returns-in-Some-clause-err : goal.returns-in-Some-clause-err
returns-in-Some-clause-err c =
    on_err c.push.result (λ same.
    lists_stay c.args.series.now (λ q. lookup (bytes_eq q) c.args.self.now.lists.entries)
    (λ q. lookup (bytes_eq q) (c.get_mut.follows.lender c.push.new.list).entries) c.in-Some.list.now c.push.new.list
    c.in-Some.ensures.value same ((c.get_mut.follows.holds c.push.new.list).3 (sym (ap is_some c.in-Some.ensures.value))).0)
    c.push.ensures.err
