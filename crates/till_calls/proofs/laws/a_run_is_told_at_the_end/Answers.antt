use Rattle.std.proofs.Common.{length, List, ap, arith}
use Rattle.shop_core.specs.declared.items.Item.{Item}
use Rattle.till_calls.proofs.Telling.{told_at_end}
use Rattle.till_calls.proofs.laws.a_run_is_told_at_the_end.Goals as goal

pub returns : goal.returns
returns g c = λ coming root items log old new asks replies fresh fits run.
    told_at_end coming root log (length items) old new asks replies (let e = ap (λ (l : List Item). length l) fresh.seen
    in omega (arith, e)) fresh.root_is fits.begins run
