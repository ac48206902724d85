use Rattle.std.proofs.Common.{subst, sym}
use Rattle.chain_lock.specs.Known.{Known}
use Rattle.once_world.specs.Outbox.{OwnWithin}
use Rattle.shop_core.specs.declared.items.Item.{Item}
use Rattle.till_calls.specs.Mark.{sight_by}
use Rattle.till_calls.specs.Root.{Root}
use Rattle.till_calls.proofs.shop.Shop.tell_seat.Goals as goal

pub invariant_of-seat : goal.invariant_of-seat
invariant_of-seat g c = record {
  within = subst (λ (k : Known Item (Root g.row.C.Denot)). OwnWithin (sight_by k)) (sym c.inform.ensures.raised)
      c.args.seat.now.within;
}
