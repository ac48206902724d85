use Rattle.chain_lock.specs.Words.{known}
use Rattle.till_calls.specs.Shop.{seat_knows}
use Rattle.till_calls.proofs.Seating.{within_still}
use Rattle.till_calls.proofs.tills.SenderSeat.turn.Goals as goal

pub invariant_of-self : goal.invariant_of-self
invariant_of-self g c = record {
  within = within_still _ (seat_knows c.args.self.now) (known c.turn.new.pass) c.turn.ensures.turn
      c.args.self.now.within;
}
