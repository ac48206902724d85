use Rattle.till_calls.specs.Shop.{seat_knows}
use Rattle.till_calls.proofs.Seating.{covered}
use Rattle.till_calls.proofs.seat.SeatBoxOutbox.waiting.Goals as goal

pub returns-clause-covers : goal.returns-clause-covers
returns-clause-covers g c = covered _ (seat_knows c.args.self.now.seat) (seat_knows c.turn.new.self) c.turn.ensures.turn
