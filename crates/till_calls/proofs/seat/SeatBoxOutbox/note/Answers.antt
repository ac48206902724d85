use Rattle.till_calls.specs.Shop.{seat_knows}
use Rattle.till_calls.proofs.Seating.{noted_by, stopped_by}
use Rattle.till_calls.proofs.seat.SeatBoxOutbox.note.Goals as goal

pub returns-clause-noted : goal.returns-clause-noted
returns-clause-noted g c = noted_by c.args.lines.now (seat_knows c.args.self.now.seat) c.turn.result
    (seat_knows c.turn.new.self) c.turn.ensures.turn

pub returns-clause-stopped : goal.returns-clause-stopped
returns-clause-stopped g c = λ faults. stopped_by c.args.lines.now (seat_knows c.args.self.now.seat) c.turn.result
    (seat_knows c.turn.new.self) faults c.turn.ensures.turn
