use Rattle.standby.proofs.CaughtUp.{of_own}
use Rattle.standby.proofs.catching.is_of.Goals as goal

pub returns-in-Some : goal.returns-in-Some
returns-in-Some c =
    let s = c.args.state.now in
    let own = rw c.in-Some.is at c.in_ok-own.ensures.some in
    of_own s.version s.issuer s.entries c.in-Some.own c.args.piece.now c.have_one_body.result own.0 own.1
    c.have_one_body.ensures
