use Rattle.std.proofs.Common.{sym, ◌∙◌, arith}
use Rattle.shop_core.specs.History.{noted, recs}
use Rattle.statements.proofs.Accepted.{accepted_none, accepted_settled, accepted_waits}
use Rattle.statements.proofs.ledger.accepted_place.Goals as goal

pub returns-in-None : goal.returns-in-None
returns-in-None c =
    let e = c.args.state.now.entries in
    sym (accepted_none (recs e) (noted e) c.args.num.now (sym c.last_place.ensures ∙ c.in-None.is))

pub returns-then-noted-last : goal.returns-then-noted-last
returns-then-noted-last c =
    let e = c.args.state.now.entries in
    let n = c.noted.ensures.count in
    let lt = c.if-noted-last.true in
    sym (accepted_waits (recs e) (noted e) c.args.num.now c.in-Some.last (sym c.last_place.ensures ∙ c.in-Some.is)
    (omega (arith, n, lt)))

pub returns-else-noted-last : goal.returns-else-noted-last
returns-else-noted-last c =
    let e = c.args.state.now.entries in
    let n = c.noted.ensures.count in
    let le = c.if-noted-last.false in
    c.settled_place.ensures
    ∙ sym (accepted_settled (recs e) (noted e) c.args.num.now c.in-Some.last (sym c.last_place.ensures ∙ c.in-Some.is)
    (omega (arith, n, le)))
