use Rattle.std.proofs.Common.{sym, subst}
use Rattle.chain_lock.specs.Known.{Known}
use Rattle.sender.specs.Draining.{scene_of}
use Rattle.sender.specs.Sending.{Sending}
use Rattle.shop_core.specs.declared.items.Item.{Item}
use Rattle.till_calls.specs.Mark.{sight_by}
use Rattle.till_calls.specs.Root.{Root}
use Rattle.till_calls.specs.Seat.{box_knows}
use Rattle.till_calls.specs.Shop.{seat_knows}
use Rattle.sender_session.specs.Kinds.{agency_state_of, agency_kind}
use Rattle.sender_session.specs.Session.{SendsOn}
use Rattle.sender_session.specs.Sessions.{StepsBeside}
use Rattle.sender_beside.proofs.sending.send_part.Goals as goal

pub returns-clause-sends : goal.returns-clause-sends
returns-clause-sends g c =
    let kind = agency_kind g.G.Agency in
    let old = agency_state_of g.G.Agency c.args.agency in
    let new = agency_state_of g.G.Agency c.send_until-answer.new.agency in
    let answer = c.send_until-answer.result in
    let sender = c.send_until-answer.new.sender in
    let boxed = c.seat_box-outbox.result in
    subst (λ (q : Sending). SendsOn kind (sight_by (seat_knows c.args.seat)) (sight_by (seat_knows c.into_seat.result)) old new q
    sender answer) c.new-sender.ensures
    (subst (λ (k : Known Item (Root g.row.C.Denot)). SendsOn kind (sight_by k) (sight_by (seat_knows c.into_seat.result)) old new
    c.new-sender.result sender answer) c.seat_box-outbox.ensures.knows
    (subst (λ (k : Known Item (Root g.row.C.Denot)). SendsOn kind (sight_by (box_knows boxed)) (sight_by k) old new
    c.new-sender.result sender answer) (sym c.into_seat.ensures.knows) c.send_until-answer.ensures.sends))

pub returns-clause-steps : goal.returns-clause-steps
returns-clause-steps g c =
    let kind = agency_kind g.G.Agency in
    let exact = g.Z.Sleeper.tells in
    let old = agency_state_of g.G.Agency c.args.agency in
    let new = agency_state_of g.G.Agency c.send_until-answer.new.agency in
    let answer = c.send_until-answer.result in
    let sender = c.send_until-answer.new.sender in
    let begins = g.Z.Sleeper.moment c.args.sleeper in
    let ends = g.Z.Sleeper.moment c.send_until-answer.new.sleeper in
    let boxed = c.seat_box-outbox.result in
    let Sends : Known Item (Root g.row.C.Denot) → Known Item (Root g.row.C.Denot) → Sending → Type 0 = λ k l q.
    StepsBeside kind exact (scene_of old (sight_by k) q begins) (scene_of new (sight_by l) sender ends) answer in
    subst (λ (q : Sending). Sends (seat_knows c.args.seat) (seat_knows c.into_seat.result) q) c.new-sender.ensures
    (subst (λ (k : Known Item (Root g.row.C.Denot)). Sends k (seat_knows c.into_seat.result) c.new-sender.result)
    c.seat_box-outbox.ensures.knows
    (subst (λ (k : Known Item (Root g.row.C.Denot)). Sends (box_knows boxed) k c.new-sender.result) (sym c.into_seat.ensures.knows)
    c.send_until-answer.ensures.steps))
