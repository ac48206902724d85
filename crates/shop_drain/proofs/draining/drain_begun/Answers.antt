use Rattle.std.proofs.Common.{◌∙◌, ap, refl}
use Rattle.till_calls.specs.Mark.{Mark, sight_by}
use Rattle.till_calls.specs.Root.{items_in, parts_of}
use Rattle.till_calls.specs.Seat.{box_knows}
use Rattle.till_calls.specs.Shop.{first_items, seat_knows, shop_root, tills_know}
use Rattle.sender_session.specs.Kinds.{agency_state_of, agency_kind}
use Rattle.shop_drain.proofs.WithoutTills.{Closed, closed_from, still_held}
use Rattle.shop_drain.proofs.Agreed.{Stored}
use Rattle.shop_drain.proofs.NewSender.{NewDrainSays, drain_sends, drain_stops, of_new}
use Rattle.shop_drain.proofs.draining.drain_begun.Given.{Over}
use Rattle.shop_drain.proofs.draining.drain_begun.Goals as goal

pub close-requires-clause-whole : goal.close-requires-clause-whole
close-requires-clause-whole g c = λ n l.
    let marks = c.into_seat-seat.ensures.mark ∙ c.drain-answer.ensures.fixed ∙ c.seat_box-outbox.ensures.mark in
    still_held (tills_know c.args.begun.started.tills) (seat_knows c.args.begun.started.seat) (seat_knows c.into_seat-seat.result) n
    (ap (λ (m : Mark g.row.C.Denot). m.numbers) marks) (c.requires.whole n l)

closed : (g : Over) (c : goal.Joined-sender g) →
    Closed (first_items c.args.begun.started.shop) (items_in (parts_of c.close.result)) (shop_root c.args.begun.started.shop)
    (tills_know c.args.begun.started.tills) (box_knows c.seat_box-outbox.result) (box_knows c.drain-answer.new.outbox)
closed g c = closed_from (first_items c.args.begun.started.shop) (shop_root c.args.begun.started.shop) (items_in (parts_of c.close.result))
    (tills_know c.args.begun.started.tills) (seat_knows c.args.begun.started.seat)
    (box_knows c.seat_box-outbox.result) (box_knows c.drain-answer.new.outbox) (seat_knows c.into_seat-seat.result)
    c.seat_box-outbox.ensures.knows c.into_seat-seat.ensures.knows c.requires.new c.close.ensures.each c.close.ensures.begins
    c.close.ensures.since c.drain-answer.ensures.adds

stored : (g : Over) (c : goal.Joined-sender g) →
    Stored (first_items c.args.begun.started.shop) (items_in (parts_of c.close.result)) (shop_root c.args.begun.started.shop)
    (tills_know c.args.begun.started.tills) (box_knows c.seat_box-outbox.result) (box_knows c.drain-answer.new.outbox) (closed g c)
    (shop_root c.args.begun.started.shop).history (parts_of c.close.result).state.entries (parts_of c.close.result).stopped
    (parts_of c.close.result).torn
stored g c = record { base_is = c.requires.base; log_is = refl; begins = c.close.ensures.sound.begins }

says : (g : Over) (c : goal.Joined-sender g) → NewDrainSays (agency_kind g.G.Agency) g.Z.Sleeper.tells
    (sight_by (box_knows c.seat_box-outbox.result)) (sight_by (box_knows c.drain-answer.new.outbox))
    (agency_state_of g.G.Agency c.args.begun.agency) (agency_state_of g.G.Agency c.drain-answer.new.agency)
    (g.Z.Sleeper.moment c.args.begun.sleeper) (g.Z.Sleeper.moment c.drain-answer.new.sleeper) c.drain-answer.new.turns
    c.drain-answer.result c.drain-answer.new.self
says g c = of_new _ _ _ _ _ _ _ _ _ _ _ c.new-sender.result c.new-turns.result c.new-sender.ensures c.new-turns.ensures (record {
  drained = c.drain-answer.ensures.drained;
  adds = c.drain-answer.ensures.adds;
  agreement = c.drain-answer.ensures.agreement.keeps;
  no_contradiction = c.drain-answer.ensures.agreement.no_contradiction;
  if_torn = c.drain-answer.ensures.agreement.if_torn;
  careful = c.drain-answer.ensures.no_blind_repeat.careful;
  delivered = c.drain-answer.ensures.ends.delivered;
  bound = c.drain-answer.ensures.ends.bound;
})

pub returns-clause-stopped : goal.returns-clause-stopped
returns-clause-stopped g c = drain_stops _ _ _ _ _ _ (closed g c) _ _ _ (stored g c) _ _ _ _ _ _ _ _ _ (says g c)

pub returns-clause-sends : goal.returns-clause-sends
returns-clause-sends g c = drain_sends _ _ _ _ _ _ (closed g c) _ _ _ (stored g c) _ _ _ _ _ _ _ _ _ (says g c) (record {
  session = c.a_session_begins.ensures.session;
  careful = c.a_session_begins.ensures.careful;
  quiet = c.what_came_beside_is_records.ensures.quiet;
  beside = c.what_came_beside_is_records.ensures.own;
}) c.requires.legal
