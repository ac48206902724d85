use Rattle.std.proofs.Common.{◌≤◌, ◌∙◌, arith, length, refl, sym, subst, Result}
use Rattle.std.specs.Prelude.{OnOk}
use Rattle.chain_lock.specs.Known.{Known}
use Rattle.sender.specs.Draining.{Scene, scene_of}
use Rattle.sender.specs.declared.answers.DrainFault.{DrainFault}
use Rattle.shop_core.specs.declared.items.Item.{Item}
use Rattle.till_calls.specs.Mark.{sight_by}
use Rattle.till_calls.specs.Root.{Root}
use Rattle.till_calls.specs.Seat.{box_knows}
use Rattle.till_calls.specs.Shop.{seat_knows}
use Rattle.sender_session.specs.Kinds.{agency_state_of, agency_kind}
use Rattle.sender_session.specs.Session.{DrainsTo, SendsOn}
use Rattle.sender_session.proofs.Clear.{drained_before}
use Rattle.sender_session.proofs.Contrary.{drained_answers, drained_shows}
use Rattle.sender_session.proofs.GivingUp.{drained_gives_up}
use Rattle.sender_session.proofs.NotingTurns.{drained_notes}
use Rattle.sender_session.proofs.Stops.{drained_stopped}
use Rattle.sender_session.proofs.Torn.{drained_tears}
use Rattle.sender_session.proofs.Turns.{drained_counts, drained_later, drained_notes_or, drains_from, no_error, on_fault, on_ok}
use Rattle.sender_session.proofs.Turns.{sends_then}
use Rattle.sender_beside.proofs.Behind.{off_error, on_error}
use Rattle.sender_beside.proofs.sending.drain_rest.Goals as goal

pub returns-then-is_err-clause-turns : goal.returns-then-is_err-clause-turns
returns-then-is_err-clause-turns g c = on_fault _ c.args.sent.answer (sym c.is_err.ensures.value ∙ c.if-is_err.true)

pub returns-clause-turns : goal.returns-clause-turns
returns-clause-turns g c =
    let kind = agency_kind g.G.Agency in
    let exact = g.Z.Sleeper.tells in
    let answer = c.drain-answer.result in
    let before : Known Item (Root g.row.C.Denot) → Scene = λ k. scene_of (agency_state_of g.G.Agency c.args.sent.agency) (sight_by k)
    c.args.sent.sender (g.Z.Sleeper.moment c.args.sent.sleeper) in
    let after : Known Item (Root g.row.C.Denot) → Scene = λ k. scene_of (agency_state_of g.G.Agency c.drain-answer.new.agency)
    (sight_by k) c.drain-answer.new.self (g.Z.Sleeper.moment c.drain-answer.new.sleeper) in
    let drains : DrainsTo kind exact (before (box_knows c.seat_box-outbox.result)) (after (box_knows c.drain-answer.new.outbox))
    answer = drains_from _ _ _ _ _ _ _ c.new-turns.ensures c.drain-answer.ensures.drained in
    on_ok c.args.sent.answer
    (subst (λ (k : Known Item (Root g.row.C.Denot)). DrainsTo kind exact (before k) (after (seat_knows c.into_seat.result)) answer)
    c.seat_box-outbox.ensures.knows
    (subst (λ (k : Known Item (Root g.row.C.Denot)). DrainsTo kind exact (before (box_knows c.seat_box-outbox.result)) (after k)
    answer) (sym c.into_seat.ensures.knows) drains))

pub returns-clause-sends : goal.returns-clause-sends
returns-clause-sends g c = λ before agency_state sending x.
    let kind = agency_kind g.G.Agency in
    let mid = agency_state_of g.G.Agency c.args.sent.agency in
    let new = agency_state_of g.G.Agency c.drain-answer.new.agency in
    let answer = c.drain-answer.result in
    let a = sight_by (box_knows c.seat_box-outbox.result) in
    let b = sight_by (box_knows c.drain-answer.new.outbox) in
    let e = c.drain-answer.ensures in
    let first : Scene = scene_of mid a c.args.sent.sender (g.Z.Sleeper.moment c.args.sent.sleeper) in
    let last : Scene = scene_of new b c.drain-answer.new.self (g.Z.Sleeper.moment c.drain-answer.new.sleeper) in
    let drains : DrainsTo kind g.Z.Sleeper.tells first last answer = drains_from _ _ _ _ _ _ _ c.new-turns.ensures e.drained in
    let drained : SendsOn kind a b mid new c.args.sent.sender c.drain-answer.new.self answer = record {
      shop = record {
        adds = e.adds;
        notes = drained_notes_or kind g.Z.Sleeper.tells first last mid new answer drains refl refl;
        stopped = drained_stopped _ _ _ _ _ _ _ e.drained;
        session = e.agreement.keeps;
        no_contradiction = e.agreement.no_contradiction;
        torn = e.agreement.if_torn;
      };
      messages = record {
        careful = e.no_blind_repeat.careful;
        says = e.messages.says;
        kept = e.no_blind_repeat.kept;
        contrary = drained_shows _ _ _ _ _ _ _ e.drained;
        shown = drained_answers _ _ _ _ _ _ _ e.drained;
        none_before = drained_before _ _ _ _ _ _ _ e.drained;
        lines = λ tells. drained_notes c.what_came_beside_is_records.ensures.quiet c.what_came_beside_is_records.ensures.own kind
            _ tells _ _ _ _ _ e.drained;
        torn_lines = drained_tears _ _ _ _ _ _ _ e.drained;
      };
      ends = record {
        later = drained_later _ _ _ _ _ _ _ e.drained;
        counts = drained_counts _ _ _ _ _ _ _ e.drained;
        undelivered = e.ends.undelivered;
        gives_up = drained_gives_up _ _ _ _ _ _ _ e.drained;
        gave_up = λ is. record {
          exact = g.Z.Sleeper.tells;
          before = first;
          after = last;
          drains = drains;
          agency_state = refl;
          later = omega arith;
        };
      };
    } in
    let into : SendsOn kind (sight_by (seat_knows c.args.sent.seat)) (sight_by (seat_knows c.into_seat.result)) mid new
    c.args.sent.sender c.drain-answer.new.self answer =
    subst (λ (k : Known Item (Root g.row.C.Denot)). SendsOn kind (sight_by k) (sight_by (seat_knows c.into_seat.result)) mid new
    c.args.sent.sender c.drain-answer.new.self answer) c.seat_box-outbox.ensures.knows
    (subst (λ (k : Known Item (Root g.row.C.Denot)). SendsOn kind a (sight_by k) mid new c.args.sent.sender
    c.drain-answer.new.self answer) (sym c.into_seat.ensures.knows) drained) in
    let beside = subst (λ (r : Result (Unit {0}) DrainFault). SendsOn kind before (sight_by (seat_knows c.args.sent.seat)) agency_state mid
    sending c.args.sent.sender r) (no_error c.args.sent.answer (sym c.is_err.ensures.value ∙ c.if-is_err.false)) x in
    sends_then kind before (sight_by (seat_knows c.args.sent.seat)) (sight_by (seat_knows c.into_seat.result)) agency_state mid new
    sending c.args.sent.sender c.drain-answer.new.self answer beside into

pub returns-clause-covers : goal.returns-clause-covers
returns-clause-covers g c =
    subst (λ (k : Known Item (Root g.row.C.Denot)). OnOk c.drain-answer.result (k.least ≤ length
    (seat_knows c.into_seat.result).seen)) c.seat_box-outbox.ensures.knows
    (subst (λ (k : Known Item (Root g.row.C.Denot)). OnOk c.drain-answer.result ((box_knows c.seat_box-outbox.result).least ≤
    length k.seen)) (sym c.into_seat.ensures.knows) c.drain-answer.ensures.covers)

pub returns-then-is_err-clause-failed : goal.returns-then-is_err-clause-failed
returns-then-is_err-clause-failed g c = on_error c.args.sent.answer refl

pub returns-clause-failed : goal.returns-clause-failed
returns-clause-failed g c = off_error _ c.args.sent.answer (sym c.is_err.ensures.value ∙ c.if-is_err.false)

pub returns-then-is_err-clause-no_rest : goal.returns-then-is_err-clause-no_rest
returns-then-is_err-clause-no_rest g c = g.met.Z.Sleeper.unrested c.args.sent.sleeper
