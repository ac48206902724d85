use Rattle.std.proofs.Common.{◌≡◌, ℕ, inl, inr, sym, subst, Result}
use Rattle.sender.specs.Draining.{scene_of}
use Rattle.sender.specs.declared.answers.DrainFault.{DrainFault}
use Rattle.sender_session.specs.Kinds.{agency_state_of, agency_kind}
use Rattle.sender_session.specs.Session.{IsUndelivered, SendsOn}
use Rattle.sender_session.specs.Sessions.{RestsTo, StepsBeside}
use Rattle.sender_session.proofs.Clear.{turn_before}
use Rattle.sender_session.proofs.Closings.{one_steps}
use Rattle.sender_session.proofs.Contrary.{turn_answers, turn_shows}
use Rattle.sender_session.proofs.Noting.{turn_notes}
use Rattle.sender_session.proofs.Stops.{is_disk_fault}
use Rattle.sender_session.proofs.Torn.{turn_tears}
use Rattle.sender_session.proofs.Turns.{never_end, never_gives_up, notes_end, stopped_end}
use Rattle.sender_session.proofs.sending.one_turn.Goals as goal

pub returns-clause-fixed : goal.returns-clause-fixed
returns-clause-fixed g c = c.turn-answer.ensures.above.fixed

pub returns-clause-sends : goal.returns-clause-sends
returns-clause-sends g c =
    let kind = agency_kind g.G.Agency in
    let old = agency_state_of g.G.Agency c.args.agency.now in
    let new = agency_state_of g.G.Agency c.turn-answer.new.agency in
    let before = g.O.Outbox.sight c.args.outbox.now in
    let after = g.O.Outbox.sight c.turn-answer.new.outbox in
    let answer = c.turn-answer.result in
    let e = c.turn-answer.ensures in
    subst (λ (r : Result (Unit {0}) DrainFault). SendsOn kind before after old new c.args.sender.now c.turn-answer.new.self r)
    (sym c.going_on.ensures) (record {
      shop = record {
        adds = e.above.adds;
        notes = elim (is_disk_fault answer) [
          | inl is ↦ inr (notes_end kind old new answer is)
          | inr never ↦ inl (e.above.notes never)
        ];
        stopped = stopped_end kind old new before after c.args.sender.now c.turn-answer.new.self c.now-now.result answer e.turned;
        session = λ keeps in_it gains. let k = e.agreement.keeps keeps in_it gains in
            record { session = k.session; begins = k.begins };
        no_contradiction = λ keeps in_it gains. never_end answer before after old new c.turn-answer.new.self
            (e.agreement.keeps keeps in_it gains);
        torn = e.agreement.torn;
      };
      messages = record {
        careful = e.no_blind_repeat.careful;
        says = e.above.says;
        kept = e.no_blind_repeat.kept;
        contrary = turn_shows kind old new before after c.args.sender.now c.turn-answer.new.self c.now-now.result answer e.turned;
        shown = turn_answers kind old new before after c.args.sender.now c.turn-answer.new.self c.now-now.result answer e.turned;
        none_before = turn_before kind old new before after c.args.sender.now c.turn-answer.new.self c.now-now.result answer
            e.turned;
        lines = turn_notes c.what_came_beside_is_records.ensures.quiet c.what_came_beside_is_records.ensures.own kind old new
            before after c.args.sender.now c.turn-answer.new.self c.now-now.result answer e.turned;
        torn_lines = turn_tears kind old new before after c.args.sender.now c.turn-answer.new.self c.now-now.result answer
            e.turned;
      };
      ends = record {
        later = e.link_fault.later;
        counts = λ n r is. absurd (never_gives_up answer n r is);
        undelivered = λ n r is. absurd (never_gives_up answer n r is);
        gives_up = λ tells n r is. absurd (never_gives_up answer n r is);
        gave_up = λ is. absurd (never_gives_up answer is.0 is.1 is.2);
      };
    })

pub returns-clause-steps : goal.returns-clause-steps
returns-clause-steps g c =
    let kind = agency_kind g.G.Agency in
    let moment = g.Z.Sleeper.moment in
    let Scened : ℕ → ℕ → Result (Unit {0}) DrainFault → Type 0 = λ m n r. StepsBeside kind g.Z.Sleeper.tells
    (scene_of (agency_state_of g.G.Agency c.args.agency.now) (g.O.Outbox.sight c.args.outbox.now) c.args.sender.now m)
    (scene_of (agency_state_of g.G.Agency c.turn-answer.new.agency) (g.O.Outbox.sight c.turn-answer.new.outbox) c.turn-answer.new.self n)
    r in
    let same : moment c.now-now.new.self ≡ moment c.args.sleeper.now = c.now-now.ensures.same in
    subst (λ (r : Result (Unit {0}) DrainFault). Scened (moment c.args.sleeper.now) (moment c.pause.new.sleeper) r) (sym c.going_on.ensures)
    (one_steps c.what_came_beside_is_records.ensures.quiet c.what_came_beside_is_records.ensures.own kind g.Z.Sleeper.tells _ _
    c.now-now.result c.turn-answer.result c.now-now.ensures.told c.turn-answer.ensures.turned
    (subst (λ (m : ℕ). RestsTo m (moment c.pause.new.sleeper) c.turn-answer.result) same c.pause.ensures))

pub returns-clause-never : goal.returns-clause-never
returns-clause-never g c = λ is.
    let told = subst (λ (r : Result (Unit {0}) DrainFault). IsUndelivered r) c.going_on.ensures is in
    never_gives_up c.turn-answer.result told.0 told.1 told.2
