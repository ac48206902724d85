use Rattle.std.specs.Prelude.{◌≡◌, Ok}
use Rattle.sender.specs.Draining.{scene_of}
use Rattle.sender_session.specs.Kinds.{agency_state_of, agency_kind}
use Rattle.sender_session.specs.Session.{SendsOn}
use Rattle.sender_session.specs.Sessions.{StepsBeside}
use Rattle.sender_session.proofs.sending.send_until.Given as goal

-- the turns so far went on
abbrev pub invariant-loop : goal.invariant-loop
invariant-loop g l = record {
  next : (goal.iterator-loop g).can_next l.iterator';
  finite : (goal.iterator-loop g).is_finite l.iterator';
  fixed : g.O.Outbox.fixed l.outbox ≡ g.O.Outbox.fixed l.fn.outbox;
  sends : SendsOn (agency_kind g.G.Agency) (g.O.Outbox.sight l.fn.outbox)
      (g.O.Outbox.sight l.outbox)
      (agency_state_of g.G.Agency l.fn.agency) (agency_state_of g.G.Agency l.agency) l.fn.sender l.sender (Ok tt);
  steps : StepsBeside (agency_kind g.G.Agency) g.Z.Sleeper.tells
      (scene_of (agency_state_of g.G.Agency l.fn.agency) (g.O.Outbox.sight l.fn.outbox) l.fn.sender (g.Z.Sleeper.moment l.fn.sleeper))
      (scene_of (agency_state_of g.G.Agency l.agency) (g.O.Outbox.sight l.outbox) l.sender (g.Z.Sleeper.moment l.sleeper)) (Ok tt);
}
