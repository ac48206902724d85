use Rattle.std.proofs.Common.{◌≡◌, ◌∙◌, [], ap, sym, subst}
use Rattle.shop_core.specs.declared.items.Item.{Item}
use Rattle.standby.specs.Pairs.{Both, GoOn, IsPair, Paired, both_of, items_in, sight_of, stop_of}
use Rattle.chain_lock.specs.Known.{Known}
use Rattle.till_calls.specs.Mark.{sight_by}
use Rattle.till_calls.specs.Root.{Root}
use Rattle.sender_session.specs.Kinds.{agency_state_of, agency_kind}
use Rattle.shop_drain.specs.Guarding.{first_torn}
use Rattle.shop_drain.proofs.WithoutTills.{Closed}
use Rattle.shop_drain.proofs.Agreed.{Stored}
use Rattle.shop_drain.proofs.NewSender.{NewDrainSays, SessionLaws, at_sights, drain_misses, drain_sends, drain_stops, of_new}
use Rattle.shop_drain.proofs.Paired.{first_of, pair_by, pair_closed, pair_stored, paired_root, seat_first, seat_then}
use Rattle.shop_drain.proofs.Paired.{seen_first, seen_then}
use Rattle.shop_drain.proofs.guarding.drain_pair.Given.{Over}
use Rattle.shop_drain.proofs.guarding.drain_pair.Goals as goal

abbrev start : (g : Over) (c : goal.Joined-sender g) → Both g.row.D.Denot g.row.C.Denot g.row.M.Denot
start g c = both_of c.args.opened.store c.args.standby

abbrev present : (g : Over) (c : goal.Joined-sender g) → Both g.row.D.Denot g.row.C.Denot g.row.M.Denot
present g c = both_of c.into_parts-store.result.0 c.into_parts-store.result.1

-- the pair at the end is that of these parts
pair_is : (g : Over) (c : goal.Joined-sender g) → c.drain-answer.new.outbox ≡ record { start = start g c; present = present g c }
pair_is g c = pair_by c.drain-answer.new.outbox (start g c) (present g c)
    (c.drain-answer.ensures.fixed ∙
    ap (λ (q : Paired g.row.D.Denot g.row.C.Denot g.row.M.Denot). q.start) c.of-pair.ensures)
    (sym c.into_parts-store.ensures.parts)

is_pair : (g : Over) (c : goal.Joined-sender g) → IsPair g.D.Disk.tells g.D.Disk.on_disk g.D.Disk.faults g.M.Disk.tells
    g.M.Disk.on_disk g.M.Disk.faults (start g c) (present g c)
is_pair g c = subst (λ (q : Both g.row.D.Denot g.row.C.Denot g.row.M.Denot). IsPair g.D.Disk.tells g.D.Disk.on_disk g.D.Disk.faults
    g.M.Disk.tells g.M.Disk.on_disk g.M.Disk.faults q (present g c))
    (ap (λ (q : Paired g.row.D.Denot g.row.C.Denot g.row.M.Denot). q.start) (pair_is g c)) c.into_parts-store.ensures.pair

pub returns-clause-pair : goal.returns-clause-pair
returns-clause-pair g c = is_pair g c

abbrev root : (g : Over) (c : goal.Joined-sender g) → Root g.row.C.Denot
root g c = paired_root g.D.Disk.on_disk g.D.Disk.faults (start g c)

abbrev first : (g : Over) (c : goal.Joined-sender g) → Known Item (Root g.row.C.Denot)
first g c = seat_first (root g c) (first_of (start g c))

abbrev last : (g : Over) (c : goal.Joined-sender g) → Known Item (Root g.row.C.Denot)
last g c = seat_then (root g c) (first_of (start g c)) (items_in (present g c))

going_on : (g : Over) (c : goal.Joined-sender g) → GoOn (start g c)
going_on g c = record { shop = c.requires.going_on.0; standby = c.requires.going_on.1 }

seen_at_first : (g : Over) (c : goal.Joined-sender g) → sight_by (first g c) ≡ sight_of c.of-pair.result
seen_at_first g c = seen_first g.D.Disk.tells g.D.Disk.on_disk g.D.Disk.faults g.M.Disk.tells g.M.Disk.on_disk g.M.Disk.faults
    (start g c) (present g c) (is_pair g c) (going_on g c) ∙
    ap (λ (q : Paired g.row.D.Denot g.row.C.Denot g.row.M.Denot). sight_of q) (sym c.of-pair.ensures)

seen_at_last : (g : Over) (c : goal.Joined-sender g) → sight_by (last g c) ≡ sight_of c.drain-answer.new.outbox
seen_at_last g c = seen_then g.D.Disk.tells g.D.Disk.on_disk g.D.Disk.faults g.M.Disk.tells g.M.Disk.on_disk g.M.Disk.faults
    (start g c) (present g c) (is_pair g c) ∙
    ap (λ (q : Paired g.row.D.Denot g.row.C.Denot g.row.M.Denot). sight_of q) (sym (pair_is g c))

says : (g : Over) (c : goal.Joined-sender g) → NewDrainSays (agency_kind g.G.Agency) g.Z.Sleeper.tells
    (sight_by (first g c)) (sight_by (last g c)) (agency_state_of g.G.Agency c.args.opened.agency)
    (agency_state_of g.G.Agency c.drain-answer.new.agency) (g.Z.Sleeper.moment c.args.opened.sleeper)
    (g.Z.Sleeper.moment c.drain-answer.new.sleeper) c.drain-answer.new.turns c.drain-answer.result c.drain-answer.new.self
says g c = at_sights _ _ _ _ _ _ _ _ _ _ _ _ _ (seen_at_first g c) (seen_at_last g c)
    (of_new _ _ _ _ _ _ _ _ _ _ _ c.new-sender.result c.new-turns.result c.new-sender.ensures c.new-turns.ensures (record {
      drained = c.drain-answer.ensures.drained;
      adds = c.drain-answer.ensures.adds;
      agreement = c.drain-answer.ensures.agreement.keeps;
      no_contradiction = c.drain-answer.ensures.agreement.no_contradiction;
      if_torn = c.drain-answer.ensures.agreement.if_torn;
      careful = c.drain-answer.ensures.no_blind_repeat.careful;
      delivered = c.drain-answer.ensures.ends.delivered;
      bound = c.drain-answer.ensures.ends.bound;
    }))

closed : (g : Over) (c : goal.Joined-sender g) →
    Closed (first_of (start g c)) (items_in (present g c)) (root g c) [] (first g c) (last g c)
closed g c = pair_closed g.D.Disk.tells g.D.Disk.on_disk g.D.Disk.faults g.M.Disk.tells g.M.Disk.on_disk g.M.Disk.faults
    (start g c) (present g c) (is_pair g c) (says g c).adds

stored : (g : Over) (c : goal.Joined-sender g) →
    Stored (first_of (start g c)) (items_in (present g c)) (root g c) [] (first g c) (last g c) (closed g c) (root g c).history
    (present g c).standby.history.entries (stop_of (present g c))
    (first_torn (present g c).shop.stopped (present g c).shop.torn (present g c).standby.torn)
stored g c = pair_stored g.D.Disk.tells g.D.Disk.on_disk g.D.Disk.faults g.M.Disk.tells g.M.Disk.on_disk g.M.Disk.faults
    (start g c) (present g c) (is_pair g c) (closed g c)

pub returns-clause-stopped : goal.returns-clause-stopped
returns-clause-stopped g c = drain_stops _ _ _ _ _ _ (closed g c) _ _ _ (stored g c) _ _ _ _ _ _ _ _ _ (says g c)

laws : (g : Over) (c : goal.Joined-sender g) → SessionLaws
laws g c = record {
  session = c.a_session_begins.ensures.session;
  careful = c.a_session_begins.ensures.careful;
  quiet = c.what_came_beside_is_records.ensures.quiet;
  beside = c.what_came_beside_is_records.ensures.own;
}

pub returns-clause-sends : goal.returns-clause-sends
returns-clause-sends g c = drain_sends _ _ _ _ _ _ (closed g c) _ _ _ (stored g c) _ _ _ _ _ _ _ _ _ (says g c) (laws g c)
    c.is_sound.ensures.legal

pub returns-clause-missed : goal.returns-clause-missed
returns-clause-missed g c = drain_misses _ _ _ _ _ _ (closed g c) _ _ _ (stored g c) _ _ _ _ _ _ _ _ _ (says g c) (laws g c)
