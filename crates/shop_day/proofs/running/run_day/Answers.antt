use Rattle.std.proofs.Common.{◌≡◌, ◌≤◌, ◌∙◌, List, [], length, map, refl, rules, sym, ap, subst, arith, true, vec_capacity}
use Rattle.std.proofs.lemmas.List.{length-map, length-reverse}
use Rattle.record_codec.specs.declared.entry.Entry.{Entry}
use Rattle.shop_core.specs.declared.items.Item.{Item}
use Rattle.shop_core.specs.declared.items.Item.TheVariants as item
use Rattle.atomic_table.specs.Seated.{TableId}
use Rattle.chain_lock.specs.Known.{Known}
use Rattle.once_world.specs.Outbox.{Sight}
use Rattle.sender.specs.Agreeing.{AreNotesOrTorn}
use Rattle.sender.specs.Draining.{scene_of}
use Rattle.sender.specs.Sending.{fresh}
use Rattle.till_calls.specs.Mark.{Mark, mark_by, sight_by}
use Rattle.till_calls.specs.Root.{Root, items_in, parts_of}
use Rattle.till_calls.specs.Shop.{first_items, seat_knows, seat_shop, shop_root, tills_know}
use Rattle.sender_session.specs.Session.{SendsOn}
use Rattle.sender_session.specs.Sessions.{StepsBeside}
use Rattle.sender_session.proofs.Turns.{growth_of}
use Rattle.sender_session.specs.Kinds.{agency_state_of, agency_kind}
use Rattle.sender_beside.specs.Behind.{scene_in}
use Rattle.sender_beside.specs.Tills.{asks_of}
use Rattle.sender_beside.specs.declared.sending.Sent.{Sent}
use Rattle.shop_day.specs.TillJobs.{day_of, tills_in, told_in}
use Rattle.shop_day.specs.declared.tills.TillDay.{TillDay}
use Rattle.sender_beside.proofs.DayRuns.{counts, ended, held_again, same_tills, shared}
use Rattle.shop_day.proofs.TillJobs.{all_turned, same_numbers}
use Rattle.sender_beside.proofs.Rows.{ran_as, distinct_of}
use Rattle.sender_beside.proofs.Joined.{sends_beside, whole_session}
use Rattle.sender_beside.proofs.Behind.{behind, shown_behind}
use Rattle.sender_beside.proofs.ClosedShop.{is_stopped}
use Rattle.shop_day.proofs.running.run_day.Goals as goal

pub tills_beside-sent-requires-clause-room : goal.tills_beside-sent-requires-clause-room
tills_beside-sent-requires-clause-room g c κs within =
    all_turned day_of (λ (d : TillDay). (length (asks_of d.till c.args.asks.now) ≤ vec_capacity d.answers) ×
    (d.answers.items ≡ [])) c.hand_out.new.jobs.items c.args.room.days.items c.hand_out.ensures.days c.requires.room

pub hand_in-requires-clause-room : goal.hand_in-requires-clause-room
hand_in-requires-clause-room g c =
    let e = c.tills_beside-sent.ensures.len in
    let f : length c.hand_out.new.jobs.items ≡ length c.args.room.days.items =
    sym (length-map c.hand_out.new.jobs.items day_of) ∙ sym (length-reverse (map day_of c.hand_out.new.jobs.items)) ∙
    ap (λ (l : List TillDay). length l) c.hand_out.ensures.days in
    let r = c.hand_out.ensures.room in
    let m = c.requires.made in
    let s = c.hand_out.ensures.same.1 in
    search rules

pub close-requires-clause-whole : goal.close-requires-clause-whole
close-requires-clause-whole g c = λ n l.
    let ran = ran_as g.C.Clock.coming c.args.asks.now _ _ _ _ _ _ _ _ (ap tills_in c.hand_out.ensures.days)
    c.hand_out.ensures.knows (sym (ap (λ (l : List TillDay). map told_in l) c.hand_in.ensures.days)) (sym c.hand_in.ensures.knows)
    c.tills_beside-sent.ensures.ran in
    let old = c.tills_beside-sent.result.seat in
    let new = c.hand_in.new.seat in
    let shown : mark_by (seat_shop new) (seat_knows new) ≡ mark_by (seat_shop old) (seat_knows old) =
    ap (λ (k : Known Item (Root g.row.C.Denot)). mark_by (seat_shop new) k) c.hand_in.ensures.seat.1
    ∙ ap (λ (s : TableId). mark_by s (seat_knows old)) c.hand_in.ensures.seat.0 in
    let marks = c.drain_rest-rest.ensures.mark ∙ shown ∙ c.tills_beside-sent.ensures.mark in
    let again = held_again g.C.Clock.coming c.args.asks.now (tills_in c.args.room.days.items) (map told_in c.hand_in.new.days.items)
    (tills_know c.args.begun.started.tills) (tills_know c.hand_in.new.tills) (seat_knows c.args.begun.started.seat)
    (seat_knows c.drain_rest-rest.result.seat) ran
    (ap (λ (m : Mark g.row.C.Denot). m.numbers) marks) n in
    let once = c.requires.begun.whole n l in
    omega (arith, again, once)

pub returns-clause-day : goal.returns-clause-day
returns-clause-day g c =
    let ran = ran_as g.C.Clock.coming c.args.asks.now _ _ _ _ _ _ _ _ (ap tills_in c.hand_out.ensures.days)
    c.hand_out.ensures.knows (sym (ap (λ (l : List TillDay). map told_in l) c.hand_in.ensures.days)) (sym c.hand_in.ensures.knows)
    c.tills_beside-sent.ensures.ran in
    let p = parts_of c.close.result in
    let shop = c.args.begun.started.shop in
    let seat = seat_knows c.args.begun.started.seat in
    let then = seat_knows c.drain_rest-rest.result.seat in
    let kind = agency_kind g.G.Agency in
    let opened = agency_state_of g.G.Agency c.args.begun.agency in
    let after = agency_state_of g.G.Agency c.drain_rest-rest.result.agency in
    let answer = c.drain_rest-rest.result.answer in
    let told = map told_in c.hand_in.new.days.items in
    let sends = c.drain_rest-rest.ensures.sends _ _ _ (subst (λ (s : Sight). SendsOn kind (sight_by seat) s opened
    (agency_state_of g.G.Agency c.tills_beside-sent.result.agency) fresh c.tills_beside-sent.result.sender c.tills_beside-sent.result.answer)
    (sym (ap (λ (k : Known Item (Root g.row.C.Denot)). sight_by k) c.hand_in.ensures.seat.1)) c.tills_beside-sent.ensures.sends) in
    let h = shared g.D.Disk.tells g.D.Disk.on_disk g.D.Disk.faults g.C.Clock.coming c.args.asks.now p (shop_root shop)
    (first_items shop) (tills_in c.args.room.days.items) told (tills_know c.args.begun.started.tills)
    (tills_know c.hand_in.new.tills) seat then ran c.requires.begun.new
    (c.a_till_owns_records_and_stops.ensures g.C.Clock.coming) c.close.ensures.each c.close.ensures.begins c.close.ensures.since sends.shop.adds in
    ended g.D.Disk.tells g.D.Disk.on_disk g.D.Disk.faults g.C.Clock.coming c.args.asks.now p (shop_root shop) (first_items shop)
    (tills_in c.args.room.days.items) told (tills_know c.args.begun.started.tills) (tills_know c.hand_in.new.tills) seat then
    ran c.requires.begun.new g.C.Clock.coming kind opened after true answer
    (c.a_till_adds_for_no_other.ensures g.C.Clock.coming) (c.a_till_adds_what_is_taken.ensures g.C.Clock.coming)
    (ap (λ (l : List Item). length l) c.requires.begun.base ∙ length-map (shop_root shop).history (λ (e : Entry). item.Entry e))
    (distinct_of (λ (d : TillDay). d.till) c.args.room.days.items c.requires.distinct) h sends.shop.notes
    (λ disk. is_stopped (first_items shop) (items_in p) (shop_root shop) (tills_know c.hand_in.new.tills) seat then h
    (shop_root shop).history p.state.entries p.stopped p.torn (record {
      base_is = c.requires.begun.base;
      log_is = refl;
      begins = c.close.ensures.sound.begins;
    }) (sends.shop.stopped disk))
    c.close.ensures.sound
    (λ is. counts g.D.Disk.tells g.D.Disk.on_disk g.D.Disk.faults g.C.Clock.coming c.args.asks.now p (shop_root shop) (first_items shop)
    (tills_in c.args.room.days.items) told (tills_know c.args.begun.started.tills) (tills_know c.hand_in.new.tills) seat then
    ran c.requires.begun.new answer (c.a_till_owns_within_what_it_knows.ensures g.C.Clock.coming) c.who_sees_all_that_is_owned_sees_all.ensures h
    (seat_knows c.hand_in.new.seat).least c.hand_in.ensures.told c.drain_rest-rest.ensures.covers
    c.drain_rest-rest.ensures.delivered)
    (sends_beside g.D.Disk.tells g.D.Disk.on_disk g.D.Disk.faults g.C.Clock.coming g.C.Clock.coming p (shop_root shop) (first_items shop)
    (tills_know c.hand_in.new.tills) seat then h c.close.ensures.sound c.requires.begun.base c.requires.begun.legal c.args.asks.now
    told kind opened after true c.drain_rest-rest.result.sender answer sends c.agreement_is_kept.ensures.records
    c.a_session_begins.ensures.session c.a_session_begins.ensures.careful)

pub returns-clause-same : goal.returns-clause-same
returns-clause-same g c =
    let ran = ran_as g.C.Clock.coming c.args.asks.now _ _ _ _ _ _ _ _ (ap tills_in c.hand_out.ensures.days)
    c.hand_out.ensures.knows (sym (ap (λ (l : List TillDay). map told_in l) c.hand_in.ensures.days)) (sym c.hand_in.ensures.knows)
    c.tills_beside-sent.ensures.ran in
    sym (same_numbers c.hand_in.new.days.items) ∙ same_tills g.C.Clock.coming c.args.asks.now (tills_in c.args.room.days.items)
    (map told_in c.hand_in.new.days.items) (tills_know c.args.begun.started.tills) (tills_know c.hand_in.new.tills) ran

pub returns-clause-behind : goal.returns-clause-behind
returns-clause-behind g c =
    let beside = c.tills_beside-sent.ensures in
    shown_behind {S = Sent g.row.D.Denot g.row.C.Denot g.row.G.Denot g.row.Z.Denot g.D.Disk g.C.Clock}
    (λ x. scene_in (agency_state_of g.G.Agency) g.Z.Sleeper.moment x) (λ x. x.answer) (agency_kind g.G.Agency) g.Z.Sleeper.tells
    true (agency_state_of g.G.Agency c.args.begun.agency) (agency_state_of g.G.Agency c.drain_rest-rest.result.agency) _ _ _ _
    c.of-met.ensures c.of-left.ensures beside.sends.messages.says beside.sends.ends.later beside.never c.drain_rest-rest.ensures.failed
    (λ is. c.drain_rest-rest.ensures.turns) (λ none. absurd (let x = none in cc)) refl

pub returns-clause-steps : goal.returns-clause-steps
returns-clause-steps g c =
    let ran = ran_as g.C.Clock.coming c.args.asks.now _ _ _ _ _ _ _ _ (ap tills_in c.hand_out.ensures.days)
    c.hand_out.ensures.knows (sym (ap (λ (l : List TillDay). map told_in l) c.hand_in.ensures.days)) (sym c.hand_in.ensures.knows)
    c.tills_beside-sent.ensures.ran in
    let p = parts_of c.close.result in
    let shop = c.args.begun.started.shop in
    let seat = seat_knows c.args.begun.started.seat in
    let sent = c.tills_beside-sent.result in
    let then = seat_knows c.drain_rest-rest.result.seat in
    let kind = agency_kind g.G.Agency in
    let opened = agency_state_of g.G.Agency c.args.begun.agency in
    let after = agency_state_of g.G.Agency c.drain_rest-rest.result.agency in
    let answer = c.drain_rest-rest.result.answer in
    let told = map told_in c.hand_in.new.days.items in
    let beside = c.tills_beside-sent.ensures in
    let same : sight_by (seat_knows c.hand_in.new.seat) ≡ sight_by (seat_knows sent.seat) =
    ap (λ (k : Known Item (Root g.row.C.Denot)). sight_by k) c.hand_in.ensures.seat.1 in
    let met_sends = subst (λ (s : Sight). SendsOn kind (sight_by seat) s opened (agency_state_of g.G.Agency sent.agency) fresh sent.sender
    sent.answer) (sym same) beside.sends in
    let sends = c.drain_rest-rest.ensures.sends _ _ _ met_sends in
    let h = shared g.D.Disk.tells g.D.Disk.on_disk g.D.Disk.faults g.C.Clock.coming c.args.asks.now p (shop_root shop)
    (first_items shop) (tills_in c.args.room.days.items) told (tills_know c.args.begun.started.tills)
    (tills_know c.hand_in.new.tills) seat then ran c.requires.begun.new
    (c.a_till_owns_records_and_stops.ensures g.C.Clock.coming) c.close.ensures.each c.close.ensures.begins c.close.ensures.since sends.shop.adds in
    whole_session g.D.Disk.tells g.D.Disk.on_disk g.D.Disk.faults g.C.Clock.coming g.C.Clock.coming p (shop_root shop) (first_items shop)
    (tills_know c.hand_in.new.tills) seat then h c.close.ensures.sound c.requires.begun.base c.requires.begun.legal c.args.asks.now
    told kind opened after true c.drain_rest-rest.result.sender answer sends
    c.what_came_beside_is_records.ensures.quiet c.what_came_beside_is_records.ensures.own g.Z.Sleeper.tells
    (g.Z.Sleeper.moment c.args.begun.sleeper) _ _ _
    (behind {S = Sent g.row.D.Denot g.row.C.Denot g.row.G.Denot g.row.Z.Denot g.D.Disk g.C.Clock}
    (λ x. scene_in (agency_state_of g.G.Agency) g.Z.Sleeper.moment x) (λ x. x.answer) kind g.Z.Sleeper.tells true opened after _ _
    beside.sends.messages.says beside.sends.ends.later beside.never c.drain_rest-rest.ensures.failed
    (λ is. c.drain_rest-rest.ensures.turns) (λ none. absurd (let x = none in cc)) refl)
    (subst (λ (s : Sight). StepsBeside kind g.Z.Sleeper.tells
    (scene_of opened (sight_by seat) fresh (g.Z.Sleeper.moment c.args.begun.sleeper))
    (scene_of (agency_state_of g.G.Agency sent.agency) s sent.sender (g.Z.Sleeper.moment sent.sleeper)) sent.answer) (sym same)
    beside.steps)
    (growth_of AreNotesOrTorn (sight_by seat) (sight_by (seat_knows c.hand_in.new.seat)) met_sends.shop.adds) refl
    (λ is. c.drain_rest-rest.ensures.delivered)
