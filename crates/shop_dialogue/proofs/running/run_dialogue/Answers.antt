use Rattle.std.proofs.Common.{◌≡◌, ◌∙◌, ℕ, List, length, map, refl, rules, sym, ap, subst, arith, true, None, Option}
use Rattle.till_calls.specs.declared.clockless.Clockless.{Clockless as NoClock}
use Rattle.std.specs.List.{range_with_len}
use Rattle.std.proofs.lemmas.List.{length-map, length-reverse}
use Rattle.std.proofs.lemmas.List.FromFn.{length-range_with_len}
use Rattle.record_codec.specs.declared.entry.Entry.{Entry}
use Rattle.shop_core.specs.declared.items.Item.{Item}
use Rattle.shop_core.specs.declared.items.Item.TheVariants as item
use Rattle.atomic_table.specs.Seated.{TableId}
use Rattle.chain_lock.specs.Known.{Known}
use Rattle.once_world.specs.Outbox.{Sight}
use Rattle.sender.specs.Agreeing.{AreNotesOrTorn}
use Rattle.sender.specs.Draining.{scene_of}
use Rattle.sender.specs.Sending.{fresh}
use Rattle.till_calls.specs.Mark.{Mark, mark_by, sight_by}
use Rattle.till_calls.specs.Root.{Root, items_in, parts_of}
use Rattle.till_calls.specs.Shop.{first_items, seat_knows, seat_shop, shop_root, till_knows, till_number, tills_know}
use Rattle.sender_session.specs.Session.{SendsOn}
use Rattle.sender_session.specs.Sessions.{StepsBeside}
use Rattle.sender_session.proofs.Turns.{growth_of}
use Rattle.sender_session.specs.Kinds.{agency_state_of, agency_kind}
use Rattle.sender_beside.specs.Behind.{scene_in}
use Rattle.sender_beside.specs.declared.sending.Sent.{Sent}
use Rattle.sender_beside.specs.Days.{Day, shop_day}
use Rattle.sender_beside.specs.Works.{Ran}
use Rattle.shop_dialogue.specs.Dialogues.{drains_after}
use Rattle.shop_dialogue.proofs.AllTills.{AllBehind, all_distinct, all_fit_behind, holders_behind, least_behind, looked_closed}
use Rattle.shop_dialogue.proofs.AllTills.{owners_behind, ran_in_a_row, read_failed}
use Rattle.shop_dialogue.proofs.Counting.{all_taken, owned, runs_closed}
use Rattle.sender_beside.proofs.DayRuns.{counts, ended, held_again, same_tills, shared}
use Rattle.sender_beside.proofs.Rows.{ran_as}
use Rattle.sender_beside.proofs.Joined.{sends_beside, whole_session}
use Rattle.sender_beside.proofs.Behind.{behind, shown_behind}
use Rattle.sender_beside.proofs.ClosedShop.{is_stopped}
use Rattle.shop_dialogue.proofs.running.run_dialogue.Goals as goal

-- how many tills there are
pub give_back-requires-clause-room : goal.give_back-requires-clause-room
give_back-requires-clause-room g c =
    let e = length-map c.hold_all.new.held.items till_number in
    let f = length-reverse (map till_number c.hold_all.new.held.items) in
    let h = ap (λ (l : List ℕ). length l) (c.hold_all.ensures.numbers ∙ c.requires.numbers) in
    let k = length-range_with_len 1 64 in
    let a = length-map c.answer_lines_with_sender-sent.new.talk.speech.held.items till_number in
    let b = ap (λ (l : List ℕ). length l) c.answer_lines_with_sender-sent.ensures.numbers in
    let m = c.requires.made in
    let s = c.hold_all.ensures.same.1 in
    search rules

pub close-requires-clause-whole : goal.close-requires-clause-whole
close-requires-clause-whole g c = λ n l.
    let coming : ℕ → Option ℕ = g.C.Clock.coming c.args.clock in
    let f = c.requires.first in
    let spoken = c.answer_lines_with_sender-sent.ensures.spoken.spoken f.left f.faults f.comes f.later f.cause in
    let olds = map till_knows c.hold_all.new.held.items in
    let news = map till_knows c.answer_lines_with_sender-sent.new.talk.speech.held.items in
    let row = ran_in_a_row (λ k. coming) spoken.said.asks spoken.said.replies olds news spoken.ran in
    let ran : Ran (λ k. coming) spoken.said.asks (range_with_len 1 (length olds)) (tills_know c.args.begun.started.tills) row.parts
    row.backs = ran_as (λ k. coming) spoken.said.asks _ _ _ _ _ _ _ _ refl c.hold_all.ensures.knows refl refl row.ran in
    let old = c.answer_lines_with_sender-sent.result.seat in
    let new = c.give_back.new.seat in
    let shown : mark_by (seat_shop new) (seat_knows new) ≡ mark_by (seat_shop old) (seat_knows old) =
    ap (λ (k : Known Item (Root NoClock)). mark_by (seat_shop new) k) c.give_back.ensures.seat.1
    ∙ ap (λ (s : TableId). mark_by s (seat_knows old)) c.give_back.ensures.seat.0 in
    let marks = c.drain_if-rest.ensures.mark ∙ shown ∙ c.answer_lines_with_sender-sent.ensures.mark in
    let again = held_again (λ k. coming) spoken.said.asks (range_with_len 1 (length olds)) row.parts
    (tills_know c.args.begun.started.tills) row.backs (seat_knows c.args.begun.started.seat)
    (seat_knows c.drain_if-rest.result.seat) ran
    (ap (λ (m : Mark NoClock). m.numbers) marks) n in
    let behind = subst (λ (l : List (Known Item (Root NoClock))). AllBehind row.backs l) (sym c.give_back.ensures.knows) row.behind in
    let same = holders_behind n row.backs (tills_know c.give_back.new.tills) (seat_knows c.drain_if-rest.result.seat) behind in
    let once = c.requires.begun.whole n l in
    omega (arith, again, same, once)

pub returns-clause-run : goal.returns-clause-run
returns-clause-run g c = λ left faults first later cause.
    let coming : ℕ → Option ℕ = g.C.Clock.coming c.args.clock in
    let spoken = c.answer_lines_with_sender-sent.ensures.spoken.spoken left faults first later cause in
    let olds = map till_knows c.hold_all.new.held.items in
    let news = map till_knows c.answer_lines_with_sender-sent.new.talk.speech.held.items in
    let size : length olds ≡ 64 =
    (let e = length-map c.hold_all.new.held.items till_number in let i = length-map c.hold_all.new.held.items till_knows in
    let f = length-reverse (map till_number c.hold_all.new.held.items) in
    let h = ap (λ (l : List ℕ). length l) (c.hold_all.ensures.numbers ∙ c.requires.numbers) in
    let k = length-range_with_len 1 64 in omega (arith, e, f, h, i, k)) in
    let row = ran_in_a_row (λ k. coming) spoken.said.asks spoken.said.replies olds news spoken.ran in
    let told = row.parts in
    let ran : Ran (λ k. coming) spoken.said.asks (range_with_len 1 64) (tills_know c.args.begun.started.tills) told row.backs =
    ran_as (λ k. coming) spoken.said.asks _ _ _ _ _ _ _ _ (ap (λ (n : ℕ). range_with_len 1 n) size) c.hold_all.ensures.knows refl refl
    row.ran in
    let back = tills_know c.give_back.new.tills in
    let behind = subst (λ (l : List (Known Item (Root NoClock))). AllBehind row.backs l) (sym c.give_back.ensures.knows) row.behind in
    let p = parts_of c.close.result in
    let shop = c.args.begun.started.shop in
    let seat = seat_knows c.args.begun.started.seat in
    let then = seat_knows c.drain_if-rest.result.seat in
    let kind = agency_kind g.G.Agency in
    let opened = agency_state_of g.G.Agency c.args.begun.agency in
    let after = agency_state_of g.G.Agency c.drain_if-rest.result.agency in
    let answer = c.drain_if-rest.result.answer in
    let drains = drains_after c.answer_lines_with_sender-sent.new.talk.how in
    let told_drains : drains ≡ true → c.drains_after.result ≡ true = λ is. c.drains_after.ensures ∙ is in
    let sends = c.drain_if-rest.ensures.sends _ _ _ (subst (λ (s : Sight). SendsOn kind (sight_by seat) s opened
    (agency_state_of g.G.Agency c.answer_lines_with_sender-sent.result.agency) fresh c.answer_lines_with_sender-sent.result.sender
    c.answer_lines_with_sender-sent.result.answer)
    (sym (ap (λ (k : Known Item (Root NoClock)). sight_by k) c.give_back.ensures.seat.1)) c.answer_lines_with_sender-sent.ensures.sends) in
    let h = shared g.D.Disk.tells g.D.Disk.on_disk g.D.Disk.faults (λ k. coming) spoken.said.asks p (shop_root shop)
    (first_items shop) (range_with_len 1 64) told (tills_know c.args.begun.started.tills)
    row.backs seat then ran c.requires.begun.new
    (c.a_till_owns_records_and_stops.ensures (λ k. coming)) (all_fit_behind (items_in p) row.backs back then behind c.close.ensures.each)
    c.close.ensures.begins (λ n a b. owners_behind n row.backs back then behind ∙ c.close.ensures.since n a b) sends.shop.adds in
    let day : Day = shop_day (λ k. coming) spoken.said.asks (shop_root shop) p told kind opened after drains answer in
    let run = ended g.D.Disk.tells g.D.Disk.on_disk g.D.Disk.faults (λ k. coming) spoken.said.asks p (shop_root shop) (first_items shop)
    (range_with_len 1 64) told (tills_know c.args.begun.started.tills) row.backs seat then
    ran c.requires.begun.new (λ k n. None) kind opened after drains answer
    (c.a_till_adds_for_no_other.ensures (λ k. coming)) (c.a_till_adds_what_is_taken.ensures (λ k. coming))
    (ap (λ (l : List Item). length l) c.requires.begun.base ∙ length-map (shop_root shop).history (λ (e : Entry). item.Entry e))
    (all_distinct 1 64) h sends.shop.notes
    (λ disk. is_stopped (first_items shop) (items_in p) (shop_root shop) row.backs seat then h
    (shop_root shop).history p.state.entries p.stopped p.torn (record {
      base_is = c.requires.begun.base;
      log_is = refl;
      begins = c.close.ensures.sound.begins;
    }) (sends.shop.stopped disk))
    c.close.ensures.sound
    (λ is. counts g.D.Disk.tells g.D.Disk.on_disk g.D.Disk.faults (λ k. coming) spoken.said.asks p (shop_root shop) (first_items shop)
    (range_with_len 1 64) told (tills_know c.args.begun.started.tills) row.backs seat then
    ran c.requires.begun.new answer (c.a_till_owns_within_what_it_knows.ensures (λ k. coming)) c.who_sees_all_that_is_owned_sees_all.ensures h
    (seat_knows c.give_back.new.seat).least
    (least_behind (seat_knows c.give_back.new.seat).least row.backs back behind c.give_back.ensures.told)
    (c.drain_if-rest.ensures.covers (told_drains is)) (c.drain_if-rest.ensures.delivered (told_drains is)))
    (sends_beside g.D.Disk.tells g.D.Disk.on_disk g.D.Disk.faults (λ k. coming) (λ k n. None) p (shop_root shop) (first_items shop)
    row.backs seat then h c.close.ensures.sound c.requires.begun.base c.requires.begun.legal spoken.said.asks
    told kind opened after drains c.drain_if-rest.result.sender answer sends c.agreement_is_kept.ensures.records
    c.a_session_begins.ensures.session c.a_session_begins.ensures.careful) in
    record {
      speech = record { said = spoken.said; how = c.answer_lines_with_sender-sent.new.talk.how };
      tills = told;
      how_is = refl;
      spoken = record {
        dialogue = spoken.dialogue;
        pairs = spoken.pairs;
        clock_is = spoken.clock_is;
        of_tills = spoken.tills;
        told = row.told;
        run = runs_closed p (first_items shop) (shop_root shop) (λ k. coming) spoken.said.asks spoken.said.replies spoken.said.looks
            olds news (tills_know c.args.begun.started.tills) back seat then c.hold_all.ensures.knows c.give_back.ensures.knows
            c.requires.begun.base c.requires.begun.new c.close.ensures.each c.close.ensures.begins
            spoken.run (all_taken (shop_root shop).history p.state.entries spoken.said.asks spoken.said.replies told
            c.close.ensures.sound.begins spoken.pairs spoken.tills
            (same_tills (λ k. coming) spoken.said.asks (range_with_len 1 64) told (tills_know c.args.begun.started.tills) row.backs ran)
            row.told (owned day told run.served) run.others);
        looked = looked_closed p (first_items shop) (shop_root shop) spoken.said.replies spoken.said.looks olds news
            (tills_know c.args.begun.started.tills) back seat then c.hold_all.ensures.knows c.give_back.ensures.knows c.requires.begun.new
            c.close.ensures.each c.close.ensures.sound.begins spoken.looked;
        read = spoken.read;
        replies_are = spoken.replies_are;
        read_fault = read_failed c.answer_lines_with_sender-sent.new.talk.how _ _ spoken.read_fault;
      };
      are = same_tills (λ k. coming) spoken.said.asks (range_with_len 1 64) told (tills_know c.args.begun.started.tills)
          row.backs ran;
      lacked_is = spoken.lacked_is;
      written = spoken.written;
      sink_later = spoken.sink_later;
      run = run;
    }

pub returns-clause-behind : goal.returns-clause-behind
returns-clause-behind g c =
    let beside = c.answer_lines_with_sender-sent.ensures in
    shown_behind {S = Sent g.row.D.Denot NoClock g.row.G.Denot g.row.Z.Denot g.D.Disk _}
    (λ x. scene_in (agency_state_of g.G.Agency) g.Z.Sleeper.moment x) (λ x. x.answer) (agency_kind g.G.Agency) g.Z.Sleeper.tells
    (drains_after c.answer_lines_with_sender-sent.new.talk.how) (agency_state_of g.G.Agency c.args.begun.agency)
    (agency_state_of g.G.Agency c.drain_if-rest.result.agency) _ _ _ _
    c.of-met.ensures c.of-left.ensures beside.sends.messages.says beside.sends.ends.later beside.never c.drain_if-rest.ensures.failed
    (λ is. c.drain_if-rest.ensures.turns (c.drains_after.ensures ∙ is))
    (λ none. c.drain_if-rest.ensures.ends (c.drains_after.ensures ∙ none)) refl

pub returns-clause-steps : goal.returns-clause-steps
returns-clause-steps g c =
    let coming : ℕ → Option ℕ = g.C.Clock.coming c.args.clock in
    let f = c.requires.first in
    let spoken = c.answer_lines_with_sender-sent.ensures.spoken.spoken f.left f.faults f.comes f.later f.cause in
    let olds = map till_knows c.hold_all.new.held.items in
    let news = map till_knows c.answer_lines_with_sender-sent.new.talk.speech.held.items in
    let row = ran_in_a_row (λ k. coming) spoken.said.asks spoken.said.replies olds news spoken.ran in
    let told = row.parts in
    let ran : Ran (λ k. coming) spoken.said.asks (range_with_len 1 (length olds)) (tills_know c.args.begun.started.tills) told row.backs =
    ran_as (λ k. coming) spoken.said.asks _ _ _ _ _ _ _ _ refl c.hold_all.ensures.knows refl refl row.ran in
    let back = tills_know c.give_back.new.tills in
    let behind_all = subst (λ (l : List (Known Item (Root NoClock))). AllBehind row.backs l) (sym c.give_back.ensures.knows) row.behind in
    let p = parts_of c.close.result in
    let shop = c.args.begun.started.shop in
    let seat = seat_knows c.args.begun.started.seat in
    let sent = c.answer_lines_with_sender-sent.result in
    let then = seat_knows c.drain_if-rest.result.seat in
    let kind = agency_kind g.G.Agency in
    let opened = agency_state_of g.G.Agency c.args.begun.agency in
    let after = agency_state_of g.G.Agency c.drain_if-rest.result.agency in
    let answer = c.drain_if-rest.result.answer in
    let drains = drains_after c.answer_lines_with_sender-sent.new.talk.how in
    let told_drains : drains ≡ true → c.drains_after.result ≡ true = λ is. c.drains_after.ensures ∙ is in
    let beside = c.answer_lines_with_sender-sent.ensures in
    let same : sight_by (seat_knows c.give_back.new.seat) ≡ sight_by (seat_knows sent.seat) =
    ap (λ (k : Known Item (Root NoClock)). sight_by k) c.give_back.ensures.seat.1 in
    let met_sends = subst (λ (s : Sight). SendsOn kind (sight_by seat) s opened (agency_state_of g.G.Agency sent.agency) fresh sent.sender
    sent.answer) (sym same) beside.sends in
    let sends = c.drain_if-rest.ensures.sends _ _ _ met_sends in
    let h = shared g.D.Disk.tells g.D.Disk.on_disk g.D.Disk.faults (λ k. coming) spoken.said.asks p (shop_root shop)
    (first_items shop) (range_with_len 1 (length olds)) told (tills_know c.args.begun.started.tills)
    row.backs seat then ran c.requires.begun.new
    (c.a_till_owns_records_and_stops.ensures (λ k. coming)) (all_fit_behind (items_in p) row.backs back then behind_all c.close.ensures.each)
    c.close.ensures.begins (λ n a b. owners_behind n row.backs back then behind_all ∙ c.close.ensures.since n a b) sends.shop.adds in
    whole_session g.D.Disk.tells g.D.Disk.on_disk g.D.Disk.faults (λ k. coming) (λ k n. None) p (shop_root shop) (first_items shop)
    row.backs seat then h c.close.ensures.sound c.requires.begun.base c.requires.begun.legal spoken.said.asks
    told kind opened after drains c.drain_if-rest.result.sender answer sends
    c.what_came_beside_is_records.ensures.quiet c.what_came_beside_is_records.ensures.own g.Z.Sleeper.tells
    (g.Z.Sleeper.moment c.args.begun.sleeper) _ _ _
    (behind {S = Sent g.row.D.Denot NoClock g.row.G.Denot g.row.Z.Denot g.D.Disk _}
    (λ x. scene_in (agency_state_of g.G.Agency) g.Z.Sleeper.moment x) (λ x. x.answer) kind g.Z.Sleeper.tells drains opened after _ _
    beside.sends.messages.says beside.sends.ends.later beside.never c.drain_if-rest.ensures.failed
    (λ is. c.drain_if-rest.ensures.turns (told_drains is))
    (λ none. c.drain_if-rest.ensures.ends (c.drains_after.ensures ∙ none)) refl)
    (subst (λ (s : Sight). StepsBeside kind g.Z.Sleeper.tells
    (scene_of opened (sight_by seat) fresh (g.Z.Sleeper.moment c.args.begun.sleeper))
    (scene_of (agency_state_of g.G.Agency sent.agency) s sent.sender (g.Z.Sleeper.moment sent.sleeper)) sent.answer) (sym same)
    beside.steps)
    (growth_of AreNotesOrTorn (sight_by seat) (sight_by (seat_knows c.give_back.new.seat)) met_sends.shop.adds) refl
    (λ is. c.drain_if-rest.ensures.delivered (told_drains is))

pub returns-clause-once : goal.returns-clause-once
returns-clause-once g c = λ counts faults first. c.answer_lines_with_sender-sent.ensures.spoken.once counts faults first
