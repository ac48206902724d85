use mir.Syntax.{erased, of_param}
use denote.Exit.{no}
use denote.Param.Send.{Quiet-if, shr_slice_send}
use Rattle.std.proofs.Common.{◌≡◌, [], ℕ, List, length, ap, sym, ◌∙◌, subst}
use Rattle.std.proofs.Crossing.{send as heap_send}
use Rattle.shop_core.specs.declared.items.Item.{Item}
use Rattle.till_calls.specs.Root.{Root, items_in, parts_of}
use Rattle.till_calls.specs.Client.{TillRun, asks_of}
use Rattle.till_calls.specs.Shop.{first_items, made_tills, numbers, seat_knows, shop_root, till_knows, till_number, tills_know}
use Rattle.till_calls.proofs.Sent.{shop_sync, till_send}
use Rattle.library_examples.proofs.Sent.{replies_send, request_sync, served_send}
use Rattle.library_examples.specs.Threads.{AreReplies, records_since}
use Rattle.library_examples.proofs.Tills.{TwoRuns, first_replies, no_stop_yet, none_else, room_left, run_numbers, second_replies, still_held}
use Rattle.library_examples.proofs.Tills.{two_numbers}
use Rattle.library_examples.proofs.threads.one_till_a_thread.Given.{Over}
use Rattle.library_examples.proofs.threads.one_till_a_thread.Goals as goal

pub join-one-requires-send-A : goal.join-one-requires-send-A
join-one-requires-send-A g c κs within =
    let a = served_send _ _ g.D.Disk g.C.Clock c.type_bounds.send-D c.type_bounds.send-C in
    record { owned = a.owned; leaving = λ k. Quiet-if (k (of_param 3)) _ _ (a.leaving no) (λ x w. tt) }

pub join-one-requires-send-F : goal.join-one-requires-send-F
join-one-requires-send-F g c κs within =
    let t = till_send _ _ g.D.Disk g.C.Clock c.type_bounds.send-D c.type_bounds.send-C in
    let s = shop_sync _ _ g.D.Disk g.D.Disk-dict g.C.Clock g.C.Clock-dict c.type_bounds.send-D c.type_bounds.send-C in
    let r = c.type_bounds.sync-R in
    record {
      owned = λ x vs vss. (
        tt,
        (
          (tt, r.shared x.0.now x.0.ref_ptr.0 x.0.ref_ptr.1 _),
          (
            heap_send.owned x.1 vss.1.0,
            (
              (tt, s.shared x.2.now x.2.ref_ptr.0 x.2.ref_ptr.1 _),
              (
                t.owned x.3 vss.1.1.1.0,
                ((shr_slice_send erased _ _ request_sync).owned x.4 vss.1.1.1.1.0, (replies_send.owned x.5 vss.1.1.1.1.1.0, tt)),
              ),
            ),
          ),
        ),
      );
      leaving = λ k. Quiet-if (k (of_param 1)) _ _
          (λ x w. (tt, (tt, (tt, ((((tt, tt), tt), (tt, tt)), (tt, (tt, tt))))))) (λ x w. tt);
    }

pub hand_back-requires-2-clause-room : goal.hand_back-requires-2-clause-room
hand_back-requires-2-clause-room g c =
    let made = c.in_ok-shop.ensures.numbers in
    room_left _ (numbers c.in_ok-shop.field-0.tills) (numbers c.pull.new.self) (numbers c.pull-2.new.self)
    (numbers c.hand_back.new.self) (till_number c.in-Some-pull.one) (till_number c.in-Some.two) _
    (made_tills c.in_ok-shop.field-0.tills) (made_tills c.pull.new.self) (made_tills c.pull-2.new.self)
    (made_tills c.hand_back.new.self) made.0 made.1 c.in-Some.ensures.some c.in-Some.ensures.shop.1
    c.in-Some-pull.ensures.some c.in-Some-pull.ensures.shop.1 c.hand_back.ensures.numbers c.hand_back.ensures.shop.1

pub close-requires-clause-whole : goal.close-requires-clause-whole
close-requires-clause-whole g c = λ n l.
    let s = c.in_ok-shop.field-0 in
    still_held n (tills_know s.tills) (tills_know c.pull.new.self) (tills_know c.pull-2.new.self)
    (tills_know c.hand_back.new.self) (tills_know c.hand_back-2.new.self) (till_knows c.in-Some-pull.one)
    (till_knows c.in-Some.two) (seat_knows s.seat) (till_knows c.join-one.result.0.till)
    (till_knows c.join-one.result.1.till) c.in-Some.ensures.knows c.in-Some-pull.ensures.knows
    c.hand_back.ensures.knows c.hand_back-2.ensures.knows
    (run_numbers g.C.Clock.coming (till_knows c.in-Some-pull.one) (till_knows c.join-one.result.0.till)
    (asks_of (till_number c.in-Some-pull.one) c.args.first.now) c.join-one.result.0.replies.items c.join-one.ensures.first.1)
    (run_numbers g.C.Clock.coming (till_knows c.in-Some.two) (till_knows c.join-one.result.1.till)
    (asks_of (till_number c.in-Some.two) c.args.second.now) c.join-one.result.1.replies.items c.join-one.ensures.second.1)
    (c.in_ok-shop.ensures.whole n l)

-- what the two tills did
runs : (g : Over) (c : goal.After-close g) → TwoRuns g.C.Clock.coming (shop_root c.in_ok-shop.field-0.shop)
    (first_items c.in_ok-shop.field-0.shop) (items_in (parts_of c.close.result)) c.args.first.now c.args.second.now
    c.join-one.result.0.replies.items c.join-one.result.1.replies.items
runs g c =
    let s = c.in_ok-shop.field-0 in
    let numbers_are = two_numbers 1 2 (numbers c.pull.new.self) (numbers c.pull-2.new.self) (till_number c.in-Some-pull.one)
    (till_number c.in-Some.two) (sym c.in_ok-shop.ensures.numbers.0 ∙ c.in-Some.ensures.some) c.in-Some-pull.ensures.some in
    record {
      all = tills_know s.tills;
      m = tills_know c.pull.new.self;
      r = tills_know c.pull-2.new.self;
      mid = tills_know c.hand_back.new.self;
      back = tills_know c.hand_back-2.new.self;
      a = till_knows c.in-Some-pull.one;
      b = till_knows c.in-Some.two;
      c = till_knows c.join-one.result.0.till;
      d = till_knows c.join-one.result.1.till;
      seat = seat_knows s.seat;
      size = ap (λ (l : List Item). length l) c.in_ok-shop.ensures.root.1 ∙
          no_stop_yet (parts_of c.args.store) c.requires.going_on ∙
          ap (λ (h : Root g.row.C.Denot). length h.history) (sym c.in_ok-shop.ensures.root.0);
      fresh = c.in_ok-shop.ensures.new;
      last = c.in-Some.ensures.knows;
      before = c.in-Some-pull.ensures.knows;
      one = c.hand_back.ensures.knows;
      two = c.hand_back-2.ensures.knows;
      run_one = subst (λ (n : ℕ). TillRun g.C.Clock.coming (till_knows c.in-Some-pull.one) (asks_of n c.args.first.now)
          c.join-one.result.0.replies.items (till_knows c.join-one.result.0.till)) numbers_are.0 c.join-one.ensures.first.1;
      run_two = subst (λ (n : ℕ). TillRun g.C.Clock.coming (till_knows c.in-Some.two) (asks_of n c.args.second.now)
          c.join-one.result.1.replies.items (till_knows c.join-one.result.1.till)) numbers_are.1 c.join-one.ensures.second.1;
      fits = c.close.ensures.each;
      begins = c.close.ensures.begins;
      since = c.close.ensures.since;
    }

pub returns-clause-first : goal.returns-clause-first
returns-clause-first g c = subst (λ (h : Root g.row.C.Denot). AreReplies g.C.Clock.coming h
    (items_in (parts_of c.close.result)) 1 c.args.first.now c.join-one.result.0.replies.items) c.in_ok-shop.ensures.root.0
    (first_replies g.C.Clock.coming (shop_root c.in_ok-shop.field-0.shop) (first_items c.in_ok-shop.field-0.shop)
    (items_in (parts_of c.close.result)) c.args.first.now c.args.second.now c.join-one.result.0.replies.items
    c.join-one.result.1.replies.items c.runs_are_told.ensures.told c.runs_are_told.ensures.taken
    c.runs_are_told.ensures.others (runs g c))

pub returns-clause-second : goal.returns-clause-second
returns-clause-second g c = subst (λ (h : Root g.row.C.Denot). AreReplies g.C.Clock.coming h
    (items_in (parts_of c.close.result)) 2 c.args.second.now c.join-one.result.1.replies.items) c.in_ok-shop.ensures.root.0
    (second_replies g.C.Clock.coming (shop_root c.in_ok-shop.field-0.shop) (first_items c.in_ok-shop.field-0.shop)
    (items_in (parts_of c.close.result)) c.args.first.now c.args.second.now c.join-one.result.0.replies.items
    c.join-one.result.1.replies.items c.runs_are_told.ensures.told c.runs_are_told.ensures.taken
    c.runs_are_told.ensures.others (runs g c))

pub returns-clause-others : goal.returns-clause-others
returns-clause-others g c = λ till not_one not_two. subst (λ (h : Root g.row.C.Denot). records_since h
    (items_in (parts_of c.close.result)) till ≡ []) c.in_ok-shop.ensures.root.0
    (none_else g.C.Clock.coming (shop_root c.in_ok-shop.field-0.shop) (first_items c.in_ok-shop.field-0.shop)
    (items_in (parts_of c.close.result)) c.args.first.now c.args.second.now c.join-one.result.0.replies.items
    c.join-one.result.1.replies.items c.runs_are_told.ensures.told c.runs_are_told.ensures.taken
    c.runs_are_told.ensures.others (runs g c) till not_one not_two)
