use Rattle.std.proofs.Common.{◌≡◌, ◌∙◌, ◌≤◌, ◌<◌, ◌+◌, ◌⊎◌, ℕ, true, List, inl, inr, sym, ap, subst, map, length, refl, arith, All}
use Rattle.std.specs.Prelude.{◌≢◌}
use Rattle.std.specs.Int.{IsInRange}
use Rattle.std.specs.List.{range_with_len}
use Rattle.std.proofs.lemmas.List.Elements.{All-weaker}
use Rattle.std.proofs.lemmas.List.FromFn.{length-range_with_len}
use Rattle.file_commands.proofs.Bytewise.{took_nothing}
use Rattle.ports.specs.Sinks.{this_sink}
use Rattle.shop_core.specs.History.{History, noted, recs}
use Rattle.shop_core.specs.Answer.Requests.{Asked}
use Rattle.till_calls.specs.Root.{Parts, Root, parts_of, root_of}
use Rattle.shop_commands.specs.SenderEnds.{DayRunEnds}
use Rattle.shop_drain.specs.Opening.{IsUnbegun}
use Rattle.record_codec.specs.declared.entry.Entry.{Entry}
use Rattle.sender_session.specs.Sessions.{SessionSteps}
use Rattle.sender_beside.specs.Behind.{DrainsBehind, scene_in}
use Rattle.sender_beside.specs.Days.{all_replies, shop_day}
use Rattle.shop_commands.specs.Day.{day_text}
use Rattle.sender_session.specs.Kinds.{agency_state_of, agency_kind, store_kind}
use Rattle.shop_drain.specs.Devices.{agency_in, sleeper_in}
use Rattle.shop_drain.specs.Draining.{OpensSession}
use Rattle.sender_beside.specs.Tills.{DayRun, has_asks, tills_of}
use Rattle.shop_day.specs.TillJobs.{told_in}
use Rattle.shop_day.specs.declared.tills.TillDay.{TillDay}
use Rattle.shop_commands.proofs.DayEnding.{day_done}
use Rattle.shop_commands.proofs.ShopDays.{ShopDid, day_facts, day_stamped, not_asked}
use Rattle.shop_day.proofs.TillJobs.{same_numbers}
use Rattle.command_ends.proofs.RunEnding.{not_opened}
use Rattle.sender_beside.proofs.TillDays.{distinct, filter_at_most, pairs_of, within}
use Rattle.shop_commands.proofs.day.day_file.Goals as goal

pub returns-in_default : goal.returns-in_default
returns-in_default g c = inl (
  refl,
  record {
    wrote = took_nothing (g.K.Sink.taken c.args.sink.now);
    disk = refl;
    clock = refl;
    sleeper = refl;
    agency = refl;
  },
)

pub begin-requires-clause-numbers : goal.begin-requires-clause-numbers
begin-requires-clause-numbers g c =
    let asks = c.as_slice-asks.result.now in
    subst (λ (l : List ℕ). All (IsInRange 1 64) l) (sym (c.deref.ensures.value ∙ c.in-Ok.ensures.numbers))
    (All-weaker (λ (x : ℕ). (1 ≤ x) × (x < 1 + 64)) (IsInRange 1 64) (λ x h. (h.0, omega (arith, h.1))) (tills_of asks)
    (within (has_asks asks) 1 64))

pub begin-requires-clause-few : goal.begin-requires-clause-few
begin-requires-clause-few g c =
    let asks = c.as_slice-asks.result.now in
    let a = ap (λ (l : List ℕ). length l) (c.deref.ensures.value ∙ c.in-Ok.ensures.numbers) in
    let e = filter_at_most (has_asks asks) (range_with_len 1 64) in
    let f = length-range_with_len 1 64 in
    omega (arith, a, e, f)

pub run_day-opened-requires-clause-distinct : goal.run_day-opened-requires-clause-distinct
run_day-opened-requires-clause-distinct g c κs inside =
    pairs_of (λ (d : TillDay). d.till) (λ (a b : ℕ). a ≢ b) c.in-Ok.room.days.items
    (tills_of c.as_slice-asks.result.now) c.in-Ok.ensures.tills (distinct (has_asks c.as_slice-asks.result.now) 1 64)

pub returns-in-Err : goal.returns-in-Err
returns-in-Err g c =
    let u = c.in-Err.unopened in
    let h = c.in-Err.ensures in
    inr (inl (not_opened u.why c.opening_end.ensures h.unopened.risen h.unopened.left_by h.unopened.never_loses
    (took_nothing (g.K.Sink.taken c.args.sink.now)) (record { clock = h.left.0; sleeper = h.left.1; agency = h.left.2 })))

pub returns-in-Err-begin : goal.returns-in-Err-begin
returns-in-Err-begin g c =
    let out = c.args.post in
    let o = c.in-Ok-open.opened in
    let k = c.in-Ok-open.ensures in
    let h = k.opened in
    let left = c.in-Err-begin.ensures.refused in
    let then = c.close.result in
    let kind = agency_kind g.G.Agency in
    let Begins : g.row.G.Denot → g.row.G.Denot → Type 0 = λ x y. IsUnbegun kind (agency_state_of g.G.Agency x) (agency_state_of g.G.Agency y)
    ⊎ OpensSession kind g.G.Agency.begun c.args.script.now.plan (parts_of o.store).state.entries (agency_state_of g.G.Agency x)
    (agency_state_of g.G.Agency y) in
    inr (inr (inl (not_asked (store_kind g.D.Disk g.C.Clock) g.C.Clock.coming c.args.issuer.now c.args.script.now.asks c.args.script.now.plan
    out.disk then.disk out.clock then.clock (sleeper_in g.Z.Sleeper out then) (agency_in g.G.Agency out then) (parts_of o.store)
    (this_sink g.K.Sink.taken g.K.Sink.faults c.args.sink.now c.args.sink.now) h
    c.what_a_disk_reads_is_an_image.ensures c.who_keeps_the_rules_tells.ensures _
    (record {
      ends = refl;
      wrote = took_nothing (g.K.Sink.taken c.args.sink.now);
      disk = c.close.ensures.disk ∙ ap (λ (p : Parts g.row.D.Denot g.row.C.Denot). p.disk) left.0;
      clock = c.close.ensures.clock ∙ ap (λ (p : Parts g.row.D.Denot g.row.C.Denot). p.clock) left.0;
      rest = c.close.ensures.rest.0 ∙ left.1 ∙ k.kept.0;
    })
    (subst (λ (x : g.row.G.Denot). Begins x then.agency) k.kept.1
    (subst (λ (y : g.row.G.Denot). Begins o.agency y) (sym c.close.ensures.rest.1) left.2)))))

pub returns-in-Ok-begin : goal.returns-in-Ok-begin
returns-in-Ok-begin g c =
    let out = c.args.post in
    let script = c.args.script.now in
    let asks = c.as_slice-asks.result.now in
    let o = c.in-Ok-open.opened in
    let k = c.in-Ok-open.ensures in
    let h = k.opened in
    let b = c.in-Ok-begin.begun in
    let begun = c.in-Ok-begin.ensures in
    let p0 = parts_of o.store in
    let issuer = p0.state.issuer in
    let served = c.run_day-opened.result in
    let days = served.tills.items in
    let tills = map told_in days in
    let new = parts_of served.opened.store in
    let then = c.close-in-Ok-begin.result in
    let kind = agency_kind g.G.Agency in
    let sink = this_sink g.K.Sink.taken g.K.Sink.faults c.args.sink.now c.print_day-detail.new.sink in
    let end = c.print_day-detail.result in
    let Ran : List Asked → Root g.row.C.Denot → g.row.G.Denot → Type 0 = λ q r y. DayRun (store_kind g.D.Disk g.C.Clock) r new
    (shop_day g.C.Clock.coming q r new tills kind (agency_state_of g.G.Agency b.agency) (agency_state_of g.G.Agency y) true
    served.answer) in
    let same : asks ≡ script.asks = c.as_slice-asks.ensures in
    let run : Ran script.asks (root_of g.D.Disk.on_disk g.D.Disk.faults p0) then.agency =
    subst (λ (q : List Asked). Ran q (root_of g.D.Disk.on_disk g.D.Disk.faults p0) then.agency) same
    (subst (λ (y : g.row.G.Denot). Ran asks (root_of g.D.Disk.on_disk g.D.Disk.faults p0) y) (sym c.close-in-Ok-begin.ensures.rest.1)
    (subst (λ (r : Root g.row.C.Denot). Ran asks r served.opened.agency) begun.shop.root c.run_day-opened.ensures.day)) in
    let opens = subst (λ (x : g.row.G.Denot). OpensSession kind g.G.Agency.begun script.plan p0.state.entries
    (agency_state_of g.G.Agency x) (agency_state_of g.G.Agency b.agency)) k.kept.1 begun.session in
    let behind = subst (λ (y : g.row.G.Denot). DrainsBehind kind true (agency_state_of g.G.Agency b.agency) (agency_state_of g.G.Agency y)
    served.answer) (sym c.close-in-Ok-begin.ensures.rest.1) (record {
      exact = g.Z.Sleeper.tells;
      met = scene_in (agency_state_of g.G.Agency) g.Z.Sleeper.moment served.met.value;
      left = scene_in (agency_state_of g.G.Agency) g.Z.Sleeper.moment served.left.value;
      beside = served.met.value.answer;
      sends = c.run_day-opened.ensures.behind;
    }) in
    let Session : ℕ → List Entry → g.row.G.Denot → Type 0 = λ m es y. SessionSteps g.G.Agency.tells g.Z.Sleeper.tells true m es
    new.state.entries (agency_state_of g.G.Agency b.agency) (agency_state_of g.G.Agency y) served.answer in
    let moment : g.Z.Sleeper.moment b.sleeper ≡ g.Z.Sleeper.moment out.sleeper = ap g.Z.Sleeper.moment (begun.sleeper ∙ k.kept.0) in
    let session : Session (g.Z.Sleeper.moment out.sleeper) p0.state.entries then.agency =
    subst (λ (m : ℕ). Session m p0.state.entries then.agency) moment
    (subst (λ (y : g.row.G.Denot). Session (g.Z.Sleeper.moment b.sleeper) p0.state.entries y) (sym c.close-in-Ok-begin.ensures.rest.1)
    (subst (λ (r : Root g.row.C.Denot). Session (g.Z.Sleeper.moment b.sleeper) r.history served.opened.agency) begun.shop.root
    c.run_day-opened.ensures.steps)) in
    let ends : DayRunEnds (all_replies tills) served.answer (length (noted new.state.entries)) (length (recs new.state.entries))
    (day_text asks tills new.state.entries) sink end =
    subst (λ (h : History). DayRunEnds (all_replies tills) served.answer (length (noted h.entries)) (length (recs h.entries))
    (day_text asks tills h.entries) sink end) c.state.ensures
    (subst (λ (l : List TillDay). DayRunEnds (all_replies (map told_in l)) served.answer
    (length (noted c.state.result.now.entries)) (length (recs c.state.result.now.entries)) (day_text asks (map told_in l)
    c.state.result.now.entries) sink end) c.deref-in-Ok-begin.ensures.value c.print_day-detail.ensures) in
    let did : ShopDid (store_kind g.D.Disk g.C.Clock) g.C.Clock.coming script.asks kind (agency_state_of g.G.Agency b.agency)
    (agency_state_of g.G.Agency then.agency) true g.Z.Sleeper.tells (g.Z.Sleeper.moment out.sleeper) p0 then.disk then.clock = record {
      new = new;
      tills = tills;
      answer = served.answer;
      disk = c.close-in-Ok-begin.ensures.disk;
      clock = c.close-in-Ok-begin.ensures.clock;
      time = record { number = run.sound.clock.number; moved = run.sound.clock.moved };
      run = run;
      behind = behind;
      session = session;
      linked = c.legal_is_chained.ensures.linked p0.state.version issuer new.state.entries run.sound.legal;
      rising = λ till. c.legal_is_chained.ensures.rising p0.state.version issuer new.state.entries till run.sound.legal;
    } in
    let facts = day_facts (store_kind g.D.Disk g.C.Clock) g.C.Clock.coming c.args.issuer.now script.asks script.plan out.disk then.disk out.clock
    then.clock (sleeper_in g.Z.Sleeper out then) (agency_in g.G.Agency out then) p0 sink h
    c.what_a_disk_reads_is_an_image.ensures c.who_keeps_the_rules_tells.ensures (agency_state_of g.G.Agency b.agency) opens true did in
    let stamped = day_stamped (store_kind g.D.Disk g.C.Clock) g.C.Clock.coming c.args.issuer.now script.asks script.plan out.disk then.disk out.clock
    then.clock (sleeper_in g.Z.Sleeper out then) (agency_in g.G.Agency out then) p0 sink h
    c.what_a_disk_reads_is_an_image.ensures c.who_keeps_the_rules_tells.ensures (agency_state_of g.G.Agency b.agency) opens true did
    run.sound.clock in
    inr (inr (inr (day_done c.args.issuer.now script _ _ facts stamped end
    (same_numbers days ∙ c.run_day-opened.ensures.same ∙ c.in-Ok.ensures.tills ∙ ap tills_of same)
    (subst (λ (q : List Asked). DayRunEnds (all_replies tills) served.answer (length (noted new.state.entries))
    (length (recs new.state.entries)) (day_text q tills new.state.entries) sink end) same ends))))
