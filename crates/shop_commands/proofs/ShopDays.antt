-- What a day of an opened store is of the call that opened it.
use Rattle.std.proofs.Common.{◌≡◌, ◌⊎◌, inl, inr, ℕ, ◌+◌, ◌-◌, ◌^◌, ◌<◌, ◌≤◌, List, [], ◌∷◌, length, sym, ◌∙◌, subst, refl}
use Rattle.std.proofs.Common.{arith, Bool, true, IsTrue, Option, Some, None, Result, Ok, Err}
use Rattle.std.specs.Prelude.{◌≢◌, drop}
use Rattle.std.specs.List.{AllByRecursion, list_any}
use Rattle.std.proofs.lemmas.List.{append-nil}
use Rattle.record_fields.specs.declared.versions.Version.{Version}
use Rattle.chain_disk.specs.OnDisk.{IsImage, LeavesNow, LeavesOnly, synced}
use Rattle.chain_disk.specs.Runs.{follows, weaker}
use Rattle.chain_disk.specs.Disks.{Disks, this_disk}
use Rattle.agency_rules.specs.declared.plans.Plan.{Plan}
use Rattle.huella.specs.Linked.{Linked}
use Rattle.journal.specs.declared.faults.StoreFault.TheVariants.{DiskFault, Stopped, NoMemory}
use Rattle.ports.specs.Causes.{Rose}
use Rattle.ports.specs.Readings.{IsTold}
use Rattle.ports.specs.Sinks.{Sinks, WroteNothing}
use Rattle.record_codec.specs.declared.entry.Entry.{Entry}
use Rattle.report.specs.declared.status.Detail.{Detail}
use Rattle.report.specs.declared.status.Detail.TheVariants as detail
use Rattle.shop_core.specs.Prefix.{IsPrefix}
use Rattle.once_world.specs.Agreement.{Agree}
use Rattle.sender.specs.Turning.{AgencyState, AgencyKind}
use Rattle.sender.specs.declared.answers.DrainFault.{DrainFault}
use Rattle.sender.specs.declared.answers.DrainFault.TheVariants as drain
use Rattle.sender.specs.declared.draining.TheConstants.{MAX_LINK_FAULTS}
use Rattle.shop_core.specs.Answer.Requests.{Asked}
use Rattle.shop_core.specs.History.{recs, noted}
use Rattle.shop_core.specs.Legal.{Legal}
use Rattle.shop_core.specs.Rising.{SerialsRise}
use Rattle.till_calls.specs.Root.{Parts, root_of}
use Rattle.till_calls.specs.Sound.{IsLater, StampedSince}
use Rattle.shop_drain.specs.Opening.{IsUnbegun, IsOpened}
use Rattle.sender_session.specs.Sessions.{SessionSteps}
use Rattle.sender_beside.specs.Behind.{DrainsBehind}
use Rattle.sender_beside.specs.Beside.{SendsBeside, StaysAgreed}
use Rattle.chain_store.specs.Crashes.{SurvivesCrashes, StandsUpTo, StandsForEnd}
use Rattle.chain_store.specs.Losing.{none_lost_in_both}
use Rattle.shop_drain.specs.Crashes.{IsFoundSince, StandsSince}
use Rattle.shop_commands.specs.Day.{EachCrash, EachTillOf, HistoryGoesOn, ItsAgency, NotServed, Outcome, StepsOf, TellsOfSender}
use Rattle.shop_commands.specs.Day.{StampedInTurn, day_with}
use Rattle.sender_beside.specs.Days.{Day, Stop, TillReplies, all_replies, shop_day, stop_of, torn_of}
use Rattle.shop_drain.specs.Devices.{Agencies, Around, LeftSleeper, Sleepers}
use Rattle.sender_session.specs.Kinds.{StoreKind}
use Rattle.chain_store.specs.Clocks.{this_clock}
use Rattle.shop_commands.specs.Drain.{LeavesTime}
use Rattle.shop_drain.specs.Draining.{AgreesInFile, OpensSession, noted_pairs, torn_in}
use Rattle.sender_session.specs.Session.{IsDiskAnswer}
use Rattle.chain_store.specs.Replies.{AllGoOn, Replies, is_disk_fault}
use Rattle.sender_beside.specs.Tills.{DayRun, RecordedBy, StopIs, ServedRun, TillServed, own_of}
use Rattle.sender_beside.specs.Tills.RecordedBy.{sender, till as by_till}
use Rattle.sender_beside.specs.Tills.ServedRun.{unasked, answered, torn as tears, stopped as told_stop, without_memory}
use Rattle.shop_drain.proofs.Closing.{between, either}
use Rattle.sender_session.proofs.Lists.{each_weaker}
use Rattle.shop_drain.proofs.Finishing.{since_found}
use Rattle.shop_commands.proofs.InTurns.{stamped_since}

-- the entry of a store's stop
torn_same : (stopped : Option ℕ) (torn : Option Entry) → torn_in stopped torn ≡ torn_of (stop_of stopped torn)
torn_same (Some count) (Some torn) = refl
torn_same (Some count) None = refl
torn_same None torn = refl

some_fault : (replies : Replies) → AllGoOn replies → list_any is_disk_fault replies ≡ true → ⊥
some_fault [] all some = absurd (let x = some in cc)
some_fault (Ok reply ∷ replies) all some = some_fault replies all.1 some
some_fault (Err NoMemory ∷ replies) all some = some_fault replies all.1 some
some_fault (Err DiskFault ∷ replies) all some = absurd all.0
some_fault (Err (Stopped count) ∷ replies) all some = absurd all.0

module _ (d : Day) where
  -- the counts of faults since an earlier count
  stop_since : (first before after : ℕ) (stop : Option Stop) → first ≤ before → StopIs d before after stop →
      StopIs d first after stop
  stop_since first before after None later is = is
  stop_since first before after (Some stop) later is = record {
    by = is.by;
    told = is.told;
    risen = λ below. let risen = is.risen below in omega (arith, later, risen);
    within = is.within;
  }

  -- where a till or the sender was told of a fault of the disk, its count rose
  pub rose_day : (faults after : ℕ) (stop : Option Stop) → StopIs d faults after stop →
      (list_any is_disk_fault (all_replies d.tills) ≡ true) ⊎ IsDiskAnswer d.answer → Rose faults after
  rose_day faults after None is (inl some) = absurd (some_fault (all_replies d.tills) is.0 some)
  rose_day faults after None is (inr disk) = absurd (is.1 disk)
  rose_day faults after (Some stop) is some = λ below. let within = is.within in
      let risen = is.risen (omega (arith, below, within)) in omega (arith, within, risen)

-- there was no room for the day of an opened store, which is as it was
pub record ShopLeft {D C : Type 0} (left : Type 0) (old : Parts D C) (disk_after : D) (clock_after : C) (s : Sinks)
    (end : Detail) : Type 0 where
  pub ends : end ≡ detail.NoMemory
  pub wrote : WroteNothing s
  pub disk : disk_after ≡ old.disk
  pub clock : clock_after ≡ old.clock
  pub rest : left

-- the tills of an opened store asked while a sender ran, at readings of the clock that tells this, and this is what the day made of it
pub record ShopDid {D C : Type 0} (h : StoreKind D C) (coming : C → ℕ → Option ℕ) (asks : List Asked) (kind : AgencyKind) (opened after : AgencyState)
    (drains exact : Bool) (moment : ℕ) (old : Parts D C) (disk_after : D) (clock_after : C) : Type 0 where
  pub new : Parts D C
  pub tills : List TillReplies
  pub answer : Result (Unit {0}) DrainFault
  pub disk : disk_after ≡ new.disk
  pub clock : clock_after ≡ new.clock
  pub time : IsLater coming old.clock new.clock
  pub run : DayRun h (root_of h.on_disk h.faults old) new
      (shop_day coming asks (root_of h.on_disk h.faults old) new tills kind opened after drains answer)
  pub behind : DrainsBehind kind drains opened after answer
  pub session : SessionSteps kind.tells exact drains moment old.state.entries new.state.entries opened after answer
  pub linked : Linked old.state.issuer (recs new.state.entries)
  pub rising : (till : ℕ) → SerialsRise new.state.entries till

-- what a day of an opened file is of the call that opened it, by the call's own clock
pub record IsDayOf {D C Z G : Type 0} (issuer : List ℕ) (asks : List Asked) (plan : Plan) (drains : Bool) (c : Around D C Z G)
    (o : Outcome) : Type 0 where
  pub history : HistoryGoesOn (day_with issuer asks None drains c o)
  pub served : AllByRecursion (TillServed (day_with issuer asks None drains c o)) o.tills
  pub others : (till : ℕ) → AllByRecursion (λ (t : TillReplies). t.till ≢ till) o.tills →
      own_of till (drop (length o.start) o.end) ≡ []
  pub crashes : EachCrash (day_with issuer asks None drains c o) c.disk
  pub agency : ItsAgency (day_with issuer asks None drains c o) plan c.agency c.disk
  pub session : StepsOf (day_with issuer asks None drains c o) None c.sleeper
  pub gives_up : (n m : ℕ) → o.answer ≡ Err (drain.Undelivered n m) → (length (noted o.end) < length (recs o.end)) ×
      (c.agency.after.faults < 2 ^ 64 - 1 → c.agency.before.faults + MAX_LINK_FAULTS ≤ c.agency.after.faults)
  pub time : LeavesTime None c.clock c.sleeper

module _ {D C Z G : Type 0} (h : StoreKind D C) (coming : C → ℕ → Option ℕ) (issuer : List ℕ) (asks : List Asked) (plan : Plan)
    (disk disk_after : D) (clock clock_after : C) (z : Sleepers Z) (a : Agencies G) (opened : Parts D C) (s : Sinks)
    (is_opened : IsOpened issuer h disk clock opened) (reads : (d : D) → IsTrue h.tells → IsImage (h.on_disk d).now (h.on_disk d).content)
    (rules_tell : IsTrue a.kind.keeps_rules → IsTrue a.kind.tells) where
  own : opened.state.issuer ≡ issuer
  own = is_opened.issuer_is

  same_clock : opened.clock ≡ clock
  same_clock = is_opened.clock_is

  abbrev pub call : Around D C Z G
  call = record {
    sink = s;
    disk = this_disk h.tells h.on_disk h.faults disk disk_after;
    clock = this_clock coming clock clock_after;
    sleeper = z;
    agency = a;
  }

  abbrev first : List Entry
  first = opened.state.entries

  -- there was no memory for the day of a file that was opened
  pub not_asked : (end : Detail) → ShopLeft (LeftSleeper z) opened disk_after clock_after s end → IsUnbegun a.kind a.before a.after
      ⊎ OpensSession a.kind a.begun plan first a.before a.after → NotServed issuer plan call end
  not_asked end l begun = record {
    ends = l.ends;
    version = opened.state.version;
    start = first;
    found = is_opened.found;
    kept = λ says.
        let begins : IsPrefix first first = record { rest = []; is = sym (append-nil first) } in
        subst (λ (d : D). SurvivesCrashes (StandsSince (h.on_disk disk).content opened.state.version issuer first first [])
        opened.state.version issuer first [] (synced (h.on_disk disk)) (h.on_disk d)) (sym l.disk)
        (record {
          each_moment = weaker (synced (h.on_disk disk)) (h.on_disk opened.disk) (IsFoundSince (h.on_disk disk).content
              opened.state.version issuer first) (StandsSince (h.on_disk disk).content opened.state.version issuer first first
              []) (is_opened.any_moment says) (λ c here. since_found (h.on_disk disk).content opened.state.version issuer first first
              [] c begins here);
          never_loses = is_opened.never_loses says;
          every_crash = λ c left. inl (is_opened.every_crash says c left);
          reads = inl (is_opened.every_crash says (h.on_disk opened.disk).content (inl (refl, reads opened.disk says)));
        });
    begun = begun;
    wrote = l.wrote;
    clock = l.clock ∙ same_clock;
    sleeper = l.rest;
  }

  module _ (agency_state : AgencyState) (opens : OpensSession a.kind a.begun plan first a.before agency_state) (drains : Bool)
      (r : ShopDid h coming asks a.kind agency_state a.after drains z.tells (z.moment z.sleeper) opened disk_after clock_after) where
    abbrev pub outcome : Outcome
    outcome = record {
      version = opened.state.version;
      start = first;
      end = r.new.state.entries;
      stop = stop_of r.new.stopped r.new.torn;
      tills = r.tills;
      opened = agency_state;
      answer = r.answer;
    }

    abbrev day : Day
    day = day_with issuer asks None drains call outcome

    -- the day of this version and issuer, and from this clock on
    abbrev at : Version → List ℕ → C → Day
    at v n c = record day { issuer = n; version = v; coming = coming c }

    -- what holds of the shop's day holds of the call's
    pub here : (P : Day → Type 0) → P (at opened.state.version opened.state.issuer opened.clock) → P day
    here P shop = subst (λ (c : C). P (at opened.state.version issuer c)) same_clock (subst (λ (n : List ℕ). P (at opened.state.version n opened.clock)) own
        shop)

    begins : IsPrefix first r.new.state.entries
    begins = record { rest = r.run.sound.begins.0; is = r.run.sound.begins.1 }

    stop : StopIs day (h.faults disk) (h.faults disk_after) day.stop
    stop = stop_since day (h.faults disk) (h.faults opened.disk) (h.faults disk_after) day.stop is_opened.later
        (subst (λ (d : D). StopIs day (h.faults opened.disk) (h.faults d) day.stop) (sym r.disk)
        (here (λ (d : Day). StopIs d (h.faults opened.disk) (h.faults r.new.disk) d.stop) r.run.stop))

    files : IsTrue h.tells → LeavesNow (h.on_disk r.new.disk) (StandsForEnd opened.state.version issuer r.new.state.entries (torn_of day.stop))
    files says = λ c left.
        subst (λ (n : List ℕ). StandsForEnd opened.state.version n r.new.state.entries (torn_of day.stop) c) own
        (subst (λ (es : List Entry). StandsForEnd opened.state.version opened.state.issuer r.new.state.entries es c) (torn_same r.new.stopped r.new.torn)
        (either h.tells h.on_disk h.faults h.coming opened r.new r.run.sound c ((r.run.sound.crashes says).whole c left)))

    moments : IsTrue h.tells → LeavesOnly (synced (h.on_disk disk)) (h.on_disk r.new.disk)
        (StandsSince (h.on_disk disk).content opened.state.version issuer first r.new.state.entries (torn_of day.stop))
    moments says =
        subst (λ (n : List ℕ). LeavesOnly (synced (h.on_disk disk)) (h.on_disk r.new.disk) (StandsSince (h.on_disk disk).content
        opened.state.version n first r.new.state.entries
        (torn_of day.stop))) own
        (subst (λ (es : List Entry). LeavesOnly (synced (h.on_disk disk)) (h.on_disk r.new.disk) (StandsSince (h.on_disk disk).content
        opened.state.version opened.state.issuer first
        r.new.state.entries es)) (torn_same r.new.stopped r.new.torn) since)
      where
        since : LeavesOnly (synced (h.on_disk disk)) (h.on_disk r.new.disk) (StandsSince (h.on_disk disk).content opened.state.version
            opened.state.issuer first r.new.state.entries
            (torn_in r.new.stopped r.new.torn))
        since = follows (synced (h.on_disk disk)) (h.on_disk opened.disk) (h.on_disk r.new.disk)
            (IsFoundSince (h.on_disk disk).content opened.state.version opened.state.issuer first) (StandsUpTo opened.state.version
            opened.state.issuer first r.new.state.entries
            (torn_in r.new.stopped r.new.torn))
            (StandsSince (h.on_disk disk).content opened.state.version opened.state.issuer first r.new.state.entries (torn_in
            r.new.stopped r.new.torn))
            (subst (λ (n : List ℕ). LeavesOnly (synced (h.on_disk disk)) (h.on_disk opened.disk) (IsFoundSince (h.on_disk disk).content
            opened.state.version n first)) (sym own)
            (is_opened.any_moment says))
            (weaker (h.on_disk opened.disk) (h.on_disk r.new.disk) _ (StandsUpTo opened.state.version opened.state.issuer first r.new.state.entries
            (torn_in r.new.stopped r.new.torn)) (r.run.sound.crashes says).since
            (between h.tells h.on_disk h.faults h.coming opened r.new r.run.sound))
            (λ c here. since_found (h.on_disk disk).content opened.state.version opened.state.issuer first r.new.state.entries (torn_in
            r.new.stopped r.new.torn) c begins here)
            (λ c here. inr here)

    crashes : EachCrash day call.disk
    crashes = record {
      found = is_opened.found;
      stop = stop;
      kept = λ says.
          subst (λ (d : D). SurvivesCrashes (StandsSince (h.on_disk disk).content opened.state.version issuer first r.new.state.entries
          (torn_of day.stop)) opened.state.version issuer r.new.state.entries
          (torn_of day.stop) (synced (h.on_disk disk)) (h.on_disk d)) (sym r.disk) (record {
            each_moment = moments says;
            never_loses = none_lost_in_both (synced (h.on_disk disk)) (h.on_disk opened.disk) (h.on_disk r.new.disk)
                (is_opened.never_loses says) (r.run.sound.crashes says).never_loses;
            every_crash = files says;
            reads = files says (h.on_disk r.new.disk).content (inl (refl, reads r.new.disk says));
          });
    }

    history : HistoryGoesOn day
    history = record {
      begins = begins;
      legal = subst (λ (n : List ℕ). Legal opened.state.version n r.new.state.entries) own r.run.sound.legal;
      linked = subst (λ (n : List ℕ). Linked n (recs r.new.state.entries)) own r.linked;
      rising = r.rising;
    }

    sends : SendsBeside day
    sends = here (λ (d : Day). SendsBeside d) r.run.sends

    agency : ItsAgency day plan a call.disk
    agency = record {
      opens = opens;
      sends = sends;
      behind = r.behind;
      agreement = λ keeps agree.
          let sent = (opens.lists (rules_tell keeps)).sent in
          sends.agreement keeps
          (subst (λ (ps : List _). Agree first ps agency_state.ledger.sent) (sym (opens.rules keeps))
          (subst (λ (ss : List _). Agree first (a.begun a.before.ledger.processed (noted_pairs first)) ss)
          (sym sent) agree));
      images = λ says agrees.
          subst (λ (d : D). LeavesNow (h.on_disk d) (AgreesInFile opened.state.version issuer a.after)) (sym r.disk)
          (λ c left. in_file c agrees (files says c left));
    }
      where
        in_file : (c : List ℕ) → StaysAgreed day → StandsForEnd opened.state.version issuer r.new.state.entries (torn_of day.stop) c →
            AgreesInFile opened.state.version issuer a.after c
        in_file c agrees (inl x) = (_, x, agrees.whole)
        in_file c agrees (inr x) = (_, x, agrees.torn)

    gives_up : (n m : ℕ) → r.answer ≡ Err (drain.Undelivered n m) →
        (length (noted r.new.state.entries) < length (recs r.new.state.entries)) ×
        (a.after.faults < 2 ^ 64 - 1 → a.before.faults + MAX_LINK_FAULTS ≤ a.after.faults)
    gives_up n m e = let counts = sends.counts n m e in (
      omega (arith, counts.noted_is, counts.within, counts.some),
      λ below. let more = sends.undelivered n m e below in let same = opens.faults in
          omega (arith, more, same),
    )

    -- the day of an opened store is one of its file, from its opening on
    pub day_facts : IsDayOf issuer asks plan drains call outcome
    day_facts = record {
      history = history;
      served = here (λ (d : Day). AllByRecursion (TillServed d) r.tills) r.run.served;
      others = r.run.others;
      crashes = crashes;
      agency = agency;
      session = r.session;
      gives_up = gives_up;
      time = subst (λ (c : C). IsLater coming clock c) (sym r.clock) (subst (λ (c : C). IsLater coming c r.new.clock)
          same_clock r.time);
    }

    -- the readings that stamped its records since then
    pub day_stamped : StampedSince coming (root_of h.on_disk h.faults opened) r.new.clock r.new.state.entries → StampedInTurn day
    day_stamped stamped = here (λ (d : Day). StampedInTurn d) (record {
      next = stamped.number;
      in_turn = stamped_since coming (root_of h.on_disk h.faults opened) r.new.clock r.new.state.entries stamped;
    })

-- a till run by readings of one kind is one by readings of another kind that gives the same
till_run_by : (version : Version) (issuer : List ℕ) (start end : List Entry) (old new : ℕ → Option ℕ) →
    ((k : ℕ) → old k ≡ new k) → {asks : List Asked} {replies : Replies} {seen : ℕ} {mark : Bool} →
    ServedRun version issuer old start end asks replies seen mark → ServedRun version issuer new start end asks replies seen mark
till_run_by version issuer start end old new same unasked = unasked
till_run_by version issuer start end old new same (answered asks replies seen ask reply history gained seconds before low
    reaches reading tells) =
    answered asks replies seen ask reply history gained seconds (till_run_by version issuer start end old new same before) low
    reaches (reading.0, subst (λ (o : Option ℕ). IsTold o seconds) (same reading.0) reading.1) tells
till_run_by version issuer start end old new same (tears asks replies seen ask before) = tears asks replies seen ask
    (till_run_by version issuer start end old new same before)
till_run_by version issuer start end old new same (told_stop asks replies seen mark ask count before) =
    told_stop asks replies seen mark ask count (till_run_by version issuer start end old new same before)
till_run_by version issuer start end old new same (without_memory asks replies seen ask before) =
    without_memory asks replies seen ask (till_run_by version issuer start end old new same before)

-- A day by readings of one kind is one by readings of another kind that gives the same.
module _ (d : Day) (new : ℕ → Option ℕ) (same : (k : ℕ) → d.coming k ≡ new k) where
  abbrev pub other : Day
  other = record d { coming = new }

  till_by : (t : TillReplies) → TillServed d t → TillServed other t
  till_by t h = record {
    last = h.last;
    told = h.told;
    run = till_run_by d.version d.issuer d.start d.end d.coming new same h.run;
    own = h.own;
    at_least = h.at_least;
    at_most = h.at_most;
  }

  recorded_by : (e : Entry) → RecordedBy d e → RecordedBy other e
  recorded_by e (by_till t among c once) = by_till t among (record {
    place = c.place;
    told = c.told;
    ask = c.ask;
    asked = c.asked;
    seconds = c.seconds;
    reading = (c.reading.0, subst (λ (o : Option ℕ). IsTold o c.seconds) (same c.reading.0) c.reading.1);
    made = c.made;
  }) once
  recorded_by e (sender notes fails none) = sender notes fails none

  stop_by : (faults after : ℕ) (stop : Option Stop) → StopIs d faults after stop → StopIs other faults after stop
  stop_by faults after None is = is
  stop_by faults after (Some stop) is = record {
    by = recorded_by stop.torn is.by;
    told = is.told;
    risen = is.risen;
    within = is.within;
  }

  agreed_by : StaysAgreed d → StaysAgreed other
  agreed_by a = record { whole = a.whole; torn = a.torn; no_contradiction = a.no_contradiction }

  agreed_back : StaysAgreed other → StaysAgreed d
  agreed_back a = record { whole = a.whole; torn = a.torn; no_contradiction = a.no_contradiction }

  sends_by : SendsBeside d → SendsBeside other
  sends_by h = record {
    agreement = λ keeps agree. agreed_by (h.agreement keeps agree);
    careful = h.careful;
    runs = h.runs;
    says = h.says;
    contrary = h.contrary;
    shown = h.shown;
    none_before = h.none_before;
    lines = h.lines;
    torn_lines = h.torn_lines;
    later = h.later;
    counts = h.counts;
    undelivered = h.undelivered;
    gives_up = h.gives_up;
    gave_up = h.gave_up;
  }

  pub history_by : HistoryGoesOn d → HistoryGoesOn other
  history_by h = record { begins = h.begins; legal = h.legal; linked = h.linked; rising = h.rising }

  pub tills_by : (numbers : List ℕ) → EachTillOf numbers d → EachTillOf numbers other
  tills_by numbers h = record {
    are = h.are;
    served = each_weaker (TillServed d) (TillServed other) d.tills till_by h.served;
    others = h.others;
  }

  pub crashes_by : {D : Type 0} (k : Disks D) → EachCrash d k → EachCrash other k
  crashes_by k h = record {
    found = h.found;
    stop = stop_by (k.faults k.disk) (k.faults k.disk_after) d.stop h.stop;
    kept = h.kept;
  }

  pub agency_by : {D G : Type 0} (plan : Plan) (a : Agencies G) (k : Disks D) → ItsAgency d plan a k → ItsAgency other plan a k
  agency_by plan a k h = record {
    opens = h.opens;
    sends = sends_by h.sends;
    behind = h.behind;
    agreement = λ keeps agree. agreed_by (h.agreement keeps agree);
    images = λ says agrees. h.images says (agreed_back agrees);
  }

  pub sender_by : (before : AgencyState) (end : Detail) → TellsOfSender d before end → TellsOfSender other before end
  sender_by before end h = record { undelivered = h.undelivered; contrary = h.contrary; shown = h.shown }

-- a session by the sleeper that a clock line makes is one by this line
pub session_by : {Z P : Type 0} (d : Day) (line : ℕ × ℕ) (z : Sleepers Z) (leap : Sleepers P) → leap.tells ≡ true →
    leap.moment leap.sleeper ≡ line.0 → StepsOf d None leap → StepsOf d (Some line) z
session_by d line z leap exact at h =
    subst (λ (b : Bool). SessionSteps d.kind.tells b d.drains line.0 d.start d.end d.opened d.after d.answer) exact
    (subst (λ (m : ℕ). SessionSteps d.kind.tells leap.tells d.drains m d.start d.end d.opened d.after d.answer) at h)
