-- What became of each issuer of an installation.
use Rattle.std.proofs.Common.{◌≡◌, ◌⊎◌, inl, inr, ℕ, ◌+◌, ◌≤◌, List, [], ◌∷◌, ◌++◌, length, refl, ap, sym, ◌∙◌, subst, arith, true, IsTrue}
use Rattle.std.proofs.Common.{Some, None, Result, Ok, Err, IfOk, OnOk, IsSome}
use Rattle.std.specs.List.{list_any}
use Rattle.record_fields.specs.declared.versions.Version.{Version}
use Rattle.ports.specs.Causes.{Rose}
use Rattle.ports.specs.declared.Clock as clock
use Rattle.ports.specs.declared.faults.NoMemory.{NoMemory}
use Rattle.ports.specs.declared.sleeper.Sleeper as sleeper
use Rattle.chain_disk.specs.OnDisk.{synced}
use Rattle.chain_disk.specs.Disks.{DiskRose, Disks, this_disk}
use Rattle.chain_disk.specs.declared.disk.Disk as disk
use Rattle.agency_port.specs.declared.agency.Agency as agency
use Rattle.journal.specs.Journal.{disk_of, stopped_of}
use Rattle.journal.specs.declared.faults.StoreFault.TheVariants as store_fault
use Rattle.record_codec.specs.declared.entry.Entry.{Entry}
use Rattle.report.specs.declared.status.Detail.{Detail}
use Rattle.report.specs.declared.status.Detail.TheVariants as detail
use Rattle.sender.specs.declared.answers.DrainFault.TheVariants as drain
use Rattle.shop_core.specs.History.{noted, recs}
use Rattle.shop_core.specs.Prefix.{IsPrefix}
use Rattle.shop_core.specs.Spans.{NotedWithinRecords}
use Rattle.chain_store.specs.Clocks.{Clocks, this_clock}
use Rattle.chain_store.specs.Crashes.{FailsIn, IsCutOff, KeptByRun, StandsUpTo}
use Rattle.chain_store.specs.Readings.{IsAsked, IsComing, LeavesClock, readings}
use Rattle.chain_store.specs.Replies.{AllGoOn, Replies, StopsOnce, is_disk_fault}
use Rattle.chain_store.specs.Runs.{Answers, Stores}
use Rattle.chain_store.specs.Store.{clock_of, journal_of, state_of}
use Rattle.chain_store.specs.Taking.{FailsOnce}
use Rattle.chain_store.specs.declared.store.Store.{Store}
use Rattle.issuers.specs.declared.parts.Part.{Part}
use Rattle.shop_drain.specs.Opening.{IsUnbegun}
use Rattle.command_ends.specs.Played.{Played}
use Rattle.shop_drain.specs.Crashes.{StandsSince}
use Rattle.shop_drain.specs.Devices.{Agencies, agency_in, clock_in, disk_in, sleeper_in}
use Rattle.sender_session.specs.Kinds.{agency_state_of, agency_kind}
use Rattle.shop_drain.specs.Draining.{AgreesAtStart}
use Rattle.shop_drain.specs.Devices.{first_moment, tells_moment}
use Rattle.shop_drain.specs.Draining.{OpensSession, Outcome, StoreDrains, disk_span, spanning}
use Rattle.many_issuers.specs.Ends.{IsBegunAlone, IsDrained, OwnRowEnds, Row, StaysClosed, Works, up_to}
use Rattle.many_issuers.specs.Blocks.{answered_block, closed_block, issuer_end}
use Rattle.many_issuers.specs.IssuerFiles.{IsClosed, Start}
use Rattle.many_issuers.specs.Lasting.{HistoryKept, SessionKept}
use Rattle.many_issuers.specs.IssuerTasks.{IsAnswered, IsTaskOf, TellsReplies}
use Rattle.many_issuers.specs.Work.{BeginsOnly, DoesClosed, DoesOpen, DoesTask, Drained, EndsTold, Told, this_sleeper}
use Rattle.shop_drain.specs.Opening.{IsUnopened}
use Rattle.shop_drain.specs.Outcomes.{outcome_of}
use Rattle.many_issuers.specs.declared.working.Done.{Done}
use Rattle.many_issuers.specs.declared.working.IssuerTask.{IssuerTask}
use Rattle.many_issuers.specs.declared.working.IssuerTask.TheVariants.{Closed, Open}
use Rattle.shop_drain.specs.declared.opening.Opened.{Opened}
use Rattle.shop_drain.specs.declared.opening.Unopened.{Unopened}
use Rattle.shop_drain.specs.declared.posts.Post.{Post}
use Rattle.shop_drain.proofs.Finishing.{kept_since}
use Rattle.many_issuers.proofs.NoNotes.{notes_nothing}
use Rattle.many_issuers.proofs.Causes.{EndBy, Late, complete_drained, end_by, ends_alone, late_drained, memory_tells, noted_drained}
use Rattle.many_issuers.proofs.Causes.{risen_drained, rose_alone}
use Rattle.many_issuers.proofs.Causes.EndBy.{by_memory}
use Rattle.many_issuers.proofs.Lasting.{agree_there, front_legal, history_alone, history_drained, session_alone, session_drained}
use Rattle.command_ends.proofs.RunEnding.{keeps_file, or_so, stops_from}

tells_fault : (before behind : Replies) → list_any is_disk_fault (before ++ Err store_fault.DiskFault ∷ behind) ≡ true
tells_fault [] behind = refl
tells_fault (Ok reply ∷ before) behind = tells_fault before behind
tells_fault (Err store_fault.DiskFault ∷ before) behind = refl
tells_fault (Err (store_fault.Stopped count) ∷ before) behind = refl
tells_fault (Err store_fault.NoMemory ∷ before) behind = tells_fault before behind

none_fails : (replies : Replies) → AllGoOn replies → list_any is_disk_fault replies ≡ true → ⊥
none_fails [] all some = cc
none_fails (Ok reply ∷ replies) all some = none_fails replies all.1 some
none_fails (Err store_fault.NoMemory ∷ replies) all some = none_fails replies all.1 some
none_fails (Err store_fault.DiskFault ∷ replies) all some = all.0
none_fails (Err (store_fault.Stopped count) ∷ replies) all some = all.0

rose_at : {faults after : ℕ} {replies : Replies} → StopsOnce faults after replies → list_any is_disk_fault replies ≡ true →
    Rose faults after
rose_at {faults} {after} {replies} (inl all) some = absurd (none_fails replies all some)
rose_at (inr stop) some = stop.risen

module _ {D C Z G : Type 0} (d : disk.Ghosts D) (c : clock.Ghosts C) (z : sleeper.Ghosts Z) (g : agency.Ghosts G) where
  -- the row of an issuer of which all is done
  abbrev pub row_of : Start D C Z G → Done D C Z G → Row D C Z G
  row_of s done = record {
    issuer = s.issuer;
    part = s.part;
    post = s.post;
    after = done.post;
    end = done.end;
    block = done.block;
  }

  closed_row : (s : Start D C Z G) (issuer : List ℕ) (u : Unopened D C Z G) (done : Done D C Z G) → IsClosed d c s issuer u →
      DoesClosed issuer u done →
      StaysClosed s.issuer (clock_in c s.post done.post) (disk_in d s.post done.post) (sleeper_in z s.post done.post)
      (agency_in g s.post done.post) done.end done.block
  closed_row s issuer u done a w =
      let unopened : IsUnopened s.issuer u.why (disk_in d s.post done.post) =
      subst (λ (p : Post D C Z G). IsUnopened s.issuer u.why (disk_in d s.post p)) (sym w.post) a.unopened in
      record {
        why = u.why;
        unopened = unopened;
        every_crash = λ says. keeps_file s.issuer u.why (d.on_disk s.post.disk) (d.on_disk done.post.disk) (unopened.left_by says);
        clock = ap (λ (p : Post D C Z G). p.clock) w.post ∙ a.clock_is;
        sleeper = ap (λ (p : Post D C Z G). p.sleeper) w.post ∙ a.sleeper_is;
        agency = ap (λ (p : Post D C Z G). p.agency) w.post ∙ a.agency_is;
        ends = w.end;
        printed = subst (λ (n : List ℕ). IfOk done.block (λ text. text ≡ closed_block n u.why)) a.issuer_is w.block;
      }

  module _ (s : Start D C Z G) (issuer : List ℕ) (part : Part) (told : Told) (opened : Opened D C Z G d) (done : Done D C Z G)
      (a : IsAnswered d c s issuer part told opened) (w : DoesOpen d z g issuer part.script told opened done) where
    abbrev now : Store D C d
    now = opened.store

    abbrev first : Store D C d
    first = a.first

    abbrev stores : List ℕ → C → Stores D C
    stores n x = record {
      issuer = n;
      version = (state_of first).version;
      start = (state_of first).entries;
      end = (state_of now).entries;
      tells = d.tells;
      since = d.on_disk (disk_of (journal_of first));
      now = d.on_disk (disk_of (journal_of now));
      faults = d.faults (disk_of (journal_of first));
      faults_after = d.faults (disk_of (journal_of now));
      disk = this_disk d.tells d.on_disk d.faults (disk_of (journal_of first)) (disk_of (journal_of now));
      clock = this_clock c.coming x (clock_of now);
    }

    answers : Answers a.served.asked a.replies (stores s.issuer s.post.clock)
    answers = subst (λ (n : List ℕ). Answers a.served.asked a.replies (stores n s.post.clock)) a.opened.issuer_is
        (subst (λ (x : C). Answers a.served.asked a.replies (stores (state_of first).issuer x)) a.opened.clock_is a.served.answers)

    abbrev disks : Disks D
    disks = up_to (disk_in d s.post done.post) (disk_of (journal_of now))

    widen : (v : Version) (n : List ℕ) (es : List Entry) →
        FailsIn (this_disk d.tells d.on_disk d.faults (disk_of (journal_of first)) (disk_of (journal_of now))) v n es → FailsIn disks v n es
    widen v n es f = record {
      found = f.found;
      left = f.left;
      held = f.held;
      early = omega (arith, f.early, a.opened.later);
      risen = f.risen;
      late = f.late;
    }

    abbrev clocks : Clocks C
    clocks = clock_in c s.post done.post

    abbrev played : Played s.issuer a.served.asked (c.coming s.post.clock) (LeavesClock clocks None) disks
    played = record {
      version = (state_of first).version;
      start = (state_of first).entries;
      replies = a.replies;
      end = (state_of now).entries;
      found = a.opened.found;
      run = answers.run;
      begins = answers.begins;
      legal = answers.legal;
      linked = answers.linked;
      rising = answers.rising;
      stops = stops_from (d.faults s.post.disk) (d.faults (disk_of (journal_of first))) (d.faults (disk_of (journal_of now))) a.replies
          a.opened.later answers.stops;
      fails = or_so (widen (state_of first).version s.issuer (state_of now).entries) answers.fails;
      kept = λ says. kept_since (IsCutOff (state_of first).version s.issuer (IsComing (c.coming s.post.clock)) a.served.asked
          (state_of now).entries a.replies) (d.on_disk s.post.disk).content (state_of first).version s.issuer (state_of first).entries
          (state_of now).entries a.replies
          (synced (d.on_disk s.post.disk)) (d.on_disk (disk_of (journal_of first))) (d.on_disk (disk_of (journal_of now))) answers.begins
          (a.opened.any_moment says) (a.opened.never_loses says) (answers.kept says);
      clock = subst (λ (x : C). IsAsked (this_clock c.coming s.post.clock x) (readings a.replies)) (sym w.clock_is) answers.asked;
    }

    abbrev outcome : Outcome
    outcome = outcome_of w.last

    went_on : FailsOnce d c first now a.served.asked a.replies → stopped_of (journal_of now) ≡ None → AllGoOn a.replies
    went_on (inl all) going = all
    went_on (inr fails) going = let stopped = (fails.took.fault refl).1 in let e = going in absurd cc

    failed : (count : ℕ) → FailsOnce d c first now a.served.asked a.replies → stopped_of (journal_of now) ≡ Some count →
        list_any is_disk_fault a.replies ≡ true
    failed count (inl all) stopped = let going = a.served.goes_on all in absurd cc
    failed count (inr fails) stopped =
        subst (λ (rs : Replies). list_any is_disk_fault rs ≡ true) (sym fails.told) (tells_fault fails.before fails.behind)

    drained : stopped_of (journal_of now) ≡ None → Drained d z g part.script opened w.last →
        IsDrained s.part.script (state_of first).version s.issuer (state_of now).entries a.replies (disk_in d s.post done.post)
        (disk_of (journal_of now)) (sleeper_in z s.post done.post) (agency_in g s.post done.post) outcome
    drained going h =
        let Does : Part → Version → List ℕ → D → G → G → Z → Z → Type 0 = λ p v n k x y e f.
        StoreDrains (StandsUpTo v n) g.begun p.script.plan v n (disk_span d (disk_of (journal_of now)) k)
        (spanning (state_of now).entries (agency_kind g) (agency_state_of g x) (agency_state_of g y)
        (tells_moment p.script.clock (this_sleeper z e f)) (first_moment p.script.clock (this_sleeper z e f)) outcome) in
        let v = (state_of now).version in
        let n = (state_of now).issuer in
        let last = w.last.opened in
        record {
          going = went_on a.served.fails going;
          drains =
              subst (λ (p : Part). Does p (state_of first).version s.issuer done.post.disk s.post.agency done.post.agency s.post.sleeper
              done.post.sleeper) a.part_is
              (subst (λ (u : Version). Does part u s.issuer done.post.disk s.post.agency done.post.agency s.post.sleeper done.post.sleeper)
              a.served.stays.1
              (subst (λ (m : List ℕ). Does part v m done.post.disk s.post.agency done.post.agency s.post.sleeper done.post.sleeper)
              (a.served.stays.0 ∙ a.opened.issuer_is)
              (subst (λ (k : D). Does part v n k s.post.agency done.post.agency s.post.sleeper done.post.sleeper) (sym w.disk_is)
              (subst (λ (x : G). Does part v n (disk_of (journal_of last.store)) x done.post.agency s.post.sleeper done.post.sleeper)
              a.agency_is
              (subst (λ (y : G). Does part v n (disk_of (journal_of last.store)) opened.agency y s.post.sleeper done.post.sleeper)
              (sym w.agency_is)
              (subst (λ (e : Z). Does part v n (disk_of (journal_of last.store)) opened.agency last.agency e done.post.sleeper)
              a.sleeper_is
              (subst (λ (f : Z). Does part v n (disk_of (journal_of last.store)) opened.agency last.agency opened.sleeper f)
              (sym w.sleeper_is) h)))))));
        }

    begun_alone : BeginsOnly g part.script.plan opened w.last →
        IsBegunAlone s.part.script.plan (state_of now).entries a.replies (disk_in d s.post done.post) (disk_of (journal_of now))
        (agency_in g s.post done.post) outcome
    begun_alone h = record {
      failed = failed h.count a.served.fails h.stopped;
      disk = w.disk_is ∙ ap (λ (t : Store D C d). disk_of (journal_of t)) h.store;
      end = ap (λ (t : Store D C d). (state_of t).entries) h.store;
      turns = h.turns;
      session = elim h.session [
        | inl opens ↦ inl (
          h.count,
          opens.0,
          subst (λ (p : Part). OpensSession (agency_kind g) g.begun p.script.plan (state_of now).entries (agency_state_of g s.post.agency)
              (agency_state_of g done.post.agency)) a.part_is
              (subst (λ (x : G). OpensSession (agency_kind g) g.begun part.script.plan (state_of now).entries (agency_state_of g x)
              (agency_state_of g done.post.agency)) a.agency_is
              (subst (λ (y : G). OpensSession (agency_kind g) g.begun part.script.plan (state_of now).entries (agency_state_of g opened.agency)
              (agency_state_of g y)) (sym w.agency_is) opens.1)),
        )
        | inr none ↦ inr (
          none.0,
          subst (λ (x : G). IsUnbegun (agency_kind g) (agency_state_of g x) (agency_state_of g done.post.agency)) a.agency_is
              (subst (λ (y : G). IsUnbegun (agency_kind g) (agency_state_of g opened.agency) (agency_state_of g y)) (sym w.agency_is) none.1),
        )
      ];
    }

    abbrev Ends : Type 0
    Ends = (done.end ≡ detail.NoMemory) ⊎ ((a.served.asked ≡ s.part.script.asks) × (done.end ≡ issuer_end a.replies w.last.answer))

    abbrev Prints : Type 0
    Prints = IfOk done.block (λ text. text ≡ answered_block s.issuer s.part.script.asks a.replies outcome.end done.end)

    told_by : (t : Told) (all : Result (Unit {0}) NoMemory) → TellsReplies a.replies all t →
        OnOk all (a.served.asked ≡ part.script.asks) → EndsTold issuer part.script t w.last done.end done.block → Ends × Prints
    told_by (Err fault) all tells whole e = (
      inl e.0,
      subst (λ (b : Result (List ℕ) NoMemory).
          IfOk b (λ text. text ≡ answered_block s.issuer s.part.script.asks a.replies outcome.end done.end)) (sym e.1) tt,
    )
    told_by (Ok list) (Err fault) tells whole e = absurd cc
    told_by (Ok list) (Ok u) tells whole e = (
      inr (
        whole ∙ ap (λ (p : Part). p.script.asks) a.part_is,
        e.0 ∙ ap (λ (rs : Replies). issuer_end rs w.last.answer) tells,
      ),
      subst (λ (p : Part). IfOk done.block (λ text. text ≡ answered_block s.issuer p.script.asks a.replies outcome.end done.end)) a.part_is
          (subst (λ (n : List ℕ). IfOk done.block (λ text. text ≡ answered_block n part.script.asks a.replies outcome.end done.end))
          a.issuer_is
          (subst (λ (rs : Replies). IfOk done.block (λ text. text ≡ answered_block issuer part.script.asks rs outcome.end done.end)) tells
          e.1)),
    )

    abbrev version : Version
    version = (state_of first).version

    abbrev start : List Entry
    start = (state_of first).entries

    abbrev middle : List Entry
    middle = (state_of now).entries

    abbrev half : D
    half = disk_of (journal_of now)

    abbrev whole_disks : Disks D
    whole_disks = disk_in d s.post done.post

    abbrev its_agency : Agencies G
    its_agency = agency_in g s.post done.post

    abbrev Reads : Replies → ℕ → Type 0
    Reads = IsComing (c.coming s.post.clock)

    same_noted : noted middle ≡ noted start
    same_noted = notes_nothing version s.issuer Reads start answers.run

    few_noted : NotedWithinRecords → length (noted start) ≤ length (recs start)
    few_noted within = within version s.issuer start (front_legal version s.issuer start middle answers.begins answers.legal)

    early : d.faults s.post.disk ≤ d.faults half
    early = omega (arith, a.opened.later, a.served.stays.2)

    fault : list_any is_disk_fault a.replies ≡ true → Rose (d.faults s.post.disk) (d.faults half)
    fault some = rose_at (stops_from (d.faults s.post.disk) (d.faults (disk_of (journal_of first))) (d.faults half) a.replies a.opened.later
        answers.stops) some

    kept_so : IsTrue d.tells → KeptByRun (StandsSince (d.on_disk s.post.disk).content version s.issuer start middle)
        (IsCutOff version s.issuer Reads a.served.asked middle a.replies) version s.issuer middle a.replies (synced (d.on_disk s.post.disk))
        (d.on_disk half)
    kept_so says = played.kept says

    -- what follows from the commands and from what came after them
    record Follows : Type 0 where
      behind : IsDrained s.part.script version s.issuer middle a.replies whole_disks half (sleeper_in z s.post done.post) its_agency outcome
          ⊎ IsBegunAlone s.part.script.plan middle a.replies whole_disks half its_agency outcome
      history : HistoryKept version s.issuer start middle outcome.end whole_disks
      agency : ((done.end ≡ detail.NoMemory) × IsUnbegun its_agency.kind its_agency.before its_agency.after)
          ⊎ SessionKept s.part.script.plan version s.issuer start outcome.end whole_disks its_agency
      risen : done.end ≡ detail.DiskFault → DiskRose whole_disks
      all_noted : done.end ≡ detail.Done → length (noted outcome.end) ≡ length (recs outcome.end)
      undelivered : (n r : ℕ) → done.end ≡ detail.Undelivered n r → Late whole_disks half its_agency a.replies outcome done.end early fault n r
      complete : (DiskRose whole_disks → ⊥) → (Rose its_agency.before.faults its_agency.after.faults → ⊥) →
          IsTrue its_agency.kind.keeps_rules → AgreesAtStart its_agency start → (done.end ≡ detail.Done) ⊎ (done.end ≡ detail.NoMemory)

    memory_or : {X : Type 0} → Ends → (w.last.answer ≡ Err drain.NoMemory) × X → (done.end ≡ detail.NoMemory) × X
    memory_or (inl lacks) p = (lacks, p.1)
    memory_or (inr e) p = (memory_tells a.replies w.last.answer done.end e.1 p.0, p.1)

    either : {X Y Z : Type 0} → (X → Z) → X ⊎ Y → Z ⊎ Y
    either f (inl x) = inl (f x)
    either f (inr y) = inr y

    by_end : Ends → EndBy a.replies w.last.answer done.end
    by_end (inl lacks) = subst (λ (e : Detail). EndBy a.replies w.last.answer e) (sym lacks) by_memory
    by_end (inr e) = end_by a.replies w.last.answer done.end e.1

    follows_drain : NotedWithinRecords → Ends →
        (h : IsDrained s.part.script version s.issuer middle a.replies whole_disks half (sleeper_in z s.post done.post) its_agency outcome) →
        Follows
    follows_drain within ends h =
        let exact = tells_moment s.part.script.clock (sleeper_in z s.post done.post) in
        let at = first_moment s.part.script.clock (sleeper_in z s.post done.post) in
        let plan = s.part.script.plan in
        let few = few_noted within in
        let e = by_end ends in
        record {
          behind = inl h;
          history = history_drained version s.issuer start middle answers.begins same_noted few whole_disks half early Reads a.served.asked
              a.replies kept_so plan its_agency outcome exact at h.going h.drains;
          agency = either (memory_or ends) (session_drained version s.issuer start middle answers.begins same_noted few whole_disks half early
              Reads a.served.asked a.replies kept_so plan its_agency outcome exact at h.going h.drains);
          risen = risen_drained whole_disks half its_agency a.replies outcome done.end early fault version s.issuer plan middle exact at
              h.drains done.end e;
          all_noted = noted_drained whole_disks half its_agency a.replies outcome done.end early fault version s.issuer plan middle exact at
              h.drains done.end e;
          undelivered = late_drained whole_disks half its_agency a.replies outcome done.end early fault version s.issuer plan middle exact at
              h.drains done.end e;
          complete = λ still linked keeps agree. complete_drained whole_disks half its_agency a.replies outcome done.end early fault version
              s.issuer plan middle exact at h.drains still linked keeps
              (agree_there version s.issuer start middle answers.begins same_noted few whole_disks half early Reads a.served.asked a.replies
              kept_so plan its_agency outcome agree) done.end e;
        }

    follows_alone : NotedWithinRecords → (IsTrue g.keeps_rules → IsTrue g.tells) → Ends →
        IsBegunAlone s.part.script.plan middle a.replies whole_disks half its_agency outcome → Follows
    follows_alone within rules ends h =
        let plan = s.part.script.plan in
        let few = few_noted within in
        let rose = rose_alone whole_disks half its_agency a.replies outcome done.end early fault plan middle h in
        let e = ends_alone whole_disks half its_agency a.replies outcome done.end early fault plan middle h done.end (by_end ends) in
        record {
          behind = inr h;
          history = history_alone version s.issuer start middle answers.begins same_noted few whole_disks half early Reads a.served.asked
              a.replies kept_so plan its_agency outcome h answers.legal answers.linked rose rules;
          agency = either (memory_or ends) (session_alone version s.issuer start middle answers.begins same_noted few whole_disks half early
              Reads a.served.asked a.replies kept_so plan its_agency outcome h answers.legal answers.linked rose rules);
          risen = λ is. rose;
          all_noted = λ is. elim e [ inl m ↦ absurd cc | inr f ↦ absurd cc ];
          undelivered = λ n r is. elim e [ inl m ↦ absurd cc | inr f ↦ absurd cc ];
          complete = λ still linked keeps agree. absurd (still rose);
        }

    read_on : c.by_readings s.post.clock done.post.clock
    read_on = subst (λ (x : C). c.by_readings x done.post.clock) a.opened.clock_is
        (subst (λ (y : C). c.by_readings (clock_of first) y) (sym w.clock_is) a.served.read)

    open_row : NotedWithinRecords → (IsTrue g.keeps_rules → IsTrue g.tells) →
        Works s.issuer s.part.script (c.coming s.post.clock) (LeavesClock clocks None) (disk_in d s.post done.post)
        (sleeper_in z s.post done.post) (agency_in g s.post done.post) done.end done.block
    open_row within rules =
        let told = told_by told a.all a.tells a.served.whole w.ends in
        let f : Follows = elim w.behind [
          | inl h ↦ follows_drain within told.0 (drained h.0 h.1)
          | inr h ↦ follows_alone within rules told.0 (begun_alone h)
        ] in
        record {
          asked = a.served.asked;
          front = subst (λ (p : Part). IsPrefix a.served.asked p.script.asks) a.part_is a.served.front;
          middle = disk_of (journal_of now);
          later = early;
          played = played;
          outcome = outcome;
          behind = f.behind;
          ends = told.0;
          printed = told.1;
          sleeper = λ some. w.replaced (subst (λ (p : Part). IsSome p.script.clock) (sym a.part_is) some) ∙ a.sleeper_is;
          history = f.history;
          agency = f.agency;
          risen = f.risen;
          all_noted = f.all_noted;
          undelivered = f.undelivered;
          complete = f.complete;
        }

  pub row_ends : NotedWithinRecords → (IsTrue g.keeps_rules → IsTrue g.tells) → ((x : C) → c.by_readings x x) → (s : Start D C Z G)
      (t : IssuerTask D C Z G d) (done : Done D C Z G) → IsTaskOf d c s t → DoesTask d z g t done →
      OwnRowEnds d c.coming c.by_readings z g (row_of s done)
  row_ends within rules unread s (Closed issuer u) done a w =
      let h = closed_row s issuer u done a w in
      (subst (λ (x : C). c.by_readings s.post.clock x) (sym h.clock) (unread s.post.clock), inl h)
  row_ends within rules unread s (Open issuer part told opened) done a w =
      (read_on s issuer part told opened done a w, inr (open_row s issuer part told opened done a w within rules))
