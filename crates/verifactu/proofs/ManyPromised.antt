-- The promise of `many`, issuer by issuer, from the way it ended.
use Rattle.std.proofs.Common.{◌≡◌, ◌⊎◌, inl, inr, ℕ, suc, ◌≤◌, List, [], ◌∷◌, ◌++◌, append-nil, append_assoc, length, map, refl, sym, ◌∙◌, ap, subst, arith}
use Rattle.std.proofs.Common.{IsTrue, Option, Some, Result, ◌<◌, slice_index_or}
use Rattle.std.specs.Prelude.{remove}
use Rattle.ports.specs.declared.faults.NoMemory.{NoMemory}
use Rattle.std.specs.List.{AllByRecursion}
use Rattle.ports.specs.Causes.{Rose}
use Rattle.ports.specs.Sinks.{Sinks}
use Rattle.ports.specs.Sources.{Sources}
use Rattle.ports.specs.declared.Clock as clock
use Rattle.ports.specs.declared.sleeper.Sleeper as sleeper
use Rattle.chain_disk.specs.Disks.{DiskRose, Disks}
use Rattle.chain_disk.specs.OnDisk.{IsImage, synced}
use Rattle.chain_disk.specs.declared.disk.Disk as disk
use Rattle.agency_port.specs.declared.agency.Agency as agency
use Rattle.chain_store.specs.Crashes.{SurvivesCrashes}
use Rattle.chain_store.specs.Readings.{IsComing, LeavesClock, readings_of}
use Rattle.chain_store.specs.Replies.{Replies, StopsOnce}
use Rattle.issuers.specs.declared.parts.Part.{Part}
use Rattle.many_issuers.specs.Ends.{IsBegunAlone, IsDrained, ManyEnds, PartsRun, Row, RowEnds, StaysClosed, Works}
use Rattle.many_issuers.specs.Ends.ManyEnds.{bad_line, no_memory, ran, read_fault, too_big}
use Rattle.many_issuers.specs.Scripts.{AreGoodParts}
use Rattle.many_issuers.proofs.Lasting.{agree_on, front_legal, kept_on, none_torn_noted, pairs_stay, prefix_on}
use Rattle.many_issuers.proofs.NoNotes.{notes_nothing}
use Rattle.once_world.specs.Agreement.{Agree}
use Rattle.shop_drain.proofs.Saying.{noted_both}
use Rattle.shop_drain.specs.Opening.{IsUnbegun}
use Rattle.shop_drain.specs.Crashes.{StandsSince}
use Rattle.shop_drain.specs.Devices.{Agencies, AllDevices, LeftAgency, clock_in, this_call}
use Rattle.sender_session.specs.Kinds.{agency_state_of}
use Rattle.shop_drain.specs.Draining.{IsSession, IsUnopened, OpensSession, noted_pairs, spanning}
use Rattle.sender_session.specs.Noting.{all_said}
use Rattle.shop_drain.specs.declared.posts.Post.{Post}
use Rattle.record_codec.specs.declared.entry.Entry.{Entry}
use Rattle.record_fields.specs.declared.lines.Line.{Line}
use Rattle.record_fields.specs.declared.records.Sealed.{Sealed}
use Rattle.report.specs.declared.status.Detail.{Detail}
use Rattle.script.specs.declared.scripts.Script.{Script}
use Rattle.shop_drain.specs.Draining.{AgreesAtStart}
use Rattle.shop_drain.specs.Devices.{first_moment, tells_moment}
use Rattle.shop_commands.specs.Further.{Further}
use Rattle.shop_core.specs.File.Laws.{NotBegunIsNeither, OneHistory}
use Rattle.shop_core.specs.History.{noted, recs}
use Rattle.shop_core.specs.Prefix.{IsPrefix}
use Rattle.shop_core.specs.Spans.{NotedWithinRecords}
use Rattle.verifactu.specs.AgencyPromise.{AgencyKept, BatchesKept}
use Rattle.verifactu.specs.AgencyPromise.AgencyKept.{silent, in_session}
use Rattle.verifactu.specs.FilePromise.{FileKept, writes_for}
use Rattle.verifactu.specs.FurtherPromise.{AreKept, OthersKept}
use Rattle.verifactu.specs.TillPromise.{AreAskedOfPart}
use Rattle.verifactu.specs.Running.{ManyRan}
use Rattle.verifactu.specs.declared.command_line.Command.TheVariants.{Many}
use Rattle.verifactu.proofs.Gaining.{gains_on, gains_run}
use Rattle.verifactu.proofs.Promised.{AreLinked, goes_on, unopened}
use Rattle.verifactu.proofs.Promised.Left.{grown}
use Rattle.verifactu.proofs.Promising.{LeftBy, Rest, by_writing, nothing, uncalled}
use Rattle.verifactu.proofs.Sessions.{batches_not_served, batches_of_drain, not_served, of_drain, stays_of_chain}

-- What was kept of the agency from after the commands on is kept from before them, since they note nothing.
module _ {G : Type 0} (a : Agencies G) (start middle : List Entry) (begins : IsPrefix start middle)
    (same : noted middle ≡ noted start) (few : length (noted start) ≤ length (recs start)) where
  there : AgreesAtStart a start → AgreesAtStart a middle
  there agree =
      let ps = a.begun a.before.ledger.processed (noted_pairs start) in
      subst (λ (l : List (Sealed × Line)). Agree middle l a.before.ledger.sent)
      (ap (λ (l : List (Sealed × Line)). a.begun a.before.ledger.processed l) (sym (pairs_stay start middle begins same few)))
      (agree_on start middle begins same ps a.before.ledger.sent agree)

  agency_back : (end torn : List Entry) → AgencyKept middle end torn a → AgencyKept start end torn a
  agency_back end torn (silent lists none) = silent lists (none ∙ same)
  agency_back end torn (in_session h) = in_session (record {
    careful = λ tells runs. h.careful tells (stays_of_chain start middle a.before.ledger.messages begins runs);
    said = λ tells.
        let s = h.said tells in
        record {
          since = s.since;
          is = s.is;
          lines = record {
            rest = s.lines.rest;
            is = ap (λ (ls : List Line). ls ++ all_said s.since) (sym same) ∙ s.lines.is;
          };
        };
    agrees = λ keeps agree. h.agrees keeps (there agree);
  })

  batches_back : (end : List Entry) → BatchesKept middle end a → BatchesKept start end a
  batches_back end h tells runs = h tells (stays_of_chain start middle a.before.ledger.messages begins runs)

-- an agency that agrees with a history does so with one torn record more
agency_torn : {G : Type 0} (a : Agencies G) (middle torn : List Entry) → noted torn ≡ [] → AgencyKept middle middle [] a →
    AgencyKept middle middle torn a
agency_torn a middle torn none (silent lists same) = silent lists same
agency_torn a middle torn none (in_session h) = in_session (record {
  careful = h.careful;
  said = h.said;
  agrees = λ keeps agree.
      let whole = (h.agrees keeps agree).0 in (
        whole,
        agree_on middle (middle ++ torn) (record { rest = torn; is = refl })
            (noted_both middle torn ∙ ap (λ (l : List Line). noted middle ++ l) none ∙ append-nil (noted middle))
            a.after.ledger.processed a.after.ledger.sent whole,
      );
})

or_so : {A P Q : Type 0} → (P → Q) → A ⊎ P → A ⊎ Q
or_so f (inl a) = inl a
or_so f (inr p) = inr (f p)

module _ {D C Z G : Type 0} (chained : AreLinked) (a : AllDevices D C Z G)
    (agency_stays : LeftAgency a.agency → a.agency.after ≡ a.agency.before)
    (image : (d : D) → IsTrue a.devices.disk.tells → IsImage (a.devices.disk.on_disk d).now (a.devices.disk.on_disk d).content)
    (within : NotedWithinRecords)
    (rules : IsTrue a.agency.kind.keeps_rules → IsTrue a.agency.kind.tells) (issuer : List ℕ) (says : IsTrue a.devices.disk.tells) where
  abbrev k : Disks D
  k = a.devices.disk

  module _ (script : Script) (coming : ℕ → Option ℕ) (Leaves : Replies → Type 0) (end : Detail) (block : Result (List ℕ) NoMemory)
      (w : Works issuer script coming Leaves k a.sleeper a.agency end block) (asked : AreAskedOfPart a.devices.source w.asked) where
    abbrev start : List Entry
    start = w.played.start

    abbrev middle : List Entry
    middle = w.played.end

    same : noted middle ≡ noted start
    same = notes_nothing w.played.version issuer (IsComing coming) start w.played.run

    few : length (noted start) ≤ length (recs start)
    few = within w.played.version issuer start
        (front_legal w.played.version issuer start middle w.played.begins w.played.legal)

    drained : IsDrained script w.played.version issuer middle w.played.replies k w.middle a.sleeper a.agency w.outcome →
        LeftBy chained a agency_stays image issuer
    drained d =
        let o = w.outcome in
        let h = d.drains in
        let version = w.played.version in
        let exact = tells_moment script.clock a.sleeper in
        let moment = first_moment script.clock a.sleeper in
        let onward : IsPrefix middle o.end = record { rest = h.notes.more; is = h.notes.is } in
        let kept = kept_on (k.on_disk k.disk).content version issuer start middle o.end o.torn w.played.begins onward w.played.replies (synced (k.on_disk k.disk))
        (k.on_disk w.middle) (k.on_disk k.disk_after) d.going (w.played.kept says) (h.kept says) in
        let tills = gains_on a.devices.source start middle o.end w.played.begins h.notes
        (gains_run a.devices.source version issuer (IsComing coming) start w.asked w.played.replies middle (inr (inr (inr asked)))
        w.played.run) in
        let agency = agency_back a.agency start middle w.played.begins same few o.end o.torn
        (of_drain a.agency script.plan middle exact moment o h.session) in
        let batches = batches_back a.agency start middle w.played.begins same few o.end
        (batches_of_drain a.agency script.plan middle exact moment o onward h.session) in
        grown version start o.end o.torn (w.played.found says)
        (goes_on chained issuer k (image k.disk says) version start o.end o.torn (w.played.found says)
        (prefix_on start middle o.end w.played.begins onward) h.legal (one_of h.session)
        (or_so (λ rose below. let r = rose below in let l = w.later in omega (arith, r, l)) h.torn_risen) kept.each_moment
        kept.never_loses kept.every_crash kept.reads) (tills, agency, batches)
      where
        one_of : IsUnopened (spanning middle a.agency.kind a.agency.before a.agency.after (tells_moment script.clock a.sleeper)
            (first_moment script.clock a.sleeper) w.outcome)
            ⊎ IsSession a.agency.begun script.plan (spanning middle a.agency.kind a.agency.before a.agency.after
            (tells_moment script.clock a.sleeper) (first_moment script.clock a.sleeper) w.outcome) → length w.outcome.torn ≤ 1
        one_of (inl none) = let e = ap (λ (es : List Entry). length es) none.torn in omega (arith, e)
        one_of (inr s) = s.sends.at_most_one

    alone : IsBegunAlone script.plan middle w.played.replies k w.middle a.agency w.outcome → LeftBy chained a agency_stays image issuer
    alone b =
        let version = w.played.version in
        let q = w.played.kept says in
        let torn = q.torn in
        let session : IsUnbegun a.agency.kind a.agency.before a.agency.after
        ⊎ OpensSession a.agency.kind a.agency.begun script.plan middle a.agency.before a.agency.after =
        elim b.session [ inl s ↦ inr s.2 | inr n ↦ inl n.1 ] in
        let none = none_torn_noted version issuer (IsComing coming) w.asked middle w.played.replies torn q.made in
        let kept : SurvivesCrashes (StandsSince (k.on_disk k.disk).content version issuer start middle torn) version issuer middle torn
        (synced (k.on_disk k.disk))
        (k.on_disk k.disk_after) =
        subst (λ (x : D). SurvivesCrashes (StandsSince (k.on_disk k.disk).content version issuer start middle torn) version issuer
        middle torn (synced (k.on_disk k.disk))
        (k.on_disk x)) (sym b.disk) q.kept in
        let tills = gains_run a.devices.source version issuer (IsComing coming) start w.asked w.played.replies middle
        (inr (inr (inr asked))) w.played.run in
        let agency = agency_back a.agency start middle w.played.begins same few middle torn
        (agency_torn a.agency middle torn none (not_served a.agency script.plan middle rules session)) in
        let batches = batches_back a.agency start middle w.played.begins same few middle
        (batches_not_served a.agency script.plan middle session) in
        grown version start middle torn (w.played.found says)
        (goes_on chained issuer k (image k.disk says) version start middle torn (w.played.found says) w.played.begins w.played.legal q.at_most_one
        (by_fault w.played.stops) kept.each_moment kept.never_loses kept.every_crash kept.reads) (tills, agency, batches)
      where
        by_fault : StopsOnce (k.faults k.disk) (k.faults w.middle) w.played.replies → ((w.played.kept says).torn ≡ []) ⊎ DiskRose k
        by_fault (inl all) = inl ((w.played.kept says).by_a_fault all)
        by_fault (inr stopped) = inr (subst (λ (x : D). Rose (k.faults k.disk) (k.faults x)) (sym b.disk) stopped.risen)

    works_left : LeftBy chained a agency_stays image issuer
    works_left = elim w.behind [ inl d ↦ drained d | inr b ↦ alone b ]

  pub closed_left : (end : Detail) (block : Result (List ℕ) NoMemory) →
      StaysClosed issuer a.devices.clock k a.sleeper a.agency end block → LeftBy chained a agency_stays image issuer
  closed_left end block h = unopened chained issuer k (image k.disk says) (Rest chained a agency_stays image) h.why
      (h.unopened.left_by says) (h.unopened.never_loses says) (nothing chained a agency_stays image h.agency)

-- each issuer of a run
module _ {D C Z G : Type 0} (chained : AreLinked) (within : NotedWithinRecords) (one : OneHistory) (neither : NotBegunIsNeither)
    (d : disk.Ghosts D) (c : clock.Ghosts C) (z : sleeper.Ghosts Z) (g : agency.Ghosts G) (rules : IsTrue g.keeps_rules → IsTrue g.tells)
    (image : (x : D) → IsTrue d.tells → IsImage (d.on_disk x).now (d.on_disk x).content) (source : Sources) (s : Sinks) where
  abbrev call : Post D C Z G → Post D C Z G → AllDevices D C Z G
  call post after = this_call source s d c z g post after

  same_agency_state : (post after : Post D C Z G) → LeftAgency (call post after).agency →
      (call post after).agency.after ≡ (call post after).agency.before
  same_agency_state post after left = ap (λ (x : G). agency_state_of g x) left

  kept_by : (issuer : List ℕ) (post after : Post D C Z G) →
      (IsTrue d.tells → LeftBy chained (call post after) (same_agency_state post after) image issuer) → FileKept (Some issuer) (call post after)
  kept_by issuer post after left = by_writing chained (call post after) (same_agency_state post after) image one neither issuer left

  -- nothing was called
  all_left : (issuers : List (List ℕ)) (posts : List (Post D C Z G)) → length posts ≡ length issuers →
      AreKept d c z g issuers source s posts posts
  all_left [] [] e = tt
  all_left (issuer ∷ issuers) (post ∷ posts) e = (
    kept_by issuer post post (λ says. uncalled chained (call post post) (same_agency_state post post) image says issuer refl refl),
    all_left issuers posts (omega (arith, e)),
  )
  all_left [] (post ∷ posts) e = absurd (omega (arith, e))
  all_left (issuer ∷ issuers) [] e = absurd (omega (arith, e))

  module _ (issuers : List (List ℕ)) (parts : List Part) (good : AreGoodParts issuers source parts) where
    row_kept : (r : Row D C Z G) (before after : List Part) → parts ≡ before ++ r.part ∷ after → RowEnds d c z g r →
        FileKept (Some r.issuer) (call r.post r.after)
    row_kept r before after among (inl h) = kept_by r.issuer r.post r.after
        (λ says. closed_left chained (call r.post r.after) (same_agency_state r.post r.after) image within rules r.issuer says r.end r.block h)
    row_kept r before after among (inr w) = kept_by r.issuer r.post r.after
        (λ says. works_left chained (call r.post r.after) (same_agency_state r.post r.after) image within rules r.issuer says r.part.script
        (readings_of r.part.script.clock (c.coming r.post.clock)) (LeavesClock (clock_in c r.post r.after) r.part.script.clock) r.end r.block w
        (record {
          issuers = issuers;
          parts = parts;
          good = good;
          before = before;
          part = r.part;
          after = after;
          among = among;
          front = w.front;
        }))

    rows_kept : (before : List Part) (rows : List (Row D C Z G)) → parts ≡ before ++ map (λ (r : Row D C Z G). r.part) rows →
        AllByRecursion (RowEnds d c z g) rows →
        AreKept d c z g (map (λ (r : Row D C Z G). r.issuer) rows) source s (map (λ (r : Row D C Z G). r.post) rows)
        (map (λ (r : Row D C Z G). r.after) rows)
    rows_kept before [] are each = tt
    rows_kept before (r ∷ rows) are each = (
      row_kept r before (map (λ (r : Row D C Z G). r.part) rows) are each.0,
      rows_kept (before ++ r.part ∷ []) rows
          (are ∙ sym (append_assoc before (r.part ∷ []) (map (λ (r : Row D C Z G). r.part) rows))) each.1,
    )

  left_kept : (issuers : List (List ℕ)) (posts after : List (Post D C Z G)) → length posts ≡ length issuers → after ≡ posts →
      AreKept d c z g issuers source s posts after
  left_kept issuers posts after each same = subst (λ (l : List (Post D C Z G)). AreKept d c z g issuers source s posts l) (sym same)
      (all_left issuers posts each)

  run_kept : (issuers : List (List ℕ)) (parts : List Part) (posts after : List (Post D C Z G)) (end : Detail) →
      length posts ≡ length issuers → AreGoodParts issuers source parts → PartsRun d c z g issuers parts posts after s end →
      AreKept d c z g issuers source s posts after
  run_kept issuers parts posts after end each good (inl left) = left_kept issuers posts after each left.1.same
  run_kept issuers parts posts after end each good (inr h) =
      subst (λ (l : List (List ℕ)). AreKept d c z g l source s posts after) h.are.issuers_are
      (subst (λ (l : List (Post D C Z G)). AreKept d c z g (map (λ (r : Row D C Z G). r.issuer) h.rows) source s l after)
      h.are.posts_are
      (subst (λ (l : List (Post D C Z G)). AreKept d c z g (map (λ (r : Row D C Z G). r.issuer) h.rows) source s
      (map (λ (r : Row D C Z G). r.post) h.rows) l) h.are.after_are
      (rows_kept issuers parts good [] h.rows (sym h.are.parts_are) h.each)))

  all_kept : (issuers : List (List ℕ)) (posts after : List (Post D C Z G)) (end : Detail) → length posts ≡ length issuers →
      ManyEnds d c z g issuers source s posts after end → AreKept d c z g issuers source s posts after
  all_kept issuers posts after end each (ran parts how good h) = run_kept issuers parts posts after how each good h
  all_kept issuers posts after end each (bad_line line fault bad left) = left_kept issuers posts after each left.same
  all_kept issuers posts after end each (read_fault failed left) = left_kept issuers posts after each left.same
  all_kept issuers posts after end each (too_big past left) = left_kept issuers posts after each left.same
  all_kept issuers posts after end each (no_memory left) = left_kept issuers posts after each left.same

  own_and_others : (issuers : List (List ℕ)) (post after : Post D C Z G) (f : Further D C Z G) →
      AreKept d c z g issuers source s (post ∷ f.posts) (after ∷ f.posts_after) →
      FileKept (writes_for (Some (Many issuers))) (call post after) × OthersKept d c z g issuers (call post after) f
  own_and_others [] post after f h = absurd h
  own_and_others (issuer ∷ issuers) post after f h = (h.0, h.1)

-- what is kept of several issuers
pub many_keeps : {D C Z G : Type 0} (chained : AreLinked) (within : NotedWithinRecords) (one : OneHistory) (neither : NotBegunIsNeither)
    (d : disk.Ghosts D) (c : clock.Ghosts C) (z : sleeper.Ghosts Z) (g : agency.Ghosts G) (rules : IsTrue g.keeps_rules → IsTrue g.tells)
    (image : (x : D) → IsTrue d.tells → IsImage (d.on_disk x).now (d.on_disk x).content) (a : AllDevices D C Z G) (f : Further D C Z G) (issuers : List (List ℕ)) (end : Detail) → ManyRan d c z g issuers a f end →
    FileKept (writes_for (Some (Many issuers))) a × OthersKept d c z g issuers a f
many_keeps {D} {C} {Z} {G} chained within one neither d c z g rules image a f issuers end h =
    subst (λ (x : AllDevices D C Z G). FileKept (writes_for (Some (Many issuers))) x × OthersKept d c z g issuers x f) (sym h.own)
    (own_and_others chained within one neither d c z g rules image a.devices.source a.devices.sink issuers h.post h.after f
    (all_kept chained within one neither d c z g rules image a.devices.source a.devices.sink issuers (h.post ∷ f.posts)
    (h.after ∷ f.posts_after) end h.one_each h.ends))

-- as many posts come back as were given
row_posts : {D C Z G : Type 0} (rows : List (Row D C Z G)) →
    length (map (λ (r : Row D C Z G). r.after) rows) ≡ length (map (λ (r : Row D C Z G). r.post) rows)
row_posts [] = refl
row_posts (r ∷ rows) = ap suc (row_posts rows)

module _ {D C Z G : Type 0} (d : disk.Ghosts D) (c : clock.Ghosts C) (z : sleeper.Ghosts Z) (g : agency.Ghosts G)
    (issuers : List (List ℕ)) (source : Sources) (s : Sinks) (posts after : List (Post D C Z G)) where
  run_posts : (parts : List Part) (end : Detail) → PartsRun d c z g issuers parts posts after s end → length after ≡ length posts
  run_posts parts end (inl left) = ap length left.1.same
  run_posts parts end (inr h) = ap length (sym h.are.after_are) ∙ row_posts h.rows ∙ ap length h.are.posts_are

  pub posts_back : (end : Detail) → ManyEnds d c z g issuers source s posts after end → length after ≡ length posts
  posts_back end (ran parts how good h) = run_posts parts how h
  posts_back end (bad_line line fault bad left) = ap length left.same
  posts_back end (read_fault failed left) = ap length left.same
  posts_back end (too_big past left) = ap length left.same
  posts_back end (no_memory left) = ap length left.same

-- the first of a list, and the rest
pub front_back : {A : Type 0} (xs rest : List A) (x : A) → 0 < length xs → x ≡ slice_index_or xs 0 x → rest ≡ remove xs 0 →
    x ∷ rest ≡ xs
front_back {A} (y ∷ ys) rest x some first last = ap (λ (z : A). z ∷ rest) first ∙ ap (λ (l : List A). y ∷ l) last
front_back {A} [] rest x some first last = absurd (omega arith)
