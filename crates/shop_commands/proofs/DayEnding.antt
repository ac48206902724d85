-- How a day ends, and what its clause says of the whole call.
use Rattle.std.proofs.Common.{◌≡◌, ◌⊎◌, inl, inr, ℕ, ◌+◌, ◌-◌, ◌^◌, ◌<◌, ◌≤◌, List, length, map, sym, ◌∙◌, ap, subst, refl}
use Rattle.std.proofs.Common.{arith, true, false, IsTrue, Option, Some, None, Err}
use Rattle.std.specs.Prelude.{◌≢◌, IsErrOf}
use Rattle.std.specs.List.{AllByRecursion, range_with_len}
use Rattle.std.proofs.lemmas.List.Elements.{filter_passes}
use Rattle.chain_disk.specs.Disks.{DiskRose}
use Rattle.record_codec.specs.declared.entry.TheConstants.{LAST_TILL}
use Rattle.report.specs.declared.status.Detail.{Detail}
use Rattle.report.specs.declared.status.Detail.TheVariants as detail
use Rattle.agency_port.specs.declared.turns.Evidence.{Evidence}
use Rattle.sender.specs.declared.answers.DrainFault.TheVariants as drain
use Rattle.sender.specs.declared.draining.TheConstants.{MAX_LINK_FAULTS}
use Rattle.script.specs.declared.forms.Form.TheVariants.{Full}
use Rattle.script.specs.declared.scripts.Script.{Script}
use Rattle.shop_core.specs.Answer.Requests.{Asked}
use Rattle.shop_core.specs.History.{recs, noted}
use Rattle.shop_commands.specs.SenderEnds.{DayRunEnds}
use Rattle.sender_session.specs.Contradictions.{ShowsLast}
use Rattle.shop_commands.specs.SenderEnds.DayRunEnds.{done, write_fault, undelivered, contradiction, disk_fault, no_memory}
use Rattle.shop_commands.specs.Day.{DayEnds, DayServed, FileDay, Outcome, StampedInTurn, day_of, day_text}
use Rattle.sender_beside.specs.Days.{Day, TillReplies, all_replies}
use Rattle.chain_store.specs.Clocks.{Clocks, LeftClock}
use Rattle.shop_drain.specs.Devices.{AllDevices, Around, LeftSleeper, Sleepers, around}
use Rattle.shop_drain.specs.Draining.{AgreesAtStart}
use Rattle.shop_commands.specs.Drain.{AllLeft, NothingRose}
use Rattle.chain_store.specs.Readings.{readings_of}
use Rattle.command_ends.specs.Scripts.{IsGoodScript}
use Rattle.command_ends.specs.Scripts.ScriptedEnds.{ran}
use Rattle.sender_beside.specs.Tills.{StopIs, has_asks, tills_of}
use Rattle.sender_session.proofs.Lists.{each_of_all, each_unmap, each_weaker}
use Rattle.command_ends.proofs.RunEnding.{not_opened_by, rose_opening}
use Rattle.shop_commands.proofs.InTurns.{stamped_by}
use Rattle.shop_commands.proofs.ShopDays.{IsDayOf, agency_by, crashes_by, history_by, rose_day, sender_by, session_by, tills_by}

-- a till that asks for nothing is none of the tills that ask
pub none_of : (asks : List Asked) (tills : List TillReplies) (till : ℕ) →
    map (λ (t : TillReplies). t.till) tills ≡ tills_of asks → has_asks asks till ≡ false → AllByRecursion (λ (t : TillReplies).
    t.till ≢ till) tills
none_of asks tills till are none =
    let passes : AllByRecursion (λ (n : ℕ). has_asks asks n ≡ true) (tills_of asks) =
    each_of_all (λ (n : ℕ). has_asks asks n ≡ true) (tills_of asks) (filter_passes (has_asks asks)
    (range_with_len 1 LAST_TILL)) in
    let each = each_unmap (λ (t : TillReplies). t.till) (λ (n : ℕ). has_asks asks n ≡ true) tills
    (subst (λ (l : List ℕ). AllByRecursion (λ (n : ℕ). has_asks asks n ≡ true) l) (sym are) passes) in
    each_weaker (λ (t : TillReplies). has_asks asks t.till ≡ true) (λ (t : TillReplies). t.till ≢ till) tills
    (λ t has e. let both : true ≡ false = sym has ∙ ap (λ (n : ℕ). has_asks asks n) e ∙ none in absurd (let b = both in cc))
    each

-- the day of a script on an opened file, and how it ended
module _ {D C Z G : Type 0} (issuer : List ℕ) (script : Script) (c : Around D C Z G) (o : Outcome)
    (f : IsDayOf issuer script.asks script.plan true c o) where
  abbrev day : Day
  day = day_of issuer script None c o

  abbrev Failing : ℕ → ℕ → Type 0
  Failing n m = (n < m) × (c.agency.after.faults < 2 ^ 64 - 1 → c.agency.before.faults + MAX_LINK_FAULTS ≤ c.agency.after.faults)

  abbrev Ends : Detail → Type 0
  Ends how = DayRunEnds (all_replies o.tills) o.answer (length (noted o.end)) (length (recs o.end)) (day_text script.asks o.tills o.end) c.sink
      how

  failed : (how : Detail) → Ends how → (n m : ℕ) → how ≡ detail.Undelivered n m → Failing n m
  failed how (undelivered x y all e w) n m is =
      let lines : ℕ = length (noted o.end) in
      let one : lines ≡ n = cc in
      let two : length (recs o.end) ≡ m = cc in
      subst (λ (i : ℕ). Failing i m) one (subst (λ (j : ℕ). Failing lines j) two (f.gives_up x y e))
  failed how _ n m is = absurd cc

  completed : (how : Detail) → Ends how → NothingRose c.sink c.disk c.agency → IsTrue c.agency.kind.keeps_rules → AgreesAtStart c.agency o.start →
      (how ≡ detail.Done) ⊎ (how ≡ detail.NoMemory)
  completed how (done all e same w) none keeps agree = inl refl
  completed how (no_memory w) none keeps agree = inr refl
  completed how (write_fault all e same w) none keeps agree = absurd (none.sink w.risen)
  completed how (undelivered n m all e w) none keeps agree =
      let u = f.gives_up n m e in
      absurd (none.agency (λ below. let more = u.1 below in omega (arith, more)))
  completed how (contradiction evidence all e w) none keeps agree = absurd ((f.agency.agreement keeps agree).no_contradiction
      evidence e)
  completed how (disk_fault memory kept some w) none keeps agree =
      absurd (none.disk (rose_day day (c.disk.faults c.disk.disk) (c.disk.faults c.disk.disk_after) o.stop f.crashes.stop some))

  abbrev Shown : Evidence → Type 0
  Shown evidence = ShowsLast o.end o.opened.ledger.messages c.agency.after.ledger.messages evidence

  only_shown : (how : Detail) → Ends how → IsTrue c.agency.kind.tells → (evidence : Evidence) → how ≡ detail.Contradiction evidence →
      Shown evidence
  only_shown how (contradiction found all e w) says evidence is =
      let same : found ≡ evidence = cc in
      f.agency.sends.contrary says evidence (e ∙ ap (λ (x : Evidence). Err (drain.Contradiction x)) same)
  only_shown how _ says evidence is = absurd cc

  each_shown : (how : Detail) → Ends how → IsTrue c.agency.kind.tells → (evidence : Evidence) → Shown evidence →
      (how ≡ detail.Contradiction evidence) ⊎ (how ≡ detail.NoMemory) ⊎ (how ≡ detail.DiskFault)
  each_shown how ends says evidence shows = by_answer how ends (f.agency.sends.shown says evidence shows)
    where
      by_answer : (how : Detail) → Ends how → IsErrOf o.answer (drain.Contradiction evidence) ⊎ (o.answer ≡ Err drain.NoMemory)
          → (how ≡ detail.Contradiction evidence) ⊎ (how ≡ detail.NoMemory) ⊎ (how ≡ detail.DiskFault)
      by_answer how (done all e same w) (inl is) = absurd (let x = sym e ∙ is in cc)
      by_answer how (done all e same w) (inr none) = absurd (let x = sym e ∙ none in cc)
      by_answer how (write_fault all e same w) (inl is) = absurd (let x = sym e ∙ is in cc)
      by_answer how (write_fault all e same w) (inr none) = absurd (let x = sym e ∙ none in cc)
      by_answer how (undelivered n m all e w) (inl is) = absurd (let x = sym e ∙ is in cc)
      by_answer how (undelivered n m all e w) (inr none) = absurd (let x = sym e ∙ none in cc)
      by_answer how (contradiction found all e w) (inl is) = let x = sym e ∙ is in let same : found ≡ evidence = cc in
          inl (ap (λ (x : Evidence). detail.Contradiction x) same)
      by_answer how (contradiction found all e w) (inr none) = absurd (let x = sym e ∙ none in cc)
      by_answer how (disk_fault memory kept some w) shown = inr (inr refl)
      by_answer how (no_memory w) shown = inr (inl refl)

  pub day_done : StampedInTurn day → (end : Detail) → map (λ (t : TillReplies). t.till) o.tills ≡ tills_of script.asks → Ends end →
      DayServed issuer script None c end
  day_done stamped end are ends = record {
    outcome = o;
    history = f.history;
    stamped = stamped;
    tills = record {
      are = are;
      served = f.served;
      others = λ till none. f.others till (none_of script.asks o.tills till are none);
    };
    crashes = f.crashes;
    agency = f.agency;
    session = f.session;
    ends = record {
      cause = ends;
      sender = record { undelivered = failed end ends; contrary = only_shown end ends; shown = each_shown end ends };
      complete = completed end ends;
    };
    time = f.time;
  }

-- the same end, said of a call whose clock line replaced clock and sleeper by these
module _ {D C Z O P G : Type 0} (issuer : List ℕ) (script : Script) (line : ℕ × ℕ) (c : Around D C Z G) (by : Clocks O)
    (with : Sleepers P) (exact : with.tells ≡ true) (at : with.moment with.sleeper ≡ line.0)
    (same : (k : ℕ) → by.coming by.clock k ≡ readings_of (Some line) (c.clock.coming c.clock.clock) k) (clock : LeftClock c.clock)
    (sleeper : LeftSleeper c.sleeper) (end : Detail) where
  abbrev own : Around D O P G
  own = record { sink = c.sink; disk = c.disk; clock = by; sleeper = with; agency = c.agency }

  all_left : AllLeft by with c.agency → AllLeft c.clock c.sleeper c.agency
  all_left left = record { clock = clock; sleeper = sleeper; agency = left.agency }

  served_by : DayServed issuer script None own end → DayServed issuer script (Some line) c end
  served_by h =
      let d : Day = day_of issuer script None own h.outcome in
      let new : ℕ → Option ℕ = readings_of (Some line) (c.clock.coming c.clock.clock) in
      record {
        outcome = h.outcome;
        history = history_by d new same h.history;
        stamped = stamped_by d new same h.stamped;
        tills = tills_by d new same (tills_of script.asks) h.tills;
        crashes = crashes_by d new same c.disk h.crashes;
        agency = agency_by d new same script.plan c.agency c.disk h.agency;
        session = session_by d line c.sleeper with exact at h.session;
        ends = record {
          cause = h.ends.cause;
          sender = sender_by d new same c.agency.before end h.ends.sender;
          complete = h.ends.complete;
        };
        time = (clock, sleeper);
      }

  pub by_line : FileDay issuer script None own end → FileDay issuer script (Some line) c end
  by_line (inl h) = inl (
    h.0,
    record { wrote = h.1.wrote; disk = h.1.disk; clock = clock; sleeper = sleeper; agency = h.1.agency },
  )
  by_line (inr (inl h)) = inr (inl (not_opened_by all_left h))
  by_line (inr (inr (inl h))) = inr (inr (inl (record {
    ends = h.ends;
    version = h.version;
    start = h.start;
    found = h.found;
    kept = h.kept;
    begun = h.begun;
    wrote = h.wrote;
    clock = clock;
    sleeper = sleeper;
  })))
  by_line (inr (inr (inr h))) = inr (inr (inr (served_by h)))

module _ {D C Z G : Type 0} (issuer : List ℕ) (script : Script) (line : Option (ℕ × ℕ)) (c : Around D C Z G) where
  rose_served : (d : Day) → StopIs d (c.disk.faults c.disk.disk) (c.disk.faults c.disk.disk_after) d.stop → (end : Detail) →
      DayRunEnds (all_replies d.tills) d.answer (length (noted d.end)) (length (recs d.end)) (day_text d.asks d.tills d.end) c.sink
      end → end ≡ detail.DiskFault → DiskRose c.disk
  rose_served d stop end (disk_fault memory kept some w) is = rose_day d (c.disk.faults c.disk.disk)
      (c.disk.faults c.disk.disk_after) d.stop stop some
  rose_served d stop end _ is = absurd cc

  rose_file : (end : Detail) → FileDay issuer script line c end → end ≡ detail.DiskFault → DiskRose c.disk
  rose_file end (inl h) is = let none = sym h.0 ∙ is in absurd cc
  rose_file end (inr (inl h)) is = rose_opening h.why c.disk h.risen (sym h.ends ∙ is)
  rose_file end (inr (inr (inl h))) is = let none = sym h.ends ∙ is in absurd cc
  rose_file end (inr (inr (inr h))) is = rose_served (day_of issuer script line c h.outcome) h.crashes.stop end h.ends.cause is

-- the end of a day that read its script is that of its file
pub day_ran : {D C Z G : Type 0} (issuer : List ℕ) (d : AllDevices D C Z G) (script : Script) (end : Detail) →
    IsGoodScript Full d.devices.source script → FileDay issuer script script.clock (around d) end → DayEnds issuer d end
day_ran issuer d script end good h =
    ran script end good (record { ends = h; risen = rose_file issuer script script.clock (around d) end h })
