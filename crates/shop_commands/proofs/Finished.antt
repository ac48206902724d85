-- How a drain of a file ends.
use Rattle.std.proofs.Common.{◌≡◌, ◌∙◌, ◌⊎◌, inl, inr, refl, sym, subst, arith, ℕ, ◌+◌, ◌-◌, ◌^◌, ◌<◌, ◌≤◌, List, Bool, true}
use Rattle.std.proofs.Common.{IsTrue, Option, Some, None}
use Rattle.ports.specs.Sinks.{Sinks}
use Rattle.chain_disk.specs.Disks.{DiskRose, Disks}
use Rattle.chain_disk.specs.OnDisk.{OnDisk, LeavesOnly, synced}
use Rattle.record_fields.specs.declared.versions.Version.{Version}
use Rattle.record_codec.specs.declared.entry.Entry.{Entry}
use Rattle.agency_rules.specs.declared.plans.Plan.{Plan}
use Rattle.sender.specs.declared.draining.TheConstants.{MAX_LINK_FAULTS}
use Rattle.recovery.specs.Opening.{IsFound}
use Rattle.script.specs.declared.scripts.Script.{Script}
use Rattle.report.specs.declared.status.Detail.{Detail}
use Rattle.report.specs.declared.status.Detail.TheVariants as detail
use Rattle.shop_drain.specs.Crashes.{IsFoundSince, StandsSince}
use Rattle.chain_store.specs.Clocks.{Clocks, LeftClock}
use Rattle.chain_store.specs.Losing.{NeverLoses}
use Rattle.shop_drain.specs.Devices.{Agencies, LeftSleeper, Sleepers, first_moment, tells_moment}
use Rattle.shop_drain.specs.Draining.{AgreesAtStart, DiskSpan, Outcome, Span, StoreDrains, spanning}
use Rattle.shop_commands.specs.Drain.{AllLeft, FileDrainEnds, FileDrained, LeavesTime, NothingRose, ScriptDrainEnds, file_span}
use Rattle.shop_commands.specs.Drain.{StoreDrainEnds, drain_text}
use Rattle.command_ends.specs.DrainEnds.{DrainRunEnds}
use Rattle.command_ends.specs.DrainEnds.DrainRunEnds.{done, write_fault, undelivered, contradiction, disk_fault, no_memory}
use Rattle.shop_drain.specs.Opening.{NotOpened}
use Rattle.command_ends.proofs.RunEnding.{not_opened_by, rose_opening}
use Rattle.shop_drain.proofs.Closing.{never_contrary, since_opening, undelivered_by}

module _ {D G : Type 0} (version : Version) (issuer : List ℕ) (plan : Plan) (exact : Bool) (moment : ℕ) (s : Sinks) (k : Disks D) (a : Agencies G)
    (start : List Entry) (o : Outcome)
    (h : StoreDrains (StandsSince (k.on_disk k.disk).content version issuer) a.begun plan version issuer (file_span k) (spanning start
    a.kind a.before
    a.after exact moment o)) where
  abbrev Failing : ℕ → ℕ → Type 0
  Failing n r = (n < r) × (a.after.faults < 2 ^ 64 - 1 → a.before.faults + MAX_LINK_FAULTS ≤ a.after.faults)

  eight_failed : (end : Detail) → DrainRunEnds o.answer (drain_text o.turns o.end) s end → (n r : ℕ) → end ≡ detail.Undelivered n r →
      Failing n r
  eight_failed end (undelivered m q e w) n r is =
      let first : m ≡ n = cc in
      let second : q ≡ r = cc in
      let u : Failing m q = undelivered_by (StandsSince (k.on_disk k.disk).content version issuer) a.begun plan version issuer (file_span k)
      (spanning start a.kind a.before a.after exact moment o) h m q e in
      subst (λ (x : ℕ). Failing x r) first (subst (λ (y : ℕ). Failing m y) second u)
  eight_failed end _ n r is = absurd cc

  completed : (end : Detail) → DrainRunEnds o.answer (drain_text o.turns o.end) s end → NothingRose s k a → IsTrue a.kind.keeps_rules →
      AgreesAtStart a start → (end ≡ detail.Done) ⊎ (end ≡ detail.NoMemory)
  completed end (done e w) none keeps agree = inl refl
  completed end (no_memory w) none keeps agree = inr refl
  completed end (write_fault e w) none keeps agree = absurd (none.sink w.risen)
  completed end (undelivered n r e w) none keeps agree =
      let u = undelivered_by (StandsSince (k.on_disk k.disk).content version issuer) a.begun plan version issuer (file_span k)
      (spanning start a.kind a.before a.after exact moment o) h n r e in
      absurd (none.agency (λ below. let more = u.1 below in omega (arith, more)))
  completed end (contradiction evidence e w) none keeps agree =
      absurd (never_contrary (StandsSince (k.on_disk k.disk).content version issuer) a.begun plan version issuer (file_span k)
      (spanning start a.kind a.before a.after exact moment o) h keeps agree evidence e)
  completed end (disk_fault e w) none keeps agree = absurd (none.disk (h.risen e))

  pub file_drained : (end : Detail) → (IsTrue k.tells → IsFound version issuer start (k.on_disk k.disk).content) →
      DrainRunEnds o.answer (drain_text o.turns o.end) s end → FileDrained issuer plan exact moment s k a end
  file_drained end found ends = record {
    version = version;
    start = start;
    found = found;
    outcome = o;
    drains = h;
    ends = ends;
    undelivered = eight_failed end ends;
    complete = completed end ends;
  }

disk_failed : {D G : Type 0} (issuer : List ℕ) (plan : Plan) (exact : Bool) (moment : ℕ) (s : Sinks) (k : Disks D)
    (a : Agencies G) (end : Detail) (f : FileDrained issuer plan exact moment s k a end) → DrainRunEnds f.outcome.answer
    (drain_text f.outcome.turns f.outcome.end) s end → end ≡ detail.DiskFault → DiskRose k
disk_failed issuer plan exact moment s k a end f (disk_fault e w) is = f.drains.risen e
disk_failed issuer plan exact moment s k a end f _ is = absurd cc

pub drain_rose : {D G : Type 0} (issuer : List ℕ) (plan : Plan) (exact : Bool) (moment : ℕ) (s : Sinks) (k : Disks D)
    (a : Agencies G) (end : Detail) → FileDrained issuer plan exact moment s k a end → end ≡ detail.DiskFault → DiskRose k
drain_rose issuer plan exact moment s k a end f is = disk_failed issuer plan exact moment s k a end f f.ends is

-- a drain of a file whose disk failed
pub file_rose : {D G : Type 0} (issuer : List ℕ) (left : Type 0) (plan : Plan) (exact : Bool) (moment : ℕ) (s : Sinks)
    (k : Disks D) (a : Agencies G) (end : Detail) → NotOpened issuer left s k end ⊎ FileDrained issuer plan exact moment s k a end
    →
    end ≡ detail.DiskFault → DiskRose k
file_rose issuer left plan exact moment s k a end (inl h) is = rose_opening h.why k h.risen (sym h.ends ∙ is)
file_rose issuer left plan exact moment s k a end (inr h) is = drain_rose issuer plan exact moment s k a end h is

-- the drain of a store whose file was opened
pub opened_drained : {D G : Type 0} (issuer own : List ℕ) (version : Version) (plan : Plan) (exact : Bool) (moment : ℕ)
    (s : Sinks) (k : Disks D) (a : Agencies G) (start : List Entry) (since : OnDisk) (between : ℕ) (end : Detail) → own ≡ issuer →
    (IsTrue k.tells → IsFound version issuer start (k.on_disk k.disk).content) → (IsTrue k.tells → LeavesOnly (synced (k.on_disk k.disk)) since
    (IsFoundSince (k.on_disk k.disk).content version issuer start)) → (IsTrue k.tells → NeverLoses (synced (k.on_disk k.disk)) since) →
    k.faults k.disk ≤ between →
    StoreDrainEnds a.begun plan version own start (record {
      tells = k.tells;
      since = since;
      now = k.on_disk k.disk_after;
      faults = between;
      faults_after = k.faults k.disk_after;
    }) a.kind a.before a.after exact moment s end →
    FileDrained issuer plan exact moment s k a end
opened_drained issuer own version plan exact moment s k a start since between end same found any stays later h =
    let at : DiskSpan = record {
      tells = k.tells;
      since = since;
      now = k.on_disk k.disk_after;
      faults = between;
      faults_after = k.faults k.disk_after;
    } in
    let e = subst (λ (n : List ℕ). StoreDrainEnds a.begun plan version n start at a.kind a.before a.after exact moment s end) same h in
    let d : Span = spanning start a.kind a.before a.after exact moment e.0 in
    file_drained version issuer plan exact moment s k a start e.0 (since_opening a.begun plan version issuer at d (synced (k.on_disk k.disk))
    (k.on_disk k.disk).content (k.faults k.disk) e.1 any stays later) end found e.2

module _ {D C Z G : Type 0} (issuer : List ℕ) (script : Script) (s : Sinks) (k : Disks D) (t : Clocks C) (z : Sleepers Z)
    (a : Agencies G) (end : Detail) where
  -- without a clock line
  pub script_plain : script.clock ≡ None → FileDrainEnds issuer script.plan s k t z a end → ScriptDrainEnds issuer script s k t z
      a end
  script_plain none h = record {
    ends = subst (λ (o : Option (ℕ × ℕ)). NotOpened issuer (AllLeft t z a) s k end ⊎ FileDrained issuer script.plan
        (tells_moment o z) (first_moment o z) s k a end) (sym none) h.ends;
    time = subst (λ (o : Option (ℕ × ℕ)). LeavesTime o t z) (sym none) h.clock;
    risen = file_rose issuer (AllLeft t z a) script.plan z.tells (z.moment z.sleeper) s k a end h.ends;
  }

  -- with one
  pub script_timed : {O P : Type 0} (line : ℕ × ℕ) (own : Clocks O) (leap : Sleepers P) → script.clock ≡ Some line →
      leap.tells ≡ true → leap.moment leap.sleeper ≡ line.0 → LeftClock t → LeftSleeper z → FileDrainEnds issuer script.plan s k
      own leap a end →
      ScriptDrainEnds issuer script s k t z a end
  script_timed line own leap some exact at clock sleeper h = record {
    ends = subst (λ (o : Option (ℕ × ℕ)). NotOpened issuer (AllLeft t z a) s k end ⊎ FileDrained issuer script.plan
        (tells_moment o z) (first_moment o z) s k a end) (sym some) (timed h.ends);
    time = subst (λ (o : Option (ℕ × ℕ)). LeavesTime o t z) (sym some) (clock, sleeper);
    risen = file_rose issuer (AllLeft own leap a) script.plan leap.tells (leap.moment leap.sleeper) s k a end h.ends;
  }
    where
      timed : NotOpened issuer (AllLeft own leap a) s k end ⊎ FileDrained issuer script.plan leap.tells (leap.moment leap.sleeper)
          s k a end → NotOpened issuer (AllLeft t z a) s k end ⊎ FileDrained issuer script.plan true line.0 s k a end
      timed (inl n) = inl (not_opened_by (λ left. record {
        clock = clock;
        sleeper = sleeper;
        agency = left.agency;
      }) n)
      timed (inr f) = inr (subst (λ (b : Bool). FileDrained issuer script.plan b line.0 s k a end) exact
          (subst (λ (m : ℕ). FileDrained issuer script.plan leap.tells m s k a end) at f))
