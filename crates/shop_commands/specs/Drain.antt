-- What a drain leaves of an opened store and of its agency.
use Rattle.std.specs.Prelude.{ℕ, List, length, Bool, ◌≡◌, ◌⊎◌, ◌+◌, ◌<◌, ◌≤◌, IsTrue, Option, Some, None}
use Rattle.record_fields.specs.declared.versions.Version.{Version}
use Rattle.ports.specs.Sinks.{Sinks}
use Rattle.record_codec.specs.declared.entry.Entry.{Entry}
use Rattle.shop_core.specs.History.{recs, noted}
use Rattle.agency_port.specs.declared.turns.Told.{Told as TurnLine}
use Rattle.agency_rules.specs.declared.plans.Plan.{Plan}
use Rattle.sender.specs.Turning.{AgencyKind, AgencyState}
use Rattle.report.specs.Turns.{turns_text}
use Rattle.report.specs.declared.status.Detail.{Detail}
use Rattle.chain_store.specs.Crashes.{StandsUpTo}
use Rattle.shop_drain.specs.Draining.{Outcome, spanning, Beginning, DiskSpan, StoreDrains, AgreesAtStart}
use Rattle.command_ends.specs.DrainEnds.{DrainRunEnds}
use Rattle.ports.specs.Causes.{Rose}
use Rattle.chain_disk.specs.OnDisk.{synced}
use Rattle.chain_disk.specs.Disks.{Disks, DiskRose}
use Rattle.till_calls.specs.Sound.{IsLater}
use Rattle.sender.specs.declared.draining.TheConstants.{MAX_LINK_FAULTS}
use Rattle.script.specs.declared.forms.Form.TheVariants.{NoCommands}
use Rattle.script.specs.declared.scripts.Script.{Script}
use Rattle.recovery.specs.Opening.{IsFound}
use Rattle.report.specs.declared.status.Detail.TheVariants as detail
use Rattle.shop_drain.specs.Crashes.{StandsSince}
use Rattle.chain_store.specs.Clocks.{Clocks, LeftClock}
use Rattle.shop_drain.specs.Devices.{Agencies, AllDevices, LeftAgency, LeftAll, LeftSleeper, Sleepers, around, tells_moment}
use Rattle.shop_drain.specs.Devices.{first_moment}
use Rattle.shop_drain.specs.Opening.{NotOpened}
use Rattle.command_ends.specs.Scripts.{ScriptedEnds}
use Rattle.ports.specs.Causes.{greatest_u64}

-- the text: the lines of the turns, and the chain line of what the file has
abbrev pub drain_text : List TurnLine → List Entry → List ℕ
drain_text turns entries = turns_text turns (length (recs entries)) (length (noted entries))

-- an opened store with this history was drained, and this is how that ended
abbrev pub StoreDrainEnds : Beginning → Plan → Version → List ℕ → List Entry → DiskSpan → AgencyKind → AgencyState → AgencyState → Bool → ℕ →
    Sinks → Detail → Type 0
StoreDrainEnds begun plan version issuer start k kind old new exact moment s end = (o : Outcome)
    × StoreDrains (StandsUpTo version issuer) begun plan version issuer k (spanning start kind old new exact moment o)
    × DrainRunEnds o.answer (drain_text o.turns o.end) s end

-- the file from the sync at its opening on
abbrev pub file_span : {D : Type 0} → Disks D → DiskSpan
file_span k = record {
  tells = k.tells;
  since = synced (k.on_disk k.disk);
  now = k.on_disk k.disk_after;
  faults = k.faults k.disk;
  faults_after = k.faults k.disk_after;
}

-- no device failed in the call
pub record NothingRose {D G : Type 0} (s : Sinks) (k : Disks D) (a : Agencies G) : Type 0 where
  pub sink : Rose s.faults s.faults_after → ⊥
  pub disk : DiskRose k → ⊥
  pub agency : Rose a.before.faults a.after.faults → ⊥

-- The file was opened and drained, from the history that it stood for.
pub record FileDrained {D G : Type 0} (issuer : List ℕ) (plan : Plan) (exact : Bool) (moment : ℕ) (s : Sinks) (k : Disks D)
    (a : Agencies G) (end : Detail) : Type 0 where
  pub version : Version
  pub start : List Entry
  pub found : IsTrue k.tells → IsFound version issuer start (k.on_disk k.disk).content
  pub outcome : Outcome
  -- what was said, noted and kept
  pub drains : StoreDrains (StandsSince (k.on_disk k.disk).content version issuer) a.begun plan version issuer (file_span k)
      (spanning start a.kind a.before a.after exact moment outcome)
  --= The text of a drain is a line for each turn and the chain line, and its status is by its answer and the sink.
  --= No body: it is of `end_by`
  pub ends : DrainRunEnds outcome.answer (drain_text outcome.turns outcome.end) s end
  --= A drain ends with 8 only where lines are missing and the agency failed eight times.
  --= No body: it is of `Sender::drain`, whose clause `ends` says when it gives up
  pub undelivered : (noted_count records_count : ℕ) → end ≡ detail.Undelivered noted_count records_count →
      (noted_count < records_count) × (a.after.faults < greatest_u64 →
      a.before.faults + MAX_LINK_FAULTS ≤ a.after.faults)
  --= Where no device fails, and the agency keeps its rules and agrees, a drain ends with 0 or out of memory.
  --= No body: it is of all that the command calls
  pub complete : NothingRose s k a → IsTrue a.kind.keeps_rules → AgreesAtStart a start →
      (end ≡ detail.Done) ⊎ (end ≡ detail.NoMemory)

-- neither clock nor sleeper nor agency was touched
pub record AllLeft {C Z G : Type 0} (t : Clocks C) (z : Sleepers Z) (a : Agencies G) : Type 0 where
  pub clock : LeftClock t
  pub sleeper : LeftSleeper z
  --= Where the script is bad or the file wasn't opened, clock, sleeper and agency are as they were.
  --= No body: they are handed back as they came
  pub agency : LeftAgency a

-- the file couldn't be opened; or it was drained, by a sleeper that has this moment at the start, where it tells it
pub record FileDrainEnds {D C Z G : Type 0} (issuer : List ℕ) (plan : Plan) (s : Sinks) (k : Disks D) (t : Clocks C)
    (z : Sleepers Z) (a : Agencies G) (end : Detail) : Type 0 where
  pub ends : NotOpened issuer (AllLeft t z a) s k end
      ⊎ FileDrained issuer plan z.tells (z.moment z.sleeper) s k a end
  pub clock : IsLater t.coming t.clock t.clock_after

-- a clock line replaces clock and sleeper; without one the clock is asked for no more than some readings
--= A clock line replaces clock and sleeper, and both come back as they were.
abbrev pub LeavesTime : {C Z : Type 0} → Option (ℕ × ℕ) → Clocks C → Sleepers Z → Type 0
LeavesTime None t z = IsLater t.coming t.clock t.clock_after
LeavesTime (Some line) t z = LeftClock t × LeftSleeper z

-- what `drain` did with a script
pub record ScriptDrainEnds {D C Z G : Type 0} (issuer : List ℕ) (script : Script) (s : Sinks) (k : Disks D) (t : Clocks C)
    (z : Sleepers Z) (a : Agencies G) (end : Detail) : Type 0 where
  pub ends : NotOpened issuer (AllLeft t z a) s k end
      ⊎ FileDrained issuer script.plan (tells_moment script.clock z) (first_moment script.clock z) s k a end
  pub time : LeavesTime script.clock t z
  pub risen : end ≡ detail.DiskFault → DiskRose k

-- what `drain` did, and how it ended
abbrev pub DrainEnds : {D C Z G : Type 0} → List ℕ → AllDevices D C Z G → Detail → Type 0
DrainEnds issuer a end = ScriptedEnds NoCommands a.devices.source (LeftAll (around a))
    (λ (script : Script) (how : Detail).
    ScriptDrainEnds issuer script a.devices.sink a.devices.disk a.devices.clock a.sleeper a.agency how) end
