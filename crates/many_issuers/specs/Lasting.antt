-- What is kept of an issuer's file from its opening to the end of a run, and what its agency agrees with then.
use Rattle.std.specs.Prelude.{◌≡◌, ◌⊎◌, ℕ, ◌≤◌, List, [], length, IsTrue}
use Rattle.chain_disk.specs.Disks.{DiskRose, Disks}
use Rattle.chain_disk.specs.OnDisk.{LeavesNow, synced}
use Rattle.huella.specs.Linked.{Linked}
use Rattle.record_codec.specs.declared.entry.Entry.{Entry}
use Rattle.record_fields.specs.declared.versions.Version.{Version}
use Rattle.shop_core.specs.History.{recs}
use Rattle.shop_core.specs.Legal.{Legal}
use Rattle.shop_core.specs.Prefix.{IsPrefix}
use Rattle.agency_rules.specs.declared.plans.Plan.{Plan}
use Rattle.once_world.specs.Agreement.{Agree}
use Rattle.sender.specs.Turning.{AgencyState}
use Rattle.chain_store.specs.Crashes.{SurvivesCrashes}
use Rattle.shop_drain.specs.Crashes.{StandsSince}
use Rattle.shop_drain.specs.Devices.{Agencies}
use Rattle.shop_drain.specs.Draining.{AgreesAtStart}
use Rattle.shop_drain.specs.Draining.{AddsNotesAlone, AgreesInFile, OpensSession}

-- Each crash since the opening leaves a front of the history at the end, no shorter than the one at the start, or of that with the
-- one entry whose writing was under way when the disk failed. Each crash now leaves all of it.
pub record FileKept {D : Type 0} (version : Version) (issuer : List ℕ) (start end : List Entry) (k : Disks D) : Type 0 where
  pub torn : List Entry
  pub at_most_one : length torn ≤ 1
  pub by_a_fault : (torn ≡ []) ⊎ DiskRose k
  pub kept : SurvivesCrashes (StandsSince (k.on_disk k.disk).content version issuer start end torn) version issuer end torn
      (synced (k.on_disk k.disk)) (k.on_disk k.disk_after)

-- The history at the end begins with the one at the start and is legal; after the commands it gained notes alone.
pub record HistoryKept {D : Type 0} (version : Version) (issuer : List ℕ) (start middle end : List Entry) (k : Disks D) : Type 0 where
  pub begins : IsPrefix start end
  pub notes : AddsNotesAlone middle end
  pub legal : Legal version issuer end
  pub linked : Linked issuer (recs end)
  pub file : IsTrue k.tells → FileKept version issuer start end k

-- the agency agrees with the history, and with that of each file that a crash leaves now
pub record AgreesNow {D G : Type 0} (version : Version) (issuer : List ℕ) (end : List Entry) (k : Disks D) (a : Agencies G) : Type 0
  where
    pub whole : Agree end a.after.ledger.processed a.after.ledger.sent
    pub images : IsTrue k.tells → LeavesNow (k.on_disk k.disk_after) (AgreesInFile version issuer a.after)

-- One session was opened, with this plan and the pairs noted in the history at the start. An agency that keeps its rules and agrees
-- with that history agrees in the end.
pub record SessionKept {D G : Type 0} (plan : Plan) (version : Version) (issuer : List ℕ) (start end : List Entry) (k : Disks D)
    (a : Agencies G) : Type 0 where
  pub opened : AgencyState
  pub opens : OpensSession a.kind a.begun plan start a.before opened
  pub agreement : IsTrue a.kind.keeps_rules → AgreesAtStart a start → AgreesNow version issuer end k a
