-- How `day` ends.
use Rattle.std.specs.Prelude.{◌≡◌, ◌⊎◌, ◌<◌, ◌≤◌, ◌+◌, ℕ, Bool, true, false, List, [], ◌∷◌, ◌++◌, drop, flat_map, length, map}
use Rattle.std.specs.Prelude.{IsTrue, Option, Result}
use Rattle.std.specs.List.{AllByRecursion}
use Rattle.record_fields.specs.declared.versions.Version.{Version}
use Rattle.ports.specs.Sinks.{WroteNothing}
use Rattle.chain_disk.specs.OnDisk.{LeavesNow, synced}
use Rattle.chain_disk.specs.Disks.{Disks, DiskRose}
use Rattle.huella.specs.Linked.{Linked}
use Rattle.record_codec.specs.declared.entry.Entry.{Entry}
use Rattle.shop_core.specs.Answer.Requests.{Asked}
use Rattle.shop_core.specs.History.{recs, noted}
use Rattle.shop_core.specs.Legal.{Legal}
use Rattle.shop_core.specs.Rising.{SerialsRise}
use Rattle.agency_rules.specs.declared.plans.Plan.{Plan}
use Rattle.agency_port.specs.declared.turns.Evidence.{Evidence}
use Rattle.script.specs.declared.forms.Form.TheVariants.{Full}
use Rattle.script.specs.declared.scripts.Script.{Script}
use Rattle.sender.specs.Turning.{AgencyState}
use Rattle.sender.specs.declared.answers.DrainFault.{DrainFault}
use Rattle.sender.specs.declared.draining.TheConstants.{MAX_LINK_FAULTS}
use Rattle.recovery.specs.Opening.{IsFound}
use Rattle.report.specs.Answers.{answers_text}
use Rattle.report.specs.Listing.{listing_text}
use Rattle.report.specs.declared.answers.AnswerLine.{AnswerLine}
use Rattle.report.specs.declared.answers.AnswerLine.TheVariants.{Saw}
use Rattle.report.specs.declared.status.Detail.{Detail}
use Rattle.report.specs.declared.status.Detail.TheVariants as detail
use Rattle.shop_core.specs.Prefix.{IsPrefix}
use Rattle.shop_commands.specs.SenderEnds.{DayRunEnds}
use Rattle.shop_drain.specs.Opening.{IsUnbegun, NotOpened}
use Rattle.sender_beside.specs.Behind.{DrainsBehind}
use Rattle.sender_beside.specs.Beside.{SendsBeside, StaysAgreed}
use Rattle.sender_session.specs.Contradictions.{ShowsLast}
use Rattle.sender_session.specs.Sessions.{SessionSteps}
use Rattle.chain_store.specs.Crashes.{SurvivesCrashes}
use Rattle.shop_drain.specs.Crashes.{StandsSince}
use Rattle.sender_beside.specs.Days.{Day, Stop, TillReplies, all_replies, torn_of}
use Rattle.chain_store.specs.Clocks.{LeftClock}
use Rattle.shop_drain.specs.Devices.{Agencies, AllDevices, Around, LeftAll, LeftSleeper, Sleepers, around, first_moment, tells_moment}
use Rattle.shop_drain.specs.Draining.{AgreesAtStart, AgreesInFile, OpensSession}
use Rattle.shop_commands.specs.Drain.{AllLeft, LeavesTime, NothingRose}
use Rattle.command_ends.specs.Printed.{answers}
use Rattle.chain_store.specs.Readings.{readings_of}
use Rattle.command_ends.specs.Scripts.{ScriptedEnds}
use Rattle.till_calls.specs.InTurn.{ReadInTurn}
use Rattle.sender_beside.specs.Tills.{StopIs, TillServed, asks_of, has_asks, own_of, tills_of}
use Rattle.ports.specs.Causes.{greatest_u64}

-- what is printed of a till: the answers to its asks in line order, and how much it saw
abbrev pub till_lines : List Asked → TillReplies → List AnswerLine
till_lines asks t = answers (asks_of t.till asks) t.replies ++ Saw t.till t.saw ∷ []

-- what is printed of a day: the lines of each till, then the listing and the chain line
--= The text of a day is each till's answers and its count, then the listing and the chain line.
--= No body: a definition, which the texts of `report` meet
abbrev pub day_text : List Asked → List TillReplies → List Entry → List ℕ
day_text asks tills entries = answers_text (flat_map (till_lines asks) tills) ++ listing_text entries

-- what comes of a day
pub record Outcome : Type 0 where
  pub version : Version
  pub start : List Entry
  pub end : List Entry
  pub stop : Option Stop
  pub tills : List TillReplies
  pub opened : AgencyState
  pub answer : Result (Unit {0}) DrainFault

-- a day with these asks for this issuer, by this clock line, after whose tills a drain followed or not, and of which this came
abbrev pub day_with : {D C Z G : Type 0} → List ℕ → List Asked → Option (ℕ × ℕ) → Bool → Around D C Z G → Outcome → Day
day_with issuer asks line drains c o = record {
  issuer = issuer;
  version = o.version;
  asks = asks;
  coming = readings_of line (c.clock.coming c.clock.clock);
  start = o.start;
  end = o.end;
  stop = o.stop;
  tills = o.tills;
  kind = c.agency.kind;
  opened = o.opened;
  after = c.agency.after;
  drains = drains;
  answer = o.answer;
}

-- the day of a script
abbrev pub day_of : {D C Z G : Type 0} → List ℕ → Script → Option (ℕ × ℕ) → Around D C Z G → Outcome → Day
day_of issuer script line c o = day_with issuer script.asks line true c o

-- the history: it goes on from the one at the start, and is legal
pub record HistoryGoesOn (d : Day) : Type 0 where
  --= The history at the end of a day begins with the one that the file stood for, and is legal and linked; the
  --= serials of each till rise.
  --= No body: it is of `till_calls/Shop::close.sound`
  pub begins : IsPrefix d.start d.end
  pub legal : Legal d.version d.issuer d.end
  pub linked : Linked d.issuer (recs d.end)
  pub rising : (till : ℕ) → SerialsRise d.end till

-- Each record since the start is stamped by a reading of the clock of its own, of a number below `next`.
pub record StampedInTurn (d : Day) : Type 0 where
  pub next : ℕ
  --= Along the records since the start of a day the numbers of the clock's readings that stamped them rise strictly.
  --= No body: it is of `chain_store/Took.takes`
  pub in_turn : ReadInTurn d.coming 0 next d.start (drop (length d.start) d.end)

-- Each till of these numbers has a till run of its own asks in line order, and its records since the start are those that it was
-- told as taken. A till that asked for nothing has no record since the start.
pub record EachTillOf (numbers : List ℕ) (d : Day) : Type 0 where
  pub are : map (λ (t : TillReplies). t.till) d.tills ≡ numbers
  pub served : AllByRecursion (TillServed d) d.tills
  --= A till that asked for nothing in a day has no record since its start.
  --= No body: it is of a law of `till_calls`, which has no body
  pub others : (till : ℕ) → has_asks d.asks till ≡ false → own_of till (drop (length d.start) d.end) ≡ []

-- the tills are those that ask for anything
abbrev pub EachTill : Day → Type 0
EachTill d = EachTillOf (tills_of d.asks) d

-- The file stood for the history at the start. Each crash since its opening began leaves a front of the history at the end, or of
-- that with the entry of the stop.
pub record EachCrash {D : Type 0} (d : Day) (k : Disks D) : Type 0 where
  pub found : IsTrue k.tells → IsFound d.version d.issuer d.start (k.on_disk k.disk).content
  pub stop : StopIs d (k.faults k.disk) (k.faults k.disk_after) d.stop
  --= Each crash since the sync at a day's opening leaves a front of the history, or of it and the entry of the
  --= stop; after the day the whole history, or that and this entry.
  --= No body: it is of `till_calls/Shop::close.sound`
  pub kept : IsTrue k.tells →
      SurvivesCrashes (StandsSince (k.on_disk k.disk).content d.version d.issuer d.start d.end (torn_of d.stop)) d.version d.issuer d.end
      (torn_of d.stop) (synced (k.on_disk k.disk)) (k.on_disk k.disk_after)

-- One session with the agency was opened, with the plan and the pairs noted in the history at the start, and in it one new sender
-- sent, while the tills ran and, where a drain follows, in one drain after them. Where shop and agency agreed they still do, also with
-- the history of each file that a crash now leaves.
pub record ItsAgency {D G : Type 0} (d : Day) (plan : Plan) (a : Agencies G) (k : Disks D) : Type 0 where
  --= A day and a dialogue open one session, with the plan and the pairs that the file notes.
  --= No body: it is of `shop_drain/begin.session`
  pub opens : OpensSession d.kind a.begun plan d.start a.before d.opened
  pub sends : SendsBeside d
  pub behind : DrainsBehind d.kind d.drains d.opened d.after d.answer
  pub agreement : IsTrue d.kind.keeps_rules → AgreesAtStart a d.start → StaysAgreed d
  --= Where the agency agrees after a day, so does the history of each file that a crash now leaves.
  --= No body: it is of `Store::note` and of `turn`
  pub images : IsTrue k.tells → StaysAgreed d → LeavesNow (k.on_disk k.disk_after) (AgreesInFile d.version d.issuer d.after)

-- its session by its steps, at the moment of the sleeper that is given, or of the one that a clock line makes
abbrev pub StepsOf : {Z : Type 0} → Day → Option (ℕ × ℕ) → Sleepers Z → Type 0
StepsOf d line z = SessionSteps d.kind.tells (tells_moment line z) d.drains (first_moment line z) d.start d.end d.opened d.after d.answer

-- what an end tells of the sender, whose agency was in this state before the call
pub record TellsOfSender (d : Day) (before : AgencyState) (end : Detail) : Type 0 where
  --= A day or a dialogue ends with 8 only where lines are missing and the agency failed eight times in the call.
  --= No body: it is of `sender_beside/drain_rest.turns`
  pub undelivered : (noted_count records_count : ℕ) → end ≡ detail.Undelivered noted_count records_count →
      (noted_count < records_count) × (d.after.faults < greatest_u64 → before.faults + MAX_LINK_FAULTS ≤ d.after.faults)
  --= With an agency that tells its messages a day or a dialogue ends with 11 only where the last message is a
  --= consultation that shows this contradiction.
  --= No body: it is of `sender_session/SaysByTurns.shown`
  pub contrary : IsTrue d.kind.tells → (evidence : Evidence) → end ≡ detail.Contradiction evidence →
      ShowsLast d.end d.opened.ledger.messages d.after.ledger.messages evidence
  --= Where the last message of a day or a dialogue shows a contradiction, the end is 11, 10 or 6.
  --= No body: it is of `sender_session/SaysByTurns.shown`
  pub shown : IsTrue d.kind.tells → (evidence : Evidence) →
      ShowsLast d.end d.opened.ledger.messages d.after.ledger.messages evidence →
      (end ≡ detail.Contradiction evidence) ⊎ (end ≡ detail.NoMemory) ⊎ (end ≡ detail.DiskFault)

-- how it ends
pub record EndsAsServed {D C Z G : Type 0} (d : Day) (c : Around D C Z G) (end : Detail) : Type 0 where
  pub cause : DayRunEnds (all_replies d.tills) d.answer (length (noted d.end)) (length (recs d.end)) (day_text d.asks d.tills d.end)
      c.sink end
  pub sender : TellsOfSender d c.agency.before end
  --= Where no device fails, and the agency keeps its rules and agrees, a day ends with 0 or out of memory.
  --= No body: it is of all that the command calls
  pub complete : NothingRose c.sink c.disk c.agency → IsTrue d.kind.keeps_rules → AgreesAtStart c.agency d.start →
      (end ≡ detail.Done) ⊎ (end ≡ detail.NoMemory)

-- the file was opened, and the tills asked, and the sender sent, all at the same time
pub record DayServed {D C Z G : Type 0} (issuer : List ℕ) (script : Script) (line : Option (ℕ × ℕ)) (c : Around D C Z G)
    (end : Detail) : Type 0 where
  pub outcome : Outcome
  pub history : HistoryGoesOn (day_of issuer script line c outcome)
  pub stamped : StampedInTurn (day_of issuer script line c outcome)
  pub tills : EachTill (day_of issuer script line c outcome)
  pub crashes : EachCrash (day_of issuer script line c outcome) c.disk
  pub agency : ItsAgency (day_of issuer script line c outcome) script.plan c.agency c.disk
  pub session : StepsOf (day_of issuer script line c outcome) line c.sleeper
  pub ends : EndsAsServed (day_of issuer script line c outcome) c end
  pub time : LeavesTime line c.clock c.sleeper

-- the file was opened, and there was no memory for the day: nothing was asked, nothing printed and nothing handed over, and each
-- crash since opening began leaves the history that the file stood for; the agency's session may have been opened
pub record NotServed {D C Z G : Type 0} (issuer : List ℕ) (plan : Plan) (c : Around D C Z G) (end : Detail) : Type 0 where
  pub ends : end ≡ detail.NoMemory
  pub version : Version
  pub start : List Entry
  pub found : IsTrue c.disk.tells → IsFound version issuer start (c.disk.on_disk c.disk.disk).content
  --= Where memory for the day runs out once the file is open, nothing is asked, printed or handed over, and each
  --= crash leaves the history found.
  --= No body: it is of `open` and `close`
  pub kept : IsTrue c.disk.tells →
      SurvivesCrashes (StandsSince (c.disk.on_disk c.disk.disk).content version issuer start start []) version issuer start []
      (synced (c.disk.on_disk c.disk.disk)) (c.disk.on_disk c.disk.disk_after)
  pub begun : IsUnbegun c.agency.kind c.agency.before c.agency.after
      ⊎ OpensSession c.agency.kind c.agency.begun plan start c.agency.before c.agency.after
  pub wrote : WroteNothing c.sink
  pub clock : LeftClock c.clock
  pub sleeper : LeftSleeper c.sleeper

-- what `day` did with a script by this clock line: nothing for lack of memory; the file couldn't be opened; it was opened, and
-- nothing was asked for lack of memory; or the tills asked
abbrev pub FileDay : {D C Z G : Type 0} → List ℕ → Script → Option (ℕ × ℕ) → Around D C Z G → Detail → Type 0
FileDay issuer script line c end =
    ((end ≡ detail.NoMemory) × LeftAll c)
    ⊎ NotOpened issuer (AllLeft c.clock c.sleeper c.agency) c.sink c.disk end
    ⊎ NotServed issuer script.plan c end
    ⊎ DayServed issuer script line c end

-- what `day` did with a script
pub record DayRan {D C Z G : Type 0} (issuer : List ℕ) (d : AllDevices D C Z G) (script : Script) (end : Detail) : Type 0 where
  pub ends : FileDay issuer script script.clock (around d) end
  pub risen : end ≡ detail.DiskFault → DiskRose d.devices.disk

-- what `day` did, and how it ended
abbrev pub DayEnds : {D C Z G : Type 0} → List ℕ → AllDevices D C Z G → Detail → Type 0
DayEnds issuer d end = ScriptedEnds Full d.devices.source (LeftAll (around d)) (DayRan issuer d) end
