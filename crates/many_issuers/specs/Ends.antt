-- How `many` ends: each issuer, and the run.
use Rattle.std.specs.Prelude.{◌≡◌, ◌⊎◌, ℕ, ◌<◌, ◌≤◌, ◌+◌, List, [], length, map, true, IsTrue, Option, None, IsSome, Result, Err, IfOk}
use Rattle.std.specs.List.{AllByRecursion, list_any}
use Rattle.ports.specs.Causes.{Rose}
use Rattle.ports.specs.Sinks.{Sinks, WroteNothing}
use Rattle.ports.specs.Sources.{Sources}
use Rattle.ports.specs.declared.Clock as clock
use Rattle.ports.specs.declared.faults.NoMemory.{NoMemory}
use Rattle.ports.specs.declared.sleeper.Sleeper as sleeper
use Rattle.chain_disk.specs.Disks.{DiskRose, Disks}
use Rattle.chain_disk.specs.declared.disk.Disk as disk
use Rattle.agency_port.specs.declared.agency.Agency as agency
use Rattle.agency_rules.specs.declared.plans.Plan.{Plan}
use Rattle.journal.specs.declared.faults.StoreFault.TheVariants as store_fault
use Rattle.record_codec.specs.declared.entry.Entry.{Entry}
use Rattle.record_fields.specs.declared.versions.Version.{Version}
use Rattle.file_commands.specs.Input.{ReadFailed, ReadPast}
use Rattle.chain_store.specs.declared.causes.OpenCause.{OpenCause}
use Rattle.chain_store.specs.Crashes.{StandsUpTo}
use Rattle.chain_store.specs.Clocks.{Clocks, LeftClock, this_clock}
use Rattle.chain_store.specs.Readings.{LeavesClock, readings_of}
use Rattle.chain_store.specs.Replies.{AllGoOn, Replies, is_disk_fault}
use Rattle.issuers.specs.declared.parts.Part.{Part}
use Rattle.report.specs.declared.status.Detail.{Detail}
use Rattle.report.specs.declared.status.Detail.TheVariants as detail
use Rattle.script.specs.declared.scripts.Script.{Script}
use Rattle.sender.specs.declared.answers.DrainFault.TheVariants as drain
use Rattle.sender.specs.declared.draining.TheConstants.{MAX_LINK_FAULTS}
use Rattle.shop_core.specs.History.{noted, recs}
use Rattle.shop_core.specs.Answer.Requests.{Asked}
use Rattle.shop_core.specs.Prefix.{IsPrefix}
use Rattle.shop_core.specs.declared.words.Word.{Word}
use Rattle.shop_drain.specs.Opening.{IsUnbegun}
use Rattle.command_ends.specs.Played.{Played}
use Rattle.shop_drain.specs.Crashes.{KeepsFile}
use Rattle.shop_drain.specs.Devices.{Agencies, LeftAgency, LeftSleeper, Sleepers, agency_in, clock_in, disk_in, sleeper_in}
use Rattle.shop_drain.specs.Draining.{AgreesAtStart}
use Rattle.shop_drain.specs.Devices.{first_moment, tells_moment}
use Rattle.shop_drain.specs.Draining.{DiskSpan, OpensSession, Outcome, StoreDrains, spanning}
use Rattle.many_issuers.specs.Blocks.{answered_block, closed_block, issuer_end}
use Rattle.many_issuers.specs.Dones.{IssuersEnd}
use Rattle.many_issuers.specs.Lasting.{HistoryKept, SessionKept}
use Rattle.many_issuers.specs.Scripts.{AreBadParts, AreGoodParts}
use Rattle.shop_drain.specs.Opening.{IsUnopened, opening_end}
use Rattle.shop_drain.specs.declared.posts.Post.{Post}
use Rattle.ports.specs.Causes.{greatest_u64}

-- One issuer: its tax number, its part of the script, its post before the call and after it, its end, and its block, where there was
-- memory for it.
pub record Row (D C Z G : Type 0) : Type 0 where
  pub issuer : List ℕ
  pub part : Part
  pub post : Post D C Z G
  pub after : Post D C Z G
  pub end : Detail
  pub block : Result (List ℕ) NoMemory

-- The file wasn't opened: the commands were left out, and nothing else was touched.
--= A file that couldn't be opened is left as an opening leaves it, its clock, its sleeper and its agency as they
--= were.
--= No body: it is of `open_store`, whose clauses refuse others
pub record StaysClosed {D C Z G : Type 0} (issuer : List ℕ) (t : Clocks C) (k : Disks D) (s : Sleepers Z) (a : Agencies G)
    (end : Detail) (block : Result (List ℕ) NoMemory) : Type 0 where
  pub why : OpenCause
  pub unopened : IsUnopened issuer why k
  pub every_crash : IsTrue k.tells → KeepsFile issuer (k.on_disk k.disk) (k.on_disk k.disk_after)
  pub clock : LeftClock t
  pub sleeper : LeftSleeper s
  pub agency : LeftAgency a
  pub ends : end ≡ opening_end why
  pub printed : IfOk block (λ text. text ≡ closed_block issuer why)

-- the disk in the first half of a call, up to this one
abbrev pub up_to : {D : Type 0} → Disks D → D → Disks D
up_to k middle = record { tells = k.tells; on_disk = k.on_disk; faults = k.faults; disk = k.disk; disk_after = middle }

-- and in the second half, from this one on
abbrev pub span_from : {D : Type 0} → Disks D → D → DiskSpan
span_from k middle = record {
  tells = k.tells;
  since = k.on_disk middle;
  now = k.on_disk k.disk_after;
  faults = k.faults middle;
  faults_after = k.faults k.disk_after;
}

-- The commands left this history, and the disk hadn't failed: the file was drained from it.
pub record IsDrained {D Z G : Type 0} (script : Script) (version : Version) (issuer : List ℕ) (history : List Entry) (replies : Replies)
    (k : Disks D) (middle : D) (s : Sleepers Z) (a : Agencies G) (o : Outcome) : Type 0 where
  pub going : AllGoOn replies
  pub drains : StoreDrains (StandsUpTo version issuer) a.begun script.plan version issuer (span_from k middle)
      (spanning history a.kind a.before a.after (tells_moment script.clock s) (first_moment script.clock s) o)

-- The disk had failed at a command, and the file wasn't drained. The agency's session was opened all the same, with the pairs noted
-- in the history, unless memory ran out for it.
pub record IsBegunAlone {D G : Type 0} (plan : Plan) (history : List Entry) (replies : Replies) (k : Disks D) (middle : D)
    (a : Agencies G) (o : Outcome) : Type 0 where
  pub failed : list_any is_disk_fault replies ≡ true
  pub disk : k.disk_after ≡ middle
  pub end : o.end ≡ history
  pub turns : o.turns ≡ []
  pub session : ((count : ℕ) × (o.answer ≡ Err (drain.Store (store_fault.Stopped count)))
      × OpensSession a.kind a.begun plan history a.before a.after)
      ⊎ ((o.answer ≡ Err drain.NoMemory) × IsUnbegun a.kind a.before a.after)

-- The file was opened. The commands of the part, or the first of them where memory ran out, were answered from the history that
-- it stood for, at these coming answers: a chain run of their own. They alone read the clock, and left it so. After them the file was
-- drained, or its disk had failed.
pub record Works {D Z G : Type 0} (issuer : List ℕ) (script : Script) (coming : ℕ → Option ℕ) (Leaves : Replies → Type 0) (k : Disks D)
    (s : Sleepers Z) (a : Agencies G) (end : Detail) (block : Result (List ℕ) NoMemory) : Type 0 where
  pub asked : List Asked
  pub front : IsPrefix asked script.asks
  pub middle : D
  pub later : k.faults k.disk ≤ k.faults middle
  --= An issuer's commands are a chain run of their own, from the history that its file stood for, at its own clock's
  --= coming answers or its part's clock line; they alone read its clock.
  pub played : Played issuer asked coming Leaves (up_to k middle)
  pub outcome : Outcome
  --= After its commands an issuer's file is drained; or its disk had failed, and its agency's session alone is
  --= opened.
  pub behind : IsDrained script played.version issuer played.end played.replies k middle s a outcome
      ⊎ IsBegunAlone script.plan played.end played.replies k middle a outcome
  -- all commands were answered, and the end is that of the answers and of what came after them, or memory ran out
  --= All commands of an issuer are answered, unless memory ran out, and its end is that of its answers and of its
  --= drain.
  pub ends : (end ≡ detail.NoMemory) ⊎ ((asked ≡ script.asks) × (end ≡ issuer_end played.replies outcome.answer))
  pub printed : IfOk block (λ text. text ≡ answered_block issuer script.asks played.replies outcome.end end)
  -- a sleeper that a clock line replaces is as it was
  pub sleeper : IsSome script.clock → LeftSleeper s
  -- the history, the file and the agency, from the opening to the end
  --= An issuer's history at the end begins with the one at the opening, is legal and linked, gained notes alone after
  --= the commands, and each crash leaves a front of it, or of it and one torn entry.
  --= No body: it is of each issuer's store and drain, whose clauses refuse others
  pub history : HistoryKept played.version issuer played.start played.end outcome.end k
  --= One session was opened for each issuer, with its plan and the pairs noted at the opening; an agency that keeps
  --= its rules and agreed then agrees at the end, and with what each crash leaves from then on.
  --= No body: it is of the drain, whose clauses refuse others
  pub agency : ((end ≡ detail.NoMemory) × IsUnbegun a.kind a.before a.after)
      ⊎ SessionKept script.plan played.version issuer played.start outcome.end k a
  -- the causes of its end
  --= A fault of an issuer's disk comes only where that disk's count rose.
  --= No body: it is the store's own answer
  pub risen : end ≡ detail.DiskFault → DiskRose k
  --= Done means that all records are noted.
  --= No body: it is of `drain`, which says so
  pub all_noted : end ≡ detail.Done → length (noted outcome.end) ≡ length (recs outcome.end)
  --= Undelivered comes only where lines are missing and the agency failed eight times.
  --= No body: it is of `drain`, which says so
  pub undelivered : (noted_count records_count : ℕ) → end ≡ detail.Undelivered noted_count records_count →
      (noted_count < records_count) × (a.after.faults < greatest_u64 →
      a.before.faults + MAX_LINK_FAULTS ≤ a.after.faults)
  --= Where neither an issuer's disk nor its agency failed, and the agency keeps its rules and agreed, the issuer is
  --= done, or memory ran out.
  --= No body: it follows from `behind` and `ends`
  pub complete : (DiskRose k → ⊥) → (Rose a.before.faults a.after.faults → ⊥) → IsTrue a.kind.keeps_rules →
      AgreesAtStart a played.start → (end ≡ detail.Done) ⊎ (end ≡ detail.NoMemory)

-- what became of an issuer whose commands are dated by this clock, or by a clock line that replaces it
abbrev pub IssuerEnds : {D C Z G : Type 0} → List ℕ → Script → Option (ℕ × ℕ) → Clocks C → Disks D → Sleepers Z → Agencies G →
    Detail → Result (List ℕ) NoMemory → Type 0
IssuerEnds issuer script line t k s a end block =
    StaysClosed issuer t k s a end block
    ⊎ Works issuer script (readings_of line (t.coming t.clock)) (LeavesClock t line) k s a end block

module _ {D C Z G : Type 0} where
  -- these rows are of these issuers, parts and posts
  pub record AreRows (issuers : List (List ℕ)) (parts : List Part) (posts after : List (Post D C Z G)) (rows : List (Row D C Z G)) :
      Type 0 where
    pub issuers_are : map (λ (r : Row D C Z G). r.issuer) rows ≡ issuers
    pub parts_are : map (λ (r : Row D C Z G). r.part) rows ≡ parts
    pub posts_are : map (λ (r : Row D C Z G). r.post) rows ≡ posts
    pub after_are : map (λ (r : Row D C Z G). r.after) rows ≡ after

  -- what became of the issuer of a row, by its own clock, or by the clock line of its part
  abbrev pub RowEnds : disk.Ghosts D → clock.Ghosts C → sleeper.Ghosts Z → agency.Ghosts G → Row D C Z G → Type 0
  RowEnds d c z g r = IssuerEnds r.issuer r.part.script r.part.script.clock (clock_in c r.post r.after)
      (disk_in d r.post r.after) (sleeper_in z r.post r.after) (agency_in g r.post r.after) r.end r.block

  -- the same by its own clock alone, which was read and nothing else
  abbrev pub OwnRowEnds : disk.Ghosts D → (C → ℕ → Option ℕ) → (C → C → Type 0) → sleeper.Ghosts Z → agency.Ghosts G →
      Row D C Z G → Type 0
  OwnRowEnds d coming by_readings z g r = by_readings r.post.clock r.after.clock
      × IssuerEnds r.issuer r.part.script None (this_clock coming r.post.clock r.after.clock)
      (disk_in d r.post r.after) (sleeper_in z r.post r.after) (agency_in g r.post r.after) r.end r.block

  -- the issuers were run, each for itself, and this is how the run ended
  pub record IssuersRun (Ends : Row D C Z G → Type 0) (issuers : List (List ℕ)) (parts : List Part) (posts after : List (Post D C Z G))
      (s : Sinks) (end : Detail) : Type 0 where
    pub rows : List (Row D C Z G)
    pub are : AreRows issuers parts posts after rows
    pub each : AllByRecursion Ends rows
    pub ends : IssuersEnd (map (λ (r : Row D C Z G). r.end) rows) (map (λ (r : Row D C Z G). r.block) rows) s end

  -- nothing was printed, and the posts were left as they were
  pub record LeftPosts (posts after : List (Post D C Z G)) (s : Sinks) : Type 0 where
    pub wrote : WroteNothing s
    pub same : after ≡ posts

  -- what `many` did with the parts of a script
  abbrev pub PartsRun : disk.Ghosts D → clock.Ghosts C → sleeper.Ghosts Z → agency.Ghosts G → List (List ℕ) → List Part →
      List (Post D C Z G) → List (Post D C Z G) → Sinks → Detail → Type 0
  PartsRun d c z g issuers parts posts after s end =
      ((end ≡ detail.NoMemory) × LeftPosts posts after s)
      ⊎ IssuersRun (RowEnds d c z g) issuers parts posts after s end

  -- what `many` did, and how it ended: the source is a script for these issuers, whose parts were run; or it is none, and all the
  -- rest is untouched
  pub data ManyEnds (d : disk.Ghosts D) (c : clock.Ghosts C) (z : sleeper.Ghosts Z) (g : agency.Ghosts G) (issuers : List (List ℕ))
      (source : Sources) (s : Sinks) (posts after : List (Post D C Z G)) : Detail → Type 0 where
    ran : (parts : List Part) (end : Detail) → AreGoodParts issuers source parts →
        PartsRun d c z g issuers parts posts after s end → ManyEnds d c z g issuers source s posts after end
    bad_line : (line : ℕ) (fault : Word) → AreBadParts issuers source line fault → LeftPosts posts after s →
        ManyEnds d c z g issuers source s posts after (detail.Script line fault)
    read_fault : ReadFailed source → LeftPosts posts after s → ManyEnds d c z g issuers source s posts after detail.ReadFault
    too_big : ReadPast source → LeftPosts posts after s → ManyEnds d c z g issuers source s posts after detail.TooBig
    no_memory : LeftPosts posts after s → ManyEnds d c z g issuers source s posts after detail.NoMemory
