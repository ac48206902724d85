-- What a drain leaves of an opened store and of its agency.
use Rattle.std.specs.Prelude.{◌≡◌, ◌⊎◌, ℕ, ◌+◌, ◌*◌, ◌≤◌, List, [], ◌∷◌, ◌++◌, length, map, zip, Bool, IsTrue, ⊤, IsErrOf, OnOk}
use Rattle.std.specs.Prelude.{Option, Some, None, Result, Ok, Err, ◌-◌}
use Rattle.std.specs.List.{AllByRecursion}
use Rattle.record_fields.specs.declared.versions.Version.{Version}
use Rattle.ports.specs.Causes.{Rose}
use Rattle.record_fields.specs.declared.records.Sealed.{Sealed}
use Rattle.record_fields.specs.declared.lines.Line.{Line}
use Rattle.huella.specs.Linked.{Linked}
use Rattle.record_codec.specs.declared.entry.Entry.{Entry}
use Rattle.chain_disk.specs.OnDisk.{OnDisk, LeavesNow}
use Rattle.chain_disk.specs.declared.disk.Disk.{Ghosts}
use Rattle.journal.specs.declared.faults.StoreFault.TheVariants as store
use Rattle.shop_core.specs.File.Files.{StandsFor}
use Rattle.shop_core.specs.History.{recs, noted, waiting}
use Rattle.shop_core.specs.Legal.{Legal}
use Rattle.agency_rules.specs.declared.plans.Plan.{Plan}
use Rattle.agency_port.specs.Ledger.{Begins}
use Rattle.agency_port.specs.Messages.{batches_in}
use Rattle.agency_port.specs.declared.turns.Evidence.{Evidence}
use Rattle.agency_port.specs.declared.turns.Told.{Told as TurnLine}
use Rattle.agency_port.specs.declared.turns.Told.TheVariants as told
use Rattle.once_world.specs.Agreement.{Agree}
use Rattle.sender.specs.declared.answers.DrainFault.{DrainFault}
use Rattle.sender.specs.declared.answers.DrainFault.TheVariants as drain
use Rattle.sender.specs.Dark.{AreRunsBy}
use Rattle.sender.specs.Draining.{IsBounded}
use Rattle.sender.specs.Turning.{AgencyKind, AgencyState}
use Rattle.chain_store.specs.Crashes.{SurvivesCrashes}
use Rattle.sender_session.specs.Noting.{NotesSaid, TornSaid}
use Rattle.sender_session.specs.Steps.{EndsSaying, Step, Steps, line_in}
use Rattle.sender_session.specs.Session.{AreNotesEntry, IsDiskAnswer, SaysNothingBlindly, AreOfChain}
use Rattle.shop_drain.specs.Devices.{Agencies}
use Rattle.pacing.specs.declared.pace.TheConstants.{MAX_BATCH}

-- notes alone came after the history before
pub record AddsNotesAlone (before after : List Entry) : Type 0 where
  pub more : List Entry
  pub is : after ≡ before ++ more
  pub are : AllByRecursion AreNotesEntry more

-- the entry whose append failed, where a shop has stopped
abbrev pub torn_in : Option ℕ → Option Entry → List Entry
torn_in (Some faults) (Some torn) = torn ∷ []
torn_in (Some faults) None = []
torn_in None torn = []

-- the pairs that a history notes: its first records, each with the line noted for it
abbrev pub noted_pairs : List Entry → List (Sealed × Line)
noted_pairs entries = zip (recs entries) (noted entries)

-- A drain: the history of its store at the start and at the end, with the notes after it whose append failed; what the
-- agency's kind tells, and its state at the start and at the end; whether the sleeper tells its moment, and that at the start;
-- the lines told; and the answer.
pub record Span : Type 0 where
  pub start : List Entry
  pub end : List Entry
  pub torn : List Entry
  pub kind : AgencyKind
  pub old : AgencyState
  pub new : AgencyState
  pub exact : Bool
  pub moment : ℕ
  pub turns : List TurnLine
  pub answer : Result (Unit {0}) DrainFault

-- what a drain ends with
pub record Outcome : Type 0 where
  pub end : List Entry
  pub torn : List Entry
  pub turns : List TurnLine
  pub answer : Result (Unit {0}) DrainFault

-- the drain that began with this and ended with that
abbrev pub spanning : List Entry → AgencyKind → AgencyState → AgencyState → Bool → ℕ → Outcome → Span
spanning start kind old new exact moment o = record {
  start = start;
  end = o.end;
  torn = o.torn;
  kind = kind;
  old = old;
  new = new;
  exact = exact;
  moment = moment;
  turns = o.turns;
  answer = o.answer;
}

-- The disk failed at the notes of a drain's last step. Its line tells that, and so does the answer; or memory ran out for the
-- line, which then isn't told.
pub record TearsLast (going last : List Step) (turns : List TurnLine) (answer : Result (Unit {0}) DrainFault) : Type 0 where
  pub line : EndsSaying last told.Disk
  --= Where notes are torn, the line of the last step is `fault disk`, which is told and is the answer, or is left
  --= out since memory ran out for it.
  --= No body: it is a part of `shop_drain/Sends.torn_told`
  pub printed : ((answer ≡ Err (drain.Store store.DiskFault)) × (turns ≡ map line_in (going ++ last)))
      ⊎ ((answer ≡ Err drain.NoMemory) × (turns ≡ map line_in going))

-- With an agency that keeps its rules: it agrees with the history, and with what may be torn; it contradicts itself never; and
-- the turns are bounded by the batches that waited and by the link faults.
pub record StillAgrees (d : Span) : Type 0 where
  --= An agency that keeps its rules, and agreed when a drain began, agrees with the history at its end.
  --= No body: it is of `turn`, whose clauses keep the agreement
  pub whole : Agree d.end d.new.ledger.processed d.new.ledger.sent
  pub torn : Agree (d.end ++ d.torn) d.new.ledger.processed d.new.ledger.sent
  pub no_contradiction : (evidence : Evidence) → IsErrOf d.answer (drain.Contradiction evidence) → ⊥
  --= With an agency that keeps its rules and agrees, the turns of a drain are within 2 B + 6 F + 8, of B batches
  --= that wait and F faults of the link.
  --= No body: it is of `Sender::drain`
  pub bound : (batches : ℕ) → length (waiting d.start) ≤ MAX_BATCH * batches → IsBounded batches [] d.turns

-- What a new sender does by its turns, over an agency whose session is open.
pub record Sends (d : Span) : Type 0 where
  --= Notes alone come after the history in a drain.
  --= No body: a drain has no till
  pub notes : AddsNotesAlone d.start d.end
  pub torn_notes : AllByRecursion AreNotesEntry d.torn
  pub at_most_one : length d.torn ≤ 1
  --= A drain that is done leaves each record with its line.
  --= No body: it is of `sender/Sender::drain.drained`
  pub all_noted : OnOk d.answer (length (noted d.end) ≡ length (recs d.end))
  --= A drain is the turns of one sender, which are its steps, with a line for each of them but the last quiet one.
  --= No body: it is of `sender/Sender::drain.drained`
  pub steps : Steps d.kind.tells d.exact (recs d.start) (length (noted d.start)) (length (noted d.end)) d.moment d.old d.new
      d.turns d.answer
  --= Notes of a drain are torn only where the last step's line is the disk's fault.
  pub torn_told : (d.torn ≡ []) ⊎ TearsLast steps.going steps.last d.turns d.answer
  --= The lines that a drain noted are those that its messages say, each message of the first records that waited.
  --= No body: it is of `turn` and of `Store::note`: `sender/Turned.deals`
  pub lines : IsTrue d.kind.tells → NotesSaid d.start d.end d.old.ledger.messages d.new.ledger.messages d.answer
  pub torn_lines : IsTrue d.kind.tells → AllByRecursion (TornSaid d.end d.new.ledger.messages) d.torn
  -- where shop and agency agreed they still do
  pub agreement : IsTrue d.kind.keeps_rules → Agree d.start d.old.ledger.processed d.old.ledger.sent → StillAgrees d
  --= A drain hands no record over again unless a consultation since has answered that it wasn't seen, where each
  --= batch before is a run of the chain that ends at most 1000 past the noted records.
  --= No body: it is of `turn`: `sender/RepeatsNothingBlindly.careful`
  pub careful : IsTrue d.kind.tells →
      AreRunsBy (recs d.start) (length (noted d.start) + MAX_BATCH) (batches_in d.old.ledger.messages) →
      SaysNothingBlindly d.old.ledger.messages d.new.ledger.messages
  -- where all batches were such runs of the chain they are at the end
  pub runs : IsTrue d.kind.tells → AreOfChain d.start d.old.ledger.messages → AreOfChain d.end d.new.ledger.messages

-- how an agency's kind begins: what it has processed once a session is open, by what it had and by the noted pairs
abbrev pub Beginning : Type 0
Beginning = List (Sealed × Line) → List (Sealed × Line) → List (Sealed × Line)

-- a session was opened, with this plan and the pairs noted in the history
pub record OpensSession (kind : AgencyKind) (begun : Beginning) (plan : Plan) (start : List Entry) (old opened : AgencyState) : Type 0 where
  --= An agency that tells its messages tells one opening, with this plan and as many pairs as the file notes.
  --= No body: it is of `begin` of the agency, whose row has it
  pub lists : IsTrue kind.tells → Begins old.ledger opened.ledger plan (length (noted start))
  --= An agency that keeps its rules has, once its session is open, processed what its kind makes of the noted
  --= pairs.
  --= No body: it is of `begin` of the agency
  pub rules : IsTrue kind.keeps_rules → opened.ledger.processed ≡ begun old.ledger.processed (noted_pairs start)
  pub faults : opened.faults ≡ old.faults

-- memory ran out for it, and nothing was done
pub record IsUnopened (d : Span) : Type 0 where
  pub answer : d.answer ≡ Err drain.NoMemory
  --= Where there is no memory for a drain's session nothing is said or noted.
  --= No body: it is of `begin`, which hands the store back
  pub turns : d.turns ≡ []
  pub lists : IsTrue d.kind.tells → d.new.ledger ≡ d.old.ledger
  pub faults : d.new.faults ≡ d.old.faults
  pub end : d.end ≡ d.start
  pub torn : d.torn ≡ []

-- the drain from this state of the agency on
abbrev pub from_agency_state : AgencyState → Span → Span
from_agency_state agency_state d = record {
  start = d.start;
  end = d.end;
  torn = d.torn;
  kind = d.kind;
  old = agency_state;
  new = d.new;
  exact = d.exact;
  moment = d.moment;
  turns = d.turns;
  answer = d.answer;
}

-- The session was opened, and all that was said and noted was by the turns of one new sender. Where shop and agency agreed
-- once it was open, they still do.
pub record IsSession (begun : Beginning) (plan : Plan) (d : Span) : Type 0 where
  pub opened : AgencyState
  pub opens : OpensSession d.kind begun plan d.start d.old opened
  pub sends : Sends (from_agency_state opened d)
  pub agreement : IsTrue d.kind.keeps_rules →
      Agree d.start (begun d.old.ledger.processed (noted_pairs d.start)) d.old.ledger.sent → StillAgrees d

-- the file stands for a history that agrees
abbrev pub AgreesInFile : Version → List ℕ → AgencyState → List ℕ → Type 0
AgreesInFile version issuer agency_state file = (entries : List Entry)
    × StandsFor version issuer entries file × Agree entries agency_state.ledger.processed agency_state.ledger.sent

-- a disk that a store is on: whether its kind tells what it holds, and what it told and its count of faults before and after
pub record DiskSpan : Type 0 where
  pub tells : Bool
  pub since : OnDisk
  pub now : OnDisk
  pub faults : ℕ
  pub faults_after : ℕ

-- the disk of a store that was this and is that
abbrev pub disk_span : {D : Type 0} → Ghosts D → D → D → DiskSpan
disk_span kind old new = record {
  tells = kind.tells;
  since = kind.on_disk old;
  now = kind.on_disk new;
  faults = kind.faults old;
  faults_after = kind.faults new;
}

-- The drain of an opened store. Each crash since some moment leaves what P says of the histories and the torn notes.
pub record StoreDrains (P : List Entry → List Entry → List Entry → List ℕ → Type 0) (begun : Beginning) (plan : Plan)
    (version : Version) (issuer : List ℕ) (k : DiskSpan) (d : Span) : Type 0 where
  pub session : IsUnopened d ⊎ IsSession begun plan d
  pub notes : AddsNotesAlone d.start d.end
  pub legal : Legal version issuer d.end
  --= A drain leaves a legal, linked history.
  --= No body: it is of `State::is_legal`, a law of each history
  pub linked : Linked issuer (recs d.end)
  --= Each crash in a drain leaves a front of the history at the end, with what is torn, and now the whole.
  --= No body: it is of `Store::note`
  pub kept : IsTrue k.tells → SurvivesCrashes (P d.start d.end d.torn) version issuer d.end d.torn k.since k.now
  --= Where the agency agrees after a drain, it does with the history of each file that a crash now leaves.
  --= No body: it is of `Store::note` and of `turn`
  pub images : IsTrue k.tells → StillAgrees d → LeavesNow k.now (AgreesInFile version issuer d.new)
  -- the disk's count of faults rose where it failed
  pub risen : IsDiskAnswer d.answer → Rose k.faults k.faults_after
  --= Notes of a drain are torn only where the disk's count of faults rose.
  --= No body: it is of `Store::note`
  pub torn_risen : (d.torn ≡ []) ⊎ Rose k.faults k.faults_after
  pub later : k.faults ≤ k.faults_after

-- with the records noted in the file as what it has processed, where its kind begins so, the agency agrees with it
abbrev pub AgreesAtStart : {G : Type 0} → Agencies G → List Entry → Type 0
AgreesAtStart a start =
    Agree start (a.begun a.before.ledger.processed (noted_pairs start)) a.before.ledger.sent
