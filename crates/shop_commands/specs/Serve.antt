-- How `serve` ends.
use Rattle.std.specs.Prelude.{◌≡◌, ◌⊎◌, ◌≤◌, ℕ, true, false, List, [], ◌∷◌, ◌++◌, length, IsTrue, Option, Result, Ok, Err}
use Rattle.std.specs.Io.KnownBytes.{Consumes}
use Rattle.std.specs.List.{list_any, range_with_len}
use Rattle.agency_port.specs.declared.turns.Evidence.{Evidence}
use Rattle.agency_port.specs.declared.agency.Agency as agency
use Rattle.agency_rules.specs.Plans.{plain}
use Rattle.chain_disk.specs.Disks.{DiskRose}
use Rattle.chain_disk.specs.declared.disk.Disk as disk
use Rattle.chain_store.specs.Replies.{AllReplied, Replies, is_disk_fault, is_no_memory}
use Rattle.dialogue_loop.specs.Speech.{ComesFirst, FailedAtLast, IsCause, TookToLast, clock_first}
use Rattle.dialogue_loop.specs.declared.listener.Listener.{Listener}
use Rattle.dialogue_loop.specs.declared.speaking.SpeechEnd.{SpeechEnd}
use Rattle.dialogue_loop.specs.declared.speaking.SpeechEnd.TheVariants as speech
use Rattle.dialogue.specs.Protocol.{written_for}
use Rattle.dialogue.specs.declared.speaker.Action.{Action}
use Rattle.ports.specs.Causes.{RoseByOne}
use Rattle.ports.specs.Sinks.{Sinks, Wrote}
use Rattle.ports.specs.Sources.{SourceRose, Sources}
use Rattle.ports.specs.declared.Clock as clock
use Rattle.ports.specs.declared.sleeper.Sleeper as sleeper
use Rattle.record_codec.specs.declared.entry.TheConstants.{LAST_TILL}
use Rattle.report.specs.Pieces.{chain_line}
use Rattle.report.specs.declared.status.Detail.{Detail}
use Rattle.report.specs.declared.status.Detail.TheVariants as detail
use Rattle.sender.specs.declared.answers.DrainFault.{DrainFault}
use Rattle.sender.specs.declared.answers.DrainFault.TheVariants as drain
use Rattle.shop_core.specs.History.{noted, recs}
use Rattle.till_calls.specs.Root.{Parts, parts_of}
use Rattle.shop_commands.specs.SenderEnds.{sender_end}
use Rattle.command_ends.specs.DrainEnds.{sender_lacks_memory}
use Rattle.shop_commands.specs.Day.{EachCrash, EachTillOf, HistoryGoesOn, ItsAgency, NotServed, Outcome, StepsOf, TellsOfSender}
use Rattle.shop_commands.specs.Day.{day_with}
use Rattle.sender_beside.specs.Days.{Day}
use Rattle.shop_drain.specs.Devices.{AllDevices, Around, LeftAll, ReadNothing, around, around_in}
use Rattle.shop_drain.specs.Draining.{AgreesAtStart}
use Rattle.shop_commands.specs.Drain.{AllLeft, LeavesTime, NothingRose}
use Rattle.sender_session.specs.Kinds.{store_kind}
use Rattle.sender_session.specs.Session.{IsDiskAnswer}
use Rattle.shop_drain.specs.Opening.{IsOpened, NotOpened}
use Rattle.shop_dialogue.specs.Dialogues.{IsSpeech, Speech, drains_after}
use Rattle.shop_drain.specs.declared.opening.Opened.{Opened}
use Rattle.shop_drain.specs.declared.posts.Post.{Post}

-- what is printed: the answers, one after another, and the chain line after a source that was read to its end
--= `serve` prints the answers in order, and the chain line after a source that was read to its end.
--= No body: it is of `answer_lines`: `dialogue_loop/Spoken.written`
abbrev pub printed : SpeechEnd → List (List ℕ) → List ℕ → List (List ℕ)
printed speech.Ended answers chain = answers ++ chain ∷ []
printed speech.ReadFault answers chain = answers
printed speech.WriteFault answers chain = answers
printed speech.NoMemory answers chain = answers
printed speech.Stopped answers chain = answers

-- how it ends once the chain line is written, which comes after the end of the source alone
--= The chain line of `serve` comes after the end of the source alone, and changes no other end.
abbrev pub Closes : SpeechEnd → SpeechEnd → Type 0
Closes speech.Ended speech.Ended = Unit {0}
Closes speech.Ended speech.WriteFault = Unit {0}
Closes speech.Ended speech.NoMemory = Unit {0}
Closes speech.Ended speech.ReadFault = ⊥
Closes speech.Ended speech.Stopped = ⊥
Closes speech.ReadFault closed = closed ≡ speech.ReadFault
Closes speech.WriteFault closed = closed ≡ speech.WriteFault
Closes speech.NoMemory closed = closed ≡ speech.NoMemory
Closes speech.Stopped closed = closed ≡ speech.Stopped

-- the end by the sender's answer: this one where no record waits
abbrev pub sent_end : ℕ → ℕ → Detail → Result (Unit {0}) DrainFault → Detail
sent_end noted_count records_count otherwise (Ok u) = otherwise
sent_end noted_count records_count otherwise (Err fault) = sender_end noted_count records_count fault

-- the end, where no command and no turn of the sender found no memory
abbrev pub end_of : SpeechEnd → ℕ → ℕ → Result (Unit {0}) DrainFault → Detail
end_of speech.Ended noted_count records_count answer = sent_end noted_count records_count detail.Done answer
end_of speech.ReadFault noted_count records_count answer = sent_end noted_count records_count detail.ReadFault answer
end_of speech.WriteFault noted_count records_count answer = sent_end noted_count records_count detail.WriteFault answer
end_of speech.NoMemory noted_count records_count answer = detail.NoMemory
end_of speech.Stopped noted_count records_count answer = detail.DiskFault

-- How it ends, by the replies and the sender's answer, by how the reading ended, and by what the sink took of the texts: want of
-- memory before a fault of the disk, that before a contradiction and an undelivered drain, and these before a fault of the source
-- or of the sink. It is done only where the source was read to its end and all records have noted lines.
--= The status of a dialogue is the first that holds of 10, 6, 11 or 8, and 4 or 5; 0 comes only where the source
--= was read to its end, all commands were answered and each record has its line.
--= No body: it is made as `shop_commands/DayRunEnds` is
pub data SpeechEnds (how : SpeechEnd) (replies : Replies) (answer : Result (Unit {0}) DrainFault) (noted_count records_count : ℕ)
    (texts : List (List ℕ)) (s : Sources) (k : Sinks) : Detail → Type 0 where
  done : how ≡ speech.Ended → AllReplied replies → answer ≡ Ok tt → noted_count ≡ records_count → Wrote k (written_for texts) →
      SpeechEnds how replies answer noted_count records_count texts s k detail.Done
  read_fault : how ≡ speech.ReadFault → SourceRose s → AllReplied replies → answer ≡ Ok tt → noted_count ≡ records_count →
      Wrote k (written_for texts) → SpeechEnds how replies answer noted_count records_count texts s k detail.ReadFault
  write_fault : AllReplied replies → answer ≡ Ok tt → noted_count ≡ records_count → FailedAtLast k texts →
      SpeechEnds how replies answer noted_count records_count texts s k detail.WriteFault
  undelivered : (n r : ℕ) → AllReplied replies → answer ≡ Err (drain.Undelivered n r) →
      Wrote k (written_for texts) ⊎ FailedAtLast k texts →
      SpeechEnds how replies answer noted_count records_count texts s k (detail.Undelivered noted_count records_count)
  contradiction : (evidence : Evidence) → AllReplied replies → answer ≡ Err (drain.Contradiction evidence) →
      Wrote k (written_for texts) ⊎ FailedAtLast k texts →
      SpeechEnds how replies answer noted_count records_count texts s k (detail.Contradiction evidence)
  disk_fault : list_any is_no_memory replies ≡ false → sender_lacks_memory answer ≡ false →
      (list_any is_disk_fault replies ≡ true) ⊎ IsDiskAnswer answer → Wrote k (written_for texts) ⊎ FailedAtLast k texts →
      SpeechEnds how replies answer noted_count records_count texts s k detail.DiskFault
  no_memory : Wrote k (written_for texts) ⊎ TookToLast k texts →
      SpeechEnds how replies answer noted_count records_count texts s k detail.NoMemory

-- an end that follows a failed read: that of a read fault, or one that goes before it
abbrev pub IsReadEnd : Detail → Type 0
IsReadEnd detail.ReadFault = Unit {0}
IsReadEnd detail.NoMemory = Unit {0}
IsReadEnd detail.DiskFault = Unit {0}
IsReadEnd (detail.Contradiction evidence) = Unit {0}
IsReadEnd (detail.Undelivered noted_count records_count) = Unit {0}
IsReadEnd _ = ⊥

-- Of a source that counts each failed read, with its counts before and after: none failed, or one did, and it ends so.
abbrev pub EndsAtFault : ℕ → ℕ → Detail → Type 0
EndsAtFault faults faults_after end = (faults_after ≡ faults) ⊎ (RoseByOne faults faults_after × IsReadEnd end)

-- how it ends, for this day of the shop
pub record EndsAsSpoken {D C Z G : Type 0} (d : Day) (x : Speech) (s : Sources) (c : Around D C Z G) (end : Detail) : Type 0 where
  pub cause : SpeechEnds x.how x.said.replies d.answer (length (noted d.end)) (length (recs d.end))
      (printed x.how x.said.answers (chain_line (length (recs d.end)) (length (noted d.end)))) s c.sink end
  pub sender : TellsOfSender d c.agency.before end
  --= Where no device fails, and the agency keeps its rules and agrees, `serve` ends with 0 or out of memory.
  --= No body: it is of all that the command calls
  pub complete : (SourceRose s → ⊥) → NothingRose c.sink c.disk c.agency → IsTrue d.kind.keeps_rules →
      AgreesAtStart c.agency d.start → (end ≡ detail.Done) ⊎ (end ≡ detail.NoMemory)

-- the day of a dialogue
abbrev pub day_said : {D C Z G : Type 0} → List ℕ → Speech → Option (ℕ × ℕ) → Around D C Z G → Outcome → Day
day_said issuer x line c o = day_with issuer x.said.asks line (drains_after x.how) c o

-- The file was opened, and the lines were answered one by one while the sender ran, with this clock line among them: the commands
-- among the lines, in their order, are one run, in which each till asked for its own, and each question among them was answered at
-- the history with the records that were taken before it.
pub record SpeechServed {D C Z G : Type 0} (issuer : List ℕ) (line clock : Option (ℕ × ℕ)) (s : Sources) (c : Around D C Z G)
    (end : Detail) : Type 0 where
  pub speech : Speech
  pub outcome : Outcome
  pub spoken : IsSpeech clock (day_said issuer speech line c outcome) s speech
  pub history : HistoryGoesOn (day_said issuer speech line c outcome)
  pub tills : EachTillOf (range_with_len 1 LAST_TILL) (day_said issuer speech line c outcome)
  pub crashes : EachCrash (day_said issuer speech line c outcome) c.disk
  pub agency : ItsAgency (day_said issuer speech line c outcome) plain c.agency c.disk
  pub session : StepsOf (day_said issuer speech line c outcome) line c.sleeper
  pub ends : EndsAsSpoken (day_said issuer speech line c outcome) speech s c end
  pub time : LeavesTime line c.clock c.sleeper

-- the file was opened, and there was no memory for the shop: lines were passed over, and none was answered
pub record SpeechNotServed {D C Z G : Type 0} (issuer : List ℕ) (s : Sources) (c : Around D C Z G) (end : Detail) : Type 0 where
  pub shop : NotServed issuer plain c end
  pub taken : List ℕ
  pub read : Consumes s.left s.left_after taken

-- what `serve` did with an opened file whose clock and sleeper this clock line replaced, where this one is among the lines
abbrev pub FileServe : {D C Z G : Type 0} → List ℕ → Option (ℕ × ℕ) → Option (ℕ × ℕ) → Sources → Around D C Z G → Detail → Type 0
FileServe issuer line clock s c end = SpeechNotServed issuer s c end ⊎ SpeechServed issuer line clock s c end

-- what `serve` did, and how it ended: ahead of the opening nothing is read
--= `serve` reads nothing where the file isn't opened, or there is no memory for its reader.
--= No body: the file is opened before the first line is asked for
abbrev pub ServeWays : {D C Z G : Type 0} → List ℕ → AllDevices D C Z G → Detail → Type 0
ServeWays issuer a end =
    ((end ≡ detail.NoMemory) × ReadNothing a.devices.source × LeftAll (around a))
    ⊎ (ReadNothing a.devices.source × NotOpened issuer (AllLeft a.devices.clock a.sleeper a.agency) a.devices.sink a.devices.disk end)
    ⊎ ((line : Option (ℕ × ℕ)) × FileServe issuer line line a.devices.source (around a) end)

pub record ServeEnds {D C Z G : Type 0} (issuer : List ℕ) (a : AllDevices D C Z G) (end : Detail) : Type 0 where
  pub ends : ServeWays issuer a end
  pub risen : end ≡ detail.DiskFault → DiskRose a.devices.disk

-- a post whose file was opened, with the disk as it was before or is now
abbrev pub post_with : {D C Z G : Type 0} → D → Parts D C → Z → G → Post D C Z G
post_with disk p sleeper agency = record { disk = disk; clock = p.clock; sleeper = sleeper; agency = agency }

-- a source from one moment to another, and a sink
abbrev pub source_since : Option (List ℕ) → ℕ → Option (List ℕ) → ℕ → Sources
source_since left faults left_after faults_after = record {
  left = left;
  left_after = left_after;
  faults = faults;
  faults_after = faults_after;
}

abbrev pub sink_to : Option (List ℕ) → ℕ → Option (List ℕ) → ℕ → Sinks
sink_to taken faults taken_after faults_after = record {
  taken = taken;
  taken_after = taken_after;
  faults = faults;
  faults_after = faults_after;
}

-- What `serve` does with an opened file whose clock and sleeper this clock line replaced, from its first answered line on, or an end
-- ahead of it: whatever disk the file was opened on, and whatever its source had to give ahead of that line.
abbrev pub ServesOn : {D C Z G : Type 0} (d : disk.Ghosts D) → clock.Ghosts C → sleeper.Ghosts Z → agency.Ghosts G →
    Option (ℕ × ℕ) → Listener → Result Action SpeechEnd → Sources → Sinks → Opened D C Z G d → Opened D C Z G d → Detail → Type 0
ServesOn {D} d c z g line listener first s k old new end = (issuer : List ℕ) (disk : D) (left : Option (List ℕ)) (faults : ℕ) →
    IsOpened issuer (store_kind d c) disk (parts_of old.store).clock (parts_of old.store) →
    ComesFirst left s.left listener first → faults ≤ s.faults → IsCause faults s.faults first →
    FileServe issuer line (clock_first first) (source_since left faults s.left_after s.faults_after)
    (around_in k d c z g (post_with disk (parts_of old.store) old.sleeper old.agency)
    (post_with (parts_of new.store).disk (parts_of new.store) new.sleeper new.agency)) end
