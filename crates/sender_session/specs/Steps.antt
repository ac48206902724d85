-- What the turns of a drain did, one after another, and the lines that stand for them.
use Rattle.std.specs.Prelude.{◌≡◌, ◌⊎◌, ℕ, ◌+◌, ◌-◌, ◌<◌, ◌≤◌, max, List, [], ◌∷◌, ◌++◌, length, map, take, drop}
use Rattle.std.specs.Prelude.{filter_map, count_by, Bool, true, false, IsTrue, ⊤, Option, Some, None, Result, Ok, Err}
use Rattle.std.specs.List.{AllByRecursion}
use Rattle.record_fields.specs.declared.records.Sealed.{Sealed}
use Rattle.record_fields.specs.declared.lines.Line.{Line}
use Rattle.batches.specs.Batches.{Named, named_of}
use Rattle.pacing.specs.Pace.{is_due, due_at}
use Rattle.pacing.specs.declared.pace.Pace.{Pace}
use Rattle.journal.specs.declared.faults.StoreFault.{StoreFault}
use Rattle.journal.specs.declared.faults.StoreFault.TheVariants as store
use Rattle.agency_port.specs.Reply.{Replied}
use Rattle.agency_port.specs.Ledger.{Names}
use Rattle.agency_port.specs.Sessions.{named_reply}
use Rattle.agency_port.specs.declared.answers.Seen.{Seen}
use Rattle.agency_port.specs.declared.answers.ReplyLine.TheVariants.{First}
use Rattle.agency_port.specs.declared.answers.AgencyFault.{AgencyFault}
use Rattle.agency_port.specs.declared.answers.AgencyFault.TheVariants as agency
use Rattle.agency_port.specs.declared.messages.Message.{Message}
use Rattle.agency_port.specs.declared.messages.Message.TheVariants.{Begun, Submitted, Consulted}
use Rattle.agency_port.specs.declared.turns.Evidence.{Evidence}
use Rattle.agency_port.specs.declared.turns.Told.{Told}
use Rattle.agency_port.specs.declared.turns.Told.TheVariants as told
use Rattle.agency_replies.specs.Sorting.{IsFirstAgain}
use Rattle.sender.specs.declared.answers.DrainFault.{DrainFault}
use Rattle.sender.specs.declared.answers.DrainFault.TheVariants as drain
use Rattle.sender.specs.declared.draining.TheConstants.{MAX_LINK_FAULTS}
use Rattle.sender.specs.Draining.{is_link}
use Rattle.sender.specs.Evidence.{Shows}
use Rattle.sender.specs.Sending.{fresh}
use Rattle.sender.specs.Turning.{AgencyState}
use Rattle.pacing.specs.declared.pace.TheConstants.{MAX_BATCH}
use Rattle.ports.specs.Causes.{greatest_u64}

-- what a turn did that has a line: it waited until this second; it said this to the agency, and this line stands for it; or
-- it found no memory before it said anything
pub data Step : Type 0 where
  Waits : (at : ℕ) → Step
  Says : (message : Message) (line : Told) → Step
  LacksMemory : Step

abbrev pub line_in : Step → Told
line_in (Waits at) = told.Wait at
line_in (Says message printed) = printed
line_in LacksMemory = told.Memory

abbrev pub message_in : Step → Option Message
message_in (Waits at) = None
message_in (Says message printed) = Some message
message_in LacksMemory = None

-- How far a drain has come: how many lines are noted; whether it is in doubt what came of its last batch; the second of the last
-- submission, and the pause that the last reply asked for which named its batch; that reply, until a consultation has answered;
-- and the sleeper's moment.
pub record Standing : Type 0 where
  pub noted : ℕ
  pub doubt : Bool
  pub pace : Pace
  pub said : Option Replied
  pub moment : ℕ

-- at the start it is in doubt, no submission was made, and the pause is the first one
abbrev pub at_start : ℕ → ℕ → Standing
at_start noted moment = record { noted = noted; doubt = true; pace = fresh.pace; said = None; moment = moment }

-- a reply that names its batch says the pause
abbrev pub with_reply : Standing → Option Replied → Standing
with_reply st None = st
with_reply st (Some reply) = record {
  noted = st.noted;
  doubt = st.doubt;
  pace = record { last = st.pace.last; wait = reply.wait };
  said = Some reply;
  moment = st.moment;
}

-- a submission is made at the sleeper's moment, and from then on it is in doubt
abbrev pub handing : Standing → Standing
handing st = record {
  noted = st.noted;
  doubt = true;
  pace = record { last = st.moment; wait = st.pace.wait };
  said = st.said;
  moment = st.moment;
}

abbrev pub after_message : Standing → Message → Standing
after_message st (Begun plan pairs) = st
after_message st (Submitted batch answer) = with_reply (handing st) (named_reply batch answer)
after_message st (Consulted asked (Ok seen)) =
    record { noted = st.noted; doubt = st.doubt; pace = st.pace; said = None; moment = st.moment }
after_message st (Consulted asked (Err why)) = st

-- the lines that a turn noted
abbrev pub noted_in : Told → ℕ
noted_in (told.Noted n) = n
noted_in _ = 0

-- noted lines end the doubt, and so does the answer that the agency has seen none of the records
--= Only noted lines, or the answer that none of the waiting records was seen, end a sender's doubt.
--= No body: a definition, cited by `turn`: `sender/Turned.deals`
abbrev pub doubt_behind : Bool → Told → Bool
doubt_behind doubt (told.Noted n) = false
doubt_behind doubt told.Cleared = false
doubt_behind doubt _ = doubt

abbrev pub after_line : Standing → Told → Standing
after_line st printed = record {
  noted = st.noted + noted_in printed;
  doubt = doubt_behind st.doubt printed;
  pace = st.pace;
  said = st.said;
  moment = st.moment;
}

abbrev pub after_step : Standing → Step → Standing
after_step st (Waits at) =
    record { noted = st.noted; doubt = st.doubt; pace = st.pace; said = st.said; moment = max st.moment at }
after_step st (Says message printed) = after_line (after_message st message) printed
after_step st LacksMemory = st

abbrev pub after_steps : Standing → List Step → Standing
after_steps st [] = st
after_steps st (s ∷ steps) = after_steps (after_step st s) steps

-- how many of the records wait, and the first of them, a batch at most
abbrev pub count_waiting : List Sealed → Standing → ℕ
count_waiting records st = length records - st.noted

abbrev pub next_batch : List Sealed → Standing → List Sealed
next_batch records st = take MAX_BATCH (drop st.noted records)

-- the reply names its batch and answers each record as new
pub record AreAllNew (batch : List Sealed) (reply : Replied) : Type 0 where
  pub names : Names reply batch
  pub lines : List Line
  pub first : reply.lines ≡ map First lines
  pub each : length lines ≡ length batch

-- the reply names its batch, and the record at this place is the first that it answers as a Duplicado
pub record IsDoubtAt (noted : ℕ) (batch : List Sealed) (reply : Replied) (place : ℕ) : Type 0 where
  pub names : Names reply batch
  pub index : ℕ
  pub again : IsFirstAgain reply.lines index
  pub place_is : place ≡ noted + 1 + index

-- the line of a submission by its answer
abbrev pub IsReplyLine : Standing → List Sealed → Replied → Told → Type 0
IsReplyLine st batch reply told.Link = Names reply batch → ⊥
IsReplyLine st batch reply (told.Doubt place) = IsDoubtAt st.noted batch reply place
IsReplyLine st batch reply (told.Noted n) = AreAllNew batch reply × (n ≡ length batch)
IsReplyLine st batch reply told.Disk = AreAllNew batch reply
IsReplyLine st batch reply (told.Stopped faults) = AreAllNew batch reply
IsReplyLine st batch reply told.Memory = Names reply batch
IsReplyLine _ _ _ _ = ⊥

--= A submission's line is `link` for no reply or one to another batch, `doubt` with the place of the first
--= `Duplicado`, `noted` with the length of its batch, or the fault of the store.
--= No body: it is of `turn`: `sender/Turned.deals`
abbrev pub IsSubmissionLine : Standing → List Sealed → Result Replied AgencyFault → Told → Type 0
IsSubmissionLine st batch (Ok reply) printed = IsReplyLine st batch reply printed
IsSubmissionLine st batch (Err agency.Failed) printed = printed ≡ told.Link
IsSubmissionLine st batch (Err agency.NoMemory) printed = printed ≡ told.Memory

-- what these answers and the last reply show of the records that wait
abbrev pub ShowsHere : Standing → List (List ℕ) → List Seen → Result (List Line) Evidence → Type 0
ShowsHere st huellas seen shown = Shows st.said (st.noted + 1) huellas seen shown

-- these answers show lines, at least one
pub record ShowsLines (st : Standing) (huellas : List (List ℕ)) (seen : List Seen) : Type 0 where
  pub lines : List Line
  pub shown : ShowsHere st huellas seen (Ok lines)
  pub some : 1 ≤ length lines

-- the line of a consultation that was answered
abbrev pub IsSeenLine : Standing → List (List ℕ) → List Seen → Told → Type 0
IsSeenLine st huellas seen told.Cleared = ShowsHere st huellas seen (Ok [])
IsSeenLine st huellas seen (told.Noted n) = (lines : List Line) × ShowsHere st huellas seen (Ok lines) × (n ≡ length lines)
    × (1 ≤ n)
IsSeenLine st huellas seen told.Contradiction = (evidence : Evidence) × ShowsHere st huellas seen (Err evidence)
IsSeenLine st huellas seen told.Disk = ShowsLines st huellas seen
IsSeenLine st huellas seen (told.Stopped faults) = ShowsLines st huellas seen
IsSeenLine st huellas seen told.Memory = ⊤
IsSeenLine _ _ _ _ = ⊥

--= A consultation's line is `link` for no answer, `cleared` where none of the records was seen, `noted` with the
--= number of lines in front, `contradiction`, or the fault of the store.
--= No body: it is of `turn`: `sender/Turned.deals`
abbrev pub IsConsultationLine : Standing → List (List ℕ) → Result (List Seen) AgencyFault → Told → Type 0
IsConsultationLine st huellas (Ok seen) printed = IsSeenLine st huellas seen printed
IsConsultationLine st huellas (Err agency.Failed) printed = printed ≡ told.Link
IsConsultationLine st huellas (Err agency.NoMemory) printed = printed ≡ told.Memory

-- One step at this standing. In doubt the first waiting records are asked for, each by its Huella and its id; only out of doubt are they handed over, or is
-- there a wait. And where the sleeper tells its moment, a submission is made only where one is due, and a wait only where none
-- is, until the second when it will be.
--= In doubt a step asks for the first waiting records, at most 1000, by Huella and by id; only out of doubt does it
--= hand them over, or wait. Over a sleeper that tells its moment it hands over only where that is due, and waits
--= only where it isn't, until the second when it will be.
abbrev pub IsStep : Bool → List Sealed → Standing → Step → Type 0
IsStep exact records st (Waits at) = (st.doubt ≡ false) × (st.noted < length records)
    × (IsTrue exact → (is_due st.pace st.moment (count_waiting records st) ≡ false) × (at ≡ due_at st.pace))
IsStep exact records st (Says (Submitted batch answer) printed) = (st.doubt ≡ false) × (batch ≡ next_batch records st)
    × (IsTrue exact → is_due st.pace st.moment (count_waiting records st) ≡ true) × IsSubmissionLine st batch answer printed
IsStep exact records st (Says (Consulted asked answer) printed) = (st.doubt ≡ true)
    × (asked ≡ named_of (next_batch records st)) × IsConsultationLine st asked.huellas answer printed
IsStep exact records st (Says (Begun plan pairs) printed) = ⊥
IsStep exact records st LacksMemory = ⊤

-- one after another
abbrev pub AreSteps : Bool → List Sealed → Standing → List Step → Type 0
AreSteps exact records st [] = ⊤
AreSteps exact records st (s ∷ steps) = IsStep exact records st s × AreSteps exact records (after_step st s) steps

-- the turns go on after this line
abbrev pub GoesOnBehind : Told → Type 0
GoesOnBehind (told.Wait at) = ⊤
GoesOnBehind (told.Noted n) = ⊤
GoesOnBehind told.Cleared = ⊤
GoesOnBehind (told.Doubt place) = ⊤
GoesOnBehind told.Link = ⊤
GoesOnBehind _ = ⊥

abbrev pub fault_line : StoreFault → Told
fault_line store.DiskFault = told.Disk
fault_line (store.Stopped faults) = told.Stopped faults
fault_line store.NoMemory = told.Memory

-- the last step is a message with this line
pub record EndsSaying (last : List Step) (line : Told) : Type 0 where
  pub message : Message
  pub is : last ≡ Says message line ∷ []

-- the last step is a consultation that shows this contradiction
pub record EndsContrary (st : Standing) (last : List Step) (evidence : Evidence) : Type 0 where
  pub named : Named
  pub seen : List Seen
  pub is : last ≡ Says (Consulted named (Ok seen)) told.Contradiction ∷ []
  pub shows : ShowsHere st named.huellas seen (Err evidence)

-- How a drain ends by its last step, which stands after those after which it went on, with this many link lines among them and
-- this many lines noted at its end. Without memory a step may be left untold.
abbrev pub EndsBy : List Sealed → Standing → ℕ → ℕ → List Step → Result (Unit {0}) DrainFault → Type 0
EndsBy records st links noted last (Ok done) = (last ≡ []) × (noted ≡ length records)
EndsBy records st links noted last (Err (drain.Undelivered noted_count records_count)) =
    EndsSaying last told.Link × (links + 1 ≡ MAX_LINK_FAULTS) × (noted_count ≡ noted) × (records_count ≡ length records)
    × (noted < length records)
EndsBy records st links noted last (Err (drain.Contradiction evidence)) = EndsContrary st last evidence
EndsBy records st links noted last (Err (drain.Store store.DiskFault)) = EndsSaying last told.Disk
EndsBy records st links noted last (Err (drain.Store (store.Stopped faults))) = EndsSaying last (told.Stopped faults)
EndsBy _ _ _ _ _ _ = ⊤

-- the lines of these steps were told; without memory the last may be untold
--= Each step has its line in the text; without memory the last may be untold.
--= No body: it is of `sender/Sender::drain.drained`
abbrev pub AreTold : List Told → List Step → List Step → Result (Unit {0}) DrainFault → Type 0
AreTold turns going last answer = (turns ≡ map line_in (going ++ last))
    ⊎ ((answer ≡ Err drain.NoMemory) × (turns ≡ map line_in going))

-- What the turns of a drain did, over a chain of these records of which this many had noted lines at its start and at its end:
-- the steps after which it went on, and the last one, where there is one.
pub record Steps (tells exact : Bool) (records : List Sealed) (from to moment : ℕ) (old new : AgencyState) (turns : List Told)
    (answer : Result (Unit {0}) DrainFault) : Type 0 where
  pub going : List Step
  pub last : List Step
  pub one : length last ≤ 1
  pub are : AreSteps exact records (at_start from moment) (going ++ last)
  pub go_on : AllByRecursion (λ (s : Step). GoesOnBehind (line_in s)) going
  pub told : AreTold turns going last answer
  --= A drain told the agency the messages of its steps, and nothing else, where the agency tells them.
  --= No body: it is of `sender/Sender::drain.drained`
  pub messages : IsTrue tells →
      new.ledger.messages ≡ old.ledger.messages ++ filter_map message_in (going ++ last)
  --= The numbers of a drain's lines add up to what was noted.
  --= No body: it is of `sender/Sender::drain.drained`
  pub noted : to ≡ (after_steps (at_start from moment) (going ++ last)).noted
  -- no more link lines than the agency's faults, and fewer than eight where it goes on
  pub few : count_by is_link (map line_in going) < MAX_LINK_FAULTS
  --= A drain has no more `link` lines than the agency's count of faults rose by, unless that stands at its end.
  --= No body: it is of `sender/Sender::drain.drained`
  pub links : new.faults < greatest_u64 → count_by is_link (map line_in (going ++ last)) + old.faults ≤ new.faults
  --= A drain is done only where each record has its line; it gives up exactly at its eighth `link` line, and
  --= answers a contradiction exactly where the last message shows it, out of memory aside.
  --= No body: it is of `sender/Sender::drain.drained`
  pub ends : EndsBy records (after_steps (at_start from moment) going) (count_by is_link (map line_in going)) to last answer
