-- What the turns of one sender leave of its shop and of its agency.
use Rattle.std.specs.Prelude.{◌≡◌, ◌⊎◌, ℕ, ◌+◌, ◌<◌, ◌≤◌, List, [], ◌∷◌, ◌++◌, length, Bool, true, false, IsTrue}
use Rattle.std.specs.Prelude.{Contains, IsErrOf, Result, Ok, Err, count_by, drop, not, ⊤}
use Rattle.journal.specs.declared.faults.StoreFault.TheVariants as store
use Rattle.record_codec.specs.declared.entry.Entry.{Entry}
use Rattle.shop_core.specs.History.{noted, recs}
use Rattle.shop_core.specs.declared.items.Item.{Item}
use Rattle.shop_core.specs.declared.items.Item.TheVariants as item
use Rattle.agency_port.specs.Practice.{is_reply_to}
use Rattle.agency_port.specs.declared.answers.AgencyFault.TheVariants as agency
use Rattle.agency_port.specs.declared.messages.Message.{Message}
use Rattle.agency_port.specs.declared.messages.Message.TheVariants.{Consulted, Submitted}
use Rattle.agency_port.specs.declared.turns.Evidence.{Evidence}
use Rattle.agency_port.specs.declared.turns.Told.{Told}
use Rattle.once_world.specs.Outbox.{GainsOwnNotes, Sight, history_of}
use Rattle.sender.specs.Agreeing.{Adds, AgreesIfTorn, AreNotes, AreNotesOrTorn, InSession, IsCareful, KeepsReply, KeepsSession}
use Rattle.sender.specs.Draining.{CountsOf, Drained, Scene}
use Rattle.sender.specs.Lines.{SaysCalls}
use Rattle.sender.specs.Sending.{Sending}
use Rattle.sender.specs.Turning.{AgencyState, AgencyKind}
use Rattle.sender.specs.declared.answers.Turn.{Turn}
use Rattle.sender.specs.declared.answers.SendFault.{SendFault}
use Rattle.sender.specs.declared.answers.SendFault.TheVariants as send
use Rattle.sender.specs.declared.answers.DrainFault.{DrainFault}
use Rattle.sender.specs.declared.answers.DrainFault.TheVariants as drain
use Rattle.sender.specs.declared.draining.TheConstants.{MAX_LINK_FAULTS}
use Rattle.sender_session.specs.Noting.{NotesSaid, TornSaid}
use Rattle.sender_session.specs.Contradictions.{ShowsLast, ShowsNothing, NoneBefore, AnswersWhatIsShown}
use Rattle.agency_port.specs.Messages.{batches_in}
use Rattle.sender.specs.Dark.{AreRunsBy, NoneInTheDark}
use Rattle.pacing.specs.declared.pace.TheConstants.{MAX_BATCH}
use Rattle.ports.specs.Causes.{greatest_u64}

-- an entry that notes lines
abbrev pub AreNotesEntry : Entry → Type 0
AreNotesEntry entry = AreNotes (item.Entry entry)

-- the disk failed while notes were added, or had stopped the shop
abbrev pub IsDiskAnswer : Result (Unit {0}) DrainFault → Type 0
IsDiskAnswer (Err (drain.Store store.DiskFault)) = ⊤
IsDiskAnswer (Err (drain.Store (store.Stopped faults))) = ⊤
IsDiskAnswer _ = ⊥

-- messages came, none of which hands a record over in the dark
pub record SaysNothingBlindly (old new : List Message) : Type 0 where
  pub session : List Message
  pub is : new ≡ old ++ session
  pub never : NoneInTheDark old session

-- the batches that these messages hand over are runs of the chain that end at most MAX_BATCH past the noted lines
abbrev pub AreOfChain : List Entry → List Message → Type 0
AreOfChain entries messages = AreRunsBy (recs entries) (length (noted entries) + MAX_BATCH) (batches_in messages)

-- the last item is a stop
pub record EndsStopped (items : List Item) : Type 0 where
  pub front : List Item
  pub faults : ℕ
  pub torn : Entry
  pub is : items ≡ front ++ item.Stop faults torn ∷ []

-- how the turns of a sender end at a turn with this answer: a fault of the link is passed over
abbrev pub sending_end : Result Turn SendFault → Result (Unit {0}) DrainFault
sending_end (Ok turn) = Ok tt
sending_end (Err send.LinkFault) = Ok tt
sending_end (Err (send.Contradiction evidence)) = Err (drain.Contradiction evidence)
sending_end (Err (send.Store fault)) = Err (drain.Store fault)
sending_end (Err send.NoMemory) = Err drain.NoMemory

-- the drain gives up only where the agency failed eight times
abbrev pub FailsEightTimes : AgencyState → AgencyState → Result (Unit {0}) DrainFault → Type 0
FailsEightTimes old new answer = (noted_count records_count : ℕ) →
    IsErrOf answer (drain.Undelivered noted_count records_count) →
    new.faults < greatest_u64 → old.faults + MAX_LINK_FAULTS ≤ new.faults

-- the agency's answer to a message is a fault of the link: none came, or a reply that doesn't name the batch
abbrev pub is_link_fault : Message → Bool
is_link_fault (Submitted batch (Ok reply)) = not (is_reply_to reply batch)
is_link_fault (Submitted batch (Err agency.Failed)) = true
is_link_fault (Consulted asked (Err agency.Failed)) = true
is_link_fault _ = false

-- The drain after the tills gave up: after what was said before it, this many of its messages are faults of the link, the last
-- one too.
pub record GivesUp (old new : List Message) : Type 0 where
  pub before : List Message
  pub going : List Message
  pub last : Message
  pub is : new ≡ (old ++ before) ++ (going ++ last ∷ [])
  pub faults : count_by is_link_fault (going ++ last ∷ []) ≡ MAX_LINK_FAULTS
  pub fails : is_link_fault last ≡ true

abbrev pub IsUndelivered : Result (Unit {0}) DrainFault → Type 0
IsUndelivered answer = (noted_count : ℕ) × (records_count : ℕ) × IsErrOf answer (drain.Undelivered noted_count records_count)

-- A drain from one scene to another, by turns of its own. It gives up exactly where its last turn is answered with a fault of the
-- link: that is the eighth of its turns which is. Without memory for the line of that turn it says so instead.
pub record DrainsTo (kind : AgencyKind) (exact : Bool) (before after : Scene) (answer : Result (Unit {0}) DrainFault) : Type 0 where
  pub turns : List Told
  pub drained : Drained kind exact before after [] turns answer
  pub eighth : IsUndelivered answer → (drained.answer ≡ Err send.LinkFault) × (drained.links + 1 ≡ MAX_LINK_FAULTS)
  pub gives_up : drained.answer ≡ Err send.LinkFault → IsUndelivered answer ⊎ (answer ≡ Err drain.NoMemory)

-- this was answered by a drain that left the agency in this state, and found it at one no earlier than that
pub record AnsweredByDrain (kind : AgencyKind) (old new : AgencyState) (answer : Result (Unit {0}) DrainFault) : Type 0 where
  pub exact : Bool
  pub before : Scene
  pub after : Scene
  pub drains : DrainsTo kind exact before after answer
  pub agency_state : after.agency_state ≡ new
  pub later : old.faults ≤ before.agency_state.faults

-- The disk failed at the sender's own notes. That is the answer; or it was answered to the last turn of a drain, and memory
-- ran out for the line of that turn.
abbrev pub FailsAtNotes : AgencyKind → AgencyState → AgencyState → Result (Unit {0}) DrainFault → Type 0
FailsAtNotes kind old new answer = (answer ≡ Err (drain.Store store.DiskFault))
    ⊎ ((answer ≡ Err drain.NoMemory) × (by : AnsweredByDrain kind old new answer)
    × (by.drains.drained.answer ≡ Err (send.Store store.DiskFault)))

-- a stop that its own note recorded at the end is over the lines that the last message says
abbrev pub TearsSaid : Sight → Sight → List Message → Type 0
TearsSaid before after messages = (items : List Item) (faults : ℕ) (torn : Entry) →
    after.items ≡ items ++ item.Stop faults torn ∷ [] → Contains (drop (length before.own) after.own) (length items) →
    TornSaid (history_of after) messages torn

-- What turns of one sender add to its shop are its own notes, or the stop over them; in a session in which the agency keeps its
-- rules and agreed, and no other notes came, it still agrees, also with what may be torn, and doesn't contradict itself.
pub record AddsOwnNotes (kind : AgencyKind) (before after : Sight) (old new : AgencyState) (sending sending_then : Sending)
    (answer : Result (Unit {0}) DrainFault) : Type 0 where
  pub adds : Adds AreNotesOrTorn before after
  pub notes : Adds AreNotes before after ⊎ FailsAtNotes kind old new answer
  pub stopped : IsDiskAnswer answer → EndsStopped after.items
  --= Where an agency that keeps its rules agreed with the shop, and no notes but the sender's own came, the two
  --= still agree.
  --= No body: it is of `turn`, whose clauses keep the agreement
  pub session : IsTrue kind.keeps_rules → InSession before old.ledger sending.said → GainsOwnNotes before after →
      KeepsSession before after old.ledger new.ledger sending_then.said
  pub no_contradiction : IsTrue kind.keeps_rules → InSession before old.ledger sending.said → GainsOwnNotes before after →
      (evidence : Evidence) → IsErrOf answer (drain.Contradiction evidence) → ⊥
  pub torn : IsTrue kind.keeps_rules → InSession before old.ledger sending.said → GainsOwnNotes before after →
      AgreesIfTorn before after new.ledger

-- What turns of one sender say to an agency that tells its messages, and what is noted and answered by these.
pub record SaysByTurns (kind : AgencyKind) (before after : Sight) (old new : AgencyState) (sending sending_then : Sending)
    (answer : Result (Unit {0}) DrainFault) : Type 0 where
  --= With an agency that tells its messages, and where it was so before, no record is handed over again unless a
  --= consultation since its last submission has answered `NotSeen` for it.
  --= No body: it is of `turn`: `sender/RepeatsNothingBlindly.careful`
  pub careful : IsTrue kind.tells → (past : List Message) → IsCareful past before old.ledger.messages sending →
      IsCareful past after new.ledger.messages sending_then
  -- submissions and consultations alone were said
  pub says : IsTrue kind.tells → SaysCalls old.ledger.messages new.ledger.messages
  -- the sender keeps the last reply of its session that named its batch, until a consultation answers
  pub kept : IsTrue kind.tells → (past : List Message) → KeepsReply past old.ledger.messages sending.said →
      KeepsReply past new.ledger.messages sending_then.said
  --= A contradiction is answered only where the last message is a consultation that shows it.
  --= No body: it is of `turn`: `sender/Turned.deals`
  pub contrary : IsTrue kind.tells → (past : List Message) → KeepsReply past old.ledger.messages sending.said →
      (evidence : Evidence) → IsErrOf answer (drain.Contradiction evidence) →
      ShowsLast (history_of after) past new.ledger.messages evidence
  --= A contradiction is answered wherever the last message shows one, or memory ran out.
  pub shown : IsTrue kind.tells → (past : List Message) → KeepsReply past old.ledger.messages sending.said →
      ShowsNothing past old.ledger.messages → AnswersWhatIsShown past new.ledger.messages answer
  -- and none before it does
  pub none_before : IsTrue kind.tells → (past : List Message) → KeepsReply past old.ledger.messages sending.said →
      ShowsNothing past old.ledger.messages → NoneBefore past old.ledger.messages → NoneBefore past new.ledger.messages
  -- what is noted are the lines that the messages say, where the shop gained no other notes
  pub lines : IsTrue kind.tells → GainsOwnNotes before after →
      NotesSaid (history_of before) (history_of after) old.ledger.messages new.ledger.messages answer
  pub torn_lines : IsTrue kind.tells → TearsSaid before after new.ledger.messages

-- How turns of one sender end: the agency's count of faults never falls, and only a drain gives up, after eight faults of the link.
pub record GivesUpForCause (kind : AgencyKind) (after : Sight) (old new : AgencyState)
    (answer : Result (Unit {0}) DrainFault) : Type 0 where
  pub later : old.faults ≤ new.faults
  -- the drain gives up with the counts of the last sight, in which some record waits
  pub counts : (noted_count records_count : ℕ) → IsErrOf answer (drain.Undelivered noted_count records_count) →
      CountsOf after noted_count records_count
  pub undelivered : FailsEightTimes old new answer
  -- what was said ends in the messages of the drain that gave up
  pub gives_up : IsTrue kind.tells → (noted_count records_count : ℕ) →
      IsErrOf answer (drain.Undelivered noted_count records_count) → GivesUp old.ledger.messages new.ledger.messages
  -- and it was the eighth of that drain's turns that is answered with a fault of the link
  pub gave_up : IsUndelivered answer → AnsweredByDrain kind old new answer

-- Turns of one sender with one agency, between two sights of a shop to which others add too: what the shop gained by them and
-- that it still agrees, what was said to the agency, and how they ended.
pub record SendsOn (kind : AgencyKind) (before after : Sight) (old new : AgencyState) (sending sending_then : Sending)
    (answer : Result (Unit {0}) DrainFault) : Type 0 where
  pub shop : AddsOwnNotes kind before after old new sending sending_then answer
  pub messages : SaysByTurns kind before after old new sending sending_then answer
  pub ends : GivesUpForCause kind after old new answer
