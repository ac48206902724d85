-- What a sender leaves of a day, while its tills run and after them.
use Rattle.std.specs.Prelude.{◌≡◌, ◌⊎◌, ℕ, ◌+◌, ◌<◌, ◌≤◌, List, ◌++◌, length, true, IsTrue, IsErrOf, Err}
use Rattle.std.specs.List.{AllByRecursion}
use Rattle.record_codec.specs.declared.entry.Entry.{Entry}
use Rattle.shop_core.specs.History.{is_record, recs, noted}
use Rattle.agency_port.specs.Messages.{batches_in}
use Rattle.agency_port.specs.declared.messages.Message.{Message}
use Rattle.agency_port.specs.declared.turns.Evidence.{Evidence}
use Rattle.once_world.specs.Agreement.{Agree}
use Rattle.sender.specs.Dark.{AreRunsBy}
use Rattle.sender.specs.Lines.{SaysCalls}
use Rattle.sender.specs.declared.answers.DrainFault.TheVariants as drain
use Rattle.sender_beside.specs.Days.{Day, torn_of}
use Rattle.sender_session.specs.Session.{AreOfChain, SaysNothingBlindly, FailsEightTimes, GivesUp, IsUndelivered}
use Rattle.sender_session.specs.Session.{AnsweredByDrain}
use Rattle.sender_session.specs.Noting.{NotesSaid, TornSaid}
use Rattle.sender_session.specs.Contradictions.{ShowsLast, NoneBefore}
use Rattle.pacing.specs.declared.pace.TheConstants.{MAX_BATCH}

-- This many lines and records were counted, some record waited, and only records came since: the history has just these lines, and
-- no fewer records.
pub record CountsWithin (entries : List Entry) (noted_count records_count : ℕ) : Type 0 where
  pub noted_is : noted_count ≡ length (noted entries)
  pub within : records_count ≤ length (recs entries)
  pub some : noted_count < records_count

-- what is torn is a till's record, or what the last message says
abbrev pub IsTornSaid : List Entry → List Message → Entry → Type 0
IsTornSaid after messages torn = (is_record torn ≡ true) ⊎ TornSaid after messages torn

-- with an agency that keeps its rules: it agrees with the history, and with what may be torn, and contradicts itself never
pub record StaysAgreed (d : Day) : Type 0 where
  pub whole : Agree d.end d.after.ledger.processed d.after.ledger.sent
  --= An agency that keeps its rules, and agreed once its session was open, agrees with the history at the end, and
  --= with what may be torn.
  --= No body: it is of `turn`, whose clauses keep the agreement
  pub torn : Agree (d.end ++ torn_of d.stop) d.after.ledger.processed d.after.ledger.sent
  --= With an agency that keeps its rules, and agreed once its session was open, no contradiction is found.
  --= No body: it is of `turn`, whose clauses refuse one that isn't shown
  pub no_contradiction : (evidence : Evidence) → IsErrOf d.answer (drain.Contradiction evidence) → ⊥

-- what a new sender does while tills work and after them, over an agency whose session is open
pub record SendsBeside (d : Day) : Type 0 where
  -- where shop and agency agreed they still do
  pub agreement : IsTrue d.kind.keeps_rules → Agree d.start d.opened.ledger.processed d.opened.ledger.sent → StaysAgreed d
  -- no record is handed over again unless a consultation since has answered that it wasn't seen
  pub careful : IsTrue d.kind.tells →
      AreRunsBy (recs d.start) (length (noted d.start) + MAX_BATCH) (batches_in d.opened.ledger.messages) →
      SaysNothingBlindly d.opened.ledger.messages d.after.ledger.messages
  -- where all batches were such runs of the chain they are at the end
  pub runs : IsTrue d.kind.tells → AreOfChain d.start d.opened.ledger.messages → AreOfChain d.end d.after.ledger.messages
  --= To an agency that tells its messages, submissions and consultations alone are said in the session.
  --= No body: it is of `turn`, which says nothing else
  pub says : IsTrue d.kind.tells → SaysCalls d.opened.ledger.messages d.after.ledger.messages
  -- a contradiction is answered exactly where the last message is a consultation that shows it, but for lack of memory
  pub contrary : IsTrue d.kind.tells → (evidence : Evidence) → IsErrOf d.answer (drain.Contradiction evidence) →
      ShowsLast d.end d.opened.ledger.messages d.after.ledger.messages evidence
  pub shown : IsTrue d.kind.tells → (evidence : Evidence) →
      ShowsLast d.end d.opened.ledger.messages d.after.ledger.messages evidence →
      IsErrOf d.answer (drain.Contradiction evidence) ⊎ (d.answer ≡ Err drain.NoMemory)
  --= No message of a session before its last shows a contradiction.
  --= No body: it is of `sender_session/SaysByTurns.shown`
  pub none_before : IsTrue d.kind.tells → NoneBefore d.opened.ledger.messages d.after.ledger.messages
  -- the lines that were noted are those that the messages say, each message of the first records that waited
  pub lines : IsTrue d.kind.tells → NotesSaid d.start d.end d.opened.ledger.messages d.after.ledger.messages d.answer
  --= What is torn in a day is a till's record, or the lines that the last message says.
  --= No body: it is of `turn`, of `Shop::ask` and of `Store::note`
  pub torn_lines : IsTrue d.kind.tells → AllByRecursion (IsTornSaid d.end d.after.ledger.messages) (torn_of d.stop)
  pub later : d.opened.faults ≤ d.after.faults
  --= The drain after the tills gives up only where some record of the history at the end waits, and with its count
  --= of noted lines.
  --= No body: it is of `Sender::drain`, whose clause `ends` says when it gives up
  pub counts : (noted_count records_count : ℕ) → IsErrOf d.answer (drain.Undelivered noted_count records_count) →
      CountsWithin d.end noted_count records_count
  pub undelivered : FailsEightTimes d.opened d.after d.answer
  --= Where a session gives up, its messages end in those of a drain, of which eight are faults of the link, the
  --= last one too.
  --= No body: it is of `Sender::drain`, whose clause `ends` says when it gives up
  pub gives_up : IsTrue d.kind.tells → (noted_count records_count : ℕ) →
      IsErrOf d.answer (drain.Undelivered noted_count records_count) → GivesUp d.opened.ledger.messages d.after.ledger.messages
  --= A session gives up at the eighth turn of the drain after the tills that is answered with a fault of the link.
  --= No body: it is of `sender_beside/drain_rest.turns`
  pub gave_up : IsUndelivered d.answer → AnsweredByDrain d.kind d.opened d.after d.answer
