-- What one drain of a sender keeps, and what it tells of itself, over the record of its call.
use Rattle.std.specs.Prelude.{◌≡◌, ℕ, ◌+◌, ◌*◌, ◌<◌, ◌≤◌, List, length, Bool, IsErrOf, IsTrue, OnOk, Result}
use Rattle.ports.specs.Causes.{greatest_u64}
use Rattle.ports.specs.declared.sleeper.Sleeper as sleeper
use Rattle.pacing.specs.declared.pace.TheConstants.{MAX_BATCH}
use Rattle.journal.specs.declared.faults.StoreFault.TheVariants.{DiskFault}
use Rattle.shop_core.specs.History.{recs, noted, waiting}
use Rattle.agency_port.specs.declared.agency.Agency as agency
use Rattle.agency_port.specs.declared.messages.Message.{Message}
use Rattle.agency_port.specs.declared.turns.Evidence.{Evidence}
use Rattle.agency_port.specs.declared.turns.Told.{Told}
use Rattle.once_world.specs.Outbox.{Sight, history_of}
use Rattle.sender.specs.declared.answers.DrainFault.{DrainFault}
use Rattle.sender.specs.declared.answers.DrainFault.TheVariants.{Contradiction, Store, Undelivered}
use Rattle.sender.specs.declared.draining.TheConstants.{MAX_LINK_FAULTS}
use Rattle.sender.specs.Agreeing.{InOneSession, KeepsSession, AgreesTorn, AgreesIfTorn, IsCareful, KeepsReply}
use Rattle.sender.specs.Draining.{Scene, scene_of, Drained, IsBounded}
use Rattle.sender.specs.Lines.{DrainTells, SaysCalls}
use Rattle.sender.specs.Sending.{Sending}
use Rattle.sender.specs.Turning.{AgencyKind, agency_kind_of, agency_state_from}

-- One call of a drain: what agencies of its type tell of themselves, and whether its sleeper tells its moment; all that turns
-- change, before the call and after it; the lines that were told before and after; and its answer.
pub record DrainCall : Type 0 where
  pub kind : AgencyKind
  pub exact : Bool
  pub before : Scene
  pub after : Scene
  pub told : List Told
  pub told_after : List Told
  pub answer : Result (Unit {0}) DrainFault

-- this call, by what contracts say of a kind of agency and of a kind of sleeper
abbrev pub this_drain : {G Z : Type 0} → agency.Ghosts G → sleeper.Ghosts Z → G → G → Sight → Sight → Sending → Sending → Z → Z →
    List Told → List Told → Result (Unit {0}) DrainFault → DrainCall
this_drain kind rests agency agency_after sight sight_after sending sending_after sleeper sleeper_after told told_after answer = record {
  kind = agency_kind_of kind.tells kind.keeps_rules;
  exact = rests.tells;
  before = scene_of (agency_state_from kind.ledger kind.faults agency) sight sending (rests.moment sleeper);
  after = scene_of (agency_state_from kind.ledger kind.faults agency_after) sight_after sending_after (rests.moment sleeper_after);
  told = told;
  told_after = told_after;
  answer = answer;
}

-- The drain is turns that go on, and a last one. Each is told, in order, unless memory ran out for the last.
abbrev pub DrainsByTurns : DrainCall → Type 0
DrainsByTurns d = Drained d.kind d.exact d.before d.after d.told d.told_after d.answer

-- the claim, of a drain with an agency that keeps its rules, in whose session the earlier turns were
abbrev pub InItsSession : DrainCall → Type 0 → Type 0
InItsSession d Claim = InOneSession d.kind.keeps_rules d.before.sight d.after.sight d.before.agency_state.ledger
    d.before.sending.said Claim

-- With an agency that keeps its rules the shop and the agency still agree.
pub record AgreesThroughout (d : DrainCall) : Type 0 where
  pub keeps : InItsSession d (KeepsSession d.before.sight d.after.sight d.before.agency_state.ledger d.after.agency_state.ledger
      d.after.sending.said)
  -- it contradicts itself never
  pub no_contradiction : InItsSession d ((evidence : Evidence) → IsErrOf d.answer (Contradiction evidence) → ⊥)
  -- where the disk failed amid its notes, the shop agrees with them too
  pub torn : InItsSession d (IsErrOf d.answer (Store DiskFault) → AgreesTorn d.after.sight d.after.agency_state.ledger)
  -- and where its own notes left a stop, whatever is answered
  pub if_torn : InItsSession d (AgreesIfTorn d.before.sight d.after.sight d.after.agency_state.ledger)

-- Nothing is handed over again blindly, with an agency that tells what was said.
pub record NeverRepeatsBlindly (d : DrainCall) : Type 0 where
  -- no record is handed over again unless a consultation since has answered that it didn't come
  pub careful : IsTrue d.kind.tells → (past : List Message) →
      IsCareful past d.before.sight d.before.agency_state.ledger.messages d.before.sending →
      IsCareful past d.after.sight d.after.agency_state.ledger.messages d.after.sending
  -- it keeps the last reply of its session that named its batch, until a consultation answers
  pub kept : IsTrue d.kind.tells → (past : List Message) →
      KeepsReply past d.before.agency_state.ledger.messages d.before.sending.said →
      KeepsReply past d.after.agency_state.ledger.messages d.after.sending.said

-- What is told are the lines of its messages, with an agency that tells these.
pub record TellsItsMessages (d : DrainCall) : Type 0 where
  --= A drain tells each turn but the last, by the line of its one message.
  pub told : IsTrue d.kind.tells →
      DrainTells d.before.agency_state.ledger.messages d.after.agency_state.ledger.messages d.told d.told_after d.answer
  -- submissions and consultations alone were said
  pub says : IsTrue d.kind.tells → SaysCalls d.before.agency_state.ledger.messages d.after.agency_state.ledger.messages

-- A drain ends with all noted, or for its cause, after so many turns at most.
pub record DeliversOrGivesUp (d : DrainCall) : Type 0 where
  -- at Ok all is noted
  --= A drain that is Ok has noted all records.
  --= No body: its loop ends so at `Idle` alone, which `deals` says
  pub delivered : OnOk d.answer (length (noted (history_of d.after.sight)) ≡ length (recs (history_of d.after.sight)))
  -- eight turns with a link fault are eight faults of the agency
  --= A drain gives up only after eight faults of the link.
  --= No body: its loop counts them
  pub undelivered : (noted_count records_count : ℕ) → IsErrOf d.answer (Undelivered noted_count records_count) →
      d.after.agency_state.faults < greatest_u64 → d.before.agency_state.faults + MAX_LINK_FAULTS ≤ d.after.agency_state.faults
  -- where no record comes in between, the turns are bounded by the batches that waited and by the link faults
  --= With an agency that keeps its rules and agrees, and no record in between, a drain takes at most 2 B + 6 F + 8
  --= turns, with B batches that wait and F faults of the link.
  --= No body: it follows from what each turn says
  pub bound : InItsSession d (length (recs (history_of d.after.sight)) ≤ length (recs (history_of d.before.sight)) →
      (batches : ℕ) → length (waiting (history_of d.before.sight)) ≤ MAX_BATCH * batches → IsBounded batches d.told d.told_after)
