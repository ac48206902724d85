-- What one turn of a sender keeps, and what it tells of itself, over the record of its call.
use Rattle.std.specs.Prelude.{◌≡◌, ◌≤◌, List, IsErrOf, IsTrue}
use Rattle.ports.specs.Causes.{Rose}
use Rattle.journal.specs.declared.faults.StoreFault.TheVariants.{DiskFault}
use Rattle.agency_port.specs.declared.messages.Message.{Message}
use Rattle.sender.specs.declared.answers.SendFault.TheVariants.{LinkFault, Store}
use Rattle.sender.specs.Agreeing.{InOneSession, KeepsAgreement, AgreesIfTorn, IsCareful, KeepsReply, Adds, AreNotes}
use Rattle.sender.specs.Agreeing.{AreNotesOrTorn}
use Rattle.sender.specs.Lines.{TellsOf, SaysCalls}
use Rattle.sender.specs.Turning.{TurnCall}

-- the claim, of a turn with an agency that keeps its rules, in whose session the earlier turns were
abbrev pub InItsSession : TurnCall → Type 0 → Type 0
InItsSession t Claim = InOneSession t.kind.keeps_rules t.sight t.sight_after t.agency_state.ledger t.sending.said Claim

-- With an agency that keeps its rules the shop and the agency still agree.
pub record StaysInAgreement (t : TurnCall) : Type 0 where
  -- what is noted are the agency's next lines, and it contradicts itself never
  --= With an agency that keeps its rules, each turn keeps shop and agency in agreement, notes only the agency's next
  --= lines, and never finds a contradiction.
  --= No body: it follows from `deals` and the agency's rules
  pub keeps : InItsSession t
      (KeepsAgreement t.sight t.sight_after t.agency_state.ledger t.agency_state_after.ledger t.sending_after.said t.answer)
  -- where the disk failed amid its notes, the shop agrees with them too
  pub torn : InItsSession t (AgreesIfTorn t.sight t.sight_after t.agency_state_after.ledger)

-- Nothing is handed over again blindly, with an agency that tells what was said.
pub record RepeatsNothingBlindly (t : TurnCall) : Type 0 where
  -- no record is handed over again unless a consultation since has answered that it didn't come
  --= Where an agency tells its messages, no record is handed over a second time unless a consultation since has
  --= answered that it wasn't seen.
  pub careful : IsTrue t.kind.tells → (past : List Message) → IsCareful past t.sight t.agency_state.ledger.messages t.sending →
      IsCareful past t.sight_after t.agency_state_after.ledger.messages t.sending_after
  -- it keeps the last reply of its session that named its batch, until a consultation answers
  pub kept : IsTrue t.kind.tells → (past : List Message) → KeepsReply past t.agency_state.ledger.messages t.sending.said →
      KeepsReply past t.agency_state_after.ledger.messages t.sending_after.said

-- A link fault comes only where the agency's count of faults rose, and that falls never.
pub record LinkFaultHasCause (t : TurnCall) : Type 0 where
  pub later : t.agency_state.faults ≤ t.agency_state_after.faults
  --= A link fault comes only where the agency's count of faults rose.
  --= No body: it is the agency's own answer
  pub rose : IsErrOf t.answer LinkFault → Rose t.agency_state.faults t.agency_state_after.faults

-- What the layers above need of a turn. The last two are what no call changes of its shop, before and after.
pub record ServesAbove (t : TurnCall) {F : Type 0} (lasting lasting_after : F) : Type 0 where
  -- what is told of it is the line of its one message to the agency
  pub told : IsTrue t.kind.tells → TellsOf t.agency_state.ledger.messages t.agency_state_after.ledger.messages t.answer
  pub says : IsTrue t.kind.tells → SaysCalls t.agency_state.ledger.messages t.agency_state_after.ledger.messages
  -- what its own notes added are notes, or the stop over them; and notes alone where the disk didn't fail amid them
  pub adds : Adds AreNotesOrTorn t.sight t.sight_after
  pub notes : (IsErrOf t.answer (Store DiskFault) → ⊥) → Adds AreNotes t.sight t.sight_after
  pub fixed : lasting_after ≡ lasting
