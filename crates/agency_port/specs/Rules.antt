-- The rules of an agency that keeps them. A delivery of a batch goes through all its records in order: one whose Huella
-- stands among the processed ones changes nothing and is answered Duplicado, any other is added with its judgement. In any
-- submission or consultation any batches that were ever handed over may come, old ones again too.
use Rattle.std.specs.Prelude.{◌≡◌, ℕ, List, ◌∷◌, ◌++◌, Contains, Result, IfOk}
use Rattle.std.specs.List.{AllByRecursion}
use Rattle.record_fields.specs.declared.records.Sealed.{Sealed}
use Rattle.record_fields.specs.declared.lines.Line.{Line}
use Rattle.agency_rules.specs.declared.plans.PlannedVerdict.{PlannedVerdict}
use Rattle.agency_rules.specs.Pairs.{delivered_all}
use Rattle.agency_port.specs.Reply.{Replied}
use Rattle.agency_port.specs.Answers.{answers, looked}
use Rattle.agency_port.specs.Ledger.{Ledger, Names}
use Rattle.agency_port.specs.declared.answers.ReplyLine.{ReplyLine}
use Rattle.agency_port.specs.declared.answers.Seen.{Seen}
use Rattle.agency_port.specs.declared.answers.AgencyFault.{AgencyFault}

-- each of the batches was handed over
abbrev pub AreAmong : List (List Sealed) → List (List Sealed) → Type 0
AreAmong sent batches = AllByRecursion (λ (batch : List Sealed). Contains sent batch) batches

-- batches that were handed over came, one after another
pub record Delivers (verdicts : List PlannedVerdict) (sent : List (List Sealed)) (old new : List (Sealed × Line)) : Type 0 where
  pub batches : List (List Sealed)
  pub among : AreAmong sent batches
  pub is : new ≡ delivered_all verdicts old batches

-- the batch itself came too, and the lines are what its delivery answered
pub record DeliversThis (verdicts : List PlannedVerdict) (sent : List (List Sealed)) (old new : List (Sealed × Line))
    (batch : List Sealed) (lines : List ReplyLine) : Type 0 where
  pub before : List (List Sealed)
  pub after : List (List Sealed)
  pub among_before : AreAmong sent before
  pub among_after : AreAmong sent after
  pub is : new ≡ delivered_all verdicts old (before ++ batch ∷ after)
  pub said : lines ≡ answers verdicts (delivered_all verdicts old before) batch

pub record SubmitKeeps (old new : Ledger) (batch : List Sealed) (result : Result Replied AgencyFault) : Type 0 where
  pub verdicts : new.verdicts ≡ old.verdicts
  pub delivers : Delivers old.verdicts new.sent old.processed new.processed
  pub answered : IfOk result (λ (reply : Replied). Names reply batch →
      DeliversThis old.verdicts new.sent old.processed new.processed batch reply.lines)

-- each Huella is answered by the list as it is at a moment of the call
pub record LooksUp (verdicts : List PlannedVerdict) (sent : List (List Sealed)) (old new : List (Sealed × Line))
    (huellas : List (List ℕ)) (seen : List Seen) : Type 0 where
  pub before : List (List Sealed)
  pub after : List (List Sealed)
  pub among_before : AreAmong sent before
  pub among_after : AreAmong sent after
  pub is : new ≡ delivered_all verdicts old (before ++ after)
  pub said : seen ≡ looked (delivered_all verdicts old before) huellas

pub record ConsultKeeps (old new : Ledger) (huellas : List (List ℕ)) (result : Result (List Seen) AgencyFault) : Type 0 where
  pub verdicts : new.verdicts ≡ old.verdicts
  pub delivers : Delivers old.verdicts old.sent old.processed new.processed
  pub answered : IfOk result (λ (seen : List Seen). LooksUp old.verdicts old.sent old.processed new.processed huellas seen)
