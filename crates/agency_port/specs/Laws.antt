-- What holds of every list of messages, and of every answer to a batch.
use Rattle.std.specs.Prelude.{◌≡◌, ◌↔◌, ℕ, List, [], ◌∷◌, ◌++◌, length, map, slice_get, option_map, Some, None, unwrap_or, Bool}
use Rattle.std.specs.Prelude.{true, false, bytes_eq}
use Rattle.std.specs.List.{AllByRecursion, IsDistinct, list_any}
use Rattle.record_fields.specs.declared.records.Sealed.{Sealed}
use Rattle.record_fields.specs.declared.lines.Line.{Line}
use Rattle.agency_rules.specs.declared.plans.Plan.{Plan}
use Rattle.agency_rules.specs.declared.plans.PlannedVerdict.{PlannedVerdict}
use Rattle.agency_rules.specs.Pairs.{line_of, delivered, has_come}
use Rattle.batches.specs.Batches.{huellas_of}
use Rattle.agency_port.specs.Reply.{Replied}
use Rattle.agency_port.specs.Answers.{answers, is_duplicado}
use Rattle.agency_port.specs.Sessions.{is_begin, session_of, MayGo, dark, keeps, kept_reply, IsKept}
use Rattle.agency_port.specs.declared.answers.ReplyLine.TheVariants.{First}
use Rattle.agency_port.specs.declared.messages.Message.{Message}
use Rattle.agency_port.specs.declared.messages.Message.TheVariants.{Begun}

-- what stands after an opening, and holds no other one, is the session
abbrev pub SessionFollowsItsBegin : Type 0
SessionFollowsItsBegin = (past session : List Message) (plan : Plan) (pairs : ℕ) → list_any is_begin session ≡ false →
    session_of (past ++ Begun plan pairs ∷ session) ≡ session

-- any other message goes on with the session
abbrev pub SessionGoesOn : Type 0
SessionGoesOn = (messages : List Message) (m : Message) → is_begin m ≡ false →
    session_of (messages ++ m ∷ []) ≡ session_of messages ++ m ∷ []

-- the session stands last among the messages
abbrev pub SessionStandsLast : Type 0
SessionStandsLast = (messages : List Message) → (past : List Message) × (messages ≡ past ++ session_of messages)

-- a record is out of the dark exactly where it may be handed over
abbrev pub MayGoUnlessDark : Type 0
MayGoUnlessDark = (messages : List Message) (huella : List ℕ) → (dark messages huella ≡ false) ↔ MayGo huella messages

abbrev pub KeptIsTheLastNamed : Type 0
KeptIsTheLastNamed = (messages : List Message) (reply : Replied) → (kept_reply messages ≡ Some reply) ↔ IsKept messages reply

abbrev pub KeptByOneMore : Type 0
KeptByOneMore = (messages : List Message) (m : Message) →
    kept_reply (messages ++ m ∷ []) ≡ unwrap_or (keeps m) (kept_reply messages)

-- two batches in one are answered as one after the other
abbrev pub AnswersJoin : Type 0
AnswersJoin = (verdicts : List PlannedVerdict) (processed : List (Sealed × Line)) (a b : List Sealed) →
    answers verdicts processed (a ++ b) ≡ answers verdicts processed a ++ answers verdicts (delivered verdicts processed a) b

-- a record is answered Duplicado exactly where its Huella stood in the list or earlier in the batch
abbrev pub DuplicadoWhereItCame : Type 0
DuplicadoWhereItCame = (verdicts : List PlannedVerdict) (processed : List (Sealed × Line)) (before after : List Sealed)
    (s : Sealed) →
    option_map is_duplicado (slice_get (answers verdicts processed (before ++ s ∷ after)) (length before))
    ≡ Some (has_come processed before s.huella)

-- where no Huella of a batch stands in the list, and all differ, every answer is a first one
abbrev pub AllFirstWhereNoneCame : Type 0
AllFirstWhereNoneCame = (verdicts : List PlannedVerdict) (processed : List (Sealed × Line)) (batch : List Sealed) →
    AllByRecursion (λ (s : Sealed). line_of processed s.huella ≡ None) batch → IsDistinct bytes_eq (huellas_of batch) →
    (lines : List Line) × (answers verdicts processed batch ≡ map First lines)
