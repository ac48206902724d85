-- What turns keep, one after another.
use Rattle.std.proofs.Common.{ℕ, List, [], ◌++◌, sym, ◌∙◌, ap, append_assoc, append-nil, Bool, Result, IsTrue}
use Rattle.agency_port.specs.declared.messages.Message.{Message}
use Rattle.shop_core.specs.Prefix.{IsPrefix}
use Rattle.once_world.specs.Outbox.{GainsOwnNotes}
use Rattle.sender.specs.declared.answers.Turn.{Turn}
use Rattle.sender.specs.declared.answers.SendFault.{SendFault}
use Rattle.sender.specs.Turning.{AgencyKind}
use Rattle.sender.specs.Agreeing.{InOneSession, KeepsAgreement, KeepsSession, IsCareful}
use Rattle.sender.specs.Draining.{Scene, Turns, none, more, IsTurn}
use Rattle.sender.specs.Known.{Known}
use Rattle.sender.proofs.Keeping.{turn_keeps}
use Rattle.sender.proofs.Careful.{AreLinked, turn_careful}
use Rattle.sender.proofs.Growing.{Growth, no_growth, growth_then, turn_growth, gains_each}

pub is_turn_growth : (kind : AgencyKind) (exact : Bool) (before after : Scene) (answer : Result Turn SendFault) →
    IsTurn kind exact before after answer → Growth before.sight after.sight
is_turn_growth kind exact before after answer t = turn_growth kind before.agency_state after.agency_state before.sight after.sight before.sending
    after.sending t.now answer t.turned

pub turns_growth : (kind : AgencyKind) (exact : Bool) (start : Scene) (answers : List (Result Turn SendFault)) (links : ℕ)
    (scene : Scene) → Turns kind exact start answers links scene → Growth start.sight scene.sight
turns_growth kind exact start answers links scene none = no_growth start.sight
turns_growth kind exact start answers links scene (more before_answers before_links mid answer then t turn on few) =
    growth_then start.sight mid.sight then.sight (turns_growth kind exact start before_answers before_links mid t)
    (is_turn_growth kind exact mid then answer turn)

prefix_same : {A : Type 0} (xs : List A) → IsPrefix xs xs
prefix_same xs = record { rest = []; is = sym (append-nil xs) }

prefix_then : {A : Type 0} (xs ys zs : List A) → IsPrefix xs ys → IsPrefix ys zs → IsPrefix xs zs
prefix_then xs ys zs p q = record {
  rest = p.rest ++ q.rest;
  is = q.is ∙ ap (λ t. t ++ q.rest) p.is ∙ append_assoc xs p.rest
      q.rest;
}

abbrev Keeps : Scene → Scene → Type 0
Keeps start scene = KeepsSession start.sight scene.sight start.agency_state.ledger scene.agency_state.ledger scene.sending.said

pub one_keeps : Known → (kind : AgencyKind) (exact : Bool) (start mid then : Scene) (answer : Result Turn SendFault) →
    (IsTrue kind.keeps_rules → IsTrue kind.tells) → IsTrue kind.keeps_rules → IsTurn kind exact mid then answer →
    GainsOwnNotes mid.sight then.sight → Keeps start mid →
    Keeps start then × KeepsAgreement mid.sight then.sight mid.agency_state.ledger then.agency_state.ledger then.sending.said answer
one_keeps known kind exact start mid then answer tells keeps turn gains k =
    let t = turn_keeps known kind mid.agency_state then.agency_state mid.sight then.sight mid.sending then.sending turn.now answer turn.turned
    tells keeps k.session gains in (
      record {
        session = t.session;
        begins = prefix_then start.agency_state.ledger.processed mid.agency_state.ledger.processed
            then.agency_state.ledger.processed k.begins t.begins;
      },
      t,
    )

pub turns_keep : Known → (kind : AgencyKind) (exact : Bool) (start : Scene) (answers : List (Result Turn SendFault)) (links : ℕ)
    (scene : Scene) → (IsTrue kind.keeps_rules → IsTrue kind.tells) → Turns kind exact start answers links scene →
    InOneSession kind.keeps_rules start.sight scene.sight start.agency_state.ledger start.sending.said (Keeps start scene)
turns_keep known kind exact start answers links scene tells none keeps session gains =
    record { session = session; begins = prefix_same start.agency_state.ledger.processed }
turns_keep known kind exact start answers links scene tells (more before_answers before_links mid answer then t turn on few)
    keeps session gains =
    let each = gains_each start.sight mid.sight then.sight (turns_growth kind exact start before_answers before_links mid t)
    (is_turn_growth kind exact mid then answer turn) gains in
    (one_keeps known kind exact start mid then answer tells keeps turn each.1 (turns_keep known kind exact start before_answers
    before_links mid tells t keeps session each.0)).0

pub turns_careful : AreLinked → (past : List Message) (kind : AgencyKind) (exact : Bool) (start : Scene)
    (answers : List (Result Turn SendFault)) (links : ℕ) (scene : Scene) → IsTrue kind.tells → Turns kind exact start answers
    links scene →
    IsCareful past start.sight start.agency_state.ledger.messages start.sending → IsCareful past scene.sight scene.agency_state.ledger.messages
    scene.sending
turns_careful linked past kind exact start answers links scene tells none care = care
turns_careful linked past kind exact start answers links scene tells (more before_answers before_links mid answer then t turn on
    few) care =
    turn_careful linked past kind mid.agency_state then.agency_state mid.sight then.sight mid.sending then.sending turn.now answer turn.turned
    tells (turns_careful linked past kind exact start before_answers before_links mid tells t care)
