-- What a drain keeps.
use Rattle.std.proofs.Common.{◌≡◌, inl, inr, List, [], ◌∷◌, ◌++◌, sym, subst, length, Bool, Result, Err, IsTrue}
use Rattle.std.specs.Prelude.{IsErrOf}
use Rattle.record_codec.specs.declared.entry.Entry.{Entry}
use Rattle.record_codec.specs.declared.entry.Entry.TheVariants.{Notes as notes_of}
use Rattle.journal.specs.declared.faults.StoreFault.TheVariants as store
use Rattle.shop_core.specs.History.{noted}
use Rattle.agency_port.specs.Ledger.{Ledger}
use Rattle.agency_port.specs.declared.messages.Message.{Message}
use Rattle.agency_port.specs.declared.turns.Evidence.{Evidence}
use Rattle.agency_port.specs.declared.turns.Told.{Told}
use Rattle.once_world.specs.Agreement.{Agree}
use Rattle.once_world.specs.Outbox.{Sight, history_of}
use Rattle.sender.specs.declared.answers.Turn.{Turn}
use Rattle.sender.specs.declared.answers.SendFault.{SendFault}
use Rattle.sender.specs.declared.answers.SendFault.TheVariants as send
use Rattle.sender.specs.declared.answers.DrainFault.{DrainFault}
use Rattle.sender.specs.declared.answers.DrainFault.TheVariants as drain
use Rattle.sender.specs.Turning.{AgencyKind}
use Rattle.sender.specs.Agreeing.{InOneSession, KeepsAgreement, KeepsSession, Gains, AgreesTorn, IsCareful}
use Rattle.sender.specs.Draining.{Scene, Drained, EndsWith}
use Rattle.sender.specs.Known.{Known}
use Rattle.sender.proofs.Careful.{AreLinked, turn_careful}
use Rattle.sender.proofs.Growing.{gains_each}
use Rattle.sender.proofs.Sessions.{is_turn_growth, turns_growth, one_keeps, turns_keep, turns_careful}

pub last : Known → (kind : AgencyKind) (exact : Bool) (start then : Scene) (old new : List Told) (result : Result (Unit {0}) DrainFault)
    (d : Drained kind exact start then old new result) → (IsTrue kind.keeps_rules → IsTrue kind.tells) →
    InOneSession kind.keeps_rules start.sight then.sight start.agency_state.ledger start.sending.said
    (KeepsSession start.sight then.sight start.agency_state.ledger then.agency_state.ledger then.sending.said × KeepsAgreement d.scene.sight
    then.sight d.scene.agency_state.ledger then.agency_state.ledger then.sending.said d.answer)
last known kind exact start then old new result d tells keeps session gains =
    let each = gains_each start.sight d.scene.sight then.sight (turns_growth kind exact start d.answers d.links d.scene d.made)
    (is_turn_growth kind exact d.scene then d.answer d.turn) gains in
    one_keeps known kind exact start d.scene then d.answer tells keeps d.turn each.1 (turns_keep known kind exact start d.answers
    d.links d.scene tells d.made keeps session each.0)

pub drained_keeps : Known → (kind : AgencyKind) (exact : Bool) (start then : Scene) (old new : List Told)
    (result : Result (Unit {0}) DrainFault) → Drained kind exact start then old new result →
    (IsTrue kind.keeps_rules → IsTrue kind.tells) →
    InOneSession kind.keeps_rules start.sight then.sight start.agency_state.ledger start.sending.said
    (KeepsSession start.sight then.sight start.agency_state.ledger then.agency_state.ledger then.sending.said)
drained_keeps known kind exact start then old new result d tells keeps session gains =
    (last known kind exact start then old new result d tells keeps session gains).0

pub drained_without : Known → (kind : AgencyKind) (exact : Bool) (start then : Scene) (old new : List Told)
    (result : Result (Unit {0}) DrainFault) → Drained kind exact start then old new result →
    (IsTrue kind.keeps_rules → IsTrue kind.tells) →
    InOneSession kind.keeps_rules start.sight then.sight start.agency_state.ledger start.sending.said
    ((evidence : Evidence) → IsErrOf result (drain.Contradiction evidence) → ⊥)
drained_without known kind exact start then old new result d tells keeps session gains evidence is =
    let k = (last known kind exact start then old new result d tells keeps session gains).1 in
    elim d.ends [
      | inl p ↦ subst (λ (r : Result Turn SendFault). Gains (history_of d.scene.sight ++ k.records) then.agency_state.ledger.processed
          then.agency_state.ledger.sent then.sight r)
          (subst (λ (r : Result (Unit {0}) DrainFault). EndsWith d.links then.sight d.answer r) is p.1) k.gains
      | inr p ↦ (let a = p.0 in let b = is in absurd cc)
    ]

pub drained_careful : AreLinked → (kind : AgencyKind) (exact : Bool) (start then : Scene) (old new : List Told)
    (result : Result (Unit {0}) DrainFault) → Drained kind exact start then old new result → IsTrue kind.tells →
    (past : List Message) →
    IsCareful past start.sight start.agency_state.ledger.messages start.sending → IsCareful past then.sight then.agency_state.ledger.messages
    then.sending
drained_careful linked kind exact start then old new result d tells past care =
    turn_careful linked past kind d.scene.agency_state then.agency_state d.scene.sight then.sight d.scene.sending then.sending d.turn.now d.answer
    d.turn.turned tells (turns_careful linked past kind exact start d.answers d.links d.scene tells d.made care)

torn_by : (entries : List Entry) (after : Sight) (new : Ledger) (answer : Result Turn SendFault) →
    answer ≡ Err (send.Store store.DiskFault) → Gains entries new.processed new.sent after answer → AgreesTorn after new
torn_by entries after new answer e gains =
    let n = subst (λ (r : Result Turn SendFault). Gains entries new.processed new.sent after r) e gains in
    record {
      items = n.torn.0.0;
      faults = n.torn.0.1.0;
      torn = notes_of (length (noted entries)) n.lines;
      is = n.torn.0.1.1;
      agree = subst (λ (es : List Entry). Agree (es ++ notes_of (length (noted entries)) n.lines ∷ []) new.processed new.sent)
          (sym n.is) n.torn.1;
    }

pub drained_torn : Known → (kind : AgencyKind) (exact : Bool) (start then : Scene) (old new : List Told)
    (result : Result (Unit {0}) DrainFault) → Drained kind exact start then old new result →
    (IsTrue kind.keeps_rules → IsTrue kind.tells) →
    InOneSession kind.keeps_rules start.sight then.sight start.agency_state.ledger start.sending.said
    (IsErrOf result (drain.Store store.DiskFault) → AgreesTorn then.sight then.agency_state.ledger)
drained_torn known kind exact start then old new result d tells keeps session gains is =
    let k = (last known kind exact start then old new result d tells keeps session gains).1 in
    elim d.ends [
      | inl p ↦ torn_by (history_of d.scene.sight ++ k.records) then.sight then.agency_state.ledger d.answer
          (subst (λ (r : Result (Unit {0}) DrainFault). EndsWith d.links then.sight d.answer r) is p.1) k.gains
      | inr p ↦ (let a = p.0 in let b = is in absurd cc)
    ]
