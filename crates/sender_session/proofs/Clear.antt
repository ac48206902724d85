-- No message of a session shows a contradiction but the last.
use Rattle.std.proofs.Common.{◌≡◌, inl, inr, ℕ, List, [], ◌∷◌, ◌++◌, length, length-append, refl, sym, ◌∙◌, ap, subst, arith}
use Rattle.std.proofs.Common.{append_assoc, Bool, IsTrue, Result}
use Rattle.agency_port.specs.declared.messages.Message.{Message}
use Rattle.agency_port.specs.declared.turns.Told.{Told}
use Rattle.once_world.specs.Outbox.{Sight}
use Rattle.sender.specs.declared.answers.Turn.{Turn}
use Rattle.sender.specs.declared.answers.SendFault.{SendFault}
use Rattle.sender.specs.declared.answers.DrainFault.{DrainFault}
use Rattle.sender.specs.Agreeing.{KeepsReply}
use Rattle.sender.specs.Draining.{Drained, Scene, Turns, none as no_turn, more as one_turn}
use Rattle.sender.specs.Lines.{TellsOf}
use Rattle.sender.specs.Sending.{Sending}
use Rattle.sender.specs.Turning.{AgencyState, AgencyKind, Turned, turn_call}
use Rattle.sender.proofs.Telling.{turn_tells}
use Rattle.sender_session.specs.Contradictions.{NoneBefore, ShowsNothing}
use Rattle.sender_session.proofs.Contrary.{same_ends, turns_show_nothing}

-- a list with one element in front has a last one
record EndsIn (m : Message) (back : List Message) : Type 0 where
  front : List Message
  last : Message
  is : m ∷ back ≡ front ++ last ∷ []

ends_in : (m : Message) (back : List Message) → EndsIn m back
ends_in m [] = record { front = []; last = m; is = refl }
ends_in m (b ∷ back) =
    let e = ends_in b back in
    record { front = m ∷ e.front; last = e.last; is = ap (λ (ms : List Message). m ∷ ms) e.is }

-- a session without messages has no front
pub nothing_before : (past : List Message) → NoneBefore past past
nothing_before past front m back is =
    absurd (let l = ap length is in let a = length-append (past ++ front) (m ∷ back) in let b = length-append past front in
    omega arith)

-- with one message more, where the last before it shows nothing
one_more : (past old new : List Message) (last : Message) → new ≡ old ++ last ∷ [] → ShowsNothing past old → NoneBefore past old →
    NoneBefore past new
one_more past old new last said clear before front m [] is =
    let c = same_ends old (past ++ front) last m (sym said ∙ is) in
    subst (λ (ms : List Message). ShowsNothing past ms) c.0 clear
one_more past old new last said clear before front m (b ∷ back) is =
    let e = ends_in b back in
    let there : old ++ last ∷ [] ≡ ((past ++ front) ++ m ∷ e.front) ++ e.last ∷ [] = sym said ∙ is ∙
    ap (λ (ms : List Message). (past ++ front) ++ m ∷ ms) e.is ∙ sym (append_assoc (past ++ front) (m ∷ e.front) (e.last ∷ []))
    in
    before front m e.front (same_ends old ((past ++ front) ++ m ∷ e.front) last e.last there).0

tells_before : (past old new : List Message) (answer : Result Turn SendFault) → TellsOf old new answer →
    ShowsNothing past old → NoneBefore past old → NoneBefore past new
tells_before past old new answer (inl quiet) clear before = subst (λ (ms : List Message). NoneBefore past ms) (sym quiet.0) before
tells_before past old new answer (inr spoke) clear before = one_more past old new spoke.message spoke.said clear before

pub turn_before : (kind : AgencyKind) (agency_state agency_state_then : AgencyState) (before after : Sight) (old new : Sending) (now : ℕ)
    (answer : Result Turn SendFault) → Turned (turn_call kind agency_state agency_state_then before after old new now answer) → IsTrue kind.tells →
    (past : List Message) → KeepsReply past agency_state.ledger.messages old.said → ShowsNothing past agency_state.ledger.messages →
    NoneBefore past agency_state.ledger.messages → NoneBefore past agency_state_then.ledger.messages
turn_before kind agency_state agency_state_then before after old new now answer t tells past k clear none = tells_before past agency_state.ledger.messages
    agency_state_then.ledger.messages answer (turn_tells kind agency_state agency_state_then before after old new now answer t tells) clear none

turns_before : (kind : AgencyKind) (exact : Bool) (tells : IsTrue kind.tells) (past : List Message) (start : Scene)
    (answers : List (Result Turn SendFault)) (links : ℕ) (scene : Scene) → Turns kind exact start answers links scene →
    KeepsReply past start.agency_state.ledger.messages start.sending.said → ShowsNothing past start.agency_state.ledger.messages →
    NoneBefore past start.agency_state.ledger.messages → NoneBefore past scene.agency_state.ledger.messages
turns_before kind exact tells past start answers links scene no_turn k clear none = none
turns_before kind exact tells past start answers links scene (one_turn before_answers before_links mid answer then t turn on few) k
    clear none =
    tells_before past mid.agency_state.ledger.messages then.agency_state.ledger.messages answer
    (turn_tells kind mid.agency_state then.agency_state mid.sight then.sight mid.sending then.sending turn.now answer turn.turned tells)
    (turns_show_nothing kind exact tells past start before_answers before_links mid t k clear)
    (turns_before kind exact tells past start before_answers before_links mid t k clear none)

pub drained_before : (kind : AgencyKind) (exact : Bool) (start then : Scene) (old new : List Told) (result : Result (Unit {0})
    DrainFault) → Drained kind exact start then old new result → IsTrue kind.tells → (past : List Message) →
    KeepsReply past start.agency_state.ledger.messages start.sending.said → ShowsNothing past start.agency_state.ledger.messages →
    NoneBefore past start.agency_state.ledger.messages → NoneBefore past then.agency_state.ledger.messages
drained_before kind exact start then old new result d tells past k clear none =
    tells_before past d.scene.agency_state.ledger.messages then.agency_state.ledger.messages d.answer
    (turn_tells kind d.scene.agency_state then.agency_state d.scene.sight then.sight d.scene.sending then.sending d.turn.now d.answer
    d.turn.turned tells)
    (turns_show_nothing kind exact tells past start d.answers d.links d.scene d.made k clear)
    (turns_before kind exact tells past start d.answers d.links d.scene d.made k clear none)
