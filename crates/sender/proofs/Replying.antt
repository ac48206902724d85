-- The reply that a sender keeps is the last one of its session that named its batch, until a consultation answers.
use Rattle.std.proofs.Common.{◌≡◌, inl, inr, ℕ, List, [], ◌∷◌, ◌++◌, refl, sym, ◌∙◌, ap, append_assoc, unwrap_or, option_map}
use Rattle.std.proofs.Common.{Option, Some, Result, Ok, Err, Bool, true, false, IsTrue}
use Rattle.record_fields.specs.Picks.{when}
use Rattle.shop_core.specs.declared.waiting.Waiting.{Waiting}
use Rattle.batches.specs.Batches.{named_of}
use Rattle.agency_port.specs.Reply.{Replied}
use Rattle.agency_port.specs.Ledger.{Ledger}
use Rattle.agency_port.specs.Laws.{KeptByOneMore}
use Rattle.agency_port.specs.Practice.{is_reply_to}
use Rattle.agency_port.specs.Sessions.{keeps}
use Rattle.agency_port.specs.declared.answers.AgencyFault.TheVariants as agency
use Rattle.agency_port.specs.declared.messages.Message.{Message}
use Rattle.agency_port.specs.declared.messages.Message.TheVariants.{Submitted, Consulted}
use Rattle.agency_port.specs.declared.turns.Told.{Told}
use Rattle.agency_port.proofs.Replies.{decides}
use Rattle.once_world.specs.Outbox.{Sight}
use Rattle.sender.specs.declared.answers.Turn.{Turn}
use Rattle.sender.specs.declared.answers.SendFault.{SendFault}
use Rattle.sender.specs.declared.answers.DrainFault.{DrainFault}
use Rattle.sender.specs.Sending.{Sending}
use Rattle.sender.specs.Turning.{Deed, Nothing, Asked, Handed, AgencyKind, AgencyState, Dealt, Ends, Turned, turn_call}
use Rattle.sender.specs.Agreeing.{KeepsReply}
use Rattle.sender.specs.Draining.{Scene, Turns, none, more, Drained}

one_more : KeptByOneMore → (past messages then : List Message) (m : Message) (said said_then : Option Replied) →
    then ≡ messages ++ m ∷ [] →
    said_then ≡ unwrap_or (keeps m) said → KeepsReply past messages said → KeepsReply past then said_then
one_more law past messages then m said said_then e is k = record {
  session = k.session ++ m ∷ [];
  is = e ∙ ap (λ (ms : List Message). ms ++ m ∷ []) k.is ∙ append_assoc past k.session (m ∷ []);
  kept = is ∙ ap (λ (o : Option Replied). unwrap_or (keeps m) o) k.kept ∙ sym (law k.session m);
}

as_before : (past messages then : List Message) (said said_then : Option Replied) → then ≡ messages → said_then ≡ said →
    KeepsReply past messages said → KeepsReply past then said_then
as_before past messages then said said_then e is k = record { session = k.session; is = e ∙ k.is; kept = is ∙ k.kept }

named_kept : (t : Bool) (reply : Replied) (said : Option Replied) → t ≡ true →
    Some reply ≡ unwrap_or (option_map Some (when t reply)) said
named_kept true reply said e = refl
named_kept false reply said e = absurd cc

stale_left : (t : Bool) (reply : Replied) (said : Option Replied) → (t ≡ true → ⊥) →
    said ≡ unwrap_or (option_map Some (when t reply)) said
stale_left true reply said never = absurd (never refl)
stale_left false reply said never = refl

deed_keeps_reply : KeptByOneMore → (past : List Message) (kind : AgencyKind) (agency_state agency_state_then : AgencyState) (look after : Sight)
    (shown : Waiting) (old new : Sending) (now : ℕ) (result : Result Turn SendFault) (deed : Deed) → IsTrue kind.tells →
    Dealt kind agency_state agency_state_then shown deed → Ends old now shown look after deed result new → KeepsReply past agency_state.ledger.messages
    old.said → KeepsReply past agency_state_then.ledger.messages new.said
deed_keeps_reply law past kind agency_state agency_state_then look after shown old new now result Nothing tells dealt ends k =
    as_before past agency_state.ledger.messages agency_state_then.ledger.messages old.said new.said (ap (λ (d : AgencyState). d.ledger.messages) dealt)
    (ap (λ (s : Sending). s.said) ends.1) k
deed_keeps_reply law past kind agency_state agency_state_then look after shown old new now result (Asked (Ok seen)) tells dealt ends k =
    one_more law past agency_state.ledger.messages agency_state_then.ledger.messages (Consulted (named_of shown.list) (Ok seen)) old.said
    new.said (dealt.1 tells).messages ends.2.2 k
deed_keeps_reply law past kind agency_state agency_state_then look after shown old new now result (Asked (Err agency.Failed)) tells dealt ends k =
    one_more law past agency_state.ledger.messages agency_state_then.ledger.messages (Consulted (named_of shown.list) (Err agency.Failed))
    old.said new.said (dealt.1 tells).messages (ap (λ (s : Sending). s.said) ends.2.1) k
deed_keeps_reply law past kind agency_state agency_state_then look after shown old new now result (Asked (Err agency.NoMemory)) tells dealt ends k
    =
    as_before past agency_state.ledger.messages agency_state_then.ledger.messages old.said new.said (ap (λ (l : Ledger). l.messages)
    (dealt.1 tells)) (ap (λ (s : Sending). s.said) ends.2.1) k
deed_keeps_reply law past kind agency_state agency_state_then look after shown old new now result (Handed (Ok reply)) tells dealt ends k =
    one_more law past agency_state.ledger.messages agency_state_then.ledger.messages (Submitted shown.list (Ok reply)) old.said new.said
    (dealt.2 tells).messages
    (elim ends.3 [
      | inl r ↦ r.said ∙ named_kept (is_reply_to reply shown.list) reply old.said ((decides reply shown.list).1 r.names)
      | inr r ↦ ap (λ (s : Sending). s.said) r.new_is ∙ stale_left (is_reply_to reply shown.list) reply old.said
          (λ t. r.names_not ((decides reply shown.list).0 t))
    ]) k
deed_keeps_reply law past kind agency_state agency_state_then look after shown old new now result (Handed (Err agency.Failed)) tells dealt ends k
    =
    one_more law past agency_state.ledger.messages agency_state_then.ledger.messages (Submitted shown.list (Err agency.Failed)) old.said new.said
    (dealt.2 tells).messages (ap (λ (s : Sending). s.said) ends.3.1) k
deed_keeps_reply law past kind agency_state agency_state_then look after shown old new now result (Handed (Err agency.NoMemory)) tells dealt ends
    k = elim (dealt.2 tells) [
      | inl s ↦ as_before past agency_state.ledger.messages agency_state_then.ledger.messages old.said new.said s.messages
          (ap (λ (t : Sending). t.said) ends.3.1) k
      | inr s ↦ one_more law past agency_state.ledger.messages agency_state_then.ledger.messages (Submitted shown.list (Err agency.NoMemory))
          old.said
          new.said s.messages (ap (λ (t : Sending). t.said) ends.3.1) k
    ]

pub turn_keeps_reply : KeptByOneMore → (past : List Message) (kind : AgencyKind) (agency_state agency_state_then : AgencyState) (before after : Sight)
    (old new : Sending) (now : ℕ) (result : Result Turn SendFault) →
    Turned (turn_call kind agency_state agency_state_then before after old new now result) → IsTrue kind.tells → KeepsReply past agency_state.ledger.messages old.said
    → KeepsReply past agency_state_then.ledger.messages new.said
turn_keeps_reply law past kind agency_state agency_state_then before after old new now result t tells k =
    deed_keeps_reply law past kind agency_state agency_state_then t.look after t.shown old new now result t.deals.deed tells t.deals.dealt
    t.deals.ends k

turns_keep_reply : KeptByOneMore → (past : List Message) (kind : AgencyKind) (exact : Bool) (start : Scene)
    (answers : List (Result Turn SendFault)) (links : ℕ) (scene : Scene) → IsTrue kind.tells → Turns kind exact start answers
    links scene →
    KeepsReply past start.agency_state.ledger.messages start.sending.said → KeepsReply past scene.agency_state.ledger.messages scene.sending.said
turns_keep_reply law past kind exact start answers links scene tells none k = k
turns_keep_reply law past kind exact start answers links scene tells (more before_answers before_links mid answer then t turn on
    few) k =
    turn_keeps_reply law past kind mid.agency_state then.agency_state mid.sight then.sight mid.sending then.sending turn.now answer turn.turned
    tells (turns_keep_reply law past kind exact start before_answers before_links mid tells t k)

pub drained_keeps_reply : KeptByOneMore → (kind : AgencyKind) (exact : Bool) (start then : Scene) (old new : List Told)
    (result : Result (Unit {0}) DrainFault) → Drained kind exact start then old new result → IsTrue kind.tells →
    (past : List Message) →
    KeepsReply past start.agency_state.ledger.messages start.sending.said → KeepsReply past then.agency_state.ledger.messages then.sending.said
drained_keeps_reply law kind exact start then old new result d tells past k =
    turn_keeps_reply law past kind d.scene.agency_state then.agency_state d.scene.sight then.sight d.scene.sending then.sending d.turn.now
    d.answer d.turn.turned tells
    (turns_keep_reply law past kind exact start d.answers d.links d.scene tells d.made k)
