-- What a drain that gave up said last.
use Rattle.std.proofs.Common.{◌≡◌, inl, inr, ℕ, ◌+◌, List, [], ◌∷◌, ◌++◌, refl, sym, ◌∙◌, ap, subst, append_assoc, append-nil}
use Rattle.std.proofs.Common.{arith, Bool, true, false, IsTrue, Option, Result, Ok, Err}
use Rattle.std.specs.Prelude.{IsErrOf, count_by, not}
use Rattle.std.specs.List.{AllByRecursion}
use Rattle.std.proofs.lemmas.List.Sums.{sum_by-append}
use Rattle.record_fields.specs.declared.records.Sealed.{Sealed}
use Rattle.agency_port.specs.Reply.{Replied}
use Rattle.agency_port.specs.Practice.{is_reply_to}
use Rattle.agency_port.specs.declared.answers.AgencyFault.TheVariants as agency
use Rattle.agency_port.specs.declared.messages.Message.{Message}
use Rattle.agency_port.specs.declared.messages.Message.TheVariants.{Begun, Submitted, Consulted}
use Rattle.agency_port.specs.declared.turns.Told.{Told}
use Rattle.agency_port.specs.declared.turns.Told.TheVariants as told
use Rattle.agency_port.proofs.Replies.{decides}
use Rattle.sender.specs.declared.answers.Turn.{Turn}
use Rattle.sender.specs.declared.answers.Turn.TheVariants.{Idle, WaitUntil, Noted, Cleared, Doubt}
use Rattle.sender.specs.declared.answers.SendFault.{SendFault}
use Rattle.sender.specs.declared.answers.SendFault.TheVariants.{LinkFault, Contradiction, Store, NoMemory}
use Rattle.sender.specs.declared.answers.DrainFault.{DrainFault}
use Rattle.sender.specs.declared.answers.DrainFault.TheVariants as drain
use Rattle.sender.specs.declared.draining.TheConstants.{MAX_LINK_FAULTS}
use Rattle.sender.specs.Draining.{Drained, EndsWith, GoesOn, Scene, Turns, is_link, links_with, list_of, more, none, told_in}
use Rattle.sender.specs.Draining.{told_list}
use Rattle.sender.specs.Lines.{IsLineOf, IsQuiet, TellsOf}
use Rattle.sender.specs.Turning.{AgencyKind}
use Rattle.sender.proofs.Telling.{turn_tells}
use Rattle.sender_session.specs.Session.{GivesUp, is_link_fault}
use Rattle.sender_session.specs.Steps.{GoesOnBehind}
use Rattle.sender_session.proofs.Walking.{goes_lines, link_count}

not_true : (t : Bool) → (t ≡ true → ⊥) → not t ≡ true
not_true true never = absurd (never refl)
not_true false never = refl

-- the agency's answer is a fault of the link where its line is
submission_fault : (batch : List Sealed) (reply : Replied) (line : Told) → IsLineOf (Submitted batch (Ok reply)) line →
    GoesOnBehind line → not (is_reply_to reply batch) ≡ is_link line
submission_fault batch reply told.Link is on = not_true (is_reply_to reply batch) (λ t. is ((decides reply batch).0 t))
submission_fault batch reply (told.Doubt place) is on = ap not ((decides reply batch).1 is.0)
submission_fault batch reply (told.Noted n) is on = ap not ((decides reply batch).1 is.0.0)
submission_fault batch reply told.Cleared is on = absurd is
submission_fault batch reply (told.Wait at) is on = absurd is
submission_fault batch reply told.Contradiction is on = absurd on
submission_fault batch reply told.Disk is on = absurd on
submission_fault batch reply (told.Stopped faults) is on = absurd on
submission_fault batch reply told.Memory is on = absurd on

message_fault : (message : Message) (printed : Told) → IsLineOf message printed → GoesOnBehind printed → is_link_fault message ≡
    is_link printed
message_fault (Begun plan pairs) printed is on = absurd is
message_fault (Submitted batch (Ok reply)) printed is on = submission_fault batch reply printed is on
message_fault (Submitted batch (Err agency.Failed)) printed is on = sym (ap is_link is)
message_fault (Submitted batch (Err agency.NoMemory)) printed is on = sym (ap is_link is)
message_fault (Consulted asked (Ok seen)) told.Link is on = absurd is
message_fault (Consulted asked (Ok seen)) (told.Doubt place) is on = absurd is
message_fault (Consulted asked (Ok seen)) (told.Noted n) is on = refl
message_fault (Consulted asked (Ok seen)) told.Cleared is on = refl
message_fault (Consulted asked (Ok seen)) (told.Wait at) is on = absurd is
message_fault (Consulted asked (Ok seen)) told.Contradiction is on = absurd on
message_fault (Consulted asked (Ok seen)) told.Disk is on = absurd on
message_fault (Consulted asked (Ok seen)) (told.Stopped faults) is on = absurd on
message_fault (Consulted asked (Ok seen)) told.Memory is on = absurd on
message_fault (Consulted asked (Err agency.Failed)) printed is on = sym (ap is_link is)
message_fault (Consulted asked (Err agency.NoMemory)) printed is on = sym (ap is_link is)

-- messages, this many of which are faults of the link
record SaidWith (old new : List Message) (links : ℕ) : Type 0 where
  messages : List Message
  said : new ≡ old ++ messages
  faults : count_by is_link_fault messages ≡ links

-- one element counts for another where the tests agree
counts_alike : {X Y : Type 0} (p : X → Bool) (q : Y → Bool) (x : X) (y : Y) → p x ≡ q y →
    count_by p (x ∷ []) ≡ count_by q (y ∷ [])
counts_alike p q x y same = grind (arith, same)

quiet_links : (links : ℕ) (answer : Result Turn SendFault) → IsQuiet (told_in answer) → links_with links answer ≡ links
quiet_links links (Ok (Idle records)) quiet = refl
quiet_links links (Ok (WaitUntil at)) quiet = refl
quiet_links links (Ok (Noted n)) quiet = refl
quiet_links links (Ok Cleared) quiet = refl
quiet_links links (Ok (Doubt place)) quiet = refl
quiet_links links (Err LinkFault) quiet = absurd quiet
quiet_links links (Err (Contradiction evidence)) quiet = refl
quiet_links links (Err (Store fault)) quiet = refl
quiet_links links (Err NoMemory) quiet = refl

one_more : (old mid new : List Message) (links : ℕ) (answer : Result Turn SendFault) → SaidWith old mid links → GoesOn answer →
    TellsOf mid new answer → SaidWith old new (links_with links answer)
one_more old mid new links answer s on (inl q) = record {
  messages = s.messages;
  said = q.0 ∙ s.said;
  faults = s.faults ∙ sym (quiet_links links answer q.1);
}
one_more old mid new links answer s on (inr p) =
    let goes : AllByRecursion GoesOnBehind (p.line ∷ []) = subst (λ (o : Option Told). AllByRecursion GoesOnBehind (list_of o))
    p.told (goes_lines answer on (told_in answer) refl) in
    let lines : told_list answer ≡ p.line ∷ [] = ap (λ (o : Option Told). list_of o) p.told in
    let more : links_with links answer ≡ links + count_by is_link (p.line ∷ []) = link_count links answer ∙
    ap (λ (ls : List Told). links + count_by is_link ls) lines in
    let one : count_by is_link_fault (p.message ∷ []) ≡ count_by is_link (p.line ∷ []) = counts_alike is_link_fault is_link
    p.message p.line (message_fault p.message p.line p.of_it goes.0) in
    let split : count_by is_link_fault (s.messages ++ p.message ∷ []) ≡ count_by is_link_fault s.messages + count_by
    is_link_fault (p.message ∷ []) = sum_by-append _ s.messages (p.message ∷ []) in
    let before = s.faults in
    record {
      messages = s.messages ++ p.message ∷ [];
      said = p.said ∙ ap (λ (ms : List Message). ms ++ p.message ∷ []) s.said ∙ append_assoc old s.messages (p.message ∷ []);
      faults = omega (arith, more, one, split, before);
    }

turns_say : (kind : AgencyKind) (exact : Bool) (begin : Scene) (answers : List (Result Turn SendFault)) (links : ℕ) (scene : Scene) →
    IsTrue kind.tells → Turns kind exact begin answers links scene →
    SaidWith begin.agency_state.ledger.messages scene.agency_state.ledger.messages links
turns_say kind exact begin answers links scene tells none = record {
  messages = [];
  said = sym (append-nil begin.agency_state.ledger.messages);
  faults = refl;
}
turns_say kind exact begin answers links scene tells (more before_answers before_links mid answer then t turn on below) =
    one_more begin.agency_state.ledger.messages mid.agency_state.ledger.messages then.agency_state.ledger.messages before_links answer
    (turns_say kind exact begin before_answers before_links mid tells t) on
    (turn_tells kind mid.agency_state then.agency_state mid.sight then.sight mid.sending then.sending turn.now answer turn.turned tells)

-- the last turn is a fault of the link after these
last_fault : (old mid new : List Message) (links : ℕ) → SaidWith old mid links → links + 1 ≡ MAX_LINK_FAULTS →
    TellsOf mid new (Err LinkFault) → GivesUp old new
last_fault old mid new links s eight (inl q) = absurd q.1
last_fault old mid new links s eight (inr p) =
    let line : told.Link ≡ p.line = (let e = p.told in cc) in
    let fails : is_link_fault p.message ≡ true = message_fault p.message p.line p.of_it (subst GoesOnBehind line tt) ∙
    sym (ap is_link line) in
    let one : count_by is_link_fault (p.message ∷ []) ≡ count_by is_link (told.Link ∷ []) = counts_alike is_link_fault is_link
    p.message told.Link fails in
    let single : count_by is_link (told.Link ∷ []) ≡ 1 = refl in
    let split : count_by is_link_fault (s.messages ++ p.message ∷ []) ≡ count_by is_link_fault s.messages + count_by
    is_link_fault (p.message ∷ []) = sum_by-append _ s.messages (p.message ∷ []) in
    let before = s.faults in
    record {
      before = [];
      going = s.messages;
      last = p.message;
      is = p.said ∙ ap (λ (ms : List Message). ms ++ p.message ∷ []) s.said ∙ append_assoc old s.messages (p.message ∷ []) ∙
          ap (λ (ms : List Message). ms ++ (s.messages ++ p.message ∷ [])) (sym (append-nil old));
      faults = omega (arith, one, single, split, before, eight);
      fails = fails;
    }

-- what a drain that gave up said ends in eight faults of the link
pub drained_gives_up : (kind : AgencyKind) (exact : Bool) (start then : Scene) (old new : List Told)
    (result : Result (Unit {0}) DrainFault) → Drained kind exact start then old new result → IsTrue kind.tells → (n r : ℕ) →
    IsErrOf result (drain.Undelivered n r) → GivesUp start.agency_state.ledger.messages then.agency_state.ledger.messages
drained_gives_up kind exact start then old new result d tells n r is = elim d.ends [
  | inl p ↦ (let e = subst (λ (a : Result (Unit {0}) DrainFault). EndsWith d.links then.sight d.answer a) is p.1 in
      last_fault start.agency_state.ledger.messages d.scene.agency_state.ledger.messages then.agency_state.ledger.messages d.links
      (turns_say kind exact start d.answers d.links d.scene tells d.made) e.1
      (subst (λ (a : Result Turn SendFault). TellsOf d.scene.agency_state.ledger.messages then.agency_state.ledger.messages a) e.0
      (turn_tells kind d.scene.agency_state then.agency_state d.scene.sight then.sight d.scene.sending then.sending d.turn.now d.answer
      d.turn.turned tells)))
  | inr p ↦ absurd (let e = sym p.0 ∙ is in cc)
]

-- after what others said it ends so too
pub gives_up_behind : (old mid new session : List Message) → mid ≡ old ++ session → GivesUp mid new → GivesUp old new
gives_up_behind old mid new session is g = record {
  before = session ++ g.before;
  going = g.going;
  last = g.last;
  is = g.is ∙ ap (λ (ms : List Message). (ms ++ g.before) ++ (g.going ++ g.last ∷ [])) is ∙
      ap (λ (ms : List Message). ms ++ (g.going ++ g.last ∷ [])) (append_assoc old session g.before);
  faults = g.faults;
  fails = g.fails;
}
