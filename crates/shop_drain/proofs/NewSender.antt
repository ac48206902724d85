-- What a new sender does by a drain at a closed shop that had no tills.
use Rattle.std.proofs.Common.{◌≡◌, ◌∙◌, inl, inr, Err, sym, ap, refl, subst, List, [], length, OnOk, ℕ, ◌+◌, ◌*◌, ◌<◌, ◌≤◌}
use Rattle.std.proofs.Common.{arith, Bool, IsTrue, Option, Result}
use Rattle.std.specs.Prelude.{Contains, IsErrOf, IsSome}
use Rattle.agency_port.specs.Messages.{batches_in}
use Rattle.agency_port.specs.declared.messages.Message.{Message}
use Rattle.agency_port.specs.declared.turns.Evidence.{Evidence}
use Rattle.agency_port.specs.declared.turns.Told.{Told as TurnLine}
use Rattle.chain_lock.specs.Known.{Known}
use Rattle.journal.specs.declared.faults.StoreFault.TheVariants as store
use Rattle.once_world.specs.Agreement.{Agree}
use Rattle.once_world.specs.Laws.{CameBesideOwn, CameQuietly}
use Rattle.once_world.specs.Outbox.{Sight, history_of, plain_sight, GainsOwnNotes}
use Rattle.record_codec.specs.declared.entry.Entry.{Entry}
use Rattle.sender.specs.Agreeing.{Adds, AgreesIfTorn, AreNotesOrTorn, BeginsCareful, BeginsInSession, InOneSession, InSession}
use Rattle.sender.specs.Agreeing.{IsCareful, KeepsSession}
use Rattle.sender.specs.Dark.{AreRunsBy}
use Rattle.sender.specs.Draining.{Drained, IsBounded, Scene}
use Rattle.sender.specs.Sending.{Sending, fresh}
use Rattle.sender.specs.Turning.{AgencyKind, AgencyState}
use Rattle.sender.specs.declared.answers.DrainFault.{DrainFault}
use Rattle.sender.specs.declared.answers.DrainFault.TheVariants as drain
use Rattle.sender.specs.declared.answers.SendFault.{SendFault}
use Rattle.sender.specs.declared.answers.SendFault.TheVariants as send
use Rattle.sender.specs.declared.answers.Turn.{Turn}
use Rattle.shop_core.specs.History.{recs, noted, waiting}
use Rattle.shop_core.specs.Legal.{Legal}
use Rattle.shop_core.specs.declared.items.Item.{Item}
use Rattle.till_calls.specs.Mark.{sight_by}
use Rattle.till_calls.specs.Root.{Root}
use Rattle.sender_session.specs.Session.{sending_end, AreOfChain, IsDiskAnswer}
use Rattle.shop_drain.specs.Guarding.{MissesTorn}
use Rattle.shop_drain.specs.Draining.{Sends, Span, StillAgrees, TearsLast, torn_in}
use Rattle.sender_session.specs.Noting.{NotesSaid}
use Rattle.sender_session.specs.Steps.{Steps}
use Rattle.shop_drain.proofs.WithoutTills.{Closed, all_seen, gains, mine}
use Rattle.shop_drain.proofs.Agreed.{Stored, agree_new, agreed, agreed_torn, notes_alone, same_records, seen_all, sight_new}
use Rattle.shop_drain.proofs.Agreed.{torn_is, torn_one, torn_said}
use Rattle.sender_session.proofs.Entries.{entries_back}
use Rattle.sender_session.proofs.Stops.{adds_without_fault, drained_stopped, is_disk_fault}
use Rattle.shop_drain.proofs.Stopped.{is_stopped, is_untorn}
use Rattle.sender_session.proofs.NotingTurns.{drained_notes, drained_said}
use Rattle.shop_drain.proofs.DrainSteps.{drained_steps}
use Rattle.sender_session.proofs.Torn.{drained_tears}

-- what the clauses of a drain say of it, from this sending and these lines on
pub record DrainSays (kind : AgencyKind) (exact : Bool) (before after : Sight) (old new : AgencyState) (moment last : ℕ)
    (turns : List TurnLine) (answer : Result (Unit {0}) DrainFault) (then : Sending) (sending : Sending)
    (first : List TurnLine) : Type 0 where
  pub drained : Drained kind exact (record { agency_state = old; sight = before; sending = sending; moment = moment })
      (record { agency_state = new; sight = after; sending = then; moment = last }) first turns answer
  pub adds : Adds AreNotesOrTorn before after
  pub agreement : InOneSession kind.keeps_rules before after old.ledger sending.said
      (KeepsSession before after old.ledger new.ledger then.said)
  pub no_contradiction : InOneSession kind.keeps_rules before after old.ledger sending.said
      ((evidence : Evidence) → IsErrOf answer (drain.Contradiction evidence) → ⊥)
  pub if_torn : InOneSession kind.keeps_rules before after old.ledger sending.said (AgreesIfTorn before after new.ledger)
  pub careful : IsTrue kind.tells → (past : List Message) → IsCareful past before old.ledger.messages sending →
      IsCareful past after new.ledger.messages then
  pub delivered : OnOk answer (length (noted (history_of after)) ≡ length (recs (history_of after)))
  pub bound : InOneSession kind.keeps_rules before after old.ledger sending.said
      (length (recs (history_of after)) ≤ length (recs (history_of before)) → (batches : ℕ) →
      length (waiting (history_of before)) ≤ 1000 * batches → IsBounded batches first turns)

-- of a new sender that has told nothing
abbrev pub NewDrainSays : AgencyKind → Bool → Sight → Sight → AgencyState → AgencyState → ℕ → ℕ → List TurnLine →
    Result (Unit {0}) DrainFault → Sending → Type 0
NewDrainSays kind exact before after old new moment last turns answer then =
    DrainSays kind exact before after old new moment last turns answer then fresh []

pub of_new : (kind : AgencyKind) (exact : Bool) (before after : Sight) (old new : AgencyState) (moment last : ℕ) (turns : List TurnLine)
    (answer : Result (Unit {0}) DrainFault) (then sending : Sending) (first : List TurnLine) → sending ≡ fresh → first ≡ [] →
    DrainSays kind exact before after old new moment last turns answer then sending first →
    NewDrainSays kind exact before after old new moment last turns answer then
of_new kind exact before after old new moment last turns answer then sending first e f h =
    subst (λ (s : Sending). DrainSays kind exact before after old new moment last turns answer then s []) e
    (subst (λ (l : List TurnLine). DrainSays kind exact before after old new moment last turns answer then sending l) f h)

-- at these sights
pub at_sights : (kind : AgencyKind) (exact : Bool) (before after here there : Sight) (old new : AgencyState) (moment last : ℕ)
    (turns : List TurnLine) (answer : Result (Unit {0}) DrainFault) (then : Sending) → here ≡ before → there ≡ after →
    NewDrainSays kind exact before after old new moment last turns answer then →
    NewDrainSays kind exact here there old new moment last turns answer then
at_sights kind exact before after here there old new moment last turns answer then e f h =
    subst (λ (s : Sight). NewDrainSays kind exact s there old new moment last turns answer then) (sym e)
    (subst (λ (s : Sight). NewDrainSays kind exact before s old new moment last turns answer then) (sym f) h)

-- what holds of every new sender, and of what comes meanwhile
pub record SessionLaws : Type 0 where
  pub session : BeginsInSession
  pub careful : BeginsCareful
  pub quiet : CameQuietly
  pub beside : CameBesideOwn

module _ {C : Type 0} (base log : List Item) (root : Root C) (tills : List (Known Item (Root C)))
    (seat then : Known Item (Root C)) (closed : Closed base log root tills seat then) (es : List Entry) (stopped : Option ℕ)
    (torn : Option Entry) (stored : Stored base log root tills seat then closed root.history es stopped torn)
    (kind : AgencyKind) (exact : Bool) (old new : AgencyState) (moment last : ℕ) (turns : List TurnLine)
    (answer : Result (Unit {0}) DrainFault) (sending : Sending)
    (says : NewDrainSays kind exact (sight_by seat) (sight_by then) old new moment last turns answer sending) where
  abbrev span : Span
  span = record {
    start = root.history;
    end = es;
    torn = torn_in stopped torn;
    kind = kind;
    old = old;
    new = new;
    exact = exact;
    moment = moment;
    turns = turns;
    answer = answer;
  }

  abbrev before : Sight
  before = sight_by seat

  abbrev after : Sight
  after = sight_by then

  abbrev first_scene : Scene
  first_scene = record { agency_state = old; sight = before; sending = fresh; moment = moment }

  abbrev last_scene : Scene
  last_scene = record { agency_state = new; sight = after; sending = sending; moment = last }

  -- a drain that answers a fault of the disk leaves a stop
  pub drain_stops : IsDiskAnswer answer → IsSome stopped
  drain_stops disk = is_stopped base log root tills seat then closed root.history es stopped torn stored
      (drained_stopped kind exact first_scene last_scene [] turns answer says.drained disk)

  seen : history_of after ≡ es
  seen = seen_all base log root tills seat then closed root.history es stopped torn stored

  own : GainsOwnNotes before after
  own = gains base log root tills seat then closed

  new_sight : before ≡ plain_sight root.version root.issuer root.history []
  new_sight = sight_new base root seat closed.fresh stored.base_is

  begun_at : history_of before ≡ root.history
  begun_at = ap history_of new_sight ∙ entries_back root.history

  module _ (laws : SessionLaws) where
    -- the new sender is in session
    begun : Agree root.history old.ledger.processed old.ledger.sent → InSession before old.ledger fresh.said
    begun agree = laws.session before old.ledger (agree_new base root seat old.ledger.processed old.ledger.sent closed.fresh
        stored.base_is agree)

    agreement : IsTrue kind.keeps_rules → Agree root.history old.ledger.processed old.ledger.sent → StillAgrees span
    agreement keeps agree =
        let k = says.agreement keeps (begun agree) own in
        let t = says.if_torn keeps (begun agree) own in
        let notes = (notes_alone base log root tills seat then closed root.history es stopped torn stored).0 in
        let same : recs (history_of after) ≡ recs (history_of before) =
        ap recs seen ∙ same_records root.history es notes ∙ ap recs (sym begun_at) in
        let le = ap (λ (rs : List _). length rs) same in
        record {
          whole = agreed base log root tills seat then closed root.history es stopped torn stored new.ledger k.session.agree;
          torn = subst (λ (l : List Entry). Agree l new.ledger.processed new.ledger.sent) (torn_is es stopped torn)
              (agreed_torn base log root tills seat then closed root.history es stopped torn stored new.ledger k.session.agree t);
          no_contradiction = says.no_contradiction keeps (begun agree) own;
          bound = λ batches few. says.bound keeps (begun agree) own (omega (arith, le)) batches
              (subst (λ (l : List Entry). length (waiting l) ≤ 1000 * batches) (sym begun_at) few);
        }

    -- its steps, and the last one where an entry is torn
    record StepsSo (from to : ℕ) : Type 0 where
      steps : Steps kind.tells exact (recs root.history) from to moment old new turns answer
      tears : says.drained.answer ≡ Err (send.Store store.DiskFault) → TearsLast steps.going steps.last turns answer

    steps_so : StepsSo (length (noted root.history)) (length (noted es))
    steps_so =
        let items : before.items ≡ base = closed.fresh.seen in
        let whole = all_seen base log root tills seat then closed in
        let there : (n : ℕ) → length before.items ≤ n → n < length after.items → Contains after.own n = λ n low high.
        mine base log root tills seat then closed n (subst (λ (l : List Item). length l ≤ n) items low)
        (subst (λ (l : List Item). n < length l) whole high) in
        let s = drained_steps kind exact (recs root.history) old before moment last_scene [] turns answer says.drained
        (ap recs begun_at) (ap (λ (x : Sight). x.own) new_sight) refl there says.delivered in
        let so : StepsSo (length (noted (history_of before))) (length (noted (history_of after))) =
        record { steps = s.steps; tears = s.tears } in
        subst (λ (l : List Entry). StepsSo (length (noted l)) (length (noted es))) begun_at
        (subst (λ (l : List Entry). StepsSo (length (noted (history_of before))) (length (noted l))) seen so)

    lines : IsTrue kind.tells → NotesSaid root.history es old.ledger.messages new.ledger.messages answer
    lines tells =
        let s = drained_notes laws.quiet laws.beside kind exact tells first_scene last_scene [] turns answer says.drained own in
        subst (λ (l : List Entry). NotesSaid l es old.ledger.messages new.ledger.messages answer) begun_at
        (subst (λ (l : List Entry). NotesSaid (history_of before) l old.ledger.messages new.ledger.messages answer) seen s)

    -- notes are torn only after the lines of all messages but the last
    pub drain_misses : IsTrue kind.tells → MissesTorn span
    drain_misses tells =
        let s = drained_said laws.quiet laws.beside kind exact tells first_scene last_scene [] turns answer says.drained own in
        elim (is_disk_fault says.drained.answer) [
          | inl is ↦ inr (
              let here = subst (λ (r : Result Turn SendFault). NotesSaid (history_of before) (history_of after)
              old.ledger.messages new.ledger.messages (sending_end r)) is s in
              subst (λ (l : List Entry). NotesSaid l es old.ledger.messages new.ledger.messages
              (Err (drain.Store store.DiskFault))) begun_at
              (subst (λ (l : List Entry). NotesSaid (history_of before) l old.ledger.messages new.ledger.messages
              (Err (drain.Store store.DiskFault))) seen here))
          | inr never ↦ inl (is_untorn base log root tills seat then closed root.history es stopped torn stored
              (adds_without_fault kind exact first_scene last_scene [] turns answer says.drained never))
        ]

    careful_at : Legal root.version root.issuer root.history → IsTrue kind.tells → AreOfChain root.history old.ledger.messages →
        IsCareful old.ledger.messages after new.ledger.messages sending
    careful_at legal tells runs =
        let said = old.ledger.messages in
        let there_legal = subst (λ (s : Sight). Legal s.version s.issuer (history_of before)) (sym new_sight)
        (subst (λ (l : List Entry). Legal root.version root.issuer l) (sym begun_at) legal) in
        let there = subst (λ (l : List Entry). AreRunsBy (recs l) (length (noted l) + 1000) (batches_in said))
        (sym begun_at) runs in
        says.careful tells said (laws.careful said before there_legal there)

    -- what it does
    pub drain_sends : Legal root.version root.issuer root.history → Sends span
    drain_sends legal =
        let notes = notes_alone base log root tills seat then closed root.history es stopped torn stored in
        record {
          notes = notes.0;
          torn_notes = notes.1;
          at_most_one = torn_one stopped torn;
          all_noted = subst (λ (l : List Entry). OnOk answer (length (noted l) ≡ length (recs l))) seen says.delivered;
          steps = steps_so.steps;
          torn_told = elim (is_disk_fault says.drained.answer) [
            | inl is ↦ inr (steps_so.tears is)
            | inr never ↦ inl (is_untorn base log root tills seat then closed root.history es stopped torn stored
                (adds_without_fault kind exact first_scene last_scene [] turns answer says.drained never))
          ];
          lines = lines;
          torn_lines = λ tells. torn_said base log root tills seat then closed root.history es stopped torn stored
              new.ledger.messages
              (drained_tears kind exact first_scene last_scene [] turns answer says.drained tells);
          agreement = agreement;
          careful = λ tells runs.
              let ends = careful_at legal tells runs in
              record { session = ends.session; is = ends.is; never = ends.never };
          runs = λ tells runs.
              let ends = careful_at legal tells runs in
              subst (λ (l : List Entry). AreOfChain l new.ledger.messages) seen ends.runs;
        }
