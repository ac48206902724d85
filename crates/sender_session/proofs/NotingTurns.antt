-- What turns note one after another are the lines that their messages say.
use Rattle.std.proofs.Common.{◌≡◌, inl, inr, ℕ, ◌+◌, List, [], ◌∷◌, ◌++◌, length, length-append, drop, refl, sym, ◌∙◌, ap}
use Rattle.std.proofs.Common.{subst, arith, append_assoc, append-nil, Bool, IsTrue, Result, Ok, Err}
use Rattle.std.proofs.lemmas.Grind.{flat_map-append}
use Rattle.record_fields.specs.declared.records.Sealed.{Sealed}
use Rattle.record_fields.specs.declared.lines.Line.{Line}
use Rattle.record_codec.specs.declared.entry.Entry.{Entry}
use Rattle.shop_core.specs.History.{recs, noted}
use Rattle.shop_core.specs.Items.{entries_of}
use Rattle.agency_port.specs.declared.messages.Message.{Message}
use Rattle.agency_port.specs.declared.messages.Message.TheVariants.{Begun, Submitted, Consulted}
use Rattle.agency_port.specs.declared.turns.Told.{Told}
use Rattle.shop_core.specs.Prefix.{IsPrefix}
use Rattle.once_world.specs.Laws.{CameBesideOwn, CameQuietly}
use Rattle.once_world.specs.Outbox.{Sight, GainsOwnNotes, history_of}
use Rattle.shop_core.specs.declared.items.Item.{Item}
use Rattle.sender.specs.declared.answers.Turn.{Turn}
use Rattle.sender.specs.declared.answers.SendFault.{SendFault}
use Rattle.sender.specs.declared.answers.SendFault.TheVariants as send
use Rattle.sender.specs.declared.answers.DrainFault.{DrainFault}
use Rattle.sender.specs.declared.answers.DrainFault.TheVariants as drain
use Rattle.sender.specs.Draining.{Drained, EndsWith, GoesOn, Scene, Turns, none as no_turn, more as one_turn}
use Rattle.sender.specs.Turning.{AgencyKind}
use Rattle.sender.proofs.Growing.{gains_each}
use Rattle.sender.proofs.Sessions.{is_turn_growth, turns_growth}
use Rattle.sender_session.specs.Session.{sending_end}
use Rattle.sender_session.specs.Noting.{AreNoted, AreOfWaiting, IsOfFirst, MissesLast, NotesSaid, all_said, lines_said}
use Rattle.sender_session.proofs.Entries.{entries_both}
use Rattle.sender_session.proofs.Contrary.{drop_front, recs_both}
use Rattle.sender_session.proofs.Noting.{turn_notes}

-- nothing was said and nothing noted
pub notes_none : (entries : List Entry) (messages : List Message) → NotesSaid entries entries messages messages (Ok tt)
notes_none entries messages = record {
  session = [];
  is = sym (append-nil messages);
  of_waiting = tt;
  lines = sym (append-nil (noted entries));
}

front_then : (xs few many : List Sealed) → IsPrefix xs few → IsPrefix few many → IsPrefix xs many
front_then xs few many p q = record {
  rest = p.rest ++ q.rest;
  is = q.is ∙ ap (λ (ls : List Sealed). ls ++ q.rest) p.is ∙ append_assoc xs p.rest q.rest;
}

-- what is of the first records is of the first of more
first_of_more : (m : Message) (count : ℕ) (few more : List Sealed) → IsOfFirst (drop count few) m → IsOfFirst
    (drop count (few ++ more)) m
first_of_more (Begun plan pairs) count few more h = h
first_of_more (Submitted batch answer) count few more h = front_then batch (drop count few) (drop count (few ++ more)) h
    (drop_front count few more)
first_of_more (Consulted asked answer) count few more h = record {
  batch = h.batch;
  first = front_then h.batch (drop count few) (drop count (few ++ more)) h.first (drop_front count few more);
  is = h.is;
}

pub waiting_of_more : (few more : List Sealed) (count : ℕ) (messages : List Message) → AreOfWaiting few count messages →
    AreOfWaiting (few ++ more) count messages
waiting_of_more few more count [] h = tt
waiting_of_more few more count (m ∷ messages) h = (
  first_of_more m count few more h.0,
  h.1,
  waiting_of_more few more (count + length (lines_said m)) messages h.2,
)

waiting_both : (records : List Sealed) (n k : ℕ) (xs ys : List Message) → k ≡ n + length (all_said xs) →
    AreOfWaiting records n xs → AreOfWaiting records k ys → AreOfWaiting records n (xs ++ ys)
waiting_both records n k [] ys is a b = let e : k ≡ n = omega (arith, is) in subst (λ (c : ℕ). AreOfWaiting records c ys) e b
waiting_both records n k (m ∷ xs) ys is a b =
    let both = length-append (lines_said m) (all_said xs) in
    (a.0, a.1, waiting_both records (n + length (lines_said m)) k xs ys (omega (arith, is, both)) a.2 b)

said_both : (xs ys : List Message) → all_said (xs ++ ys) ≡ all_said xs ++ all_said ys
said_both xs ys = flat_map-append lines_said xs ys

all_then : (a b c : List Line) (xs ys : List Message) → b ≡ a ++ all_said xs → c ≡ b ++ all_said ys → c ≡ a ++ all_said
    (xs ++ ys)
all_then a b c xs ys first next =
    next ∙ ap (λ (ls : List Line). ls ++ all_said ys) first ∙ append_assoc a (all_said xs) (all_said ys) ∙
    ap (λ (ls : List Line). a ++ ls) (sym (said_both xs ys))

missed_then : (a b c : List Line) (xs ys : List Message) → b ≡ a ++ all_said xs → MissesLast b c ys → MissesLast a c (xs ++ ys)
missed_then a b c xs ys first next = record {
  front = xs ++ next.front;
  last = next.last;
  is = ap (λ (ms : List Message). xs ++ ms) next.is ∙ sym (append_assoc xs next.front (next.last ∷ []));
  noted = all_then a b c xs next.front first next.noted;
}

noted_then : (a b c : List Line) (xs ys : List Message) (answer : Result (Unit {0}) DrainFault) → b ≡ a ++ all_said xs →
    AreNoted b c ys answer → AreNoted a c (xs ++ ys) answer
noted_then a b c xs ys (Ok done) first next = all_then a b c xs ys first next
noted_then a b c xs ys (Err (drain.Undelivered n r)) first next = all_then a b c xs ys first next
noted_then a b c xs ys (Err (drain.Contradiction evidence)) first next = missed_then a b c xs ys first next
noted_then a b c xs ys (Err (drain.Store fault)) first next = missed_then a b c xs ys first next
noted_then a b c xs ys (Err drain.NoMemory) first (inl next) = inl (all_then a b c xs ys first next)
noted_then a b c xs ys (Err drain.NoMemory) first (inr next) = inr (missed_then a b c xs ys first next)

-- one after the other, where records came after
pub notes_then : (a b c : List Entry) (k l m : List Message) (answer : Result (Unit {0}) DrainFault) (more : List Sealed) →
    recs c ≡ recs b ++ more → NotesSaid a b k l (Ok tt) → NotesSaid b c l m answer → NotesSaid a c k m answer
notes_then a b c k l m answer more came x y =
    let longer : length (noted b) ≡ length (noted a) + length (all_said x.session) = ap (λ (ls : List Line). length ls) x.lines ∙
    length-append (noted a) (all_said x.session) in
    let first : AreOfWaiting (recs c) (length (noted a)) x.session =
    subst (λ (rs : List Sealed). AreOfWaiting rs (length (noted a)) x.session) (sym came)
    (waiting_of_more (recs b) more (length (noted a)) x.session x.of_waiting) in
    record {
      session = x.session ++ y.session;
      is = y.is ∙ ap (λ (ms : List Message). ms ++ y.session) x.is ∙ append_assoc k x.session y.session;
      of_waiting = waiting_both (recs c) (length (noted a)) (length (noted b)) x.session y.session longer first y.of_waiting;
      lines = noted_then (noted a) (noted b) (noted c) x.session y.session answer x.lines y.lines;
    }

-- the same of a history with more records and no more lines
pub at_end_noted : (before after end : List Entry) (old new : List Message) (answer : Result (Unit {0}) DrainFault)
    (more : List Sealed) → recs end ≡ recs after ++ more → noted end ≡ noted after → NotesSaid before after old new answer →
    NotesSaid before end old new answer
at_end_noted before after end old new answer more came same h = record {
  session = h.session;
  is = h.is;
  of_waiting = subst (λ (rs : List Sealed). AreOfWaiting rs (length (noted before)) h.session) (sym came)
      (waiting_of_more (recs after) more (length (noted before)) h.session h.of_waiting);
  lines = subst (λ (ls : List Line). AreNoted (noted before) ls h.session answer) (sym same) h.lines;
}

-- records that a grown shop has gained
pub grown_records : (before after : Sight) (items : List Item) → after.items ≡ before.items ++ items →
    recs (history_of after) ≡ recs (history_of before) ++ recs (entries_of items)
grown_records before after items is =
    ap (λ (l : List Item). recs (entries_of l)) is ∙ ap recs (entries_both before.items items) ∙
    recs_both (history_of before) (entries_of items)

goes_on : (answer : Result Turn SendFault) → GoesOn answer → sending_end answer ≡ Ok tt
goes_on (Ok turn) on = refl
goes_on (Err send.LinkFault) on = refl
goes_on (Err (send.Contradiction evidence)) on = absurd on
goes_on (Err (send.Store fault)) on = absurd on
goes_on (Err send.NoMemory) on = absurd on

-- what a drain makes of its last turn
by_end : (links : ℕ) (after : Sight) (a c : List Line) (messages : List Message) (answer : Result Turn SendFault)
    (result : Result (Unit {0}) DrainFault) → EndsWith links after answer result →
    AreNoted a c messages (sending_end answer) → AreNoted a c messages result
by_end links after a c messages answer (Ok done) e h = subst (λ (r : Result Turn SendFault). AreNoted a c messages (sending_end
    r)) e.1 h
by_end links after a c messages answer (Err (drain.Undelivered n r)) e h = subst (λ (x : Result Turn SendFault). AreNoted a c
    messages (sending_end x)) e.0 h
by_end links after a c messages answer (Err (drain.Contradiction evidence)) e h = subst (λ (r : Result Turn SendFault). AreNoted
    a c messages (sending_end r)) e h
by_end links after a c messages answer (Err (drain.Store fault)) e h = subst (λ (r : Result Turn SendFault). AreNoted a c
    messages (sending_end r)) e h
by_end links after a c messages answer (Err drain.NoMemory) e h = subst (λ (r : Result Turn SendFault). AreNoted a c messages
    (sending_end r)) e h

-- a last turn that couldn't be told
untold : (a c : List Line) (messages : List Message) (answer : Result Turn SendFault) →
    AreNoted a c messages (sending_end answer) → AreNoted a c messages (Err drain.NoMemory)
untold a c messages (Ok turn) h = inl h
untold a c messages (Err send.LinkFault) h = inl h
untold a c messages (Err (send.Contradiction evidence)) h = inr h
untold a c messages (Err (send.Store fault)) h = inr h
untold a c messages (Err send.NoMemory) h = h

with_answer : (before after : List Entry) (old new : List Message) (first last : Result (Unit {0}) DrainFault) →
    ((messages : List Message) → AreNoted (noted before) (noted after) messages first → AreNoted (noted before) (noted after)
    messages last) → NotesSaid before after old new first → NotesSaid before after old new last
with_answer before after old new first last f h = record {
  session = h.session;
  is = h.is;
  of_waiting = h.of_waiting;
  lines = f h.session h.lines;
}

module _ (quiet : CameQuietly) (beside : CameBesideOwn) (kind : AgencyKind) (exact : Bool) (tells : IsTrue kind.tells) where
  abbrev Notes : Scene → Scene → Result (Unit {0}) DrainFault → Type 0
  Notes start scene answer = NotesSaid (history_of start.sight) (history_of scene.sight) start.agency_state.ledger.messages
      scene.agency_state.ledger.messages answer

  turns_note : (start : Scene) (answers : List (Result Turn SendFault)) (links : ℕ) (scene : Scene) →
      Turns kind exact start answers links scene → GainsOwnNotes start.sight scene.sight → Notes start scene (Ok tt)
  turns_note start answers links scene no_turn gains = notes_none (history_of start.sight) start.agency_state.ledger.messages
  turns_note start answers links scene (one_turn before_answers before_links mid answer then t turn on few) gains =
      let first = turns_growth kind exact start before_answers before_links mid t in
      let next = is_turn_growth kind exact mid then answer turn in
      let each = gains_each start.sight mid.sight then.sight first next gains in
      notes_then (history_of start.sight) (history_of mid.sight) (history_of then.sight) start.agency_state.ledger.messages
      mid.agency_state.ledger.messages then.agency_state.ledger.messages (Ok tt) (recs (entries_of next.items))
      (grown_records mid.sight then.sight next.items next.items_is)
      (turns_note start before_answers before_links mid t each.0)
      (subst (λ (r : Result (Unit {0}) DrainFault). Notes mid then r) (goes_on answer on)
      (turn_notes quiet beside kind mid.agency_state then.agency_state mid.sight then.sight mid.sending then.sending turn.now answer turn.turned
      tells each.1))

  -- so what a drain notes are the lines that its messages say, by its last turn's answer
  pub drained_said : (start then : Scene) (old new : List Told) (result : Result (Unit {0}) DrainFault) →
      (d : Drained kind exact start then old new result) → GainsOwnNotes start.sight then.sight →
      Notes start then (sending_end d.answer)
  drained_said start then old new result d gains =
      let first = turns_growth kind exact start d.answers d.links d.scene d.made in
      let next = is_turn_growth kind exact d.scene then d.answer d.turn in
      let each = gains_each start.sight d.scene.sight then.sight first next gains in
      let last = turn_notes quiet beside kind d.scene.agency_state then.agency_state d.scene.sight then.sight d.scene.sending then.sending
      d.turn.now d.answer d.turn.turned tells each.1 in
      notes_then (history_of start.sight) (history_of d.scene.sight) (history_of then.sight)
      start.agency_state.ledger.messages d.scene.agency_state.ledger.messages then.agency_state.ledger.messages (sending_end d.answer)
      (recs (entries_of next.items)) (grown_records d.scene.sight then.sight next.items next.items_is)
      (turns_note start d.answers d.links d.scene d.made each.0) last

  -- and by its own
  pub drained_notes : (start then : Scene) (old new : List Told) (result : Result (Unit {0}) DrainFault) →
      Drained kind exact start then old new result → GainsOwnNotes start.sight then.sight → Notes start then result
  drained_notes start then old new result d gains =
      let all = drained_said start then old new result d gains in
      let a = noted (history_of start.sight) in
      let c = noted (history_of then.sight) in
      elim d.ends [
        | inl p ↦ with_answer (history_of start.sight) (history_of then.sight) start.agency_state.ledger.messages
            then.agency_state.ledger.messages (sending_end d.answer) result
            (λ messages h. by_end d.links then.sight a c messages d.answer result p.1 h) all
        | inr p ↦ with_answer (history_of start.sight) (history_of then.sight) start.agency_state.ledger.messages
            then.agency_state.ledger.messages (sending_end d.answer) result
            (λ messages h. subst (λ (r : Result (Unit {0}) DrainFault). AreNoted a c messages r) (sym p.0)
            (untold a c messages d.answer h)) all
      ]
