-- What the end of a drained shop says of its store.
use Rattle.std.proofs.Common.{[], Result, Ok, Err, OnOk, ◌≡◌, ◌⊎◌, inl, inr, ℕ, ◌<◌, ◌≤◌, List, ◌∷◌, ◌++◌, refl, sym, ◌∙◌}
use Rattle.std.proofs.Common.{ap, subst, length, drop, Bool, true, false, IsTrue, ◌+◌, Some, slice_get, append_assoc}
use Rattle.std.proofs.Common.{append-nil, arith}
use Rattle.std.specs.Prelude.{Contains, IsErrOf, OnOk, is_err}
use Rattle.std.proofs.Math.Seq.{drop-append_seam}
use Rattle.std.proofs.lemmas.List.Elements.{Contains-append_cases}
use Rattle.std.proofs.lemmas.Option.{slice_get_within}
use Rattle.record_fields.specs.declared.records.Sealed.{Sealed}
use Rattle.record_fields.specs.declared.lines.Line.{Line}
use Rattle.journal.specs.declared.faults.StoreFault.TheVariants as store
use Rattle.record_codec.specs.declared.entry.Entry.{Entry}
use Rattle.shop_core.specs.History.{recs}
use Rattle.shop_core.specs.Items.{entries_of}
use Rattle.shop_core.specs.declared.items.Item.{Item}
use Rattle.shop_core.specs.declared.items.Item.TheVariants as item
use Rattle.agency_port.specs.declared.messages.Message.{Message}
use Rattle.agency_port.specs.declared.turns.Evidence.{Evidence}
use Rattle.agency_port.specs.declared.turns.Told.{Told}
use Rattle.once_world.specs.Agreement.{Agree}
use Rattle.once_world.specs.Outbox.{Sight, history_of, GainsOwnNotes}
use Rattle.sender.specs.declared.answers.Turn.{Turn}
use Rattle.sender.specs.declared.answers.SendFault.{SendFault}
use Rattle.sender.specs.declared.answers.SendFault.TheVariants as send
use Rattle.sender.specs.declared.answers.DrainFault.{DrainFault}
use Rattle.sender.specs.declared.answers.DrainFault.TheVariants as drain
use Rattle.sender.specs.Agreeing.{Adds, AreNotes, AreNotesOrTorn, HasAt, InSession, KeepsAgreement}
use Rattle.sender.specs.Draining.{CountsOf, Drained, EndsWith, Scene, Turns, none, more}
use Rattle.sender.specs.declared.draining.TheConstants.{MAX_LINK_FAULTS}
use Rattle.sender.specs.Lines.{IsCall}
use Rattle.sender.specs.Sending.{Sending}
use Rattle.sender.specs.Turning.{AgencyState, AgencyKind, Turned, turn_call}
use Rattle.sender.proofs.Adding.{adds_none, adds_then, has_front}
use Rattle.sender.proofs.Causes.{turn_later}
use Rattle.sender.proofs.Growing.{Growth, all_contained, gains_each}
use Rattle.sender.proofs.Lists.{all_both, all_change}
use Rattle.sender_session.specs.Session.{AddsOwnNotes, AnsweredByDrain, DrainsTo, EndsStopped, FailsAtNotes, GivesUpForCause}
use Rattle.sender_session.specs.Session.{IsDiskAnswer, IsUndelivered, SaysByTurns, SendsOn, sending_end}
use Rattle.sender_session.proofs.Contrary.{shows_nothing}
use Rattle.sender_session.proofs.GivingUp.{gives_up_behind}
use Rattle.sender_session.proofs.NotingTurns.{grown_records, notes_none, notes_then}
use Rattle.sender_session.proofs.Stops.{adds_without_fault, answers_fault, ends_stopped, get_seam, is_disk_fault}
use Rattle.sender_session.proofs.Torn.{tears_none, tears_then}

-- what follows from two facts at Ok
pub both_ok : {T E : Type 0} (r : Result T E) (P Q R : Type 0) → (P → Q → R) → OnOk r P → OnOk r Q → OnOk r R
both_ok (Ok x) P Q R f p q = f p q
both_ok (Err e) P Q R f p q = tt

pub growth_of : (P : Item → Type 0) (a b : Sight) → Adds P a b → Growth a b
growth_of P a b g = record {
  items = g.items;
  items_is = g.items_is;
  own = g.own;
  own_is = g.own_is;
  low = g.low;
  high = all_change (HasAt P b.items) (λ (p : ℕ). p < length b.items) (λ p h. slice_get_within b.items p h.0 h.1) g.own g.are;
}

none_there : (n : ℕ) → Contains [] n → ⊥
none_there n c = let lt = c.1 in omega arith

nothing_more : (own : List ℕ) → drop (length own) own ≡ []
nothing_more own = ap (λ (xs : List ℕ). drop (length own) xs) (sym (append-nil own)) ∙ drop-append_seam own []

-- nothing yet
pub sends_none : (kind : AgencyKind) (a : Sight) (k : AgencyState) (said : Sending) → SendsOn kind a a k k said said (Ok tt)
sends_none kind a k said = record {
  shop = record {
    adds = adds_none AreNotesOrTorn a;
    notes = inl (adds_none AreNotes a);
    stopped = λ disk. absurd disk;
    session = λ keeps in_it gains. record {
      session = in_it;
      begins = record { rest = []; is = sym (append-nil k.ledger.processed) };
    };
    no_contradiction = λ keeps in_it gains evidence is. absurd cc;
    torn = λ keeps in_it gains items faults torn is own. absurd
        (none_there (length items) (subst (λ (ps : List ℕ). Contains ps (length items)) (nothing_more a.own) own));
  };
  messages = record {
    careful = λ tells past h. h;
    says = λ tells. record { session = []; is = sym (append-nil k.ledger.messages); calls = tt };
    kept = λ tells past r. r;
    contrary = λ tells past r evidence is. absurd cc;
    shown = λ tells past r none entries evidence s. absurd (none entries evidence s);
    none_before = λ tells past r none before. before;
    lines = λ tells gains. notes_none (history_of a) k.ledger.messages;
    torn_lines = λ tells. tears_none a a k.ledger.messages refl;
  };
  ends = record {
    later = omega arith;
    counts = λ n r is. absurd cc;
    undelivered = λ n r is. absurd cc;
    gives_up = λ tells n r is. absurd cc;
    gave_up = λ is. absurd (let e = is.2 in cc);
  };
}

-- a drain after turns that were before it
drain_later : (kind : AgencyKind) (k l m : AgencyState) (answer : Result (Unit {0}) DrainFault) → k.faults ≤ l.faults →
    AnsweredByDrain kind l m answer → AnsweredByDrain kind k m answer
drain_later kind k l m answer later by = record {
  exact = by.exact;
  before = by.before;
  after = by.after;
  drains = by.drains;
  agency_state = by.agency_state;
  later = (let f = by.later in omega (arith, later, f));
}

fails_later : (kind : AgencyKind) (k l m : AgencyState) (answer : Result (Unit {0}) DrainFault) → k.faults ≤ l.faults →
    FailsAtNotes kind l m answer → FailsAtNotes kind k m answer
unfolding drain_later
fails_later kind k l m answer later (inl is) = inl is
fails_later kind k l m answer later (inr f) = inr (f.0, drain_later kind k l m answer later f.1, f.2)

-- turns that end well failed at no notes
no_fault : (answer : Result (Unit {0}) DrainFault) (kind : AgencyKind) (k l : AgencyState) → answer ≡ Ok tt → FailsAtNotes kind k l answer → ⊥
no_fault answer kind k l well (inl is) = let e = sym well ∙ is in absurd cc
no_fault answer kind k l well (inr f) = let e = sym well ∙ f.0 in absurd cc

-- Turns that go on, and more of them.
module _ (kind : AgencyKind) (a b c : Sight) (k l m : AgencyState) (said mid then : Sending)
    (answer : Result (Unit {0}) DrainFault) (x : SendsOn kind a b k l said mid (Ok tt))
    (y : SendsOn kind b c l m mid then answer) where
  notes : Adds AreNotes a b
  notes = elim x.shop.notes [ inl added ↦ added | inr fails ↦ absurd (no_fault (Ok tt) kind k l refl fails) ]

  both : GainsOwnNotes a c → GainsOwnNotes a b × GainsOwnNotes b c
  both gains = gains_each a b c (growth_of AreNotesOrTorn a b x.shop.adds) (growth_of AreNotesOrTorn b c y.shop.adds) gains

  torn_by_part : IsTrue kind.keeps_rules → InSession b l.ledger mid.said → GainsOwnNotes b c → (items : List Item) (faults : ℕ)
      (torn : Entry) → c.items ≡ items ++ item.Stop faults torn ∷ [] → drop (length b.own) c.own ≡ y.shop.adds.own →
      Contains notes.own (length items) ⊎ Contains y.shop.adds.own (length items) → Agree (history_of c ++ torn ∷ [])
      m.ledger.processed m.ledger.sent
  torn_by_part keeps first gains items faults torn is later (inl early) =
      let h = has_front AreNotes b.items y.shop.adds.items (length items) (all_contained (HasAt AreNotes b.items) notes.own
      (length items) notes.are early) in
      let e : Some h.0 ≡ Some (item.Stop faults torn) = sym (subst (λ (xs : List Item). slice_get xs (length items) ≡ Some h.0)
      (sym y.shop.adds.items_is) h.1) ∙ ap (λ (xs : List Item). slice_get xs (length items)) is ∙
      get_seam items (item.Stop faults torn) in
      let f : h.0 ≡ item.Stop faults torn = (let g = e in cc) in
      absurd (subst AreNotes f h.2)
  torn_by_part keeps first gains items faults torn is later (inr late) =
      y.shop.torn keeps first gains items faults torn is (subst (λ (ps : List ℕ). Contains ps (length items)) (sym later) late)

  shop_then : AddsOwnNotes kind a c k m said then answer
  shop_then = record {
    adds = adds_then AreNotesOrTorn a b c x.shop.adds y.shop.adds;
    notes = elim y.shop.notes [
      | inl added ↦ inl (adds_then AreNotes a b c notes added)
      | inr fails ↦ inr (fails_later kind k l m answer x.ends.later fails)
    ];
    stopped = y.shop.stopped;
    session = λ keeps in_it gains.
        let each = both gains in
        let first = x.shop.session keeps in_it each.0 in
        let next = y.shop.session keeps first.session each.1 in
        record {
          session = next.session;
          begins = record {
            rest = first.begins.rest ++ next.begins.rest;
            is = next.begins.is ∙
                ap (λ (t : List (Sealed × Line)). t ++ next.begins.rest) first.begins.is ∙ append_assoc k.ledger.processed
                first.begins.rest next.begins.rest;
          };
        };
    no_contradiction = λ keeps in_it gains. let each = both gains in
        y.shop.no_contradiction keeps (x.shop.session keeps in_it each.0).session each.1;
    torn = λ keeps in_it gains items faults torn is own.
        let each = both gains in
        let first = x.shop.session keeps in_it each.0 in
        let added = y.shop.adds in
        let whole : c.own ≡ a.own ++ (notes.own ++ added.own) = added.own_is ∙ ap (λ (ps : List ℕ). ps ++ added.own) notes.own_is
        ∙ append_assoc a.own notes.own added.own in
        let gained : drop (length a.own) c.own ≡ notes.own ++ added.own = ap (λ (ps : List ℕ). drop (length a.own) ps) whole ∙
        drop-append_seam a.own (notes.own ++ added.own) in
        let later : drop (length b.own) c.own ≡ added.own = ap (λ (ps : List ℕ). drop (length b.own) ps) added.own_is ∙
        drop-append_seam b.own added.own in
        torn_by_part keeps first.session each.1 items faults torn is later (Contains-append_cases notes.own added.own
        (length items) (subst (λ (ps : List ℕ). Contains ps (length items)) gained own));
  }

  messages_then : SaysByTurns kind a c k m said then answer
  messages_then = record {
    careful = λ tells past h. y.messages.careful tells past (x.messages.careful tells past h);
    says = λ tells. (let f = x.messages.says tells in let s = y.messages.says tells in record {
      session = f.session ++ s.session;
      is = s.is ∙ ap (λ (ms : List Message). ms ++ s.session) f.is ∙ append_assoc k.ledger.messages f.session s.session;
      calls = all_both IsCall f.session s.session f.calls s.calls;
    });
    kept = λ tells past r. y.messages.kept tells past (x.messages.kept tells past r);
    contrary = λ tells past r. y.messages.contrary tells past (x.messages.kept tells past r);
    shown = λ tells past r none. y.messages.shown tells past (x.messages.kept tells past r)
        (shows_nothing past l.ledger.messages (x.messages.shown tells past r none));
    none_before = λ tells past r none before. y.messages.none_before tells past (x.messages.kept tells past r)
        (shows_nothing past l.ledger.messages (x.messages.shown tells past r none))
        (x.messages.none_before tells past r none before);
    lines = λ tells gains.
        let each = both gains in
        let added = y.shop.adds in
        notes_then (history_of a) (history_of b) (history_of c) k.ledger.messages l.ledger.messages m.ledger.messages answer
        (recs (entries_of added.items)) (grown_records b c added.items added.items_is) (x.messages.lines tells each.0)
        (y.messages.lines tells each.1);
    torn_lines = λ tells. tears_then a b c m.ledger.messages notes (growth_of AreNotesOrTorn b c y.shop.adds)
        (y.messages.torn_lines tells);
  }

  ends_then : GivesUpForCause kind c k m answer
  ends_then = record {
    later = let e = x.ends.later in let f = y.ends.later in omega (arith, e, f);
    counts = y.ends.counts;
    undelivered = λ n r is below. (let w = y.ends.undelivered n r is below in let e = x.ends.later in omega (arith, w, e));
    gives_up = λ tells n r is. (let f = x.messages.says tells in
        gives_up_behind k.ledger.messages l.ledger.messages m.ledger.messages f.session f.is (y.ends.gives_up tells n r is));
    gave_up = λ is. drain_later kind k l m answer x.ends.later (y.ends.gave_up is);
  }

  pub sends_then : SendsOn kind a c k m said then answer
  sends_then = record { shop = shop_then; messages = messages_then; ends = ends_then }

-- a turn's note whose fault is the disk's ends the turns so
pub notes_end : (kind : AgencyKind) (old new : AgencyState) (answer : Result Turn SendFault) → answer ≡ Err (send.Store store.DiskFault) →
    FailsAtNotes kind old new (sending_end answer)
notes_end kind old new answer is = inl (ap sending_end is)

-- a turn that answers a fault of the disk leaves a stop
pub stopped_end : (kind : AgencyKind) (agency_state agency_state_then : AgencyState) (before after : Sight) (old new : Sending) (now : ℕ)
    (answer : Result Turn SendFault) → Turned (turn_call kind agency_state agency_state_then before after old new now answer) →
    IsDiskAnswer (sending_end answer) → EndsStopped after.items
stopped_end kind agency_state agency_state_then before after old new now (Ok turn) t disk = absurd disk
stopped_end kind agency_state agency_state_then before after old new now (Err send.LinkFault) t disk = absurd disk
stopped_end kind agency_state agency_state_then before after old new now (Err (send.Contradiction evidence)) t disk = absurd disk
stopped_end kind agency_state agency_state_then before after old new now (Err send.NoMemory) t disk = absurd disk
stopped_end kind agency_state agency_state_then before after old new now (Err (send.Store store.DiskFault)) t disk = ends_stopped old now t.shown
    t.look after t.deals.deed store.DiskFault new tt t.deals.ends
stopped_end kind agency_state agency_state_then before after old new now (Err (send.Store (store.Stopped faults))) t disk = ends_stopped old now
    t.shown t.look after t.deals.deed (store.Stopped faults) new tt t.deals.ends
stopped_end kind agency_state agency_state_then before after old new now (Err (send.Store store.NoMemory)) t disk = absurd disk

-- turns that keep agreement end in no contradiction
pub never_end : (answer : Result Turn SendFault) (before after : Sight) (k : AgencyState) (new : AgencyState) (said : Sending) →
    KeepsAgreement before after k.ledger new.ledger said.said answer → (evidence : Evidence) → IsErrOf (sending_end answer)
    (drain.Contradiction evidence) → ⊥
never_end (Ok turn) before after k new said h evidence is = absurd cc
never_end (Err send.LinkFault) before after k new said h evidence is = absurd cc
never_end (Err (send.Contradiction e)) before after k new said h evidence is = h.gains
never_end (Err (send.Store fault)) before after k new said h evidence is = absurd cc
never_end (Err send.NoMemory) before after k new said h evidence is = absurd cc

-- the turns at the same time as the tills give up on no link
pub never_gives_up : (answer : Result Turn SendFault) (n r : ℕ) → IsErrOf (sending_end answer) (drain.Undelivered n r) → ⊥
never_gives_up (Ok turn) n r is = absurd cc
never_gives_up (Err send.LinkFault) n r is = absurd cc
never_gives_up (Err (send.Contradiction e)) n r is = absurd cc
never_gives_up (Err (send.Store fault)) n r is = absurd cc
never_gives_up (Err send.NoMemory) n r is = absurd cc

turns_later : (kind : AgencyKind) (exact : Bool) (start : Scene) (answers : List (Result Turn SendFault)) (links : ℕ) (scene : Scene) →
    Turns kind exact start answers links scene → start.agency_state.faults ≤ scene.agency_state.faults
turns_later kind exact start answers links scene none = omega arith
turns_later kind exact start answers links scene (more before_answers before_links mid answer then t turn on few) =
    let a = turns_later kind exact start before_answers before_links mid t in
    let b = turn_later kind mid.agency_state then.agency_state mid.sight then.sight mid.sending then.sending turn.now answer turn.turned in
    omega (arith, a, b)

-- a drain never lowers the agency's count of faults
pub drained_later : (kind : AgencyKind) (exact : Bool) (start then : Scene) (old new : List Told)
    (result : Result (Unit {0}) DrainFault) → Drained kind exact start then old new result → start.agency_state.faults ≤ then.agency_state.faults
drained_later kind exact start then old new result d =
    let a = turns_later kind exact start d.answers d.links d.scene d.made in
    let b = turn_later kind d.scene.agency_state then.agency_state d.scene.sight then.sight d.scene.sending then.sending d.turn.now d.answer
    d.turn.turned in
    omega (arith, a, b)

-- where a drain gave up, it did so with the counts of its last sight
pub drained_counts : (kind : AgencyKind) (exact : Bool) (start then : Scene) (old new : List Told)
    (result : Result (Unit {0}) DrainFault) → Drained kind exact start then old new result → (n r : ℕ) →
    IsErrOf result (drain.Undelivered n r) → CountsOf then.sight n r
drained_counts kind exact start then old new result d n r is = elim d.ends [
  | inl p ↦ (subst (λ (a : Result (Unit {0}) DrainFault). EndsWith d.links then.sight d.answer a) is p.1).2
  | inr p ↦ absurd (let e = sym p.0 ∙ is in cc)
]

-- what a drain that ends with this turn answers
eighth_link : (links : ℕ) (after : Sight) (last : Result Turn SendFault) (result : Result (Unit {0}) DrainFault) →
    EndsWith links after last result → IsUndelivered result → (last ≡ Err send.LinkFault) × (links + 1 ≡ MAX_LINK_FAULTS)
eighth_link links after last result e is =
    let end = subst (λ (a : Result (Unit {0}) DrainFault). EndsWith links after last a) is.2 e in (end.0, end.1)

after_link : (links : ℕ) (after : Sight) (last : Result Turn SendFault) (result : Result (Unit {0}) DrainFault) →
    EndsWith links after last result → last ≡ Err send.LinkFault → IsUndelivered result
after_link links after last (Ok done) e is = let g = sym e.1 ∙ is in absurd cc
after_link links after last (Err (drain.Undelivered n r)) e is = (n, r, refl)
after_link links after last (Err (drain.Contradiction evidence)) e is = let g = sym e ∙ is in absurd cc
after_link links after last (Err (drain.Store fault)) e is = let g = sym e ∙ is in absurd cc
after_link links after last (Err drain.NoMemory) e is = let g = sym e ∙ is in absurd cc

drains_to : (kind : AgencyKind) (exact : Bool) (before after : Scene) (turns : List Told) (answer : Result (Unit {0}) DrainFault) →
    Drained kind exact before after [] turns answer → DrainsTo kind exact before after answer
drains_to kind exact before after turns answer d = record {
  turns = turns;
  drained = d;
  eighth = λ is. elim d.ends [
    | inl p ↦ eighth_link d.links after.sight d.answer answer p.1 is
    | inr p ↦ absurd (let e = sym p.0 ∙ is.2 in cc)
  ];
  gives_up = λ is. elim d.ends [
    | inl p ↦ inl (after_link d.links after.sight d.answer answer p.1 is)
    | inr p ↦ inr p.0
  ];
}

pub drains_from : (kind : AgencyKind) (exact : Bool) (before after : Scene) (told turns : List Told)
    (answer : Result (Unit {0}) DrainFault) → told ≡ [] → Drained kind exact before after told turns answer →
    DrainsTo kind exact before after answer
drains_from kind exact before after told turns answer untold d = drains_to kind exact before after turns answer
    (subst (λ (ts : List Told). Drained kind exact before after ts turns answer) untold d)

-- whether the disk failed at the notes of a drain's last turn
pub drained_notes_or : (kind : AgencyKind) (exact : Bool) (before after : Scene) (old new : AgencyState)
    (answer : Result (Unit {0}) DrainFault) → (d : DrainsTo kind exact before after answer) → before.agency_state ≡ old →
    after.agency_state ≡ new → Adds AreNotes before.sight after.sight ⊎ FailsAtNotes kind old new answer
drained_notes_or kind exact before after old new answer d from to = elim (is_disk_fault d.drained.answer) [
  | inl is ↦ inr (elim d.drained.ends [
    | inl p ↦ inl (answers_fault d.drained.links after.sight d.drained.answer answer p.1 is)
    | inr p ↦ inr (
      p.0,
      record {
        exact = exact;
        before = before;
        after = after;
        drains = d;
        agency_state = to;
        later = (let e = ap (λ (k : AgencyState). k.faults) from in omega (arith, e));
      },
      is,
    )
  ])
  | inr never ↦ inl (adds_without_fault kind exact before after [] d.turns answer d.drained never)
]

-- what holds anyway holds at Ok, and anything does at a fault
pub on_ok : {P : Type 0} (answer : Result (Unit {0}) DrainFault) → P → OnOk answer P
on_ok (Ok done) p = p
on_ok (Err fault) p = tt

pub on_fault : (P : Type 0) (answer : Result (Unit {0}) DrainFault) → is_err answer ≡ true → OnOk answer P
on_fault P (Ok done) e = absurd (let x = e in cc)
on_fault P (Err fault) e = tt

pub no_error : (answer : Result (Unit {0}) DrainFault) → is_err answer ≡ false → answer ≡ Ok tt
no_error (Ok done) e = refl
no_error (Err fault) e = absurd (let x = e in cc)

-- the same, where the answer of the last turn is that of all
pub sends_after : {kind : AgencyKind} {a b c : Sight} {k l m : AgencyState} {said mid then : Sending}
    {last answer : Result (Unit {0}) DrainFault} → last ≡ answer → SendsOn kind a b k l said mid (Ok tt) →
    SendsOn kind b c l m mid then last → SendsOn kind a c k m said then answer
sends_after {kind} {a} {b} {c} {k} {l} {m} {said} {mid} {then} {last} {answer} is x y =
    subst (λ (r : Result (Unit {0}) DrainFault). SendsOn kind a c k m said then r) is
    (sends_then kind a b c k l m said mid then last x y)
