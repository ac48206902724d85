-- What a closed shop's history is that had no tills, and that it agrees.
use Rattle.std.proofs.Common.{◌≡◌, ℕ, ◌<◌, ◌≤◌, List, [], ◌∷◌, ◌++◌, length, length-append, map, drop, Option, Some, None, refl}
use Rattle.std.proofs.Common.{ap, sym, ◌∙◌, subst, arith, append-nil, append_assoc}
use Rattle.std.specs.Prelude.{Contains}
use Rattle.std.specs.List.{AllByRecursion}
use Rattle.std.proofs.lemmas.List.{append_cancel_left, map-append, length-map}
use Rattle.std.proofs.lemmas.List.Elements.{filter_map-append}
use Rattle.record_fields.specs.declared.records.Sealed.{Sealed}
use Rattle.record_fields.specs.declared.lines.Line.{Line}
use Rattle.record_codec.specs.declared.entry.Entry.{Entry}
use Rattle.record_codec.specs.declared.entry.Entry.TheVariants.{Rec, Notes}
use Rattle.chain_lock.specs.Known.{Known, IsNew}
use Rattle.chain_lock.specs.Lists.{StartsWith}
use Rattle.shop_core.specs.History.{recs, rows, Row, row_in}
use Rattle.shop_core.specs.Items.{entries_of}
use Rattle.shop_core.specs.declared.items.Item.{Item}
use Rattle.shop_core.specs.declared.items.Item.TheVariants as item
use Rattle.agency_port.specs.Ledger.{Ledger}
use Rattle.once_world.specs.Agreement.{Agree}
use Rattle.once_world.specs.Outbox.{history_of, plain_sight}
use Rattle.till_calls.specs.Mark.{sight_by}
use Rattle.till_calls.specs.Root.{Root, stop_in, with_torn}
use Rattle.sender.specs.Agreeing.{AreNotesOrTorn, AgreesIfTorn}
use Rattle.agency_port.specs.declared.messages.Message.{Message}
use Rattle.sender_session.specs.Session.{TearsSaid, AreNotesEntry}
use Rattle.shop_drain.specs.Draining.{AddsNotesAlone, torn_in}
use Rattle.sender_session.specs.Noting.{TornSaid}
use Rattle.shop_drain.proofs.WithoutTills.{Closed, own_before, mine, all_seen, all_mine}
use Rattle.sender_session.proofs.Entries.{entries_both, entries_back}

no_entry : (stopped : Option ℕ) (torn : Option Entry) → entries_of (stop_in stopped torn) ≡ []
no_entry (Some n) (Some t) = refl
no_entry (Some n) None = refl
no_entry None torn = refl

pub entries_in : (es : List Entry) (stopped : Option ℕ) (torn : Option Entry) →
    entries_of (map item.Entry es ++ stop_in stopped torn) ≡ es
entries_in es stopped torn =
    entries_both (map item.Entry es) (stop_in stopped torn) ∙ ap (λ (l : List Entry). l ++ entries_of (stop_in stopped torn))
    (entries_back es)
    ∙ ap (λ (l : List Entry). es ++ l) (no_entry stopped torn) ∙ append-nil es

all_front : (P : Item → Type 0) (xs ys : List Item) → AllByRecursion P (xs ++ ys) → AllByRecursion P xs
all_front P [] ys h = tt
all_front P (x ∷ xs) ys h = (h.0, all_front P xs ys h.1)

all_back : (P : Item → Type 0) (xs ys : List Item) → AllByRecursion P (xs ++ ys) → AllByRecursion P ys
all_back P [] ys h = h
all_back P (x ∷ xs) ys h = all_back P xs ys h.1

notes_each : (es : List Entry) → AllByRecursion AreNotesOrTorn (map item.Entry es) → AllByRecursion AreNotesEntry es
notes_each [] h = tt
notes_each (Rec till serial sealed ∷ es) h = absurd h.0
notes_each (Notes first lines ∷ es) h = (tt, notes_each es h.1)

torn_notes : (stopped : Option ℕ) (torn : Option Entry) → AllByRecursion AreNotesOrTorn (stop_in stopped torn) →
    AllByRecursion AreNotesEntry (torn_in stopped torn)
torn_notes (Some n) (Some (Rec till serial sealed)) h = absurd h.0
torn_notes (Some n) (Some (Notes first lines)) h = (tt, tt)
torn_notes (Some n) None h = tt
torn_notes None torn h = tt

pub torn_one : (stopped : Option ℕ) (torn : Option Entry) → length (torn_in stopped torn) ≤ 1
torn_one (Some n) (Some t) = omega arith
torn_one (Some n) None = omega arith
torn_one None torn = omega arith

pub torn_is : (es : List Entry) (stopped : Option ℕ) (torn : Option Entry) → with_torn es stopped torn ≡ es ++ torn_in stopped
    torn
torn_is es (Some n) (Some t) = refl
torn_is es (Some n) None = sym (append-nil es)
torn_is es None torn = sym (append-nil es)

pub none_torn : (stopped : Option ℕ) (torn : Option Entry) → stopped ≡ None → torn_in stopped torn ≡ []
none_torn None torn e = refl
none_torn (Some n) torn e = absurd cc

module _ {C : Type 0} (base log : List Item) (root : Root C) (tills : List (Known Item (Root C)))
    (seat then : Known Item (Root C)) (closed : Closed base log root tills seat then)
    (start es : List Entry) (stopped : Option ℕ) (torn : Option Entry) where
  pub record Stored : Type 0 where
    pub base_is : base ≡ map item.Entry start
    pub log_is : log ≡ map item.Entry es ++ stop_in stopped torn
    pub begins : StartsWith es start

  pub seen_all : Stored → entries_of then.seen ≡ es
  seen_all s = ap entries_of (all_seen base log root tills seat then closed ∙ s.log_is) ∙ entries_in es stopped torn

  gained_is : Stored → (s : StartsWith es start) → closed.adds.items ≡ map item.Entry s.0 ++ stop_in stopped torn
  gained_is s b =
      let e : seat.seen ++ closed.adds.items ≡ seat.seen ++ (map item.Entry b.0 ++ stop_in stopped torn) =
      sym closed.adds.items_is ∙ all_seen base log root tills seat then closed ∙ s.log_is ∙
      ap (λ (l : List Entry). map item.Entry l ++ stop_in stopped torn) b.1
      ∙ ap (λ (l : List Item). l ++ stop_in stopped torn) (map-append item.Entry start b.0)
      ∙ append_assoc (map item.Entry start) (map item.Entry b.0) (stop_in stopped torn)
      ∙ ap (λ (l : List Item). l ++ (map item.Entry b.0 ++ stop_in stopped torn)) (sym (closed.fresh.seen ∙ s.base_is)) in
      append_cancel_left seat.seen closed.adds.items (map item.Entry b.0 ++ stop_in stopped torn) e

  pub notes_alone : Stored → AddsNotesAlone start es × AllByRecursion AreNotesEntry (torn_in stopped torn)
  notes_alone s =
      let all = subst (λ (l : List Item). AllByRecursion AreNotesOrTorn l) (gained_is s s.begins)
      (all_mine base log root tills seat then closed) in (
        record {
          more = s.begins.0;
          is = s.begins.1;
          are = notes_each s.begins.0
              (all_front AreNotesOrTorn (map item.Entry s.begins.0) (stop_in stopped torn) all);
        },
        torn_notes stopped torn (all_back AreNotesOrTorn (map item.Entry s.begins.0) (stop_in stopped torn) all),
      )

  pub agreed : Stored → (new : Ledger) → Agree (entries_of then.seen) new.processed new.sent → Agree es new.processed new.sent
  agreed s new agree = subst (λ (l : List Entry). Agree l new.processed new.sent) (seen_all s) agree

  pub agreed_torn : Stored → (new : Ledger) → Agree (entries_of then.seen) new.processed new.sent → AgreesIfTorn (sight_by seat)
      (sight_by then) new → Agree (with_torn es stopped torn) new.processed new.sent
  agreed_torn s new agree if_torn = by_case stopped torn s.log_is
    where
      by_case : (n : Option ℕ) (t : Option Entry) → log ≡ map item.Entry es ++ stop_in n t →
          Agree (with_torn es n t) new.processed new.sent
      by_case None t e = agreed s new agree
      by_case (Some n) None e = agreed s new agree
      by_case (Some n) (Some t) e =
          let items : List Item = map item.Entry es in
          let last : List Item = item.Stop n t ∷ [] in
          let low : length base ≤ length items =
          (let a = ap length s.base_is in let b = ap length s.begins.1 in let c = length-append start s.begins.0 in
          let d = length-map es item.Entry in let f = length-map start item.Entry in omega arith) in
          let high : length items < length log = (let a = ap length e in let b = length-append items last in omega arith) in
          let own : drop (length (sight_by seat).own) (sight_by then).own ≡ (sight_by then).own =
          ap (λ (o : List ℕ). drop (length o) (sight_by then).own) (own_before base log root tills seat then closed) in
          let there = mine base log root tills seat then closed (length items) low high in
          subst (λ (l : List Entry). Agree (l ++ t ∷ []) new.processed new.sent) (seen_all s)
          (if_torn items n t (all_seen base log root tills seat then closed ∙ e)
          (subst (λ (o : List ℕ). Contains o (length items)) (sym own) there))

  -- what is torn is the seat's own, and what the last message says
  pub torn_said : Stored → (messages : List Message) → TearsSaid (sight_by seat) (sight_by then) messages →
      AllByRecursion (TornSaid es messages) (torn_in stopped torn)
  torn_said s messages tears = by_case stopped torn s.log_is
    where
      by_case : (n : Option ℕ) (t : Option Entry) → log ≡ map item.Entry es ++ stop_in n t →
          AllByRecursion (TornSaid es messages) (torn_in n t)
      by_case None t e = tt
      by_case (Some n) None e = tt
      by_case (Some n) (Some t) e =
          let items : List Item = map item.Entry es in
          let last : List Item = item.Stop n t ∷ [] in
          let low : length base ≤ length items =
          (let a = ap length s.base_is in let b = ap length s.begins.1 in let c = length-append start s.begins.0 in
          let d = length-map es item.Entry in let f = length-map start item.Entry in omega arith) in
          let high : length items < length log = (let a = ap length e in let b = length-append items last in omega arith) in
          let own : drop (length (sight_by seat).own) (sight_by then).own ≡ (sight_by then).own =
          ap (λ (o : List ℕ). drop (length o) (sight_by then).own) (own_before base log root tills seat then closed) in
          let there = mine base log root tills seat then closed (length items) low high in (
            subst (λ (l : List Entry). TornSaid l messages t) (seen_all s)
                (tears items n t (all_seen base log root tills seat then closed ∙ e)
                (subst (λ (o : List ℕ). Contains o (length items)) (sym own) there)),
            tt,
          )

-- a new seat sees the history at the start
pub sight_new : {C : Type 0} (base : List Item) (root : Root C) (k : Known Item (Root C)) → IsNew base root k →
    base ≡ map item.Entry root.history → sight_by k ≡ plain_sight root.version root.issuer root.history []
sight_new base root k new is = rw (new.root_is, new.seen, new.own, is) refl

-- a new seat agrees where the history at the start does
pub agree_new : {C : Type 0} (base : List Item) (root : Root C) (k : Known Item (Root C)) (processed : List (Sealed × Line))
    (sent : List (List Sealed)) → IsNew base root k → base ≡ map item.Entry root.history →
    Agree root.history processed sent → Agree (history_of (sight_by k)) processed sent
agree_new base root k processed sent new is agree =
    let e : history_of (sight_by k) ≡ root.history = ap history_of (sight_new base root k new is) ∙ entries_back root.history in
    subst (λ (l : List Entry). Agree l processed sent) (sym e) agree

no_rows : (more : List Entry) → AllByRecursion AreNotesEntry more → rows more ≡ []
no_rows [] h = refl
no_rows (Rec till serial sealed ∷ more) h = absurd h.0
no_rows (Notes first lines ∷ more) h = no_rows more h.1

pub same_records : (before after : List Entry) → AddsNotesAlone before after → recs after ≡ recs before
same_records before after a =
    ap recs a.is ∙ ap (λ (rs : List Row). map (λ (r : Row). r.sealed) rs) (filter_map-append row_in before a.more ∙
    ap (λ (rs : List Row). rows before ++ rs) (no_rows a.more a.are) ∙ append-nil (rows before))

pub none_came : (entries : List Entry) → AddsNotesAlone entries entries
none_came entries = record { more = []; is = sym (append-nil entries); are = tt }
