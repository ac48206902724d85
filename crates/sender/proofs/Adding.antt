-- What turns add to a shop.
use Rattle.std.proofs.Common.{◌≡◌, ◌⊎◌, inl, inr, ℕ, zero, suc, ◌≤◌, List, [], ◌∷◌, ◌++◌, refl, sym, ◌∙◌, ap, subst, length}
use Rattle.std.proofs.Common.{length-append, drop, arith, append_assoc, append-nil, Bool, Some, None, Result, Err, IsTrue}
use Rattle.std.proofs.Common.{slice_get}
use Rattle.std.proofs.Math.Seq.{drop-append_seam}
use Rattle.std.specs.Prelude.{Contains}
use Rattle.record_fields.specs.declared.lines.Line.{Line}
use Rattle.record_fields.specs.declared.records.Sealed.{Sealed}
use Rattle.record_codec.specs.declared.entry.Entry.{Entry}
use Rattle.record_codec.specs.declared.entry.Entry.TheVariants.{Rec, Notes as notes_of}
use Rattle.journal.specs.declared.faults.StoreFault.TheVariants as store
use Rattle.shop_core.specs.declared.items.Item.{Item}
use Rattle.shop_core.specs.declared.items.Item.TheVariants as recorded
use Rattle.shop_core.specs.History.{noted}
use Rattle.agency_port.specs.declared.turns.Told.{Told}
use Rattle.shop_core.specs.Prefix.{IsPrefix}
use Rattle.once_world.specs.Agreement.{Agree}
use Rattle.once_world.specs.Outbox.{Sight, AddsOwn, notes_behind, history_of}
use Rattle.sender.specs.declared.answers.Turn.{Turn}
use Rattle.sender.specs.declared.answers.SendFault.{SendFault}
use Rattle.sender.specs.declared.answers.SendFault.TheVariants.{Store}
use Rattle.sender.specs.declared.answers.DrainFault.{DrainFault}
use Rattle.sender.specs.Sending.{Sending}
use Rattle.sender.specs.Turning.{AgencyKind, AgencyState, Turned, turn_call}
use Rattle.sender.specs.Agreeing.{InOneSession, KeepsAgreement, Gains, HasAt, AreNotes, AreNotesOrTorn, Adds, AgreesIfTorn}
use Rattle.sender.specs.Draining.{Scene, Turns, none, more, GoesOn, Drained}
use Rattle.sender.proofs.Lists.{all_both, all_change}
use Rattle.sender.specs.Known.{Known}
use Rattle.sender.proofs.Drained.{last}
use Rattle.sender.proofs.Growing.{all_contained}
use Rattle.sender.proofs.Added.{Added, IsSameShop, quiet, notes, stops, ends_added}

-- an element in front, and one at the seam
pub get_front : {A : Type 0} (xs ys : List A) (k : ℕ) (x : A) → slice_get xs k ≡ Some x → slice_get (xs ++ ys) k ≡ Some x
get_front [] ys k x e = absurd (let h : None ≡ Some x = e in cc)
get_front (y ∷ xs) ys zero x e = e
get_front (y ∷ xs) ys (suc k) x e = get_front xs ys k x e

get_seam : {A : Type 0} (xs : List A) (x : A) → slice_get (xs ++ x ∷ []) (length xs) ≡ Some x
get_seam [] x = refl
get_seam (y ∷ xs) x = get_seam xs x

pub last_is : {A : Type 0} (xs ys : List A) (x y : A) → xs ++ x ∷ [] ≡ ys ++ y ∷ [] → x ≡ y
last_is xs ys x y e =
    let l = ap length e in
    let m = length-append xs (x ∷ []) in
    let n = length-append ys (y ∷ []) in
    let same : length xs ≡ length ys = omega arith in
    let a : Some x ≡ Some y = sym (get_seam xs x) ∙ ap (λ zs. slice_get zs (length xs)) e ∙ ap (λ k. slice_get (ys ++ y ∷ []) k)
    same ∙ get_seam ys y in
    let b = a in cc

pub has_front : (P : Item → Type 0) (xs ys : List Item) (p : ℕ) → HasAt P xs p → HasAt P (xs ++ ys) p
has_front P xs ys p h = (h.0, get_front xs ys p h.0 h.1, h.2)

pub adds_none : (P : Item → Type 0) (s : Sight) → Adds P s s
adds_none P s = record {
  issuer = refl;
  version = refl;
  items = [];
  items_is = sym (append-nil s.items);
  own = [];
  own_is = sym (append-nil s.own);
  low = tt;
  are = tt;
}

pub adds_then : (P : Item → Type 0) (a b c : Sight) → Adds P a b → Adds P b c → Adds P a c
adds_then P a b c g h =
    let ga = ap length g.items_is in
    let x = length-append a.items g.items in
    let le : length a.items ≤ length b.items = omega arith in
    record {
      issuer = h.issuer ∙ g.issuer;
      version = h.version ∙ g.version;
      items = g.items ++ h.items;
      items_is = h.items_is ∙ ap (λ (xs : List Item). xs ++ h.items) g.items_is ∙ append_assoc a.items g.items h.items;
      own = g.own ++ h.own;
      own_is = h.own_is ∙ ap (λ (xs : List ℕ). xs ++ h.own) g.own_is ∙ append_assoc a.own g.own h.own;
      low = all_both (λ (p : ℕ). length a.items ≤ p) g.own h.own g.low (all_change (λ (p : ℕ). length b.items ≤ p)
          (λ (p : ℕ). length a.items ≤ p) (λ p q. omega arith) h.own h.low);
      are = all_both (HasAt P c.items) g.own h.own
          (all_change (HasAt P b.items) (HasAt P c.items) (λ p q. subst (λ (xs : List Item). HasAt P xs p) (sym h.items_is)
          (has_front P b.items h.items p q)) g.own g.are) h.are;
    }

pub adds_weaker : (P Q : Item → Type 0) → ((x : Item) → P x → Q x) → (a b : Sight) → Adds P a b → Adds Q a b
adds_weaker P Q f a b g = record {
  issuer = g.issuer;
  version = g.version;
  items = g.items;
  items_is = g.items_is;
  own = g.own;
  own_is = g.own_is;
  low = g.low;
  are = all_change (HasAt P b.items) (HasAt Q b.items) (λ p h. (h.0, h.1, f h.0 h.2)) g.own g.are;
}

pub notes_or_torn : (x : Item) → AreNotes x → AreNotesOrTorn x
notes_or_torn (recorded.Entry (Rec till serial sealed)) h = h
notes_or_torn (recorded.Entry (notes_of first lines)) h = h
notes_or_torn (recorded.Stop faults torn) h = absurd h

adds_quiet : (P : Item → Type 0) (a b : Sight) → IsSameShop a b → IsPrefix a.items b.items → b.own ≡ a.own → Adds P a b
adds_quiet P a b i g own = record {
  issuer = i.0;
  version = i.1;
  items = g.rest;
  items_is = g.is;
  own = [];
  own_is = own ∙ sym (append-nil a.own);
  low = tt;
  are = tt;
}

adds_one : (P : Item → Type 0) (a b : Sight) (item : List Item → Item) → IsSameShop a b → (o : AddsOwn a b item) →
    P (item (a.items ++ o.others)) → Adds P a b
adds_one P a b item i o h =
    let p : ℕ = length (a.items ++ o.others) in
    let y = length-append a.items o.others in
    record {
      issuer = i.0;
      version = i.1;
      items = o.others ++ item (a.items ++ o.others) ∷ [];
      items_is = o.items ∙ append_assoc a.items o.others (item (a.items ++ o.others) ∷ []);
      own = p ∷ [];
      own_is = o.own;
      low = (omega arith, tt);
      are = (
        (
          item (a.items ++ o.others),
          ap (λ (xs : List Item). slice_get xs p) o.items ∙ get_seam (a.items ++ o.others)
              (item (a.items ++ o.others)),
          h,
        ),
        tt,
      );
    }

added_adds : (look after : Sight) (result : Result Turn SendFault) → Added look after result → Adds AreNotesOrTorn look after
added_adds look after result (quiet i g own) = adds_quiet AreNotesOrTorn look after i g own
added_adds look after result (notes i lines a) = adds_one AreNotesOrTorn look after _ i a tt
added_adds look after result (stops i lines a e) = adds_one AreNotesOrTorn look after _ i a.adds tt

added_notes : (look after : Sight) (result : Result Turn SendFault) → (result ≡ Err (Store store.DiskFault) → ⊥) →
    Added look after result → Adds AreNotes look after
added_notes look after result never (quiet i g own) = adds_quiet AreNotes look after i g own
added_notes look after result never (notes i lines a) = adds_one AreNotes look after _ i a tt
added_notes look after result never (stops i lines a e) = absurd (never e)

pub turn_adds : (kind : AgencyKind) (agency_state agency_state_then : AgencyState) (before after : Sight) (old new : Sending) (now : ℕ)
    (result : Result Turn SendFault) → Turned (turn_call kind agency_state agency_state_then before after old new now result) → Adds AreNotesOrTorn before
    after
turn_adds kind agency_state agency_state_then before after old new now result t =
    adds_then AreNotesOrTorn before t.look after (adds_quiet AreNotesOrTorn before t.look
    (t.grows.issuer, t.grows.version) t.grows.items t.own)
    (added_adds t.look after result (ends_added old now t.shown t.look after t.deals.deed result new t.deals.ends))

pub turn_notes : (kind : AgencyKind) (agency_state agency_state_then : AgencyState) (before after : Sight) (old new : Sending) (now : ℕ)
    (result : Result Turn SendFault) → Turned (turn_call kind agency_state agency_state_then before after old new now result) →
    (result ≡ Err (Store store.DiskFault) → ⊥) → Adds AreNotes before after
turn_notes kind agency_state agency_state_then before after old new now result t never =
    adds_then AreNotes before t.look after (adds_quiet AreNotes before t.look
    (t.grows.issuer, t.grows.version) t.grows.items t.own)
    (added_notes t.look after result never (ends_added old now t.shown t.look after t.deals.deed result new t.deals.ends))

-- no own notes are the stop
not_torn : (items : List Item) (faults : ℕ) (torn : Entry) (xs : List Item) → xs ≡ items ++ recorded.Stop faults torn ∷ [] →
    HasAt AreNotes xs (length items) → ⊥
not_torn items faults torn xs e h =
    let a : Some h.0 ≡ Some (recorded.Stop faults torn) = sym h.1 ∙ ap (λ (zs : List Item). slice_get zs (length items)) e ∙
    get_seam items (recorded.Stop faults torn) in
    let b : h.0 ≡ recorded.Stop faults torn = (let c = a in cc) in
    subst AreNotes b h.2

-- With the torn notes too, where the last turn's note was torn
torn_by : (look : List Entry) (processed : List (Sealed × Line)) (sent : List (List Sealed)) (after : Sight)
    (answer : Result Turn SendFault) (items : List Item) (faults : ℕ) (torn : Entry) → answer ≡ Err (Store store.DiskFault) →
    after.items ≡ items ++ recorded.Stop faults torn ∷ [] → Gains look processed sent after answer →
    Agree (history_of after ++ torn ∷ []) processed sent
torn_by look processed sent after answer items faults torn e is gains =
    let n = subst (λ (r : Result Turn SendFault). Gains look processed sent after r) e gains in
    let same : recorded.Stop faults torn ≡ recorded.Stop n.torn.0.1.0 (notes_of (length (noted look)) n.lines) =
    last_is items n.torn.0.0 _ _ (sym is ∙ n.torn.0.1.1) in
    let torn_is : torn ≡ notes_of (length (noted look)) n.lines = (let s = same in cc) in
    subst (λ (t : Entry). Agree (history_of after ++ t ∷ []) processed sent) (sym torn_is)
    (subst (λ (es : List Entry). Agree (es ++ notes_of (length (noted look)) n.lines ∷ []) processed sent) (sym n.is) n.torn.1)

added_torn : (look after : Sight) (result : Result Turn SendFault) (items : List Item) (faults : ℕ) (torn : Entry) →
    after.items ≡ items ++ recorded.Stop faults torn ∷ [] → Added look after result →
    (after.own ≡ look.own) ⊎ (result ≡ Err (Store store.DiskFault))
added_torn look after result items faults torn is (quiet i g own) = inl own
added_torn look after result items faults torn is (notes i lines a) =
    let e : recorded.Entry (notes_behind (look.items ++ a.others) lines) ≡ recorded.Stop faults torn =
    last_is (look.items ++ a.others) items _ _ (sym a.items ∙ is) in
    absurd (let h = e in cc)
added_torn look after result items faults torn is (stops i lines a e) = inr e

pub turn_torn : (kind : AgencyKind) (agency_state agency_state_then : AgencyState) (before after : Sight) (old new : Sending) (now : ℕ)
    (result : Result Turn SendFault) → Turned (turn_call kind agency_state agency_state_then before after old new now result) →
    KeepsAgreement before after agency_state.ledger agency_state_then.ledger new.said result → (items : List Item) (faults : ℕ) (torn : Entry) →
    after.items ≡ items ++ recorded.Stop faults torn ∷ [] → (after.own ≡ before.own → ⊥) →
    Agree (history_of after ++ torn ∷ []) agency_state_then.ledger.processed agency_state_then.ledger.sent
turn_torn kind agency_state agency_state_then before after old new now result t k items faults torn is gained =
    elim (added_torn t.look after result items faults torn is (ends_added old now t.shown t.look after t.deals.deed result new
    t.deals.ends)) [
      | inl own ↦ absurd (gained (own ∙ t.own))
      | inr e ↦ torn_by (history_of before ++ k.records) agency_state_then.ledger.processed agency_state_then.ledger.sent after result items
          faults torn e is k.gains
    ]

pub turn_if_torn : (kind : AgencyKind) (agency_state agency_state_then : AgencyState) (before after : Sight) (old new : Sending) (now : ℕ)
    (result : Result Turn SendFault) → Turned (turn_call kind agency_state agency_state_then before after old new now result) →
    KeepsAgreement before after agency_state.ledger agency_state_then.ledger new.said result → AgreesIfTorn before after agency_state_then.ledger
turn_if_torn kind agency_state agency_state_then before after old new now result t k items faults torn is own =
    turn_torn kind agency_state agency_state_then before after old new now result t k items faults torn is
    (λ same. none_there (subst (λ (ps : List ℕ). Contains ps (length items))
    (ap (λ (xs : List ℕ). drop (length before.own) xs) (same ∙ sym (append-nil before.own)) ∙ drop-append_seam before.own [])
    own))
  where
    none_there : Contains [] (length items) → ⊥
    none_there c = let lt = c.1 in omega arith

goes_untorn : (answer : Result Turn SendFault) → GoesOn answer → answer ≡ Err (Store store.DiskFault) → ⊥
goes_untorn answer on e = subst GoesOn e on

pub turns_notes : (kind : AgencyKind) (exact : Bool) (start : Scene) (answers : List (Result Turn SendFault)) (links : ℕ)
    (scene : Scene) → Turns kind exact start answers links scene → Adds AreNotes start.sight scene.sight
turns_notes kind exact start answers links scene none = adds_none AreNotes start.sight
turns_notes kind exact start answers links scene (more before_answers before_links mid answer then t turn on few) =
    adds_then AreNotes start.sight mid.sight then.sight (turns_notes kind exact start before_answers before_links mid t)
    (turn_notes kind mid.agency_state then.agency_state mid.sight then.sight mid.sending then.sending turn.now answer turn.turned
    (goes_untorn answer on))

pub drained_adds : (kind : AgencyKind) (exact : Bool) (start then : Scene) (old new : List Told) (result : Result (Unit {0}) DrainFault)
    → Drained kind exact start then old new result → Adds AreNotesOrTorn start.sight then.sight
drained_adds kind exact start then old new result d =
    adds_then AreNotesOrTorn start.sight d.scene.sight then.sight (adds_weaker AreNotes AreNotesOrTorn notes_or_torn start.sight
    d.scene.sight (turns_notes kind exact start d.answers d.links d.scene d.made))
    (turn_adds kind d.scene.agency_state then.agency_state d.scene.sight then.sight d.scene.sending then.sending d.turn.now d.answer
    d.turn.turned)

pub drained_if_torn : Known → (kind : AgencyKind) (exact : Bool) (start then : Scene) (old new : List Told)
    (result : Result (Unit {0}) DrainFault) → Drained kind exact start then old new result →
    (IsTrue kind.keeps_rules → IsTrue kind.tells) →
    InOneSession kind.keeps_rules start.sight then.sight start.agency_state.ledger start.sending.said
    (AgreesIfTorn start.sight then.sight then.agency_state.ledger)
drained_if_torn known kind exact start then old new result d tells keeps session gains items faults torn is own =
    let k = (last known kind exact start then old new result d tells keeps session gains).1 in
    let g = turns_notes kind exact start d.answers d.links d.scene d.made in
    let h = turn_adds kind d.scene.agency_state then.agency_state d.scene.sight then.sight d.scene.sending then.sending d.turn.now d.answer
    d.turn.turned in
    turn_torn kind d.scene.agency_state then.agency_state d.scene.sight then.sight d.scene.sending then.sending d.turn.now d.answer d.turn.turned
    k items faults torn is
    (λ same.
    let places : drop (length start.sight.own) then.sight.own ≡ g.own = ap (λ (xs : List ℕ). drop (length start.sight.own) xs)
    (same ∙ g.own_is) ∙ drop-append_seam start.sight.own g.own in
    let there : HasAt AreNotes d.scene.sight.items (length items) = all_contained (HasAt AreNotes d.scene.sight.items) g.own
    (length items) g.are (subst (λ (ps : List ℕ). Contains ps (length items)) places own) in
    not_torn items faults torn then.sight.items is (subst (λ (xs : List Item). HasAt AreNotes xs (length items)) (sym h.items_is)
    (has_front AreNotes d.scene.sight.items h.items (length items) there)))
