-- What a shop gained in several turns, and that notes of its own alone in all are notes of its own alone in each.
use Rattle.std.proofs.Common.{◌≡◌, inl, inr, ℕ, zero, suc, ◌+◌, ◌<◌, ◌≤◌, List, [], ◌∷◌, ◌++◌, sym, ◌∙◌, ap, subst, length}
use Rattle.std.proofs.Common.{length-append, drop, arith, append_assoc, append-nil, get_or, Result}
use Rattle.std.proofs.Math.Seq.{drop-append_seam}
use Rattle.std.proofs.lemmas.List.Elements.{Contains-append_cases}
use Rattle.std.specs.Prelude.{Contains}
use Rattle.std.specs.List.{AllByRecursion}
use Rattle.record_codec.specs.declared.entry.Entry.TheVariants.{Rec, Notes as notes_of}
use Rattle.shop_core.specs.declared.items.Item.{Item}
use Rattle.shop_core.specs.declared.items.Item.TheVariants as recorded
use Rattle.shop_core.specs.declared.waiting.Waiting.{Waiting}
use Rattle.shop_core.specs.Prefix.{IsPrefix}
use Rattle.once_world.specs.Outbox.{Sight, Grows, AddsOwn, AreOwnNotes, GainsOwnNotes}
use Rattle.sender.specs.declared.answers.Turn.{Turn}
use Rattle.sender.specs.declared.answers.SendFault.{SendFault}
use Rattle.sender.specs.Sending.{Sending}
use Rattle.sender.specs.Turning.{Deed, AgencyKind, AgencyState, Ends, Turned, turn_call}
use Rattle.sender.proofs.Lists.{all_both, all_change}
use Rattle.sender.proofs.Added.{Added, quiet, notes, stops, ends_added}

all_at : {A : Type 0} (P : A → Type 0) (xs : List A) (k : ℕ) (x : A) → AllByRecursion P xs → k < length xs → get_or xs k x ≡ x →
    P x
all_at P [] k x all lt e = absurd (omega arith)
all_at P (y ∷ xs) zero x all lt e = let h : y ≡ x = e in subst P h all.0
all_at P (y ∷ xs) (suc k) x all lt e = all_at P xs k x all.1 (omega arith) e

pub all_contained : {A : Type 0} (P : A → Type 0) (xs : List A) (x : A) → AllByRecursion P xs → Contains xs x → P x
all_contained P xs x all there = all_at P xs there.0 x all there.1 there.2

-- items, and places of its own among them
pub record Growth (before after : Sight) : Type 0 where
  pub items : List Item
  pub items_is : after.items ≡ before.items ++ items
  pub own : List ℕ
  pub own_is : after.own ≡ before.own ++ own
  pub low : AllByRecursion (λ (p : ℕ). length before.items ≤ p) own
  pub high : AllByRecursion (λ (p : ℕ). p < length after.items) own

pub no_growth : (s : Sight) → Growth s s
no_growth s = record {
  items = [];
  items_is = sym (append-nil s.items);
  own = [];
  own_is = sym (append-nil s.own);
  low = tt;
  high = tt;
}

pub growth_then : (a b c : Sight) → Growth a b → Growth b c → Growth a c
growth_then a b c g h =
    let ga = ap length g.items_is in
    let hb = ap length h.items_is in
    let x = length-append a.items g.items in
    let y = length-append b.items h.items in
    let le : length a.items ≤ length b.items = omega arith in
    let lf : length b.items ≤ length c.items = omega arith in
    record {
      items = g.items ++ h.items;
      items_is = h.items_is ∙ ap (λ (xs : List Item). xs ++ h.items) g.items_is ∙ append_assoc a.items g.items h.items;
      own = g.own ++ h.own;
      own_is = h.own_is ∙ ap (λ (xs : List ℕ). xs ++ h.own) g.own_is ∙ append_assoc a.own g.own h.own;
      low = all_both (λ (p : ℕ). length a.items ≤ p) g.own h.own g.low (all_change (λ (p : ℕ). length b.items ≤ p)
          (λ (p : ℕ). length a.items ≤ p) (λ p q. omega arith) h.own h.low);
      high = all_both (λ (p : ℕ). p < length c.items) g.own h.own (all_change (λ (p : ℕ). p < length b.items)
          (λ (p : ℕ). p < length c.items) (λ p q. omega arith) g.own g.high) h.high;
    }

-- a grown shop that added nothing of its own, or one item
quiet_gained : (before after : Sight) → IsPrefix before.items after.items → after.own ≡ before.own → Growth before after
quiet_gained before after items own = record {
  items = items.rest;
  items_is = items.is;
  own = [];
  own_is = own ∙ sym (append-nil before.own);
  low = tt;
  high = tt;
}

pub quiet_growth : (before after : Sight) → Grows before after → after.own ≡ before.own → Growth before after
quiet_growth before after g own = quiet_gained before after g.items own

own_growth : (before after : Sight) (item : List Item → Item) → AddsOwn before after item → Growth before after
own_growth before after item a =
    let p : ℕ = length (before.items ++ a.others) in
    let last : List Item = item (before.items ++ a.others) ∷ [] in
    let e = ap length a.items in
    let x = length-append (before.items ++ a.others) last in
    let y = length-append before.items a.others in
    record {
      items = a.others ++ last;
      items_is = a.items ∙ append_assoc before.items a.others last;
      own = p ∷ [];
      own_is = a.own;
      low = (omega arith, tt);
      high = (omega arith, tt);
    }

added_growth : (look after : Sight) (result : Result Turn SendFault) → Added look after result → Growth look after
added_growth look after result (quiet issuer items own) = quiet_gained look after items own
added_growth look after result (notes issuer lines a) = own_growth look after _ a
added_growth look after result (stops issuer lines a is) = own_growth look after _ a.adds

pub ends_growth : (old : Sending) (now : ℕ) (shown : Waiting) (look after : Sight) (deed : Deed) (result : Result Turn SendFault)
    (new : Sending) → Ends old now shown look after deed result new → Growth look after
ends_growth old now shown look after deed result new ends =
    added_growth look after result (ends_added old now shown look after deed result new ends)

pub turn_growth : (kind : AgencyKind) (agency_state agency_state_then : AgencyState) (before after : Sight) (old new : Sending) (now : ℕ)
    (result : Result Turn SendFault) → Turned (turn_call kind agency_state agency_state_then before after old new now result) → Growth before after
turn_growth kind agency_state agency_state_then before after old new now result t =
    growth_then before t.look after (quiet_growth before t.look t.grows t.own) (ends_growth old now t.shown t.look after
    t.deals.deed result new t.deals.ends)

own_front : (own : List ℕ) (at : ℕ) (xs ys : List Item) → AreOwnNotes own at (xs ++ ys) → AreOwnNotes own at xs
own_front own at [] ys h = tt
own_front own at (recorded.Entry (Rec till serial sealed) ∷ xs) ys h = own_front own (at + 1) xs ys h
own_front own at (recorded.Entry (notes_of first lines) ∷ xs) ys h = (h.0, own_front own (at + 1) xs ys h.1)
own_front own at (recorded.Stop faults torn ∷ xs) ys h = own_front own (at + 1) xs ys h

own_back : (own : List ℕ) (at to : ℕ) (xs ys : List Item) → to ≡ at + length xs → AreOwnNotes own at (xs ++ ys) →
    AreOwnNotes own to ys
own_back own at to [] ys e h = let same : at ≡ to = omega arith in subst (λ (k : ℕ). AreOwnNotes own k ys) same h
own_back own at to (recorded.Entry (Rec till serial sealed) ∷ xs) ys e h = own_back own (at + 1) to xs ys (omega arith) h
own_back own at to (recorded.Entry (notes_of first lines) ∷ xs) ys e h = own_back own (at + 1) to xs ys (omega arith) h.1
own_back own at to (recorded.Stop faults torn ∷ xs) ys e h = own_back own (at + 1) to xs ys (omega arith) h

-- places past the items, and places before them, play no part
own_low : (first second : List ℕ) (at : ℕ) (xs : List Item) (to : ℕ) → at + length xs ≤ to → AllByRecursion (λ (p : ℕ). to ≤ p)
    second → AreOwnNotes (first ++ second) at xs → AreOwnNotes first at xs
own_low first second at [] to le high h = tt
own_low first second at (recorded.Entry (Rec till serial sealed) ∷ xs) to le high h = own_low first second (at + 1) xs to
    (omega arith) high h
own_low first second at (recorded.Entry (notes_of number lines) ∷ xs) to le high h = (
  elim (Contains-append_cases first second at h.0) [
    | inl c ↦ c
    | inr c ↦ absurd (let q = all_contained (λ (p : ℕ). to ≤ p) second at high c in omega arith)
  ],
  own_low first second (at + 1) xs to (omega arith) high h.1,
)
own_low first second at (recorded.Stop faults torn ∷ xs) to le high h = own_low first second (at + 1) xs to (omega arith) high h

own_high : (first second : List ℕ) (at : ℕ) (xs : List Item) (from : ℕ) → from ≤ at → AllByRecursion (λ (p : ℕ). p < from) first →
    AreOwnNotes (first ++ second) at xs → AreOwnNotes second at xs
own_high first second at [] from le low h = tt
own_high first second at (recorded.Entry (Rec till serial sealed) ∷ xs) from le low h = own_high first second (at + 1) xs from
    (omega arith) low h
own_high first second at (recorded.Entry (notes_of number lines) ∷ xs) from le low h = (
  elim (Contains-append_cases first second at h.0) [
    | inl c ↦ absurd (let q = all_contained (λ (p : ℕ). p < from) first at low c in omega arith)
    | inr c ↦ c
  ],
  own_high first second (at + 1) xs from (omega arith) low h.1,
)
own_high first second at (recorded.Stop faults torn ∷ xs) from le low h = own_high first second (at + 1) xs from (omega arith) low
    h

-- what was gained, as the growth has it
gained_as : (before after : Sight) (g : Growth before after) → GainsOwnNotes before after →
    AreOwnNotes g.own (length before.items) g.items
gained_as before after g gains =
    let own : drop (length before.own) after.own ≡ g.own = ap (λ (xs : List ℕ). drop (length before.own) xs) g.own_is ∙
    drop-append_seam before.own g.own in
    let items : drop (length before.items) after.items ≡ g.items = ap (λ (xs : List Item). drop (length before.items) xs)
    g.items_is ∙ drop-append_seam before.items g.items in
    subst (λ (xs : List Item). AreOwnNotes g.own (length before.items) xs) items
    (subst (λ (ps : List ℕ). AreOwnNotes ps (length before.items) (drop (length before.items) after.items)) own gains)

as_gained : (before after : Sight) (g : Growth before after) → AreOwnNotes g.own (length before.items) g.items →
    GainsOwnNotes before after
as_gained before after g own_notes =
    let own : drop (length before.own) after.own ≡ g.own = ap (λ (xs : List ℕ). drop (length before.own) xs) g.own_is ∙
    drop-append_seam before.own g.own in
    let items : drop (length before.items) after.items ≡ g.items = ap (λ (xs : List Item). drop (length before.items) xs)
    g.items_is ∙ drop-append_seam before.items g.items in
    subst (λ (xs : List Item). AreOwnNotes (drop (length before.own) after.own) (length before.items) xs) (sym items)
    (subst (λ (ps : List ℕ). AreOwnNotes ps (length before.items) g.items) (sym own) own_notes)

-- in all, so in each
pub gains_each : (a b c : Sight) → Growth a b → Growth b c → GainsOwnNotes a c → GainsOwnNotes a b × GainsOwnNotes b c
unfolding growth_then
gains_each a b c g h gains =
    let all : AreOwnNotes (g.own ++ h.own) (length a.items) (g.items ++ h.items) = gained_as a c (growth_then a b c g h) gains in
    let e = ap length g.items_is in
    let x = length-append a.items g.items in
    let to : length b.items ≡ length a.items + length g.items = omega arith in (
      as_gained a b g (own_low g.own h.own (length a.items) g.items (length b.items) (omega arith) h.low
          (own_front (g.own ++ h.own) (length a.items) g.items h.items all)),
      as_gained b c h (own_high g.own h.own (length b.items) h.items (length b.items) (omega arith) g.high
          (own_back (g.own ++ h.own) (length a.items) (length b.items) g.items h.items to all)),
    )
