-- A note of the seat, as its outbox tells it.
use Rattle.std.proofs.Common.{◌≡◌, ◌↔◌, ◌<◌, ◌≤◌, ◌+◌, ℕ, zero, suc, List, [], ◌∷◌, ◌++◌, length, map, All, Result, Ok, Err}
use Rattle.std.proofs.Common.{ap, sym, ◌∙◌, subst, arith}
use Rattle.std.specs.List.{enumerate_from}
use Rattle.std.proofs.lemmas.List.{append-nil, map-append, append_cancel_left, length-append}
use Rattle.std.proofs.lemmas.List.Elements.{All-append}
use Rattle.chain_lock.specs.Known.{IsNew, Known, Turns}
use Rattle.chain_lock.specs.Lists.{EachOf}
use Rattle.journal.specs.declared.faults.StoreFault.{StoreFault}
use Rattle.journal.specs.declared.faults.StoreFault.TheVariants.{DiskFault, Stopped, NoMemory}
use Rattle.once_world.specs.Outbox.{AddsOwn, HasNoStop, HasStopped, NotedBy, OwnWithin, notes_behind}
use Rattle.record_codec.specs.declared.entry.Entry.{Entry}
use Rattle.record_fields.specs.declared.lines.Line.{Line}
use Rattle.shop_core.specs.History.{noted, recs}
use Rattle.shop_core.specs.Items.{entries_of}
use Rattle.shop_core.specs.declared.items.Item.{Item}
use Rattle.shop_core.specs.declared.items.Item.TheVariants as item
use Rattle.till_calls.specs.Root.{Root}
use Rattle.till_calls.specs.Mark.{sight_by}
use Rattle.till_calls.specs.Turns.{SeatTurn, SeatDoes}
use Rattle.till_calls.proofs.Asking.{entries_in_map}
use Rattle.till_calls.proofs.Places.{all_each}
use Rattle.till_calls.proofs.Serving.{each_front}

no_stop : (entries : List Entry) → HasNoStop (map item.Entry entries)
no_stop [] = tt
no_stop (e ∷ entries) = (tt, no_stop entries)

-- entries don't end in a stop, and a list ends in one stop
no_end : (entries : List Entry) (before : List Item) (faults : ℕ) (torn : Entry) → map item.Entry entries ≡ before ++ item.Stop
    faults torn ∷ [] → ⊥
no_end [] [] faults torn e = absurd cc
no_end [] (x ∷ before) faults torn e = absurd cc
no_end (x ∷ entries) [] faults torn e = absurd cc
no_end (x ∷ entries) (y ∷ before) faults torn e = let rest : map item.Entry entries ≡ before ++ item.Stop faults torn ∷ [] = cc in
    no_end entries before faults torn rest

one_end : (entries : List Entry) (count : ℕ) (last : Entry) (before : List Item) (faults : ℕ) (torn : Entry) →
    map item.Entry entries ++ item.Stop count last ∷ [] ≡ before ++ item.Stop faults torn ∷ [] → count ≡ faults
one_end [] count last [] faults torn e = let is : count ≡ faults = cc in is
one_end [] count last (x ∷ []) faults torn e = absurd cc
one_end [] count last (x ∷ y ∷ before) faults torn e = absurd cc
one_end (x ∷ entries) count last [] faults torn e = absurd (none_left entries (let rest : map item.Entry entries ++ item.Stop
    count last ∷ [] ≡ [] = cc in rest))
  where
    none_left : (es : List Entry) → map item.Entry es ++ item.Stop count last ∷ [] ≡ [] → ⊥
    none_left [] h = absurd cc
    none_left (z ∷ es) h = absurd cc
one_end (x ∷ entries) count last (y ∷ before) faults torn e =
    let rest : map item.Entry entries ++ item.Stop count last ∷ [] ≡ before ++ item.Stop faults torn ∷ [] = cc in
    one_end entries count last before faults torn rest

no_more : (own : List ℕ) (place : ℕ) → own ++ place ∷ [] ≡ own → ⊥
no_more own place e = let n = ap (λ (l : List ℕ). length l) e in let m = length-append own (place ∷ []) in omega (arith, n, m)

module _ {C : Type 0} (lines : List Line) (old : Known Item (Root C)) where
  -- the pass after a turn that found these items and added those
  abbrev after : List Item → List Item → Known Item (Root C)
  after before more = record old {
    seen = before ++ more;
    least = length (before ++ more);
    own = old.own ++ enumerate_from (length before) more;
  }

  own_one : (before : List Item) (x : Item) → (sight_by (after before (x ∷ []))).own ≡ (sight_by old).own ++ length before ∷ []
  own_one before x = map-append (λ (y : ℕ × Item). y.0) old.own ((length before, x) ∷ [])

  own_none : (before : List Item) → (sight_by (after before [])).own ≡ (sight_by old).own
  own_none before = ap (λ (o : List (ℕ × Item)). map (λ (y : ℕ × Item). y.0) o) (append-nil old.own)

  adds_own : (before others : List Item) (history : List Entry) (made : List Item → Item) → before ≡ old.seen ++ others →
      before ≡ map item.Entry history →
      AddsOwn (sight_by old) (sight_by (after before (made before ∷ []))) made
  adds_own before others history made is going = record {
    others = others;
    going_on = subst HasNoStop (sym going ∙ is) (no_stop history);
    items = ap (λ (l : List Item). l ++ made l ∷ []) is;
    own = own_one before (made before) ∙ ap (λ (l : List Item). (sight_by old).own ++ length l ∷ []) is;
  }

  -- a stop leaves the history in front of it
  fits_in_front : (before : List Item) (history : List Entry) (count : ℕ) (torn : Entry) → before ≡ map item.Entry history →
      length (noted history) + length lines ≤ length (recs history) →
      length (noted (entries_of (before ++ item.Stop count torn ∷ []))) + length lines ≤ length (recs
      (entries_of (before ++ item.Stop count torn ∷ [])))
  fits_in_front before history count torn going fits =
      let same : entries_of (before ++ item.Stop count torn ∷ []) ≡ history =
      ap (λ (l : List Item). entries_of (l ++ item.Stop count torn ∷ [])) going ∙ entries_in_map history
      (item.Stop count torn ∷ []) ∙ append-nil history in
      subst (λ (es : List Entry). length (noted es) + length lines ≤ length (recs es)) (sym same) fits

  noted_after : (told : Result (Unit {0}) StoreFault) (root : Root C) (before more others : List Item) →
      before ≡ old.seen ++ others → SeatDoes lines told root before (before ++ more) →
      NotedBy (sight_by old) (sight_by (after before more)) lines told
  noted_after (Ok done) root before more others is a =
      let one : more ≡ item.Entry (notes_behind before lines) ∷ [] = append_cancel_left before more
      (item.Entry (notes_behind before lines) ∷ []) a.after_is in
      subst (λ (l : List Item). NotedBy (sight_by old) (sight_by (after before l)) lines (Ok done)) (sym one)
      (adds_own before others a.history (λ items. item.Entry (notes_behind items lines)) is a.going_on)
  noted_after (Err DiskFault) root before more others is t =
      let one : more ≡ item.Stop t.count (notes_behind before lines) ∷ [] = append_cancel_left before more
      (item.Stop t.count (notes_behind before lines) ∷ []) t.after_is in
      subst (λ (l : List Item). NotedBy (sight_by old) (sight_by (after before l)) lines (Err DiskFault)) (sym one)
      (record {
        faults = t.count;
        adds = adds_own before others t.history (λ items. item.Stop t.count (notes_behind items lines))
            is t.going_on;
        fits = fits_in_front before t.history t.count (notes_behind before lines) t.going_on t.fits;
      })
  noted_after (Err (Stopped count)) root before more others is s =
      let none : more ≡ [] = append_cancel_left before more [] (s.0 ∙ sym (append-nil before)) in
      subst (λ (l : List Item). NotedBy (sight_by old) (sight_by (after before l)) lines (Err (Stopped count))) (sym none)
      (record {
        before = map item.Entry s.1.history;
        torn = s.1.torn;
        items = append-nil before ∙ s.1.items_are;
        own = own_none before;
      })
  noted_after (Err NoMemory) root before more others is e =
      let none : more ≡ [] = append_cancel_left before more [] (e.0 ∙ sym (append-nil before)) in
      subst (λ (l : List Item). NotedBy (sight_by old) (sight_by (after before l)) lines (Err NoMemory)) (sym none)
      (own_none before)

  -- where the last item is a stop that was not added here, the note was told of it
  told_after : (told : Result (Unit {0}) StoreFault) (root : Root C) (before more : List Item) (faults : ℕ) →
      SeatDoes lines told root before (before ++ more) →
      HasStopped (sight_by old) (sight_by (after before more)) faults → told ≡ Err (Stopped faults)
  told_after (Ok done) root before more faults a h =
      let one : more ≡ item.Entry (notes_behind before lines) ∷ [] = append_cancel_left before more
      (item.Entry (notes_behind before lines) ∷ []) a.after_is in
      absurd (no_more (sight_by old).own (length before) (sym (own_one before (item.Entry (notes_behind before lines))) ∙
      ap (λ (l : List Item). (sight_by (after before l)).own) (sym one) ∙ h.own))
  told_after (Err DiskFault) root before more faults t h =
      let one : more ≡ item.Stop t.count (notes_behind before lines) ∷ [] = append_cancel_left before more
      (item.Stop t.count (notes_behind before lines) ∷ []) t.after_is in
      absurd (no_more (sight_by old).own (length before) (sym (own_one before (item.Stop t.count (notes_behind before lines))) ∙
      ap (λ (l : List Item). (sight_by (after before l)).own) (sym one) ∙ h.own))
  told_after (Err (Stopped count)) root before more faults s h =
      ap (λ (n : ℕ). Err (Stopped n)) (one_end s.1.history count s.1.torn h.before faults h.torn (sym s.1.items_are ∙ sym s.0 ∙
      h.items))
  told_after (Err NoMemory) root before more faults e h = absurd (no_end e.1.history h.before faults h.torn (sym e.1.entries ∙
      sym e.0 ∙ h.items))

  pub noted_by : (told : Result (Unit {0}) StoreFault) (new : Known Item (Root C)) →
      Turns (λ root before after. SeatTurn lines told root before after) old new →
      NotedBy (sight_by old) (sight_by new) lines told
  noted_by told new t = subst (λ (k : Known Item (Root C)). NotedBy (sight_by old) (sight_by k) lines told) (sym t.after)
      (noted_after told t.home t.before t.added t.begins.0 t.begins.1 t.related.does)

  pub stopped_by : (told : Result (Unit {0}) StoreFault) (new : Known Item (Root C)) (faults : ℕ) →
      Turns (λ root before after. SeatTurn lines told root before after) old new →
      (told ≡ Err (Stopped faults)) ↔ HasStopped (sight_by old) (sight_by new) faults
  stopped_by told new faults t = (
    λ is. subst (λ (r : Result (Unit {0}) StoreFault). NotedBy (sight_by old) (sight_by new) lines r) is (noted_by told new t),
    λ h. told_after told t.home t.before t.added faults t.related.does
        (subst (λ (k : Known Item (Root C)). HasStopped (sight_by old) (sight_by k) faults) t.after h),
  )

-- a turn leaves its own places within what was seen
module _ {C : Type 0} (relates : Root C → List Item → List Item → Type 0) (old new : Known Item (Root C)) where
  all_below : (n m : ℕ) (own : List ℕ) → n ≤ m → All (λ (p : ℕ). p < n) own → All (λ (p : ℕ). p < m) own
  all_below n m own le h = λ k d lt. let one = h k d lt in omega (arith, one, le)

  places : (n : ℕ) (more : List Item) → length more ≤ 1 → All (λ (p : ℕ). p < n + length more)
      (map (λ (y : ℕ × Item). y.0) (enumerate_from n more))
  places n [] le k d lt = absurd (omega (arith, lt))
  places n (x ∷ []) le zero d lt = omega arith
  places n (x ∷ []) le (suc k) d lt = absurd (omega (arith, lt))
  places n (x ∷ y ∷ more) le k d lt = absurd (omega (arith, le))

  -- a turn shows at least as many items as the seat knew of
  pub covered : Turns relates old new → old.least ≤ length (sight_by new).items
  covered t =
      let e = length-append t.before t.added in let a = t.at_least in
      let long : old.least ≤ length (t.before ++ t.added) = omega (arith, e, a) in
      subst (λ (k : Known Item (Root C)). old.least ≤ length (sight_by k).items) (sym t.after) long

  pub within_still : Turns relates old new → OwnWithin (sight_by old) → OwnWithin (sight_by new)
  within_still t h =
      let long = ap (λ (l : List Item). length l) t.begins.1 in
      let sum = length-append old.seen t.begins.0 in
      let whole : length (t.before ++ t.added) ≡ length t.before + length t.added = length-append t.before t.added in
      let n = length (t.before ++ t.added) in
      let low : length old.seen ≤ n = omega (arith, long, sum, whole) in
      let mine = all_below (length old.seen) n (sight_by old).own low h in
      let added : All (λ (p : ℕ). p < n) (map (λ (y : ℕ × Item). y.0) (enumerate_from (length t.before) t.added)) =
      subst (λ (m : ℕ). All (λ (p : ℕ). p < m) (map (λ (y : ℕ × Item). y.0) (enumerate_from (length t.before) t.added)))
      (sym whole) (places (length t.before) t.added t.at_most_one) in
      let both = All-append (λ (p : ℕ). p < n) (sight_by old).own _ mine added in
      let whole_own = map-append (λ (y : ℕ × Item). y.0) old.own (enumerate_from (length t.before) t.added) in
      subst (λ (k : Known Item (Root C)). OwnWithin (sight_by k)) (sym t.after) (subst (λ (l : List ℕ). All (λ (p : ℕ). p < n) l)
      (sym whole_own) both)

pub within_new : {C : Type 0} (k : Known Item (Root C)) → k.own ≡ [] → OwnWithin (sight_by k)
within_new k none = subst (λ (own : List (ℕ × Item)). All (λ (p : ℕ). p < length k.seen) (map (λ (y : ℕ × Item). y.0) own))
    (sym none) (λ i d lt. absurd (omega (arith, lt)))

-- the last of the passes is a new one
pub last_new : {I R : Type 0} (items : List I) (root : R) (all rest : List (Known I R)) (k : Known I R) →
    All (IsNew items root) all → all ≡ rest ++ k ∷ [] → IsNew items root k
last_new {I} {R} items root all rest k each is =
    (each_front (IsNew items root) rest k (subst (λ (ks : List (Known I R)). EachOf (IsNew items root) ks) is
    (all_each (IsNew items root) all each))).1
