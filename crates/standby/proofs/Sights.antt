-- What the sender sees of a pair.
use Rattle.std.proofs.Common.{◌≡◌, ℕ, zero, suc, ◌+◌, ◌-◌, ◌<◌, ◌≤◌, List, [], ◌∷◌, ◌++◌, length, map, take, All, refl, sym, ◌∙◌}
use Rattle.std.proofs.Common.{ap, subst, arith, length-append, slice_index_or, Bool, Option, Some, None, Result}
use Rattle.std.proofs.Common.{Ok, Err}
use Rattle.std.proofs.lemmas.List.{append-nil, length-drop, length-map, map-append}
use Rattle.std.proofs.lemmas.List.Elements.{All-append, filter_map-append}
use Rattle.chain_disk.specs.OnDisk.{OnDisk}
use Rattle.chain_store.specs.Ready.{noted_next}
use Rattle.journal.specs.declared.faults.StoreFault.{StoreFault}
use Rattle.journal.specs.declared.faults.StoreFault.TheVariants.{DiskFault, Stopped, NoMemory}
use Rattle.once_world.specs.Outbox.{AddsOwn, Grows, HasNoStop, HasStopped, NotedBy, OwnWithin, ShowsWaiting, Sight, notes_behind}
use Rattle.record_codec.specs.declared.entry.Entry.{Entry}
use Rattle.record_codec.specs.declared.entry.Entry.TheVariants.{Notes}
use Rattle.record_fields.specs.declared.lines.Line.{Line}
use Rattle.shop_core.specs.History.{noted, recs, waiting}
use Rattle.shop_core.specs.Items.{entries_of, entry_in}
use Rattle.shop_core.specs.Legal.{Legal}
use Rattle.shop_core.specs.declared.items.Item.{Item}
use Rattle.shop_core.specs.declared.items.Item.TheVariants as item
use Rattle.shop_core.specs.declared.waiting.Waiting.{Waiting}
use Rattle.standby.specs.Pairs.{AreBeside, Both, GoOn, IsPair, IsUnmoved, NotesBoth, TearsNotes, first_stop, items_in}
use Rattle.standby.specs.Pairs.{places_from}
use Rattle.standby.specs.Pairs.{sight_of, stop_in, stop_of}

-- ---- items

entries_plain : (entries : List Entry) → entries_of (map item.Entry entries) ≡ entries
entries_plain [] = refl
entries_plain (e ∷ entries) = ap (λ (es : List Entry). e ∷ es) (entries_plain entries)

none_in_stop : (stopped : Option ℕ) (torn : Option Entry) → entries_of (stop_in stopped torn) ≡ []
none_in_stop None torn = refl
none_in_stop (Some count) None = refl
none_in_stop (Some count) (Some entry) = refl

entries_both : (xs ys : List Item) → entries_of (xs ++ ys) ≡ entries_of xs ++ entries_of ys
entries_both xs ys = filter_map-append entry_in xs ys

-- the entries of its items are the standby's history
pub entries_seen : {D C M : Type 0} (both : Both D C M) → entries_of (items_in both) ≡ both.standby.history.entries
entries_seen both =
    let a = stop_in both.shop.stopped both.shop.torn in
    let b = stop_in both.standby.stopped both.standby.torn in
    let none : entries_of (a ++ b) ≡ [] =
    entries_both a b ∙ ap (λ (l : List Entry). l ++ entries_of b) (none_in_stop both.shop.stopped both.shop.torn) ∙
    none_in_stop both.standby.stopped both.standby.torn in
    entries_both (map item.Entry both.standby.history.entries) (a ++ b) ∙
    ap (λ (l : List Entry). l ++ entries_of (a ++ b)) (entries_plain both.standby.history.entries) ∙
    ap (λ (l : List Entry). both.standby.history.entries ++ l) none ∙ append-nil both.standby.history.entries

no_stop : (stopped : Option ℕ) (torn : Option Entry) → stopped ≡ None → stop_in stopped torn ≡ []
no_stop None torn e = refl
no_stop (Some count) torn e = absurd cc

pub items_going : {D C M : Type 0} (both : Both D C M) → GoOn both → items_in both ≡ map item.Entry both.standby.history.entries
items_going both on =
    let a = no_stop both.shop.stopped both.shop.torn on.shop in
    let b = no_stop both.standby.stopped both.standby.torn on.standby in
    let none : stop_in both.shop.stopped both.shop.torn ++ stop_in both.standby.stopped both.standby.torn ≡ [] =
    ap (λ (l : List Item). l ++ stop_in both.standby.stopped both.standby.torn) a ∙ b in
    ap (λ (l : List Item). map item.Entry both.standby.history.entries ++ l) none ∙
    append-nil (map item.Entry both.standby.history.entries)

-- the one stop of a pair that has stopped
stop_by : (one other : Option ℕ) (torn others : Option Entry) (faults : ℕ) (shop standby : List Entry) →
    ((count : ℕ) → one ≡ Some count → (e : Entry) × (torn ≡ Some e)) →
    ((count : ℕ) → other ≡ Some count → (e : Entry) × (others ≡ Some e)) → AreBeside one shop other others standby →
    first_stop one other ≡ Some faults →
    (e : Entry) × (stop_in one torn ++ stop_in other others ≡ item.Stop faults e ∷ [])
stop_by None None torn others faults shop standby f g beside e = absurd cc
stop_by (Some count) None torn others faults shop standby f g beside e =
    let t = f count refl in
    let n : count ≡ faults = cc in
    (t.0, ap (λ (o : Option Entry). stop_in (Some count) o ++ []) t.1 ∙ ap (λ (k : ℕ). item.Stop k t.0 ∷ []) n)
stop_by None (Some count) torn others faults shop standby f g beside e =
    let t = g count refl in
    let n : count ≡ faults = cc in
    (t.0, ap (λ (o : Option Entry). stop_in (Some count) o) t.1 ∙ ap (λ (k : ℕ). item.Stop k t.0 ∷ []) n)
stop_by (Some count) (Some more) torn others faults shop standby f g beside e = absurd beside

-- how many records wait, and how many lines can be noted
pub room_for : (entries : List Entry) (lines : List Line) → length lines ≤ length (waiting entries) →
    length (noted entries) ≤ length (recs entries) → length (noted entries) + length lines ≤ length (recs entries)
room_for entries lines few whole =
    let n = length-drop (length (noted entries)) (recs entries) in
    omega (arith, few, whole, n)

-- ---- places

pub places_more : (s l then : ℕ) → s ≤ l → then ≡ l + 1 → places_from s (then - s) ≡ places_from s (l - s) ++ l ∷ []
places_more s l then le e =
    let k : then - s ≡ suc (l - s) = omega (arith, le, e) in
    let at : s + (l - s) ≡ l = omega (arith, le) in
    ap (λ (n : ℕ). places_from s n) k ∙ ap (λ (n : ℕ). places_from s (l - s) ++ n ∷ []) at

all_below : (n m : ℕ) (own : List ℕ) → n ≤ m → All (λ (p : ℕ). p < n) own → All (λ (p : ℕ). p < m) own
all_below n m own le h = λ k d lt. let one = h k d lt in omega (arith, one, le)

alone : (n m : ℕ) → n < m → All (λ (p : ℕ). p < m) (n ∷ [])
alone n m lt = λ k d within. let z : k ≡ 0 = omega arith in subst (λ (j : ℕ). slice_index_or (n ∷ []) j d < m) (sym z) lt

places_within : (s k m : ℕ) → s + k ≤ m → All (λ (p : ℕ). p < m) (places_from s k)
places_within s zero m le = λ i d lt. absurd (omega (arith, lt))
places_within s (suc k) m le =
    All-append (λ (p : ℕ). p < m) (places_from s k) ((s + k) ∷ []) (places_within s k m (omega (arith, le)))
    (alone (s + k) m (omega (arith, le)))

long : {D C M : Type 0} (both : Both D C M) → length both.standby.history.entries ≤ length (items_in both)
long both =
    let m = length-map both.standby.history.entries item.Entry in
    let n = length-append (map item.Entry both.standby.history.entries)
    (stop_in both.shop.stopped both.shop.torn ++ stop_in both.standby.stopped both.standby.torn) in
    omega (arith, m, n)

-- ---- stops at the end of a list

no_stops : (entries : List Entry) → HasNoStop (map item.Entry entries)
no_stops [] = tt
no_stops (e ∷ entries) = (tt, no_stops entries)

no_end : (entries : List Entry) (before : List Item) (faults : ℕ) (torn : Entry) → map item.Entry entries ≡ before ++ item.Stop
    faults torn ∷ [] → ⊥
no_end [] [] faults torn e = absurd cc
no_end [] (x ∷ before) faults torn e = absurd cc
no_end (x ∷ entries) [] faults torn e = absurd cc
no_end (x ∷ entries) (y ∷ before) faults torn e = let rest : map item.Entry entries ≡ before ++ item.Stop faults torn ∷ [] = cc in
    no_end entries before faults torn rest

one_end : (entries : List Entry) (count : ℕ) (last : Entry) (before : List Item) (faults : ℕ) (torn : Entry) →
    map item.Entry entries ++ item.Stop count last ∷ [] ≡ before ++ item.Stop faults torn ∷ [] → count ≡ faults
one_end [] count last [] faults torn e = let is : count ≡ faults = cc in is
one_end [] count last (x ∷ []) faults torn e = absurd cc
one_end [] count last (x ∷ y ∷ before) faults torn e = absurd cc
one_end (x ∷ entries) count last [] faults torn e = absurd (none_left entries (let rest : map item.Entry entries ++ item.Stop
    count last ∷ [] ≡ [] = cc in rest))
  where
    none_left : (es : List Entry) → map item.Entry es ++ item.Stop count last ∷ [] ≡ [] → ⊥
    none_left [] h = absurd cc
    none_left (z ∷ es) h = absurd cc
one_end (x ∷ entries) count last (y ∷ before) faults torn e =
    let rest : map item.Entry entries ++ item.Stop count last ∷ [] ≡ before ++ item.Stop faults torn ∷ [] = cc in
    one_end entries count last before faults torn rest

no_more : (own : List ℕ) (place : ℕ) → own ++ place ∷ [] ≡ own → ⊥
no_more own place e = let n = ap (λ (l : List ℕ). length l) e in let m = length-append own (place ∷ []) in omega (arith, n, m)

module _ {D C M : Type 0} (tells : Bool) (on_disk : D → OnDisk) (faults : D → ℕ) (others_tell : Bool) (others_on_disk : M → OnDisk)
    (others_faults : M → ℕ) where
  abbrev IsOne : Both D C M → Both D C M → Type 0
  IsOne start present = IsPair tells on_disk faults others_tell others_on_disk others_faults start present

  abbrev seen : Both D C M → Both D C M → Sight
  seen start present = sight_of (record { start = start; present = present })

  older : (start present : Both D C M) → IsOne start present → length start.standby.history.entries ≤ length (items_in present)
  older start present p =
      let b = ap (λ (l : List Entry). length l) p.standby_goes.begins.is in
      let n = length-append start.standby.history.entries p.standby_goes.begins.rest in
      let m = long present in
      omega (arith, b, n, m)

  -- the stop of a pair that has stopped
  pub items_stopped : (start present : Both D C M) → IsOne start present → (count : ℕ) → stop_of present ≡ Some count →
      (e : Entry) × (items_in present ≡ map item.Entry present.standby.history.entries ++ item.Stop count e ∷ [])
  items_stopped start present p count e =
      let t = stop_by present.shop.stopped present.standby.stopped present.shop.torn present.standby.torn count
      present.shop.history.entries present.standby.history.entries
      (λ n is. let s = p.shop.stop n is in (s.torn, s.torn_is)) (λ n is. let s = p.standby.stop n is in (s.torn, s.torn_is))
      p.beside e in
      (t.0, ap (λ (l : List Item). map item.Entry present.standby.history.entries ++ l) t.1)

  pub within_seen : (start present : Both D C M) → IsOne start present → OwnWithin (seen start present)
  within_seen start present p =
      let le = older start present p in
      places_within (length start.standby.history.entries)
      (length (items_in present) - length start.standby.history.entries) (length (items_in present)) (omega (arith, le))

  pub legal_seen : (start present : Both D C M) → IsOne start present →
      Legal present.standby.history.version present.standby.history.issuer (entries_of (items_in present))
  legal_seen start present p = subst (λ (es : List Entry). Legal present.standby.history.version present.standby.history.issuer es) (sym (entries_seen present))
      p.standby.legal

  pub grows_same : (start present : Both D C M) → IsOne start present → Grows (seen start present) (seen start present)
  grows_same start present p = record {
    issuer = refl;
    version = refl;
    items = record { rest = []; is = sym (append-nil (items_in present)) };
    legal = legal_seen start present p;
  }

  pub shows_seen : (start present : Both D C M) (max : ℕ) (shown : Waiting) → shown.noted ≡ length (noted
      present.standby.history.entries) → shown.records ≡ length (recs present.standby.history.entries) → shown.list ≡
      take max (waiting present.standby.history.entries) → ShowsWaiting (seen start present) max shown
  shows_seen start present max shown a b c =
      let same = sym (entries_seen present) in
      record {
        noted_count = a ∙ ap (λ (es : List Entry). length (noted es)) same;
        records_count = b ∙ ap (λ (es : List Entry). length (recs es)) same;
        first = c ∙ ap (λ (es : List Entry). take max (waiting es)) same;
      }

  module _ (start old new : Both D C M) (lines : List Line) (p : IsOne start old) (q : IsOne start new) where
    abbrev from : ℕ
    from = length start.standby.history.entries

    behind : Item → Item → Type 0
    behind x y = x ≡ y

    next_is : noted_next old.standby.history.entries lines ≡ notes_behind (items_in old ++ []) lines
    next_is = ap (λ (es : List Entry). Notes (length (noted es)) lines)
        (sym (ap (λ (l : List Item). entries_of l) (append-nil (items_in old)) ∙ entries_seen old))

    -- one item of its own
    adds_own : (made : List Item → Item) (x : Item) → GoOn old → items_in new ≡ items_in old ++ x ∷ [] →
        x ≡ made (items_in old ++ []) → AddsOwn (seen start old) (seen start new) made
    adds_own made x on is made_is =
        let nil = append-nil (items_in old) in
        let le = older start old p in
        let n : length (items_in new) ≡ length (items_in old) + 1 =
        (let a = ap (λ (l : List Item). length l) is in let b = length-append (items_in old) (x ∷ []) in omega (arith, a, b)) in
        record {
          others = [];
          going_on = subst HasNoStop (sym (items_going old on) ∙ sym nil) (no_stops old.standby.history.entries);
          items = is ∙ ap (λ (y : Item). items_in old ++ y ∷ []) made_is ∙
              ap (λ (l : List Item). l ++ made (items_in old ++ []) ∷ []) (sym nil);
          own = places_more from (length (items_in old)) (length (items_in new)) le n ∙
              ap (λ (l : List Item). places_from from (length (items_in old) - from) ++ length l ∷ []) (sym nil);
        }

    own_one : (x : Item) → items_in new ≡ items_in old ++ x ∷ [] → (seen start new).own ≡ (seen start old).own ++ length
        (items_in old) ∷ []
    own_one x is =
        let le = older start old p in
        let a = ap (λ (l : List Item). length l) is in
        let b = length-append (items_in old) (x ∷ []) in
        places_more from (length (items_in old)) (length (items_in new)) le (omega (arith, a, b))

    own_none : items_in new ≡ items_in old → (seen start new).own ≡ (seen start old).own
    own_none is = ap (λ (l : List Item). places_from from (length l - from)) is

    added_items : (entry : Entry) → GoOn old → GoOn new → new.standby.history.entries ≡ old.standby.history.entries ++ entry ∷ [] →
        items_in new ≡ items_in old ++ item.Entry entry ∷ []
    added_items entry on then is = items_going new then ∙ ap (λ (es : List Entry). map item.Entry es) is ∙
        map-append item.Entry old.standby.history.entries (entry ∷ []) ∙
        ap (λ (l : List Item). l ++ item.Entry entry ∷ []) (sym (items_going old on))

    torn_items : (t : TearsNotes faults others_faults old new lines) → items_in new ≡ items_in old ++ item.Stop t.count
        (noted_next old.standby.history.entries lines) ∷ []
    torn_items t =
        ap (λ (l : List Item). map item.Entry new.standby.history.entries ++ l) t.stop ∙
        ap (λ (es : List Entry). map item.Entry es ++ item.Stop t.count (noted_next old.standby.history.entries lines) ∷ [])
        t.entries ∙
        ap (λ (l : List Item). l ++ item.Stop t.count (noted_next old.standby.history.entries lines) ∷ [])
        (sym (items_going old t.going_on))

    still_going : GoOn old → IsUnmoved old new → GoOn new
    still_going on room = record { shop = room.shop.stopped ∙ on.shop; standby = room.standby.stopped ∙ on.standby }

    unmoved : GoOn old → IsUnmoved old new → items_in new ≡ items_in old
    unmoved on room = items_going new (still_going on room) ∙ ap (λ (es : List Entry). map item.Entry es) room.standby.entries ∙
        sym (items_going old on)

    pub noted_by : (r : Result (Unit {0}) StoreFault) → length (noted old.standby.history.entries) + length lines ≤ length
        (recs old.standby.history.entries) → NotesBoth faults others_faults old new lines r → NotedBy (seen start old) (seen start new) lines r
    noted_by (Ok done) fits n = adds_own (λ items. item.Entry (notes_behind items lines))
        (item.Entry (noted_next old.standby.history.entries lines)) n.0
        (added_items (noted_next old.standby.history.entries lines) n.0 n.1 n.2)
        (ap (λ (e : Entry). item.Entry e) next_is)
    noted_by (Err DiskFault) fits t = record {
      faults = t.count;
      adds = adds_own (λ items. item.Stop t.count (notes_behind items lines))
          (item.Stop t.count (noted_next old.standby.history.entries lines)) t.going_on (torn_items t)
          (ap (λ (e : Entry). item.Stop t.count e) next_is);
      fits = subst (λ (es : List Entry). length (noted es) + length lines ≤ length (recs es))
          (sym (entries_seen new ∙ t.entries)) fits;
    }
    noted_by (Err (Stopped count)) fits n =
        let t = items_stopped start old p count n.0 in
        let same : items_in new ≡ items_in old = ap (λ (b : Both D C M). items_in b) n.1 in
        record {
          before = map item.Entry old.standby.history.entries;
          torn = t.0;
          items = same ∙ t.1;
          own = own_none same;
        }
    noted_by (Err NoMemory) fits n = own_none (unmoved n.0 n.1)

    pub told_by : (r : Result (Unit {0}) StoreFault) (count : ℕ) → NotesBoth faults others_faults old new lines r →
        HasStopped (seen start old) (seen start new) count → r ≡ Err (Stopped count)
    told_by (Ok done) count n h = absurd (no_more (seen start old).own (length (items_in old))
        (sym (own_one (item.Entry (noted_next old.standby.history.entries lines))
        (added_items (noted_next old.standby.history.entries lines) n.0 n.1 n.2)) ∙ h.own))
    told_by (Err DiskFault) count t h = absurd (no_more (seen start old).own (length (items_in old))
        (sym (own_one (item.Stop t.count (noted_next old.standby.history.entries lines)) (torn_items t)) ∙ h.own))
    told_by (Err (Stopped other)) count n h =
        let t = items_stopped start old p other n.0 in
        let same : items_in new ≡ items_in old = ap (λ (b : Both D C M). items_in b) n.1 in
        ap (λ (k : ℕ). Err (Stopped k)) (one_end old.standby.history.entries other t.0 h.before count h.torn
        (sym t.1 ∙ sym same ∙ h.items))
    told_by (Err NoMemory) count n h = absurd (no_end new.standby.history.entries h.before count h.torn
        (sym (items_going new (still_going n.0 n.1)) ∙ h.items))

    grown : (more : List Item) → new.standby.history.issuer ≡ old.standby.history.issuer →
        new.standby.history.version ≡ old.standby.history.version → items_in new ≡ items_in old ++ more →
        Grows (seen start old) (seen start new)
    grown more issuer version is = record {
      issuer = issuer;
      version = version;
      items = record { rest = more; is = is };
      legal = legal_seen start new q;
    }

    pub grows_by : (r : Result (Unit {0}) StoreFault) → new.standby.history.issuer ≡ old.standby.history.issuer →
        new.standby.history.version ≡ old.standby.history.version →
        NotesBoth faults others_faults old new lines r → Grows (seen start old) (seen start new)
    grows_by (Ok done) issuer version n = grown (item.Entry (noted_next old.standby.history.entries lines) ∷ []) issuer version
        (added_items (noted_next old.standby.history.entries lines) n.0 n.1 n.2)
    grows_by (Err DiskFault) issuer version t = grown (item.Stop t.count (noted_next old.standby.history.entries lines) ∷ []) issuer version
        (torn_items t)
    grows_by (Err (Stopped count)) issuer version n = grown [] issuer version (ap (λ (b : Both D C M). items_in b) n.1 ∙
        sym (append-nil (items_in old)))
    grows_by (Err NoMemory) issuer version n = grown [] issuer version (unmoved n.0 n.1 ∙ sym (append-nil (items_in old)))
