-- A pair as a closed shop without tills: what came since its start is its sender's own.
use Rattle.std.proofs.Common.{◌≡◌, ℕ, ◌+◌, ◌-◌, ◌<◌, ◌≤◌, List, [], ◌∷◌, ◌++◌, length, map, drop, Option, Some, None, slice_get}
use Rattle.std.proofs.Common.{All, refl, ap, sym, ◌∙◌, subst, arith, Bool, append-nil, append_assoc}
use Rattle.std.specs.List.{enumerate_from}
use Rattle.std.proofs.Math.Seq.{drop-append_seam}
use Rattle.std.proofs.lemmas.List.{length-drop, length-map, map-append}
use Rattle.std.proofs.lemmas.List.Elements.{All-from_recursion}
use Rattle.std.proofs.lemmas.List.Sums.{sum_by-cons}
use Rattle.chain_disk.specs.OnDisk.{OnDisk}
use Rattle.chain_lock.specs.Known.{Fits, Known, owners, times_owned}
use Rattle.chain_lock.specs.Lists.{StartsWith}
use Rattle.record_codec.specs.declared.entry.Entry.{Entry}
use Rattle.record_fields.specs.declared.versions.Version.{Version}
use Rattle.once_world.specs.Outbox.{Sight}
use Rattle.sender.specs.Agreeing.{Adds, AreNotesOrTorn}
use Rattle.shop_core.specs.declared.items.Item.{Item}
use Rattle.shop_core.specs.declared.items.Item.TheVariants as item
use Rattle.standby.specs.Pairs.{AreBeside, Both, GoOn, IsPair, Paired, first_stop, items_in, places_from, sight_of, stop_of}
use Rattle.standby.specs.Pairs as pair
use Rattle.till_calls.specs.Mark.{sight_by}
use Rattle.till_calls.specs.Root.{Root, stop_in}
use Rattle.shop_drain.specs.Guarding.{first_torn}
use Rattle.shop_drain.proofs.Agreed.{Stored}
use Rattle.shop_drain.proofs.WithoutTills.{Closed}
use Rattle.shop_drain.proofs.Placed.{one_each, places_are, stand_at}

-- a pair's start as a shop's root
abbrev pub paired_root : {D C M : Type 0} → (D → OnDisk) → (D → ℕ) → Both D C M → Root C
paired_root on_disk faults start = record {
  issuer = start.standby.history.issuer;
  version = start.standby.history.version;
  history = start.standby.history.entries;
  on_disk = on_disk start.shop.disk;
  faults = faults start.shop.disk;
  clock = start.clock;
}

pub pair_by : {D C M : Type 0} (q : Paired D C M) (s p : Both D C M) → q.start ≡ s → q.present ≡ p →
    q ≡ record { start = s; present = p }
pair_by {D} {C} {M} q s p e f = subst (λ (a : Both D C M). q ≡ record { start = a; present = p }) e
    (subst (λ (b : Both D C M). q ≡ record { start = q.start; present = b }) f refl)

-- the items at the start
abbrev pub first_of : {D C M : Type 0} → Both D C M → List Item
first_of start = map item.Entry start.standby.history.entries

-- what a seat knows that has seen these items, at the start and later
abbrev pub seat_first : {C : Type 0} → Root C → List Item → Known Item (Root C)
seat_first root base = record { numbers = []; seen = base; least = length base; own = []; root = Some root }

abbrev pub seat_then : {C : Type 0} → Root C → List Item → List Item → Known Item (Root C)
seat_then root base log = record {
  numbers = [];
  seen = log;
  least = length log;
  own = enumerate_from (length base) (drop (length base) log);
  root = Some root;
}

none_stopped : (one other : Option ℕ) (torn others : Option Entry) → one ≡ None → other ≡ None →
    pair.stop_in one torn ++ pair.stop_in other others ≡ []
none_stopped None None torn others e f = refl
none_stopped None (Some n) torn others e f = absurd cc
none_stopped (Some n) other torn others e f = absurd cc

-- one of the two at most has stopped
one_stopped : (one other : Option ℕ) (torn others : Option Entry) (shop standby : List Entry) →
    AreBeside one shop other others standby →
    pair.stop_in one torn ++ pair.stop_in other others ≡ stop_in (first_stop one other) (first_torn one torn others)
one_stopped None None torn others shop standby h = refl
one_stopped (Some n) None (Some t) others shop standby h = refl
one_stopped (Some n) None None others shop standby h = refl
one_stopped None (Some n) torn (Some t) shop standby h = refl
one_stopped None (Some n) torn None shop standby h = refl
one_stopped (Some n) (Some m) torn others shop standby h = absurd h

sights : (a b : List ℕ) (v w : Version) (xs ys : List Item) (m n : List ℕ) → a ≡ b → v ≡ w → xs ≡ ys → m ≡ n →
    ◌≡◌ {A = Sight} (record { issuer = a; version = v; items = xs; own = m })
    (record { issuer = b; version = w; items = ys; own = n })
sights a b v w xs ys m n e f g h = rw (e, f, g, h) refl

pub items_first : {D C M : Type 0} (start : Both D C M) → GoOn start → items_in start ≡ first_of start
items_first start on =
    ap (λ (l : List Item). first_of start ++ l) (none_stopped start.shop.stopped start.standby.stopped start.shop.torn
    start.standby.torn on.shop on.standby) ∙ append-nil (first_of start)

module _ {D C M : Type 0} (tells : Bool) (on_disk : D → OnDisk) (faults : D → ℕ) (others_tell : Bool) (others_on_disk : M → OnDisk)
    (others_faults : M → ℕ) (start present : Both D C M)
    (p : IsPair tells on_disk faults others_tell others_on_disk others_faults start present) where
  abbrev root : Root C
  root = paired_root on_disk faults start

  abbrev base : List Item
  base = first_of start

  abbrev log : List Item
  log = items_in present

  pub seen_first : GoOn start → sight_by (seat_first root base) ≡ sight_of (record { start = start; present = start })
  seen_first on =
      let n = length start.standby.history.entries in
      let len = ap (λ (l : List Item). length l) (items_first start on) in
      let mapped = length-map start.standby.history.entries item.Entry in
      let none : 0 ≡ length (items_in start) - n = omega (arith, len, mapped) in
      sights _ _ _ _ _ _ _ _ refl refl (sym (items_first start on)) (ap (λ (k : ℕ). places_from n k) none)

  pub seen_then : sight_by (seat_then root base log) ≡ sight_of (record { start = start; present = present })
  seen_then =
      let n = length start.standby.history.entries in
      let mapped : length base ≡ n = length-map start.standby.history.entries item.Entry in
      let left = length-drop (length base) log in
      let count : length (drop (length base) log) ≡ length log - n = omega (arith, left, mapped) in
      sights _ _ _ _ _ _ _ _ (sym p.standby_goes.issuer) (sym p.standby_goes.version) refl
      (places_are (length base) (drop (length base) log) ∙ ap (λ (k : ℕ). places_from k (length (drop (length base) log))) mapped ∙
      ap (λ (k : ℕ). places_from n k) count)

  starts : StartsWith log base
  starts =
      let stops = pair.stop_in present.shop.stopped present.shop.torn ++ pair.stop_in present.standby.stopped
      present.standby.torn in
      let more = p.standby_goes.begins.rest in (
        map item.Entry more ++ stops,
        ap (λ (es : List Entry). map item.Entry es ++ stops) p.standby_goes.begins.is ∙
            ap (λ (l : List Item). l ++ stops) (map-append item.Entry start.standby.history.entries more) ∙
            append_assoc base (map item.Entry more) stops,
      )

  fits : Fits log (seat_then root base log)
  fits =
      let rest = starts.0 in
      let cut : drop (length base) log ≡ rest = ap (λ (l : List Item). drop (length base) l) starts.1 ∙
      drop-append_seam base rest in
      record {
        begins = ([], sym (append-nil log));
        at_least = omega arith;
        own = subst (λ (xs : List Item). All (λ (z : ℕ × Item). slice_get log z.0 ≡ Some z.1)
            (enumerate_from (length base) xs)) (sym cut)
            (subst (λ (l : List Item). All (λ (z : ℕ × Item). slice_get l z.0 ≡ Some z.1) (enumerate_from (length base) rest))
            (sym starts.1) (stand_at base rest));
      }

  once : (n : ℕ) → length base ≤ n → n < length log → owners n (seat_then root base log ∷ []) ≡ 1
  once n low high =
      let split = sum_by-cons (λ (k : Known Item (Root C)). times_owned n k) (seat_then root base log) [] in
      let left = length-drop (length base) log in
      let one : times_owned n (seat_then root base log) ≡ 1 = one_each n (length base) (drop (length base) log) low
      (omega (arith, low, high, left)) in
      split ∙ ap (λ (k : ℕ). k + 0) one

  pub pair_closed : Adds AreNotesOrTorn (sight_by (seat_first root base)) (sight_by (seat_then root base log)) →
      Closed base log root [] (seat_first root base) (seat_then root base log)
  pair_closed adds = record {
    fresh = record { seen = refl; least = refl; own = refl; root_is = refl };
    fits = All-from_recursion (Fits log) (seat_then root base log ∷ []) (fits, tt);
    starts = starts;
    since = once;
    theirs = tt;
    adds = adds;
  }

  pub pair_stored : (closed : Closed base log root [] (seat_first root base) (seat_then root base log)) →
      Stored base log root [] (seat_first root base) (seat_then root base log) closed root.history
      present.standby.history.entries (stop_of present)
      (first_torn present.shop.stopped present.shop.torn present.standby.torn)
  pair_stored closed = record {
    base_is = refl;
    log_is = ap (λ (l : List Item). map item.Entry present.standby.history.entries ++ l)
        (one_stopped present.shop.stopped present.standby.stopped present.shop.torn present.standby.torn
        present.shop.history.entries present.standby.history.entries p.beside);
    begins = (p.standby_goes.begins.rest, p.standby_goes.begins.is);
  }
