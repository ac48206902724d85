-- A closed shop without tills: its list is what its seat has seen, and what came is the seat's own.
use Rattle.std.proofs.Common.{◌≡◌, ℕ, ◌+◌, ◌<◌, ◌≤◌, ◌==◌, List, [], ◌∷◌, ◌++◌, length, length-append, map, slice_get, All}
use Rattle.std.proofs.Common.{refl, ap, sym, ◌∙◌, subst, arith, append-nil}
use Rattle.std.specs.Prelude.{count_by, Contains}
use Rattle.std.specs.List.{AllByRecursion}
use Rattle.std.proofs.lemmas.List.Sums.{sum_by-cons, sum_by_push}
use Rattle.std.proofs.lemmas.Option.{slice_get_within}
use Rattle.record_codec.specs.declared.entry.Entry.TheVariants.{Notes}
use Rattle.chain_lock.specs.Known.{Known, IsNew, Fits, owners, holders, times_held, times_owned}
use Rattle.chain_lock.specs.Lists.{StartsWith}
use Rattle.shop_core.specs.declared.items.Item.{Item}
use Rattle.shop_core.specs.declared.items.Item.TheVariants as item
use Rattle.once_world.specs.Outbox.{GainsOwnNotes}
use Rattle.till_calls.specs.Mark.{sight_by}
use Rattle.till_calls.specs.Root.{Root}
use Rattle.sender.specs.Agreeing.{HasAt, Adds, AreNotesOrTorn}
use Rattle.sender_session.proofs.Places.{counted_in, all_each, all_split, get_behind, all_by_place, all_contained, gains_by}

-- passes that own nothing
abbrev pub OwnNothing : {I R : Type 0} → List (Known I R) → Type 0
OwnNothing ks = AllByRecursion (λ (k : Known _ _). k.own ≡ []) ks

none_owned : {I R : Type 0} (n : ℕ) (ks : List (Known I R)) → OwnNothing ks → owners n ks ≡ 0
none_owned n [] h = refl
none_owned {I} {R} n (k ∷ ks) h =
    let split = sum_by-cons (λ (j : Known I R). times_owned n j) k ks in
    let here : times_owned n k ≡ 0 = ap (λ (own : List (ℕ × I)). count_by (λ x. x.0 == n) own) h.0 in
    let rest = none_owned n ks h.1 in
    omega (arith, split, here, rest)

-- what is owned is the last pass's, where the others own nothing
its_own : {I R : Type 0} (n : ℕ) (ks : List (Known I R)) (seat : Known I R) → OwnNothing ks → owners n (ks ++ seat ∷ []) ≡ 1 →
    Contains (map (λ (z : ℕ × I). z.0) seat.own) n
its_own {I} {R} n ks seat nothing one =
    let split = sum_by_push (times_owned n) ks seat in
    let none = none_owned n ks nothing in
    counted_in n seat.own (omega (arith, split, none, one))

module _ {C : Type 0} (base log : List Item) (root : Root C) (tills : List (Known Item (Root C)))
    (seat then : Known Item (Root C)) where
  -- a shop that was closed, whose seat alone added anything
  pub record Closed : Type 0 where
    pub fresh : IsNew base root seat
    pub fits : All (Fits log) (tills ++ then ∷ [])
    pub starts : StartsWith log base
    pub since : (n : ℕ) → length base ≤ n → n < length log → owners n (tills ++ then ∷ []) ≡ 1
    pub theirs : OwnNothing tills
    pub adds : Adds AreNotesOrTorn (sight_by seat) (sight_by then)

  pub own_before : Closed → (sight_by seat).own ≡ []
  own_before h = ap (λ (o : List (ℕ × Item)). map (λ (z : ℕ × Item). z.0) o) h.fresh.own

  fit : Closed → Fits log then
  fit h = (all_split (Fits log) tills then (all_each (Fits log) (tills ++ then ∷ []) h.fits)).1

  -- each new item stands at a place of the seat's own
  pub mine : Closed → (n : ℕ) → length base ≤ n → n < length log → Contains (sight_by then).own n
  mine h n low high = its_own n tills then h.theirs (h.since n low high)

  -- what stands at such a place
  pub mine_at : Closed → (n : ℕ) → Contains (sight_by then).own n → HasAt AreNotesOrTorn then.seen n
  mine_at h n c =
      let own : (sight_by then).own ≡ h.adds.own = h.adds.own_is ∙ ap (λ (o : List ℕ). o ++ h.adds.own) (own_before h) in
      all_contained (HasAt AreNotesOrTorn then.seen) h.adds.own n h.adds.are (subst (λ (o : List ℕ). Contains o n) own c)

  -- the seat has seen all
  pub all_seen : Closed → then.seen ≡ log
  all_seen h = by_rest (fit h).begins.0 (fit h).begins.1
    where
      long : length base ≤ length then.seen
      long = let e = ap length h.adds.items_is in let f = length-append seat.seen h.adds.items in
          let g = ap length h.fresh.seen in omega arith

      by_rest : (r : List Item) → log ≡ then.seen ++ r → then.seen ≡ log
      by_rest [] e = sym (e ∙ append-nil then.seen)
      by_rest (y ∷ r) e =
          let len = ap length e in
          let app = length-append then.seen (y ∷ r) in
          let k = mine_at h (length then.seen) (mine h (length then.seen) long (omega arith)) in
          absurd (let w = slice_get_within then.seen (length then.seen) k.0 k.1 in omega arith)

  -- each item that came is its own
  pub all_mine : (h : Closed) → AllByRecursion AreNotesOrTorn h.adds.items
  all_mine h = all_by_place AreNotesOrTorn h.adds.items (λ m l.
      let n : ℕ = length seat.seen + m in
      let len = ap length h.adds.items_is in
      let app = length-append seat.seen h.adds.items in
      let same = ap length (all_seen h) in
      let low : length base ≤ n = (let g = ap length h.fresh.seen in omega arith) in
      let k = mine_at h n (mine h n low (omega arith)) in
      (k.0, sym (get_behind seat.seen h.adds.items m) ∙ ap (λ (x : List Item). slice_get x n) (sym h.adds.items_is) ∙ k.1, k.2))

  -- so it gained no notes but its own
  pub gains : Closed → GainsOwnNotes (sight_by seat) (sight_by then)
  gains h = gains_by (sight_by seat) (sight_by then) h.adds.items (own_before h) h.adds.items_is (λ m first lines e.
      let n : ℕ = length seat.seen + m in
      let len = ap length h.adds.items_is in
      let app = length-append seat.seen h.adds.items in
      let same = ap length (all_seen h) in
      let in_it = slice_get_within h.adds.items m (item.Entry (Notes first lines)) e in
      let low : length base ≤ n = (let g = ap length h.fresh.seen in omega arith) in
      mine h n low (omega arith))

-- the same numbers are held
pub still_held : {C : Type 0} (tills : List (Known Item (Root C))) (seat then : Known Item (Root C)) (n : ℕ) →
    then.numbers ≡ seat.numbers → holders n (tills ++ seat ∷ []) ≡ 1 → 0 < holders n (tills ++ then ∷ [])
still_held tills seat then n same one =
    let e : times_held n then ≡ times_held n seat = ap (λ (ns : List ℕ). times_held n (record seat { numbers = ns })) same in
    let a = sum_by_push (times_held n) tills seat in
    let b = sum_by_push (times_held n) tills then in
    omega (arith, e, a, b, one)

module _ {C : Type 0} (base : List Item) (root : Root C) where
  new_tills : (ks : List (Known Item (Root C))) → AllByRecursion (IsNew base root) ks → OwnNothing ks
  new_tills [] h = tt
  new_tills (k ∷ ks) h = (h.0.own, new_tills ks h.1)

  pub closed_from : (log : List Item) (tills : List (Known Item (Root C))) (seat boxed then given : Known Item (Root C)) →
      boxed ≡ seat → given ≡ then → All (IsNew base root) (tills ++ seat ∷ []) →
      All (Fits log) (tills ++ given ∷ []) → StartsWith log base → ((n : ℕ) → length base ≤ n → n < length log →
      owners n (tills ++ given ∷ []) ≡ 1) → Adds AreNotesOrTorn (sight_by boxed) (sight_by then) →
      Closed base log root tills boxed then
  closed_from log tills seat boxed then given into back new fits starts since adds =
      let each = all_split (IsNew base root) tills seat (all_each (IsNew base root) (tills ++ seat ∷ []) new) in
      record {
        fresh = subst (λ (k : Known Item (Root C)). IsNew base root k) (sym into) each.1;
        fits = subst (λ (k : Known Item (Root C)). All (Fits log) (tills ++ k ∷ [])) back fits;
        starts = starts;
        since = subst (λ (k : Known Item (Root C)). (n : ℕ) → length base ≤ n → n < length log → owners n (tills ++ k ∷ []) ≡ 1)
            back since;
        theirs = new_tills tills each.0;
        adds = adds;
      }
