-- Jobs before a run and after it, as the rows of a day.
use Rattle.std.proofs.Common.{◌≡◌, ℕ, List, [], Option, sym, ◌∙◌, ◌⊎◌, inl, inr, zero, suc, ◌+◌, ◌<◌, ◌≤◌, Bool, true, false}
use Rattle.std.proofs.Common.{◌∷◌, ◌++◌, length, drop, map, All, Some, Result, slice_get, refl, ap, subst, arith, cond, ◌==◌}
use Rattle.chain_lock.specs.Known.{Known, IsNew, Fits, holders, owners, times_held, times_owned}
use Rattle.shop_core.specs.Answer.Requests.{Asked}
use Rattle.shop_core.specs.declared.items.Item.{Item}
use Rattle.till_calls.specs.Root.{Root}
use Rattle.sender_beside.specs.Days.{TillReplies}
use Rattle.sender_beside.specs.Works.{Ran, Row, Worked, known_after}
use Rattle.std.specs.Prelude.{◌≢◌, AllPairs, Contains}
use Rattle.std.specs.List.{AllByRecursion, count_by, flat_map}
use Rattle.std.proofs.lemmas.Bool.Decides.{eqb_tells, nat_tests}
use Rattle.std.proofs.lemmas.List.Elements.{All-weaker, Contains-append_right, filter_passes}
use Rattle.std.proofs.lemmas.List.{length-append}
use Rattle.std.proofs.lemmas.List.Sums.{sum_by-append, sum_by-cons, sum_by_push}
use Rattle.chain_lock.specs.Lists.{StartsWith}
use Rattle.journal.specs.declared.faults.StoreFault.{StoreFault}
use Rattle.record_codec.specs.declared.entry.Entry.{Entry}
use Rattle.shop_core.specs.declared.answer.Reply.{Reply}
use Rattle.till_calls.specs.Laws.{AddsForNoOther, AddsWhatIsTaken}
use Rattle.till_calls.specs.Own.{AreTaken, OwnsNone, records_of}
use Rattle.till_calls.specs.Client.TillRun.{begun}
use Rattle.sender_beside.specs.Tills.{asks_of, is_own_fault}
use Rattle.sender_session.proofs.Lists.{all_of_each, each_both, each_front, each_map, each_of_all, each_snoc, each_unmap}
use Rattle.sender_session.proofs.Lists.{each_weaker}
use Rattle.sender_beside.proofs.TillRuns.{CutOff, SoFar, is_stop, items, run_numbers, so_far, stops_owned}

pub ran_as : {C : Type 0} (coming : C → ℕ → Option ℕ) (asks : List Asked) (tills tills' : List ℕ)
    (parts parts' : List TillReplies) (old old' new new' : List (Known Item (Root C))) → tills ≡ tills' → old ≡ old' →
    parts ≡ parts' → new ≡ new' → Ran coming asks tills old parts new → Ran coming asks tills' old' parts' new'
ran_as coming asks tills tills' parts parts' old old' new new' e f g h r = record {
  rows = r.rows;
  tills_are = sym e ∙ r.tills_are;
  old_are = sym f ∙ r.old_are;
  parts_are = sym g ∙ r.parts_are;
  new_are = sym h ∙ r.new_are;
  worked = r.worked;
}

-- no two of the numbers are the same
abbrev pub AreDistinct : List ℕ → Type 0
AreDistinct [] = Unit {0}
AreDistinct (n ∷ ns) = AllByRecursion (λ (m : ℕ). m ≢ n) ns × AreDistinct ns

pub distinct_of : {X : Type 0} (f : X → ℕ) (xs : List X) → AllPairs (λ (x y : X). f x ≢ f y) xs → AreDistinct (map f xs)
distinct_of f [] h = tt
distinct_of {X} f (x ∷ xs) h = (
  each_map f (λ (m : ℕ). m ≢ f x) xs (each_of_all (λ (y : X). f y ≢ f x) xs
      (λ k d l e. h zero (suc k) d (omega arith) (omega (arith, l)) (sym e))),
  distinct_of f xs (λ i j d a b. h (suc i) (suc j) d
      (omega (arith, a)) (omega (arith, b))),
)

-- of elements with distinct numbers, two are the same or have distinct ones
module _ {X : Type 0} (f : X → ℕ) where
  abbrev pub Same : X → X → Type 0
  Same x y = (y ≡ x) ⊎ (f y ≢ f x)

  behind : (x : X) (ys : List X) → AllByRecursion (λ (m : ℕ). m ≢ f x) (map f ys) → AllByRecursion (Same x) ys
  behind x [] d = tt
  behind x (y ∷ ys) d = (inr d.0, behind x ys d.1)

  ahead : (x : X) (xs ys : List X) → AllByRecursion (λ (m : ℕ). m ≢ f x) (map f ys) →
      AllByRecursion (λ (y : X). AllByRecursion (Same y) xs) ys → AllByRecursion (λ (y : X). AllByRecursion (Same y) (x ∷ xs)) ys
  ahead x xs [] d h = tt
  ahead x xs (y ∷ ys) d h = ((inr (λ e. d.0 (sym e)), h.0), ahead x xs ys d.1 h.1)

  pub apart_all : (xs : List X) → AreDistinct (map f xs) → AllByRecursion (λ (x : X). AllByRecursion (Same x) xs) xs
  apart_all [] d = tt
  apart_all (x ∷ xs) d = ((inl refl, behind x xs d.0), ahead x xs xs d.0 (apart_all xs d.1))

-- the asks of a till are its own
pub own_asks : (till : ℕ) (asks : List Asked) → All (λ (a : Asked). a.till ≡ till) (asks_of till asks)
own_asks till asks = All-weaker (λ (a : Asked). (a.till == till) ≡ true) (λ (a : Asked). a.till ≡ till)
    (λ a e. let x : a.till ≡ till = grind (arith, nat_tests, e) in x) (asks_of till asks)
    (filter_passes (λ (a : Asked). a.till == till) asks)

-- what holds of each item that a pass owns holds of the one at this place, or the pass doesn't own it
module _ (log : List Item) (n : ℕ) (x : Item) (there : slice_get log n ≡ Some x) where
  owned : (P : Item → Type 0) (own : List (ℕ × Item)) → AllByRecursion (λ (z : ℕ × Item). slice_get log z.0 ≡ Some z.1) own →
      AllByRecursion (λ (z : ℕ × Item). P z.1) own → P x ⊎ (count_by (λ (z : ℕ × Item). z.0 == n) own ≡ 0)
  owned P [] fits each = inr refl
  owned P (z ∷ zs) fits each = elim (eqb_tells z.0 n) [
    | inl same ↦
        (let found : Some z.1 ≡ Some x = sym fits.0 ∙ ap (λ (k : ℕ). slice_get log k) same.1 ∙ there in
        let is : z.1 ≡ x = (let s = found in cc) in
        inl (subst P is each.0))
    | inr apart ↦ elim (owned P zs fits.1 each.1) [
      | inl here ↦ inl here
      | inr none ↦
          (let ne : z.0 ≡ n → ⊥ = apart.1 in
          let no : ◌≡◌ {A = ℕ} (cond (z.0 == n) 1 0) 0 = grind (arith, nat_tests, ne) in
          let sum = sum_by-cons (λ (y : ℕ × Item). cond (y.0 == n) 1 0) z zs in
          inr (omega (arith, no, none, sum)))
    ]
  ]

  -- where no other place has a stop, a pass that fits owns as many stops as it owns this place
  pub stops_at : is_stop x ≡ true → ((i : ℕ) (y : Item) → slice_get log i ≡ Some y → is_stop y ≡ true → i ≡ n) →
      (own : List (ℕ × Item)) → AllByRecursion (λ (z : ℕ × Item). slice_get log z.0 ≡ Some z.1) own →
      stops_owned own ≡ count_by (λ (z : ℕ × Item). z.0 == n) own
  stops_at stops only [] fits = refl
  stops_at stops only (z ∷ zs) fits =
      let more = stops_at stops only zs fits.1 in
      let a = sum_by-cons (λ (y : ℕ × Item). cond (is_stop y.1) 1 0) z zs in
      let b = sum_by-cons (λ (y : ℕ × Item). cond (y.0 == n) 1 0) z zs in
      let one : ◌≡◌ {A = ℕ} (cond (is_stop z.1) 1 0) (cond (z.0 == n) 1 0) = elim (eqb_tells z.0 n) [
        | inl same ↦
            (let found : Some z.1 ≡ Some x = sym fits.0 ∙ ap (λ (k : ℕ). slice_get log k) same.1 ∙ there in
            let is : z.1 ≡ x = (let s = found in cc) in
            ap (λ (t : Bool). cond t 1 0) (ap is_stop is ∙ stops ∙ sym same.0))
        | inr apart ↦ ap (λ (t : Bool). cond t 1 0) (by_test apart.1 (is_stop z.1) refl ∙ sym apart.0)
      ] in
      omega (arith, more, a, b, one)
    where
      by_test : (z.0 ≡ n → ⊥) → (t : Bool) → is_stop z.1 ≡ t → is_stop z.1 ≡ false
      by_test apart true e = absurd (apart (only z.0 z.1 fits.0 e))
      by_test apart false e = e

  -- passes without stops of their own don't own the place of a stop
  pub none_own : {R : Type 0} → is_stop x ≡ true → (ks : List (Known Item R)) → AllByRecursion (Fits log) ks →
      AllByRecursion (λ (k : Known Item R). AllByRecursion (λ (z : ℕ × Item). is_stop z.1 ≡ false) k.own) ks → owners n ks ≡ 0
  none_own stops [] fits clean = refl
  none_own {R} stops (k ∷ ks) fits clean =
      let rest = none_own stops ks fits.1 clean.1 in
      let sum = sum_by-cons (times_owned n) k ks in
      elim (owned (λ (y : Item). is_stop y ≡ false) k.own (each_of_all (λ (z : ℕ × Item). slice_get log z.0 ≡ Some z.1) k.own
      fits.0.own) clean.0) [
        | inl going ↦ absurd (let b : true ≡ false = sym stops ∙ going in let e = b in cc)
        | inr first ↦ (let first' : times_owned n k ≡ 0 = first in omega (arith, first', rest, sum))
      ]

module _ {C : Type 0} (coming : C → ℕ → Option ℕ) (asks : List Asked) where
  abbrev pub before_all : List (Row C) → List (Known Item (Root C))
  before_all rows = map (λ (r : Row C). r.from) rows

  abbrev pub after_all : List (Row C) → List (Known Item (Root C))
  after_all rows = map (λ (r : Row C). known_after r) rows

  abbrev lasts : List (Row C) → List (Known Item (Root C))
  lasts rows = map (λ (r : Row C). r.last) rows

  -- a look at the count leaves what each owns
  owners_last : (n : ℕ) (seat : Known Item (Root C)) (rows : List (Row C)) → owners n (after_all rows ++ seat ∷ []) ≡ owners n
      (lasts rows ++ seat ∷ [])
  owners_last n seat [] = refl
  owners_last n seat (r ∷ rs) =
      let q = owners_last n seat rs in
      let x = sum_by-cons (times_owned n) (known_after r) (after_all rs ++ seat ∷ []) in
      let y = sum_by-cons (times_owned n) r.last (lasts rs ++ seat ∷ []) in
      omega (arith, q, x, y)

  -- each number is held as often as before
  pub still_held : (n : ℕ) (seat : Known Item (Root C)) (rows : List (Row C)) → AllByRecursion (Worked coming asks) rows →
      holders n (after_all rows ++ seat ∷ []) ≡ holders n (before_all rows ++ seat ∷ [])
  still_held n seat [] h = refl
  still_held n seat (r ∷ rs) h =
      let p : times_held n (known_after r) ≡ times_held n r.from =
      ap (λ (ns : List ℕ). times_held n (record r.from { numbers = ns })) (run_numbers coming r.from r.last
      (asks_of r.part.till asks) r.part.replies h.0.run) in
      let q = still_held n seat rs h.1 in
      let x = sum_by-cons (times_held n) (known_after r) (after_all rs ++ seat ∷ []) in
      let y = sum_by-cons (times_held n) r.from (before_all rs ++ seat ∷ []) in
      omega (arith, p, q, x, y)

  module _ (base : List Item) (root : Root C) (stopped : Option ℕ) (torn : Option Entry) (end : List Entry)
      (for_no_other : AddsForNoOther coming) (what_is_taken : AddsWhatIsTaken coming) where
    abbrev log : List Item
    log = items stopped torn end

    -- a till's row, once the list at the end is known
    pub record Told (r : Row C) : Type 0 where
      pub least : r.last.least ≤ r.part.saw
      pub told : SoFar coming root stopped torn end (asks_of r.part.till asks) r.part.replies r.last
      pub fits : Fits log r.last
      pub apart : (till : ℕ) → till ≢ r.part.till → OwnsNone till r.last
      pub saw : r.part.saw ≤ length log

    low : length base ≡ length root.history → (k : Known Item (Root C)) → IsNew base root k → length root.history ≤ length k.seen
    low size k new = let e = ap (λ (l : List Item). length l) new.seen in omega (arith, e, size)

    tell : length base ≡ length root.history → (r : Row C) → IsNew base root r.from → Worked coming asks r ×
        Fits log (known_after r) → Told r
    tell size r new h =
        let w = h.0 in
        let f = h.1 in
        let least = new.least ∙ ap (λ (l : List Item). length l) (sym new.seen) in
        record {
          least = w.at_least;
          told = so_far coming root stopped torn end r.from r.last (asks_of r.part.till asks) r.part.replies
              (low size r.from new) new.root_is least new.own f.begins w.run;
          fits = record { begins = f.begins; at_least = omega (arith, f.at_least, w.at_least); own = f.own };
          apart = λ till other. for_no_other r.part.till till root base r.from r.last (asks_of r.part.till asks)
              r.part.replies new w.run (own_asks r.part.till asks) other;
          saw = f.at_least;
        }

    module _ (size : length base ≡ length root.history) (rows : List (Row C)) (seat : Known Item (Root C))
        (distinct : AreDistinct (map (λ (r : Row C). r.part.till) rows))
        (news : AllByRecursion (λ (r : Row C). IsNew base root r.from) rows)
        (bare : (till : ℕ) → OwnsNone till seat) (worked : AllByRecursion (Worked coming asks) rows)
        (fits : AllByRecursion (Fits log) (after_all rows ++ seat ∷ [])) (starts : StartsWith log base)
        (since : (n : ℕ) → length base ≤ n → n < length log → owners n (after_all rows ++ seat ∷ []) ≡ 1) where
      rows_fit : AllByRecursion (λ (r : Row C). Fits log (known_after r)) rows
      rows_fit = each_unmap (λ (r : Row C). known_after r) (Fits log) rows (each_front (Fits log) (after_all rows) seat fits).0

      seat_fits : Fits log seat
      seat_fits = (each_front (Fits log) (after_all rows) seat fits).1

      pub told : AllByRecursion Told rows
      told = each_both (λ (r : Row C). IsNew base root r.from) (λ (r : Row C). Worked coming asks r × Fits log (known_after r))
          Told rows (tell size) news
          (each_both (Worked coming asks) (λ (r : Row C). Fits log (known_after r)) (λ (r : Row C). Worked coming asks r ×
          Fits log (known_after r)) rows (λ r w f. (w, f)) worked rows_fit)

      abbrev passes : List (Known Item (Root C))
      passes = lasts rows ++ seat ∷ []

      passes_fit : All (Fits log) passes
      passes_fit = all_of_each (Fits log) passes (each_snoc (Fits log) (lasts rows) seat (each_map (λ (r : Row C). r.last)
          (Fits log) rows (each_weaker Told (λ (r : Row C). Fits log r.last) rows (λ r t. t.fits) told)) seat_fits)

      since_last : (n : ℕ) → length base ≤ n → n < length log → owners n passes ≡ 1
      since_last n a b = sym (owners_last n seat rows) ∙ since n a b

      abbrev Apart : ℕ → Known Item (Root C) → Known Item (Root C) → Type 0
      Apart till new k = (k ≡ new) ⊎ OwnsNone till k

      row_apart : (r s : Row C) → Same (λ (x : Row C). x.part.till) r s → Told s → Apart r.part.till r.last s.last
      row_apart r s (inl same) t = inl (ap (λ (x : Row C). x.last) same)
      row_apart r s (inr other) t = inr (t.apart r.part.till (λ e. other (sym e)))

      -- the records of a till since the start are those it was told as taken
      taken : (r : Row C) → AllByRecursion (Same (λ (x : Row C). x.part.till) r) rows × IsNew base root r.from →
          Worked coming asks r × Told r → AreTaken r.part.replies (records_of r.part.till (drop (length base) log))
      taken r a b =
          let apart = all_of_each (Apart r.part.till r.last) passes (each_snoc (Apart r.part.till r.last) (lasts rows) seat
          (each_map (λ (x : Row C). x.last) (Apart r.part.till r.last) rows
          (each_both (Same (λ (x : Row C). x.part.till) r) Told (λ (x : Row C). Apart r.part.till r.last x.last) rows
          (row_apart r) a.0 told)) (inr (bare r.part.till))) in
          what_is_taken r.part.till root base log r.from r.last (asks_of r.part.till asks) r.part.replies passes a.1 b.0.run
          (own_asks r.part.till asks) starts b.1.fits passes_fit apart since_last

      pub own : AllByRecursion (λ (r : Row C). AreTaken r.part.replies (records_of r.part.till (drop (length base) log)))
          rows
      own = each_both (λ (r : Row C). AllByRecursion (Same (λ (x : Row C). x.part.till) r) rows × IsNew base root r.from)
          (λ (r : Row C). Worked coming asks r × Told r) (λ (r : Row C). AreTaken r.part.replies
          (records_of r.part.till (drop (length base) log))) rows taken
          (each_both (λ (r : Row C). AllByRecursion (Same (λ (x : Row C). x.part.till) r) rows) (λ (r : Row C). IsNew base root
          r.from) (λ (r : Row C). AllByRecursion (Same (λ (x : Row C). x.part.till) r) rows × IsNew base root r.from) rows
          (λ r s n. (s, n)) (apart_all (λ (x : Row C). x.part.till) rows distinct) news)
          (each_both (Worked coming asks) Told (λ (r : Row C). Worked coming asks r × Told r) rows (λ r w t. (w, t)) worked told)

      -- a pass that is new fits
      new_fits : (first : Known Item (Root C)) → IsNew base root first → Fits log first
      new_fits first new = record {
        begins = subst (λ (l : List Item). StartsWith log l) (sym new.seen) starts;
        at_least = (let e = new.least in let f = ap (λ (l : List Item). length l) starts.1 in
            let g = length-append base starts.0 in omega (arith, e, f, g));
        own = subst (λ (o : List (ℕ × Item)). All (λ (x : ℕ × Item). slice_get log x.0 ≡ Some x.1) o) (sym new.own)
            (λ i d l. absurd (omega (arith, l)));
      }

      -- no other till has a record since the start: a new pass has asked for nothing, and no pass owns one
      pub none_else : (first : Known Item (Root C)) → IsNew base root first → (till : ℕ) →
          AllByRecursion (λ (r : Row C). r.part.till ≢ till) rows → records_of till (drop (length base) log) ≡ []
      none_else first new till other =
          let apart = all_of_each (Apart till first) passes (each_snoc (Apart till first) (lasts rows) seat
          (each_map (λ (x : Row C). x.last) (Apart till first) rows
          (each_both (λ (r : Row C). r.part.till ≢ till) Told (λ (x : Row C). Apart till first x.last) rows
          (λ r o t. inr (t.apart till (λ e. o (sym e)))) other told)) (inr (bare till))) in
          what_is_taken till root base log first first [] [] passes new begun (λ i d l. absurd (omega (arith, l))) starts
          (new_fits first new) passes_fit apart since_last

      -- one of these tills was told of the fault, and its ask made the entry of the stop
      pub record CutByOne (rs : List (Row C)) : Type 0 where
        pub row : Row C
        pub among : Contains rs row
        pub cut : CutOff coming root stopped torn end (asks_of row.part.till asks) row.part.replies

      clean_or_cut : (rs : List (Row C)) → AllByRecursion Told rs →
          AllByRecursion (λ (r : Row C). AllByRecursion (λ (z : ℕ × Item). is_stop z.1 ≡ false) r.last.own) rs ⊎ CutByOne rs
      clean_or_cut [] t = inl tt
      clean_or_cut (r ∷ rs) t = both t.0.told.clean (clean_or_cut rs t.1)
        where
          both : AllByRecursion (λ (z : ℕ × Item). is_stop z.1 ≡ false) r.last.own ⊎
              CutOff coming root stopped torn end (asks_of r.part.till asks) r.part.replies →
              AllByRecursion (λ (s : Row C). AllByRecursion (λ (z : ℕ × Item). is_stop z.1 ≡ false) s.last.own) rs ⊎ CutByOne rs
              → AllByRecursion (λ (s : Row C). AllByRecursion (λ (z : ℕ × Item). is_stop z.1 ≡ false) s.last.own) (r ∷ rs) ⊎
              CutByOne (r ∷ rs)
          both (inr cut) rest = inr (record { row = r; among = (0, omega arith, refl); cut = cut })
          both (inl clean) (inl more) = inl (clean, more)
          both (inl clean) (inr c) =
              inr (record { row = c.row; among = Contains-append_right (r ∷ []) rs c.row c.among; cut = c.cut })

      -- how many of the tills' asks were answered with a fault of their own
      abbrev faults_told : List (Row C) → ℕ
      faults_told rs = count_by is_own_fault (flat_map (λ (r : Row C). r.part.replies) rs)

      -- it is how often they own the place of the only stop
      faults_own : (n : ℕ) (x : Item) → slice_get log n ≡ Some x → is_stop x ≡ true →
          ((i : ℕ) (y : Item) → slice_get log i ≡ Some y → is_stop y ≡ true → i ≡ n) → (rs : List (Row C)) →
          AllByRecursion Told rs → faults_told rs ≡ owners n (lasts rs)
      faults_own n x there stops only [] t = refl
      faults_own n x there stops only (r ∷ rs) t =
          let more = faults_own n x there stops only rs t.1 in
          let split = sum_by-append (λ (a : Result Reply StoreFault). cond (is_own_fault a) 1 0) r.part.replies
          (flat_map (λ (s : Row C). s.part.replies) rs) in
          let here = t.0.told.faults in
          let at : stops_owned r.last.own ≡ times_owned n r.last = stops_at log n x there stops only r.last.own
          (each_of_all (λ (z : ℕ × Item). slice_get log z.0 ≡ Some z.1) r.last.own t.0.fits.own) in
          let sum = sum_by-cons (times_owned n) r.last (lasts rs) in
          omega (arith, more, split, here, at, sum)

      -- A stop after the start, the only one, is that of a till's ask, which alone is answered with a fault of its own. Or it is
      -- the seat's, and no ask is; what holds of each of the seat's holds of it.
      pub stop_whose : (P : Item → Type 0) → AllByRecursion (λ (z : ℕ × Item). P z.1) seat.own → (n : ℕ) (x : Item) →
          slice_get log n ≡ Some x → is_stop x ≡ true →
          ((i : ℕ) (y : Item) → slice_get log i ≡ Some y → is_stop y ≡ true → i ≡ n) → length base ≤ n → n < length log →
          (CutByOne rows × (faults_told rows ≡ 1)) ⊎ (P x × (faults_told rows ≡ 0))
      stop_whose P each n x there stops only above below = by_seat (times_owned n seat) refl
        where
          sum : owners n passes ≡ owners n (lasts rows) + times_owned n seat
          sum = sum_by_push (times_owned n) (lasts rows) seat

          faults : faults_told rows ≡ owners n (lasts rows)
          faults = faults_own n x there stops only rows told

          decide : times_owned n seat ≡ 0 → AllByRecursion (λ (r : Row C). AllByRecursion (λ (z : ℕ × Item). is_stop z.1 ≡ false)
              r.last.own) rows ⊎ CutByOne rows → CutByOne rows × (faults_told rows ≡ 1)
          decide mine (inr cut) = (
            cut,
            (let one = since_last n above below in let a = sum in let b = faults in omega (arith, mine, one, a, b)),
          )
          decide mine (inl clean) =
              let none = none_own log n x there stops (lasts rows)
              (each_map (λ (r : Row C). r.last) (Fits log) rows
              (each_weaker Told (λ (r : Row C). Fits log r.last) rows (λ r t. t.fits) told))
              (each_map (λ (r : Row C). r.last) (λ (k : Known Item (Root C)). AllByRecursion
              (λ (z : ℕ × Item). is_stop z.1 ≡ false) k.own) rows clean) in
              let a = sum in
              let one = since_last n above below in
              absurd (omega (arith, mine, none, a, one))

          by_seat : (times : ℕ) → times_owned n seat ≡ times →
              (CutByOne rows × (faults_told rows ≡ 1)) ⊎ (P x × (faults_told rows ≡ 0))
          by_seat zero mine = inl (decide mine (clean_or_cut rows told))
          by_seat (suc k) mine = elim (owned log n x there P seat.own (each_of_all
              (λ (z : ℕ × Item). slice_get log z.0 ≡ Some z.1) seat.own seat_fits.own) each) [
                | inl holds ↦ inr (
                  holds,
                  (let one = since_last n above below in let a = sum in let b = faults in omega (arith, mine, one, a, b)),
                )
                | inr unowned ↦ (let none : times_owned n seat ≡ 0 = unowned in absurd (omega (arith, mine, none)))
              ]
