-- What asks leave of what a till knows, who holds a shop's numbers once two tills are back, and what they were told.
use Rattle.std.proofs.Common.{◌≡◌, ◌⊎◌, inl, inr, ◌∷◌, [], ◌++◌, ◌<◌, ◌≤◌, ◌+◌, ℕ, false, List, Option, None, Result, length, map}
use Rattle.std.proofs.Common.{drop, All, ◌∙◌, ap, refl, sym, subst, arith}
use Rattle.std.specs.Prelude.{◌≢◌}
use Rattle.std.specs.List.{enumerate_from}
use Rattle.std.proofs.lemmas.List.{append-nil, length-append, length-map}
use Rattle.std.proofs.lemmas.List.Elements.{All-cons, All-head, All-map, All-nil, All-push, All-tail, All-weaker}
use Rattle.std.proofs.lemmas.List.Sums.{sum_by_push}
use Rattle.chain_lock.specs.Known.{Fits, IsNew, Known, holders, owners, times_held}
use Rattle.chain_lock.specs.Lists.{StartsWith}
use Rattle.journal.specs.declared.faults.StoreFault.{StoreFault}
use Rattle.record_codec.specs.declared.entry.Entry.{Entry}
use Rattle.shop_core.specs.Answer.Requests.{Asked}
use Rattle.shop_core.specs.declared.answer.Reply.{Reply}
use Rattle.shop_core.specs.declared.items.Item.{Item}
use Rattle.shop_core.specs.declared.items.Item.TheVariants as item
use Rattle.shop_core.specs.declared.answer.requests.Request.{Request}
use Rattle.till_calls.specs.Laws.{AddsForNoOther, AddsWhatIsTaken, ToldAtTheEnd}
use Rattle.till_calls.specs.Own.{AreTaken, OwnsNone, is_of, records_of}
use Rattle.till_calls.specs.Root.{Parts, Root, items_in, stop_in}
use Rattle.till_calls.specs.Client.{TillRun, TillTold, asks_of}
use Rattle.till_calls.specs.Client.TillRun.{begun, asked}
use Rattle.library_examples.specs.Threads.{AreReplies, records_since}

-- asks leave a till its numbers
pub run_numbers : {C : Type 0} (coming : C → ℕ → Option ℕ) (old new : Known Item (Root C)) (asks : List Asked)
    (replies : List (Result Reply StoreFault)) → TillRun coming old asks replies new → new.numbers ≡ old.numbers
run_numbers coming old new asks replies begun = refl
run_numbers {C} coming old new asks' replies' (asked asks replies mid _ ask reply run this) =
    ap (λ (k : Known Item (Root C)). k.numbers) this.after ∙ run_numbers coming old mid asks replies run

-- two tills were taken out, and one is back
pub room_left : (l n₀ n₁ n₂ n₃ : List ℕ) (a b c m₀ m₁ m₂ m₃ : ℕ) → n₀ ≡ l → m₀ ≡ length l → n₀ ≡ n₁ ++ b ∷ [] → m₁ ≡ m₀ →
    n₁ ≡ n₂ ++ a ∷ [] → m₂ ≡ m₁ → n₃ ≡ n₂ ++ c ∷ [] → m₃ ≡ m₂ → length n₃ < m₃
room_left l n₀ n₁ n₂ n₃ a b c m₀ m₁ m₂ m₃ whole made last e before f back h =
    let size = λ (k : List ℕ). length k in
    let p = ap size whole in
    let q = ap size last ∙ length-append n₁ (b ∷ []) in
    let r = ap size before ∙ length-append n₂ (a ∷ []) in
    let s = ap size back ∙ length-append n₂ (c ∷ []) in
    omega (arith, made, e, f, h, p, q, r, s)

module _ {I R : Type 0} where
  held : (n : ℕ) (r : List (Known I R)) (a b seat : Known I R) → holders n (((r ++ a ∷ []) ++ b ∷ []) ++ seat ∷ []) ≡
      holders n r + times_held n a + times_held n b + times_held n seat
  held n r a b seat =
      let x = sum_by_push (times_held n) ((r ++ a ∷ []) ++ b ∷ []) seat in
      let y = sum_by_push (times_held n) (r ++ a ∷ []) b in
      let z = sum_by_push (times_held n) r a in
      omega (arith, x, y, z)

  same_held : (n : ℕ) (a c : Known I R) → c.numbers ≡ a.numbers → times_held n c ≡ times_held n a
  same_held n a c e = ap (λ (ns : List ℕ). times_held n (record a { numbers = ns })) e

  -- a and b were taken out, b first, and are back as c and d
  pub still_held : (n : ℕ) (all m r mid back : List (Known I R)) (a b seat c d : Known I R) → all ≡ m ++ b ∷ [] →
      m ≡ r ++ a ∷ [] → mid ≡ r ++ c ∷ [] → back ≡ mid ++ d ∷ [] → c.numbers ≡ a.numbers → d.numbers ≡ b.numbers →
      holders n (all ++ seat ∷ []) ≡ 1 → 0 < holders n (back ++ seat ∷ [])
  still_held n all m r mid back a b seat c d last before one two e f once =
      let put = λ (x : Known I R) (l : List (Known I R)). l ++ x ∷ [] in
      let is : all ≡ (r ++ a ∷ []) ++ b ∷ [] = last ∙ ap (put b) before in
      let whole : back ≡ (r ++ c ∷ []) ++ d ∷ [] = two ∙ ap (put d) one in
      let was = subst (λ (l : List (Known I R)). holders n (l ++ seat ∷ []) ≡ 1) is once in
      let p = same_held n a c e in
      let q = same_held n b d f in
      let x = held n r a b seat in
      let y = held n r c d seat in
      subst (λ (l : List (Known I R)). 0 < holders n (l ++ seat ∷ [])) (sym whole) (omega (arith, was, p, q, x, y))

-- two numbers are those of the last two tills
pub two_numbers : (x y : ℕ) (m r : List ℕ) (a b : ℕ) → x ∷ y ∷ [] ≡ m ++ b ∷ [] → m ≡ r ++ a ∷ [] → (a ≡ x) × (b ≡ y)
two_numbers x y m r a b last before = by r (last ∙ ap (λ (l : List ℕ). l ++ b ∷ []) before)
  where
    by : (r : List ℕ) → x ∷ y ∷ [] ≡ (r ++ a ∷ []) ++ b ∷ [] → (a ≡ x) × (b ≡ y)
    by [] e = (let f : x ≡ a = (cc) in sym f, let f : y ≡ b = (cc) in sym f)
    by (p ∷ []) e = absurd cc
    by (p ∷ q ∷ []) e = absurd cc
    by (p ∷ q ∷ s ∷ r) e = absurd cc

-- where a store goes on, its items are its entries
pub no_stop_yet : {D C : Type 0} (p : Parts D C) → p.stopped ≡ None → length (items_in p) ≡ length p.state.entries
no_stop_yet p e =
    ap (λ (s : Option ℕ). length (map item.Entry p.state.entries ++ stop_in s p.torn)) e ∙ ap (λ (l : List Item). length l)
    (append-nil (map item.Entry p.state.entries)) ∙ length-map p.state.entries (λ (x : Entry). item.Entry x)

all_front : {A : Type 0} (P : A → Type 0) (xs : List A) (y : A) → All P (xs ++ y ∷ []) → All P xs × P y
all_front P [] y h = (All-nil P, All-head P y [] h)
all_front P (x ∷ xs) y h =
    let more = all_front P xs y (All-tail P x (xs ++ y ∷ []) h) in
    (All-cons P x xs (All-head P x (xs ++ y ∷ []) h) more.0, more.1)

-- each of the rest, of two tills and of a seat
record EachOf {A : Type 0} (P : A → Type 0) (rest : List A) (a b seat : A) : Type 0 where
  others : All P rest
  first : P a
  second : P b
  last : P seat

module _ {A : Type 0} (P : A → Type 0) (all m r : List A) (a b seat : A) (last : all ≡ m ++ b ∷ [])
    (before : m ≡ r ++ a ∷ []) where
  each_of : All P (all ++ seat ∷ []) → EachOf P r a b seat
  each_of h =
      let tills = all_front P all seat h in
      let two = all_front P m b (subst (λ (l : List A). All P l) last tills.0) in
      let one = all_front P r a (subst (λ (l : List A). All P l) before two.0) in
      record { others = one.0; first = one.1; second = two.1; last = tills.1 }

  of_each : EachOf P r a b seat → All P (all ++ seat ∷ [])
  of_each e = All-push P all seat (subst (λ (l : List A). All P l) (sym last) (All-push P m b
      (subst (λ (l : List A). All P l) (sym before) (All-push P r a e.others e.first)) e.second)) e.last

own_asks : (till : ℕ) (requests : List Request) → All (λ (x : Asked). x.till ≡ till) (asks_of till requests)
own_asks till requests = All-map (λ (x : Asked). x.till ≡ till)
    (λ (p : ℕ × Request). record { till = till; serial = p.0; request = p.1 }) (enumerate_from 1 requests) (λ i d l. refl)

-- the runs of two tills, 1 and 2, of a shop that began with these items and ended with that list
pub record TwoRuns {C : Type 0} (coming : C → ℕ → Option ℕ) (root : Root C) (items log : List Item)
    (first second : List Request) (told₁ told₂ : List (Result Reply StoreFault)) : Type 0 where
  pub all : List (Known Item (Root C))
  pub m : List (Known Item (Root C))
  pub r : List (Known Item (Root C))
  pub mid : List (Known Item (Root C))
  pub back : List (Known Item (Root C))
  pub a : Known Item (Root C)
  pub b : Known Item (Root C)
  pub c : Known Item (Root C)
  pub d : Known Item (Root C)
  pub seat : Known Item (Root C)
  pub size : length items ≡ length root.history
  pub fresh : All (IsNew items root) (all ++ seat ∷ [])
  pub last : all ≡ m ++ b ∷ []
  pub before : m ≡ r ++ a ∷ []
  pub one : mid ≡ r ++ c ∷ []
  pub two : back ≡ mid ++ d ∷ []
  pub run_one : TillRun coming a (asks_of 1 first) told₁ c
  pub run_two : TillRun coming b (asks_of 2 second) told₂ d
  pub fits : All (Fits log) (back ++ seat ∷ [])
  pub begins : StartsWith log items
  pub since : (n : ℕ) → length items ≤ n → n < length log → owners n (back ++ seat ∷ []) ≡ 1

module _ {C : Type 0} (coming : C → ℕ → Option ℕ) (root : Root C) (items log : List Item) (first second : List Request)
    (told₁ told₂ : List (Result Reply StoreFault)) (at_end : ToldAtTheEnd coming) (taken : AddsWhatIsTaken coming)
    (no_other : AddsForNoOther coming) (t : TwoRuns coming root items log first second told₁ told₂) where
  abbrev Pass : Type 0
  Pass = Known Item (Root C)

  new : EachOf (IsNew items root) t.r t.a t.b t.seat
  new = each_of (IsNew items root) t.all t.m t.r t.a t.b t.seat t.last t.before t.fresh

  fit : EachOf (Fits log) t.r t.c t.d t.seat
  fit = each_of (Fits log) t.back t.mid t.r t.c t.d t.seat t.two t.one t.fits

  bare : (till : ℕ) (k : Pass) → IsNew items root k → OwnsNone till k
  bare till k n = subst (λ (o : List (ℕ × Item)). All (λ (x : ℕ × Item). is_of till x.1 ≡ false) o) (sym n.own)
      (All-nil (λ (x : ℕ × Item). is_of till x.1 ≡ false))

  -- who owns records of a till: one pass, or none
  apart : (till : ℕ) (mine : Pass) → (t.c ≡ mine) ⊎ OwnsNone till t.c → (t.d ≡ mine) ⊎ OwnsNone till t.d →
      All (λ (k : Pass). (k ≡ mine) ⊎ OwnsNone till k) (t.back ++ t.seat ∷ [])
  apart till mine x y = of_each (λ (k : Pass). (k ≡ mine) ⊎ OwnsNone till k) t.back t.mid t.r t.c t.d t.seat t.two t.one (record {
    others = All-weaker (IsNew items root) (λ (k : Pass). (k ≡ mine) ⊎ OwnsNone till k) (λ k n. inr (bare till k n)) t.r
        new.others;
    first = x;
    second = y;
    last = inr (bare till t.seat new.last);
  })

  replies_by : (till : ℕ) (old mine : Pass) (requests : List Request) (replies : List (Result Reply StoreFault)) →
      IsNew items root old → Fits log mine → TillRun coming old (asks_of till requests) replies mine →
      All (λ (k : Pass). (k ≡ mine) ⊎ OwnsNone till k) (t.back ++ t.seat ∷ []) → AreReplies coming root log till requests replies
  replies_by till old mine requests replies n f run others =
      let h = at_end root items log old mine (asks_of till requests) replies n f run in
      record {
        seen = h.0;
        told = h.1;
        run = subst (λ (k : ℕ). TillTold coming root log k (asks_of till requests) replies h.0 h.1) t.size h.2;
        own = subst (λ (k : ℕ). AreTaken replies (records_of till (drop k log))) t.size
            (taken till root items log old mine (asks_of till requests) replies (t.back ++ t.seat ∷ []) n run
            (own_asks till requests) t.begins f t.fits others t.since);
      }

  -- neither run adds a record of another till
  not_by_one : (till : ℕ) → till ≢ 1 → OwnsNone till t.c
  not_by_one till other =
      no_other 1 till root items t.a t.c (asks_of 1 first) told₁ new.first t.run_one (own_asks 1 first) other

  not_by_two : (till : ℕ) → till ≢ 2 → OwnsNone till t.d
  not_by_two till other =
      no_other 2 till root items t.b t.d (asks_of 2 second) told₂ new.second t.run_two (own_asks 2 second) other

  pub first_replies : AreReplies coming root log 1 first told₁
  first_replies = replies_by 1 t.a t.c first told₁ new.first fit.first t.run_one
      (apart 1 t.c (inl refl) (inr (not_by_two 1 (λ e. absurd cc))))

  pub second_replies : AreReplies coming root log 2 second told₂
  second_replies = replies_by 2 t.b t.d second told₂ new.second fit.second t.run_two
      (apart 2 t.d (inr (not_by_one 2 (λ e. absurd cc))) (inl refl))

  -- no other till has a record since the start: a new pass has asked for nothing, and no pass owns one
  pub none_else : (till : ℕ) → till ≢ 1 → till ≢ 2 → records_since root log till ≡ []
  none_else till not_one not_two = subst (λ (k : ℕ). records_of till (drop k log) ≡ []) t.size
      (taken till root items log t.seat t.seat [] [] (t.back ++ t.seat ∷ []) new.last begun
      (All-nil (λ (x : Asked). x.till ≡ till)) t.begins fit.last t.fits
      (apart till t.seat (inr (not_by_one till not_one)) (inr (not_by_two till not_two))) t.since)
