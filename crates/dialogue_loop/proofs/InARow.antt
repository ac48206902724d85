-- What the tills in a row know, one ask further.
use Rattle.std.proofs.Common.{◌≡◌, ◌⊎◌, inl, inr, ℕ, zero, suc, ◌+◌, ◌-◌, ◌<◌, ◌≤◌, ◌==◌, Bool, true, false, List, [], ◌∷◌, ◌++◌, length, map, get_or}
use Rattle.std.proofs.Common.{refl, ap, sym, subst, ◌∙◌, arith, cond, Option, Some, Result, append-nil, length-append, slice_get, take, drop, max}
use Rattle.std.specs.Prelude.{filter, reverse, zip}
use Rattle.std.specs.List.{AllByRecursion, range_with_len}
use Rattle.std.proofs.lemmas.Bool.Decides.{nat_tests}
use Rattle.std.proofs.Math.ListN.{set}
use Rattle.std.proofs.lemmas.List.{get_or-append_right, get_or-map, get_or-reverse, get_or_append_left, length-map, length-reverse}
use Rattle.std.proofs.lemmas.List.{length-set, map-append, map-set, map_push, set-get_or}
use Rattle.std.proofs.Math.Seq.{map-set_same, take-append_seam}
use Rattle.std.proofs.lemmas.Option.{get_or_from_slice_get, slice_get-get_or}
use Rattle.std.proofs.lemmas.List.Elements.{filter-append}
use Rattle.std.proofs.lemmas.List.FromFn.{get_or-range_with_len, length-range_with_len}
use Rattle.chain_lock.specs.Known.{Known}
use Rattle.chain_store.specs.Replies.{Replies}
use Rattle.journal.specs.declared.faults.StoreFault.{StoreFault}
use Rattle.shop_core.specs.Answer.Requests.{Asked}
use Rattle.shop_core.specs.declared.answer.Reply.{Reply}
use Rattle.shop_core.specs.declared.items.Item.{Item}
use Rattle.till_calls.specs.Client.{TillRun}
use Rattle.till_calls.specs.Client.TillRun.{asked, begun}
use Rattle.till_calls.specs.Root.{Root}
use Rattle.till_calls.specs.Shop.{Asks}
use Rattle.till_calls.specs.Seen.{SeesOn}
use Rattle.dialogue_loop.specs.InARow.{AllRan, AllRanOn, AllSeeOn, asks_of, replies_of}
use Rattle.dialogue_loop.specs.Looked.{Informed}
use Rattle.dialogue_loop.proofs.Lists.{one_more}

zip_push : (asks : List Asked) (replies : Replies) (ask : Asked) (reply : Result Reply StoreFault) →
    length replies ≡ length asks → zip (asks ++ ask ∷ []) (replies ++ reply ∷ []) ≡ zip asks replies ++ (ask, reply) ∷ []
zip_push [] [] ask reply e = refl
zip_push [] (r ∷ replies) ask reply e = absurd (omega (arith, e))
zip_push (a ∷ asks) [] ask reply e = absurd (omega (arith, e))
zip_push (a ∷ asks) (r ∷ replies) ask reply e = ap (λ (l : List (Asked × Result Reply StoreFault)). (a, r) ∷ l)
    (zip_push asks replies ask reply (omega (arith, e)))

filter_none : {X : Type 0} (p : X → Bool) (xs : List X) (x : X) → p x ≡ false → filter p (xs ++ x ∷ []) ≡ filter p xs
filter_none {X} p xs x is = filter-append p xs (x ∷ []) ∙ ap (λ (b : Bool). filter p xs ++ cond b (x ∷ []) []) is ∙
    append-nil (filter p xs)

-- The asks and the replies of a till, after one ask more: it is this till's, or another's.
module _ (till : ℕ) (asks : List Asked) (replies : Replies) (ask : Asked) (reply : Result Reply StoreFault)
    (even : length replies ≡ length asks) where
  abbrev Pair : Type 0
  Pair = Asked × Result Reply StoreFault

  abbrev is_own : Pair → Bool
  is_own a = a.0.till == till

  asks_own : ask.till ≡ till → asks_of till (asks ++ ask ∷ []) ≡ asks_of till asks ++ ask ∷ []
  asks_own e = sym (one_more (λ (a : Asked). a.till == till) asks ask
      (let t : (ask.till == till) ≡ true = grind (arith, nat_tests, e) in t))

  replies_own : ask.till ≡ till → replies_of till (asks ++ ask ∷ []) (replies ++ reply ∷ []) ≡ replies_of till asks replies ++ reply ∷ []
  replies_own e = ap (λ (l : List Pair). map (λ (a : Pair). a.1) (filter is_own l)) (zip_push asks replies ask reply even) ∙
      ap (λ (l : List Pair). map (λ (a : Pair). a.1) l) (sym (one_more is_own (zip asks replies) (ask, reply)
      (let t : (ask.till == till) ≡ true = grind (arith, nat_tests, e) in t))) ∙
      map_push (λ (a : Pair). a.1) (filter is_own (zip asks replies)) (ask, reply)

  differs : (ask.till ≡ till → ⊥) → (ask.till == till) ≡ false
  differs ne = grind (arith, nat_tests, ne)

  asks_other : (ask.till ≡ till → ⊥) → asks_of till (asks ++ ask ∷ []) ≡ asks_of till asks
  asks_other ne = filter_none (λ (a : Asked). a.till == till) asks ask (differs ne)

  replies_other : (ask.till ≡ till → ⊥) → replies_of till (asks ++ ask ∷ []) (replies ++ reply ∷ []) ≡ replies_of till asks replies
  replies_other ne = ap (λ (l : List Pair). map (λ (a : Pair). a.1) (filter is_own l)) (zip_push asks replies ask reply even) ∙
      ap (λ (l : List Pair). map (λ (a : Pair). a.1) l) (filter_none is_own (zip asks replies) (ask, reply) (differs ne))

module _ {C : Type 0} (coming : C → ℕ → Option ℕ) (asks : List Asked) (replies : Replies) (ask : Asked)
    (reply : Result Reply StoreFault) (even : length replies ≡ length asks) where
  abbrev Pass : Type 0
  Pass = Known Item (Root C)

  abbrev Then : List Pass → List Pass → Type 0
  Then olds news = AllRan coming (asks ++ ask ∷ []) (replies ++ reply ∷ []) olds news

  of_another : (till : ℕ) (old new : Pass) → (ask.till ≡ till → ⊥) →
      TillRun coming old (asks_of till asks) (replies_of till asks replies) new →
      TillRun coming old (asks_of till (asks ++ ask ∷ [])) (replies_of till (asks ++ ask ∷ []) (replies ++ reply ∷ [])) new
  of_another till old new ne run =
      rw (asks_other till asks replies ask reply even ne, replies_other till asks replies ask reply even ne) run

  -- tills with lower numbers go on as they were
  others : (olds news : List Pass) → length olds < ask.till → AllRan coming asks replies olds news → Then olds news
  others [] [] below h = tt
  others [] (new ∷ news) below h = absurd h
  others (old ∷ olds) [] below h = absurd h
  others (old ∷ olds) (new ∷ news) below h = (
    of_another (length (old ∷ olds)) old new (λ e. omega (arith, e, below)) h.0,
    others olds news (omega (arith, below)) h.1,
  )

  -- one ask more, of the till at this place
  asked_at : (olds news : List Pass) (place : ℕ) (now : Pass) → place < length olds → ask.till ≡ length olds - place →
      Asks coming ask reply (get_or news place now) now → AllRan coming asks replies olds news → Then olds (set news place now)
  asked_at [] news place now below at step h = absurd (omega (arith, below))
  asked_at (old ∷ olds) [] place now below at step h = absurd h
  asked_at (old ∷ olds) (new ∷ news) zero now below at step h =
      let same : ask.till ≡ length (old ∷ olds) = omega (arith, at) in
      let n : ℕ = length (old ∷ olds) in
      let run : TillRun coming old (asks_of n asks ++ ask ∷ []) (replies_of n asks replies ++ reply ∷ []) now =
      asked (asks_of n asks) (replies_of n asks replies) new now ask reply h.0 step in (
        rw (asks_own n asks replies ask reply even same, replies_own n asks replies ask reply even same) run,
        others olds news (omega (arith, same)) h.1,
      )
  asked_at (old ∷ olds) (new ∷ news) (suc place) now below at step h = (
    of_another (length (old ∷ olds)) old new (λ e. omega (arith, e, at, below)) h.0,
    asked_at olds news place now (omega (arith, below)) (omega (arith, at)) step h.1,
  )

-- nothing was asked yet
none_asked : {C : Type 0} (coming : C → ℕ → Option ℕ) (olds : List (Known Item (Root C))) → AllRan coming [] [] olds olds
none_asked coming [] = tt
none_asked coming (old ∷ olds) = (begun, none_asked coming olds)

-- tills that see on
module _ {R : Type 0} where
  sees_self : (k : Known Item R) → SeesOn k k
  sees_self k = record { begins = ([], sym (append-nil k.seen)); at_least = omega arith; same = refl }

  all_see_self : (ks : List (Known Item R)) → AllSeeOn ks ks
  all_see_self [] = tt
  all_see_self (k ∷ ks) = (sees_self k, all_see_self ks)

  sees_size : (olds news : List (Known Item R)) → AllSeeOn olds news → length news ≡ length olds
  sees_size [] [] h = refl
  sees_size [] (new ∷ news) h = absurd h
  sees_size (old ∷ olds) [] h = absurd h
  sees_size (old ∷ olds) (new ∷ news) h = let e = sees_size olds news h.1 in omega (arith, e)

  sees_at : (olds news : List (Known Item R)) (place : ℕ) (new d : Known Item R) → AllSeeOn olds news → slice_get news place ≡ Some new →
      SeesOn (get_or olds place d) new
  sees_at [] [] place new d h at = absurd (let x = at in cc)
  sees_at [] (n ∷ news) place new d h at = absurd h
  sees_at (o ∷ olds) [] place new d h at = absurd h
  sees_at (o ∷ olds) (n ∷ news) zero new d h at = subst (λ (k : Known Item R). SeesOn o k) (let e : n ≡ new = (let x = at in cc) in e) h.0
  sees_at (o ∷ olds) (n ∷ news) (suc place) new d h at = sees_at olds news place new d h.1 at

  -- the same one in both rows
  set_both : (olds news : List (Known Item R)) (place : ℕ) (now : Known Item R) → AllSeeOn olds news → AllSeeOn (set olds place now) (set news place now)
  set_both [] [] place now h = tt
  set_both [] (n ∷ news) place now h = absurd h
  set_both (o ∷ olds) [] place now h = absurd h
  set_both (o ∷ olds) (n ∷ news) zero now h = (sees_self now, h.1)
  set_both (o ∷ olds) (n ∷ news) (suc place) now h = (h.0, set_both olds news place now h.1)

  -- one of them once more
  set_one : ((old mid new : Known Item R) → SeesOn old mid → SeesOn mid new → SeesOn old new) → (olds news : List (Known Item R)) (place : ℕ)
      (old now : Known Item R) → slice_get news place ≡ Some old → SeesOn old now → AllSeeOn olds news → AllSeeOn olds (set news place now)
  set_one law [] [] place old now at s h = tt
  set_one law [] (n ∷ news) place old now at s h = absurd h
  set_one law (o ∷ olds) [] place old now at s h = absurd h
  set_one law (o ∷ olds) (n ∷ news) zero old now at s h =
      (law o n now h.0 (subst (λ (k : Known Item R). SeesOn k now) (let e : old ≡ n = (let x = at in cc) in e) s), h.1)
  set_one law (o ∷ olds) (n ∷ news) (suc place) old now at s h = (h.0, set_one law olds news place old now at s h.1)

module _ {C : Type 0} (coming : C → ℕ → Option ℕ) where
  pub none_ran : (olds : List (Known Item (Root C))) → AllRanOn coming [] [] olds olds
  none_ran olds = record { mids = olds; ran = none_asked coming olds; since = all_see_self olds }

  ran_size : (asks : List Asked) (replies : Replies) (olds news : List (Known Item (Root C))) → AllRan coming asks replies olds news →
      length news ≡ length olds
  ran_size asks replies [] [] h = refl
  ran_size asks replies [] (new ∷ news) h = absurd h
  ran_size asks replies (old ∷ olds) [] h = absurd h
  ran_size asks replies (old ∷ olds) (new ∷ news) h = let e = ran_size asks replies olds news h.1 in omega (arith, e)

  pub size_kept : (asks : List Asked) (replies : Replies) (olds news : List (Known Item (Root C))) →
      AllRanOn coming asks replies olds news → length news ≡ length olds
  size_kept asks replies olds news h = sees_size h.mids news h.since ∙ ran_size asks replies olds h.mids h.ran

  -- one ask more, of the till at this place
  pub asked_on : ((ask : Asked) (reply : Result Reply StoreFault) (old mid new : Known Item (Root C)) → SeesOn old mid →
      Asks coming ask reply mid new → Asks coming ask reply old new) → (asks : List Asked) (replies : Replies) (ask : Asked)
      (reply : Result Reply StoreFault) (olds news : List (Known Item (Root C))) (place : ℕ) (old new : Known Item (Root C)) →
      length replies ≡ length asks → place < length olds → ask.till ≡ length olds - place → slice_get news place ≡ Some old →
      Asks coming ask reply old new → AllRanOn coming asks replies olds news →
      AllRanOn coming (asks ++ ask ∷ []) (replies ++ reply ∷ []) olds (set news place new)
  asked_on law asks replies ask reply olds news place old new even below is at step h = record {
    mids = set h.mids place new;
    ran = asked_at coming asks replies ask reply even olds h.mids place new below is
        (law ask reply (get_or h.mids place new) old new (sees_at h.mids news place old new h.since at) step) h.ran;
    since = set_both h.mids news place new h.since;
  }

  -- one till has seen on
  pub seen_on : ((old mid new : Known Item (Root C)) → SeesOn old mid → SeesOn mid new → SeesOn old new) → (asks : List Asked)
      (replies : Replies) (olds news : List (Known Item (Root C))) (place : ℕ) (old new : Known Item (Root C)) →
      slice_get news place ≡ Some old → SeesOn old new → AllRanOn coming asks replies olds news →
      AllRanOn coming asks replies olds (set news place new)
  seen_on law asks replies olds news place old new at s h = record {
    mids = h.mids;
    ran = h.ran;
    since = set_one law h.mids news place old new at s h.since;
  }

  -- runs and looks leave each till in its shop
  run_root : (old : Known Item (Root C)) (asks : List Asked) (replies : Replies) (new : Known Item (Root C)) →
      TillRun coming old asks replies new → new.root ≡ old.root
  run_root old asks replies new begun = refl
  run_root old asks' replies' new' (asked asks replies mid new ask reply run step) =
      ap (λ (k : Known Item (Root C)). k.root) step.after ∙ run_root old asks replies mid run

  abbrev AreOf : Root C → List (Known Item (Root C)) → Type 0
  AreOf root ks = AllByRecursion (λ (k : Known Item (Root C)). k.root ≡ Some root) ks

  ran_of : (asks : List Asked) (replies : Replies) (root : Root C) (olds news : List (Known Item (Root C))) →
      AllRan coming asks replies olds news → AreOf root olds → AreOf root news
  ran_of asks replies root [] [] h same = tt
  ran_of asks replies root [] (new ∷ news) h same = absurd h
  ran_of asks replies root (old ∷ olds) [] h same = absurd h
  ran_of asks replies root (old ∷ olds) (new ∷ news) h same = (
    run_root old (asks_of (length (old ∷ olds)) asks) (replies_of (length (old ∷ olds)) asks replies) new h.0 ∙ same.0,
    ran_of asks replies root olds news h.1 same.1,
  )

  seen_of : (root : Root C) (olds news : List (Known Item (Root C))) → AllSeeOn olds news → AreOf root olds → AreOf root news
  seen_of root [] [] h same = tt
  seen_of root [] (new ∷ news) h same = absurd h
  seen_of root (old ∷ olds) [] h same = absurd h
  seen_of root (old ∷ olds) (new ∷ news) h same =
      (ap (λ (k : Known Item (Root C)). k.root) h.0.same ∙ same.0, seen_of root olds news h.1 same.1)

  pub shop_kept : (asks : List Asked) (replies : Replies) (olds news : List (Known Item (Root C))) →
      AllRanOn coming asks replies olds news → (root : Root C) → AreOf root olds → AreOf root news
  shop_kept asks replies olds news h root same = seen_of root h.mids news h.since (ran_of asks replies root olds h.mids h.ran same)

-- a till was told
pub ran_informed : {C : Type 0} (coming : C → ℕ → Option ℕ) →
    ((old mid new : Known Item (Root C)) → SeesOn old mid → SeesOn mid new → SeesOn old new) → (asks : List Asked) (replies : Replies)
    (olds mids news : List (Known Item (Root C))) (by place : ℕ) → place < length mids → Informed mids by place news →
    AllRanOn coming asks replies olds mids → AllRanOn coming asks replies olds news
ran_informed coming law asks replies olds [] news by place within informed h = absurd (omega (arith, within))
ran_informed {C} coming law asks replies olds (d ∷ mids) news by place within informed h =
    let old : Known Item (Root C) = get_or (d ∷ mids) place d in
    let at : slice_get (d ∷ mids) place ≡ Some old = slice_get-get_or (d ∷ mids) place d within in
    subst (λ (ks : List (Known Item (Root C))). AllRanOn coming asks replies olds ks) (sym informed.only)
    (seen_on coming law asks replies olds (d ∷ mids) place old informed.now at (informed.sees old at) h)

set_get : {A : Type 0} (xs : List A) (i j : ℕ) (x y : A) → slice_get (set xs i x) j ≡ Some y → ((j ≡ i) × (x ≡ y)) ⊎ (slice_get xs j ≡ Some y)
set_get [] i j x y at = inr at
set_get (z ∷ xs) zero zero x y at = inl (refl, (let e = at in cc))
set_get (z ∷ xs) zero (suc j) x y at = inr at
set_get (z ∷ xs) (suc i) zero x y at = inr at
set_get (z ∷ xs) (suc i) (suc j) x y at = elim (set_get xs i j x y at) [
  | inl h ↦ inl ((let e = h.0 in omega (arith, e)), h.1)
  | inr h ↦ inr h
]

-- the till that the first one told knows of as many items
pub informed_at : {R : Type 0} (olds : List (Known Item R)) (place : ℕ) (news : List (Known Item R)) (now : Known Item R) →
    place < length olds → Informed olds 63 place news → slice_get news place ≡ Some now →
    (first : Known Item R) → slice_get news 63 ≡ Some first → first.least ≤ now.least
informed_at {R} olds place news now within h here first at =
    let one : slice_get (set olds place h.now) place ≡ Some now =
    subst (λ (ks : List (Known Item R)). slice_get ks place ≡ Some now) h.only here in
    let two : slice_get (set olds place h.now) 63 ≡ Some first =
    subst (λ (ks : List (Known Item R)). slice_get ks 63 ≡ Some first) h.only at in
    let same : h.now ≡ now = (let e = sym (set_here olds place h.now within) ∙ one in cc) in
    elim (set_get olds place 63 h.now first two) [
      | inl x ↦ (let e = ap (λ (k : Known Item R). k.least) (sym x.1 ∙ same) in omega (arith, e))
      | inr x ↦ (let a = h.as_many first x in let e = ap (λ (k : Known Item R). k.least) same in omega (arith, a, e))
    ]
  where
    set_here : {A : Type 0} (xs : List A) (i : ℕ) (x : A) → i < length xs → slice_get (set xs i x) i ≡ Some x
    set_here [] i x l = absurd (omega (arith, l))
    set_here (y ∷ xs) zero x l = refl
    set_here (y ∷ xs) (suc i) x l = set_here xs i x (omega (arith, l))

-- what is at a place of a list that was mapped
pub at_place : {A B : Type 0} (f : A → B) (xs : List A) (i : ℕ) (x : A) → i < length xs → x ≡ get_or xs i x →
    slice_get (map f xs) i ≡ Some (f x)
at_place f xs i x within is = slice_get-get_or (map f xs) i (f x) (let e = length-map xs f in omega (arith, e, within)) ∙
    ap Some (get_or-map f xs i x (f x) within ∙ ap f (sym is))

-- a till that tells itself nothing
pub informed_self : {R : Type 0} (ks : List (Known Item R)) → length ks ≡ 64 → Informed ks 63 63 ks
informed_self [] size = absurd (omega (arith, size))
informed_self (d ∷ ks) size = record {
  now = get_or (d ∷ ks) 63 d;
  only = sym (set-get_or (d ∷ ks) 63 d);
  sees = λ old at. subst (λ (k : Known Item _). SeesOn k (get_or (d ∷ ks) 63 d)) (get_or_from_slice_get (d ∷ ks) 63 old d at)
      (sees_self (get_or (d ∷ ks) 63 d));
  as_many = λ till at. let e : get_or (d ∷ ks) 63 d ≡ till = get_or_from_slice_get (d ∷ ks) 63 till d at in
      let f = ap (λ (k : Known Item _). k.least) e in omega (arith, f);
}

-- who was told of this many items
pub raised_sees : {R : Type 0} (old new : Known Item R) (n : ℕ) → new ≡ record old { least = max old.least n } →
    SeesOn old new × (n ≤ new.least)
raised_sees {R} old new n is =
    let least : new.least ≡ max old.least n = ap (λ (k : Known Item R). k.least) is in (
      record {
        begins = ([], ap (λ (k : Known Item R). k.seen) is ∙ sym (append-nil old.seen));
        at_least = omega (arith, least);
        same = is ∙ (let seen = ap (λ (k : Known Item R). k.seen) is in
            ap (λ (k : Known Item R). record old { seen = k.seen; least = k.least }) (sym is));
      },
      omega (arith, least),
    )

-- two parts of a list, with one element changed in each
module _ {X : Type 0} (items others firsts : List X) (place : ℕ) (from from_now to to_now : X) (parts : items ≡ others ++ firsts)
    (size : length others ≡ 63) (one : length firsts ≡ 1) (within : place < 63) (from_is : from ≡ get_or others place from)
    (to_is : to ≡ get_or firsts 0 to) where
  abbrev changed : List X
  changed = set others place from_now ++ set firsts 0 to_now

  -- the same list in the place of the old one
  pub whole : (n : ℕ) → length items ≡ n → take n (changed ++ drop (length changed) items) ≡ changed
  whole n long =
      let a = length-append (set others place from_now) (set firsts 0 to_now) in
      let b = length-set others place from_now in
      let e = length-set firsts 0 to_now in
      let f = length-append others firsts in
      let p = ap (λ (l : List X). length l) parts in
      let same : length changed ≡ n = omega (arith, a, b, e, f, p, long) in
      ap (λ (k : ℕ). take k (changed ++ drop (length changed) items)) (sym same) ∙ take-append_seam changed (drop (length changed) items)

  pub same_of : {B : Type 0} (f : X → B) → f from_now ≡ f from → f to_now ≡ f to → map f changed ≡ map f items
  same_of f a b = map-append f (set others place from_now) (set firsts 0 to_now) ∙
      ap (λ (l : List _). l ++ map f (set firsts 0 to_now)) (map-set_same f others place from_now from (a ∙ ap f from_is)) ∙
      ap (λ (l : List _). map f others ++ l) (map-set_same f firsts 0 to_now to (b ∙ ap f to_is)) ∙ sym (map-append f others firsts) ∙
      ap (λ (l : List X). map f l) (sym parts)

  set_behind : {B : Type 0} (xs ys : List B) (n : ℕ) (v : B) → length xs ≡ n → set (xs ++ ys) n v ≡ xs ++ set ys 0 v
  set_behind [] ys zero v e = refl
  set_behind [] ys (suc n) v e = absurd (omega (arith, e))
  set_behind (x ∷ xs) ys zero v e = absurd (omega (arith, e))
  set_behind (x ∷ xs) ys (suc n) v e = ap (λ (l : List _). x ∷ l) (set_behind xs ys n v (omega (arith, e)))

  long : length items ≡ 64
  long = let p = ap (λ (l : List X). length l) parts in let e = length-append others firsts in omega (arith, p, e, size, one)

  from_at : from ≡ get_or items place from
  from_at = from_is ∙ sym (ap (λ (l : List X). get_or l place from) parts ∙
      get_or_append_left others firsts from place (omega (arith, within, size)))

  to_at : to ≡ get_or items 63 to
  to_at = to_is ∙ sym (ap (λ (l : List X). get_or l 63 to) parts ∙ get_or-append_right others firsts 63 63 to size (omega arith))

  -- the till at a place told the first one
  pub informed_by : {R : Type 0} (knows : X → Known Item R) → knows from_now ≡ knows from → SeesOn (knows to) (knows to_now) →
      (knows from).least ≤ (knows to_now).least → Informed (map knows items) place 63 (map knows changed)
  informed_by knows kept sees more = record {
    now = knows to_now;
    only = map-append knows (set others place from_now) (set firsts 0 to_now) ∙
        ap (λ (l : List _). l ++ map knows (set firsts 0 to_now)) (map-set_same knows others place from_now from (kept ∙ ap knows from_is)) ∙
        ap (λ (l : List _). map knows others ++ l) (map-set knows firsts 0 to_now) ∙
        sym (set_behind (map knows others) (map knows firsts) 63 (knows to_now) (length-map others knows ∙ size)) ∙
        ap (λ (l : List _). set l 63 (knows to_now)) (sym (map-append knows others firsts) ∙ ap (λ (l : List X). map knows l) (sym parts));
    sees = λ first at.
        let here = at_place knows items 63 to (omega (arith, long)) to_at in
        subst (λ (k : Known Item _). SeesOn k (knows to_now)) (let e : knows to ≡ first = (let x = sym here ∙ at in cc) in e) sees;
    as_many = λ till at.
        let here = at_place knows items place from (omega (arith, long, within)) from_at in
        subst (λ (k : Known Item _). k.least ≤ (knows to_now).least) (let e : knows from ≡ till = (let x = sym here ∙ at in cc) in e) more;
  }

  set_front : {B : Type 0} (xs ys : List B) (n : ℕ) (v : B) → n < length xs → set (xs ++ ys) n v ≡ set xs n v ++ ys
  set_front [] ys n v l = absurd (omega (arith, l))
  set_front (x ∷ xs) ys zero v l = refl
  set_front (x ∷ xs) ys (suc n) v l = ap (λ (zs : List _). x ∷ zs) (set_front xs ys n v (omega (arith, l)))

  -- the first one told it
  pub informed_back : {R : Type 0} (knows : X → Known Item R) → knows to_now ≡ knows to → SeesOn (knows from) (knows from_now) →
      (knows to).least ≤ (knows from_now).least → Informed (map knows items) 63 place (map knows changed)
  informed_back knows kept sees more = record {
    now = knows from_now;
    only = map-append knows (set others place from_now) (set firsts 0 to_now) ∙
        ap (λ (l : List _). l ++ map knows (set firsts 0 to_now)) (map-set knows others place from_now) ∙
        ap (λ (l : List _). set (map knows others) place (knows from_now) ++ l) (map-set_same knows firsts 0 to_now to
        (kept ∙ ap knows to_is)) ∙
        sym (set_front (map knows others) (map knows firsts) place (knows from_now)
        (let e = length-map others knows in omega (arith, e, size, within))) ∙
        ap (λ (l : List _). set l place (knows from_now))
        (sym (map-append knows others firsts) ∙ ap (λ (l : List X). map knows l) (sym parts));
    sees = λ till at.
        let here = at_place knows items place from (omega (arith, long, within)) from_at in
        subst (λ (k : Known Item _). SeesOn k (knows from_now)) (let e : knows from ≡ till = (let x = sym here ∙ at in cc) in e) sees;
    as_many = λ first at.
        let here = at_place knows items 63 to (omega (arith, long)) to_at in
        subst (λ (k : Known Item _). k.least ≤ (knows from_now).least) (let e : knows to ≡ first = (let x = sym here ∙ at in cc) in e) more;
  }

-- the numbers of a whole row, the last one first
pub row_size : (ns : List ℕ) → reverse ns ≡ range_with_len 1 64 → length ns ≡ 64
row_size ns h =
    let a = length-reverse ns in
    let e = ap (λ (l : List ℕ). length l) h in
    let f = length-range_with_len 1 64 in
    omega (arith, a, e, f)

pub number_at : (ns : List ℕ) (place d : ℕ) → reverse ns ≡ range_with_len 1 64 → place < 64 → get_or ns place d ≡ 64 - place
number_at ns place d h below =
    let size = row_size ns h in
    let a = get_or-reverse ns (63 - place) d (omega (arith, size, below)) in
    let k : length ns - 1 - (63 - place) ≡ place = omega (arith, size, below) in
    let e = ap (λ (n : ℕ). get_or ns n d) k in
    let f = ap (λ (l : List ℕ). get_or l (63 - place) d) h in
    let g = get_or-range_with_len 1 64 (63 - place) d (omega (arith, below)) in
    let whole : get_or ns place d ≡ 1 + (63 - place) = sym e ∙ sym a ∙ f ∙ g in
    omega (arith, whole, below)
