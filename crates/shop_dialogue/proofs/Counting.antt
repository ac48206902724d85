-- A dialogue's records are those that its tills were told as taken, so its commands are one run.
use Rattle.std.proofs.Common.{◌≡◌, ◌≢◌, ◌∙◌, ◌⊎◌, inl, inr, ℕ, zero, suc, ◌+◌, ◌<◌, ◌≤◌, ◌==◌, List, [], ◌∷◌, ◌++◌, length, map, refl, ap, sym, subst}
use Rattle.std.proofs.Common.{arith, Bool, true, false, cond, Option, Result, Ok, Err, drop, length-append, All}
use Rattle.std.specs.Prelude.{count_by, filter, reverse, zip}
use Rattle.std.specs.Int.{IsInRange}
use Rattle.std.specs.List.{AllByRecursion, range_with_len}
use Rattle.std.proofs.Math.Seq.{drop-append_seam}
use Rattle.std.proofs.lemmas.Bool.{eqb-true}
use Rattle.std.proofs.lemmas.Bool.Decides.{nat_tests}
use Rattle.std.proofs.lemmas.List.{map-append, reverse-reverse}
use Rattle.std.proofs.lemmas.List.Elements.{filter-append}
use Rattle.std.proofs.lemmas.List.Sums.{length-filter, sum_by-cons}
use Rattle.chain_lock.specs.Known.{Fits, IsNew, Known}
use Rattle.chain_lock.specs.Lists.{StartsWith}
use Rattle.chain_store.specs.Replies.{Replies}
use Rattle.dialogue.specs.Protocol.{Look}
use Rattle.dialogue_loop.specs.InARow.{IsOfTill, replies_of}
use Rattle.dialogue_loop.specs.Looked.{RunsAt, items_at}
use Rattle.dialogue_loop.specs.OneRun.{IsOneRun, RunsAmong, is_taken, taken_in}
use Rattle.dialogue_loop.proofs.OneRun.{one_run, recs_both, taken_both, taken_cons}
use Rattle.journal.specs.declared.faults.StoreFault.{StoreFault}
use Rattle.record_codec.specs.declared.entry.Entry.{Entry}
use Rattle.record_codec.specs.declared.entry.Entry.TheVariants.{Rec, Notes}
use Rattle.record_fields.specs.declared.records.Sealed.{Sealed}
use Rattle.shop_core.specs.Answer.Requests.{Asked}
use Rattle.shop_core.specs.History.{recs}
use Rattle.shop_core.specs.Items.{entries_of}
use Rattle.shop_core.specs.declared.answer.Reply.{Reply}
use Rattle.shop_core.specs.declared.answer.Reply.TheVariants as reply
use Rattle.shop_core.specs.declared.items.Item.{Item}
use Rattle.till_calls.specs.Root.{Parts, Root, items_in}
use Rattle.sender_beside.specs.Days.{Day, TillReplies}
use Rattle.sender_beside.specs.Tills.{AreTaken, TillServed, is_from, own_of}
use Rattle.sender_beside.proofs.StartAndStop.{entries_in}
use Rattle.sender_session.proofs.Lists.{each_front, each_of_all, each_reverse}

-- a sum over numbers
abbrev total : (ℕ → ℕ) → List ℕ → ℕ
total f [] = 0
total f (n ∷ ns) = f n + total f ns

total_same : (f g : ℕ → ℕ) (ns : List ℕ) → ((n : ℕ) → f n ≡ g n) → total f ns ≡ total g ns
total_same f g [] e = refl
total_same f g (n ∷ ns) e = let a = e n in let r = total_same f g ns e in omega (arith, a, r)

total_both : (f g h : ℕ → ℕ) (ns : List ℕ) → ((n : ℕ) → f n ≡ g n + h n) → total f ns ≡ total g ns + total h ns
total_both f g h [] e = refl
total_both f g h (n ∷ ns) e = let a = e n in let r = total_both f g h ns e in omega (arith, a, r)

total_zero : (f : ℕ → ℕ) (ns : List ℕ) → ((n : ℕ) → f n ≡ 0) → total f ns ≡ 0
total_zero f [] e = refl
total_zero f (n ∷ ns) e = let a = e n in let r = total_zero f ns e in omega (arith, a, r)

-- a number among others
abbrev at_one : ℕ → ℕ → ℕ
at_one k n = cond (k == n) 1 0

is_same : (k n : ℕ) → k ≡ n → (k == n) ≡ true
is_same k n e = grind (arith, nat_tests, e)

differs : (k n : ℕ) → k ≢ n → (k == n) ≡ false
differs k n ne = grind (arith, nat_tests, ne)

lt_or_le : (a b : ℕ) → (a < b) ⊎ (b ≤ a)
lt_or_le a zero = inr (omega arith)
lt_or_le zero (suc b) = inl (omega arith)
lt_or_le (suc a) (suc b) = elim (lt_or_le a b) [ inl l ↦ inl (omega (arith, l)) | inr l ↦ inr (omega (arith, l)) ]

in_range : (k : ℕ) → IsInRange 1 64 k ⊎ (IsInRange 1 64 k → ⊥)
in_range k = elim (lt_or_le k 1) [
  | inl l ↦ inr (λ r. let a = r.0 in omega (arith, l, a))
  | inr a ↦ elim (lt_or_le 64 k) [ inl l ↦ inr (λ r. let b = r.1 in omega (arith, l, b)) | inr b ↦ inl (a, b) ]
]

total_none : (k a n : ℕ) → (k < a) ⊎ (a + n ≤ k) → total (at_one k) (range_with_len a n) ≡ 0
total_none k a zero o = refl
total_none k a (suc n) o =
    let ne : k ≢ a = λ e. elim o [ inl l ↦ omega (arith, l, e) | inr l ↦ omega (arith, l, e) ] in
    let next : (k < a + 1) ⊎ (a + 1 + n ≤ k) = elim o [ inl l ↦ inl (omega (arith, l)) | inr l ↦ inr (omega (arith, l)) ] in
    let here : at_one k a ≡ 0 = ap (λ (b : Bool). cond b 1 0) (differs k a ne) in
    let rest = total_none k (a + 1) n next in
    omega (arith, here, rest)

total_one : (k a n : ℕ) → a ≤ k → k < a + n → total (at_one k) (range_with_len a n) ≡ 1
total_one k a zero low high = absurd (omega (arith, low, high))
total_one k a (suc n) low high = by_test (k == a) refl (λ above. total_one k (a + 1) n above (omega (arith, high)))
  where
    by_test : (b : Bool) → (k == a) ≡ b → (a + 1 ≤ k → total (at_one k) (range_with_len (a + 1) n) ≡ 1) →
        total (at_one k) (range_with_len a (suc n)) ≡ 1
    by_test true is more =
        let e = eqb-true k a is in
        let here : at_one k a ≡ 1 = ap (λ (b : Bool). cond b 1 0) is in
        let rest = total_none k (a + 1) n (inl (omega (arith, e))) in
        omega (arith, here, rest)
    by_test false is more =
        let ne : k ≢ a = λ e. let t = is_same k a e in absurd (let x = sym is ∙ t in cc) in
        let here : at_one k a ≡ 0 = ap (λ (b : Bool). cond b 1 0) is in
        let rest = more (omega (arith, low, ne)) in
        omega (arith, here, rest)

-- Records, by their tills.
abbrev count_of : ℕ → List Entry → ℕ
count_of till entries = count_by (is_from till) entries

count_cons : (till : ℕ) (e : Entry) (es : List Entry) → count_of till (e ∷ es) ≡ cond (is_from till e) 1 0 + count_of till es
count_cons till e es = sum_by-cons (λ (x : Entry). cond (is_from till x) 1 0) e es

records_cons : (e : Entry) (es : List Entry) → length (recs (e ∷ es)) ≡ length (recs (e ∷ [])) + length (recs es)
records_cons e es = ap (λ (l : List Sealed). length l) (recs_both (e ∷ []) es) ∙ length-append (recs (e ∷ [])) (recs es)

records_total : (es : List Entry) → ((till : ℕ) → (IsInRange 1 64 till → ⊥) → count_of till es ≡ 0) →
    length (recs es) ≡ total (λ (t : ℕ). count_of t es) (range_with_len 1 64)
records_total [] o = sym (total_zero (λ (t : ℕ). count_of t []) (range_with_len 1 64) (λ n. refl))
records_total (Notes first lines ∷ es) o =
    let e : Entry = Notes first lines in
    let less = records_total es (λ till out. let c = o till out in let s = count_cons till e es in omega (arith, c, s)) in
    let same = total_same (λ (t : ℕ). count_of t (e ∷ es)) (λ (t : ℕ). count_of t es) (range_with_len 1 64)
    (λ t. count_cons t e es ∙ (let z : 0 + count_of t es ≡ count_of t es = omega arith in z)) in
    let r = records_cons e es in
    omega (arith, less, same, r)
records_total (Rec own serial sealed ∷ es) o =
    let e : Entry = Rec own serial sealed in
    let less = records_total es (λ till out. let c = o till out in let s = count_cons till e es in omega (arith, c, s)) in
    let both = total_both (λ (t : ℕ). count_of t (e ∷ es)) (at_one own) (λ (t : ℕ). count_of t es) (range_with_len 1 64)
    (λ t. count_cons t e es) in
    let r = records_cons e es in
    elim (in_range own) [
      | inl within ↦ (let one = total_one own 1 64 within.0 (let b = within.1 in omega (arith, b)) in
          omega (arith, less, both, r, one))
      | inr out ↦ absurd (let c = o own out in let s = count_cons own e es in
          let t : at_one own own ≡ 1 = ap (λ (b : Bool). cond b 1 0) (is_same own own refl) in omega (arith, c, s, t))
    ]

-- Replies, by the tills of their asks.
abbrev Pair : Type 0
Pair = Asked × Result Reply StoreFault

single : (till : ℕ) (ask : Asked) (told : Result Reply StoreFault) →
    taken_in (map (λ (p : Pair). p.1) (filter (λ (p : Pair). p.0.till == till) ((ask, told) ∷ []))) ≡
    cond (ask.till == till) (cond (is_taken told) 1 0) 0
single till ask told = by_test (ask.till == till)
  where
    by_test : (b : Bool) → taken_in (map (λ (p : Pair). p.1) (cond b ((ask, told) ∷ []) [])) ≡ cond b (cond (is_taken told) 1 0) 0
    by_test true = let e = taken_cons told [] in let z : taken_in [] ≡ 0 = refl in omega (arith, e, z)
    by_test false = refl

either_way : (b : Bool) (n : ℕ) → cond b n n ≡ n
either_way true n = refl
either_way false n = refl

weighed : (k : ℕ) (b : Bool) → IsInRange 1 64 k →
    total (λ (t : ℕ). cond (k == t) (cond b 1 0) 0) (range_with_len 1 64) ≡ cond b 1 0
weighed k true r = total_one k 1 64 r.0 (let b = r.1 in omega (arith, b))
weighed k false r = total_zero (λ (t : ℕ). cond (k == t) 0 0) (range_with_len 1 64) (λ n. either_way (k == n) 0)

replies_total : (asks : List Asked) (replies : Replies) → length replies ≡ length asks → AllByRecursion IsOfTill asks →
    taken_in replies ≡ total (λ (t : ℕ). taken_in (replies_of t asks replies)) (range_with_len 1 64)
replies_total [] [] even h = sym (total_zero (λ (t : ℕ). taken_in (replies_of t [] [])) (range_with_len 1 64) (λ n. refl))
replies_total [] (r ∷ replies) even h = absurd (omega (arith, even))
replies_total (a ∷ asks) [] even h = absurd (omega (arith, even))
replies_total (a ∷ asks) (r ∷ replies) even h =
    let less = replies_total asks replies (omega (arith, even)) h.1 in
    let both = total_both (λ (t : ℕ). taken_in (replies_of t (a ∷ asks) (r ∷ replies)))
    (λ (t : ℕ). cond (a.till == t) (cond (is_taken r) 1 0) 0) (λ (t : ℕ). taken_in (replies_of t asks replies))
    (range_with_len 1 64) split in
    let one = weighed a.till (is_taken r) h.0 in
    let cons = taken_cons r replies in
    omega (arith, less, both, one, cons)
  where
    split : (t : ℕ) → taken_in (replies_of t (a ∷ asks) (r ∷ replies)) ≡
        cond (a.till == t) (cond (is_taken r) 1 0) 0 + taken_in (replies_of t asks replies)
    split t =
        ap (λ (l : List Pair). taken_in (map (λ (p : Pair). p.1) l))
        (filter-append (λ (p : Pair). p.0.till == t) ((a, r) ∷ []) (zip asks replies)) ∙
        ap (λ (l : Replies). taken_in l) (map-append (λ (p : Pair). p.1)
        (filter (λ (p : Pair). p.0.till == t) ((a, r) ∷ [])) (filter (λ (p : Pair). p.0.till == t) (zip asks replies))) ∙
        taken_both (map (λ (p : Pair). p.1) (filter (λ (p : Pair). p.0.till == t) ((a, r) ∷ []))) (replies_of t asks replies) ∙
        ap (λ (n : ℕ). n + taken_in (replies_of t asks replies)) (single t a r)

-- what a till owns are as many records as it was told as taken
taken_length : (replies : Replies) (entries : List Entry) → AreTaken replies entries → length entries ≡ taken_in replies
taken_length [] entries h = ap (λ (l : List Entry). length l) h
taken_length (Ok (reply.Taken receipt) ∷ replies) entries h =
    let less = taken_length replies h.2 h.5 in
    let e = ap (λ (l : List Entry). length l) h.3 in
    let cons = taken_cons (Ok (reply.Taken receipt)) replies in
    omega (arith, less, e, cons)
taken_length (Ok (reply.Again receipt) ∷ replies) entries h =
    let less = taken_length replies entries h in let cons = taken_cons (Ok (reply.Again receipt)) replies in omega (arith, less, cons)
taken_length (Ok (reply.Refused why) ∷ replies) entries h =
    let less = taken_length replies entries h in let cons = taken_cons (Ok (reply.Refused why)) replies in omega (arith, less, cons)
taken_length (Err fault ∷ replies) entries h =
    let less = taken_length replies entries h in let cons = taken_cons (Err fault) replies in omega (arith, less, cons)

total_map : (f g : ℕ → ℕ) (tills : List TillReplies) → AllByRecursion (λ (t : TillReplies). f t.till ≡ g t.till) tills →
    total f (map (λ (t : TillReplies). t.till) tills) ≡ total g (map (λ (t : TillReplies). t.till) tills)
total_map f g [] h = refl
total_map f g (t ∷ tills) h = let a = h.0 in let r = total_map f g tills h.1 in omega (arith, a, r)

-- each till owns its records
pub owned : (d : Day) (tills : List TillReplies) → AllByRecursion (TillServed d) tills →
    AllByRecursion (λ (t : TillReplies). AreTaken t.replies (own_of t.till (drop (length d.start) d.end))) tills
owned d [] h = tt
owned d (t ∷ tills) h = (h.0.own, owned d tills h.1)

each_count : (asks : List Asked) (replies : Replies) (gained : List Entry) (tills : List TillReplies) →
    AllByRecursion (λ (t : TillReplies). t.replies ≡ replies_of t.till asks replies) tills →
    AllByRecursion (λ (t : TillReplies). AreTaken t.replies (own_of t.till gained)) tills →
    AllByRecursion (λ (t : TillReplies). count_of t.till gained ≡ taken_in (replies_of t.till asks replies)) tills
each_count asks replies gained [] told own = tt
each_count asks replies gained (t ∷ tills) told own = (
  sym (length-filter (is_from t.till) gained) ∙ taken_length t.replies (own_of t.till gained) own.0 ∙
      ap (λ (rs : Replies). taken_in rs) told.0,
  each_count asks replies gained tills told.1 own.1,
)

apart_from : (till a n : ℕ) → (till < a) ⊎ (a + n ≤ till) → AllByRecursion (λ (m : ℕ). m ≢ till) (range_with_len a n)
apart_from till a zero o = tt
apart_from till a (suc n) o = (
  (λ e. elim o [ inl l ↦ omega (arith, l, e) | inr l ↦ omega (arith, l, e) ]),
  apart_from till (a + 1) n (elim o [ inl l ↦ inl (omega (arith, l)) | inr l ↦ inr (omega (arith, l)) ]),
)

each_unmapped : (till : ℕ) (tills : List TillReplies) → AllByRecursion (λ (m : ℕ). m ≢ till) (map (λ (t : TillReplies). t.till) tills) →
    AllByRecursion (λ (t : TillReplies). t.till ≢ till) tills
each_unmapped till [] h = tt
each_unmapped till (t ∷ tills) h = (h.0, each_unmapped till tills h.1)

out_of : (till : ℕ) → (IsInRange 1 64 till → ⊥) → (till < 1) ⊎ (1 + 64 ≤ till)
out_of till out = elim (lt_or_le till 1) [
  | inl l ↦ inl l
  | inr a ↦ elim (lt_or_le till 65) [ inl l ↦ absurd (out (a, (omega (arith, l)))) | inr b ↦ inr (omega (arith, b)) ]
]

-- the records at the end are those at the start and those that were taken
pub all_taken : (start end : List Entry) (asks : List Asked) (replies : Replies) (tills : List TillReplies) → StartsWith end start →
    length replies ≡ length asks → AllByRecursion IsOfTill asks → map (λ (t : TillReplies). t.till) tills ≡ range_with_len 1 64 →
    AllByRecursion (λ (t : TillReplies). t.replies ≡ replies_of t.till asks replies) tills →
    AllByRecursion (λ (t : TillReplies). AreTaken t.replies (own_of t.till (drop (length start) end))) tills →
    ((till : ℕ) → AllByRecursion (λ (t : TillReplies). t.till ≢ till) tills → own_of till (drop (length start) end) ≡ []) →
    length (recs end) ≡ length (recs start) + taken_in replies
all_taken start end asks replies tills starts even of_tills are told own others =
    let gained : List Entry = drop (length start) end in
    let rest : gained ≡ starts.0 = ap (λ (l : List Entry). drop (length start) l) starts.1 ∙ drop-append_seam start starts.0 in
    let whole : length (recs end) ≡ length (recs start) + length (recs gained) =
    ap (λ (l : List Entry). length (recs l)) (starts.1 ∙ ap (λ (l : List Entry). start ++ l) (sym rest)) ∙
    ap (λ (l : List Sealed). length l) (recs_both start gained) ∙ length-append (recs start) (recs gained) in
    let records = records_total gained (λ till out. sym (length-filter (is_from till) gained) ∙
    ap (λ (l : List Entry). length l) (others till (each_unmapped till tills
    (subst (λ (ns : List ℕ). AllByRecursion (λ (m : ℕ). m ≢ till) ns) (sym are) (apart_from till 1 64 (out_of till out)))))) in
    let same = total_map (λ (t : ℕ). count_of t gained) (λ (t : ℕ). taken_in (replies_of t asks replies)) tills
    (each_count asks replies gained tills told own) in
    let by_number : total (λ (t : ℕ). count_of t gained) (range_with_len 1 64) ≡
    total (λ (t : ℕ). taken_in (replies_of t asks replies)) (range_with_len 1 64) =
    ap (λ (ns : List ℕ). total (λ (t : ℕ). count_of t gained) ns) (sym are) ∙ same ∙
    ap (λ (ns : List ℕ). total (λ (t : ℕ). taken_in (replies_of t asks replies)) ns) are in
    let taken = replies_total asks replies even of_tills in
    omega (arith, whole, records, by_number, taken)

-- the run of a dialogue with a shop that was closed
pub runs_closed : {D C : Type 0} (p : Parts D C) (base : List Item) (root : Root C) (coming : C → ℕ → Option ℕ) (asks : List Asked)
    (replies : Replies) (looks : List Look) (olds news : List (Known Item (Root C))) (old_tills new_tills : List (Known Item (Root C)))
    (seat then : Known Item (Root C)) → reverse olds ≡ old_tills → new_tills ≡ reverse news → base ≡ items_at root →
    All (IsNew base root) (old_tills ++ seat ∷ []) → All (Fits (items_in p)) (new_tills ++ then ∷ []) → StartsWith (items_in p) base →
    RunsAt coming olds news asks replies looks → length (recs p.state.entries) ≡ length (recs root.history) + taken_in replies →
    IsOneRun root.version root.issuer (coming root.clock) root.history p.state.entries asks replies looks
runs_closed {D} {C} p base root coming asks replies looks olds news old_tills new_tills seat then old_is new_is base_is fresh fit begins
    run all =
    let are : entries_of (items_in p) ≡ p.state.entries = entries_in p.state.entries p.stopped p.torn in
    let turned : AllByRecursion (IsNew base root) (reverse olds) =
    subst (λ (l : List (Known Item (Root C))). AllByRecursion (IsNew base root) l) (sym old_is)
    (each_front (IsNew base root) old_tills seat (each_of_all (IsNew base root) (old_tills ++ seat ∷ []) fresh)).0 in
    let back : AllByRecursion (IsNew base root) olds =
    subst (λ (l : List (Known Item (Root C))). AllByRecursion (IsNew base root) l) (reverse-reverse olds)
    (each_reverse (IsNew base root) (reverse olds) turned) in
    let new : AllByRecursion (IsNew (items_at root) root) olds =
    subst (λ (l : List Item). AllByRecursion (IsNew l root) olds) base_is back in
    let fits : AllByRecursion (Fits (items_in p)) (reverse news) =
    subst (λ (l : List (Known Item (Root C))). AllByRecursion (Fits (items_in p)) l) new_is
    (each_front (Fits (items_in p)) new_tills then (each_of_all (Fits (items_in p)) (new_tills ++ then ∷ []) fit)).0 in
    let fit_back : AllByRecursion (Fits (items_in p)) news =
    subst (λ (l : List (Known Item (Root C))). AllByRecursion (Fits (items_in p)) l) (reverse-reverse news)
    (each_reverse (Fits (items_in p)) (reverse news) fits) in
    let known = run root (items_in p) new fit_back (subst (λ (l : List Item). StartsWith (items_in p) l) base_is begins) in
    one_run root.history p.state.entries replies all root.version root.issuer (coming root.clock) asks looks
    (subst (λ (es : List Entry). RunsAmong root.version root.issuer (coming root.clock) root.history es asks replies looks
    (length (recs es))) are known)
