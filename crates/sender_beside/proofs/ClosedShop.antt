-- A closed shop's list, by what its sender's seat has seen and added while the tills ran.
use Rattle.std.proofs.Common.{◌≡◌, ◌⊎◌, inl, inr, ℕ, suc, ◌+◌, ◌<◌, ◌≤◌, ◌==◌, cond, List, [], ◌∷◌, ◌++◌, length, length-append}
use Rattle.std.proofs.Common.{map, drop, Option, Some, None, slice_get, All, true, false, refl, ap, sym, ◌∙◌, subst, arith}
use Rattle.std.proofs.Common.{append-nil}
use Rattle.std.specs.Prelude.{Contains, count_by, IsSome}
use Rattle.std.specs.List.{AllByRecursion}
use Rattle.std.proofs.lemmas.Bool.{cases_lt}
use Rattle.std.proofs.lemmas.Bool.Decides.{nat_tests, eqb_tells}
use Rattle.std.proofs.lemmas.List.{length-map}
use Rattle.std.proofs.lemmas.List.Sums.{sum_by-cons, sum_by_push}
use Rattle.std.proofs.lemmas.Option.{slice_get_within}
use Rattle.record_fields.specs.declared.lines.Line.{Line}
use Rattle.record_codec.specs.declared.entry.Entry.{Entry}
use Rattle.record_codec.specs.declared.entry.Entry.TheVariants.{Rec, Notes}
use Rattle.chain_lock.specs.Known.{Known, IsNew, Fits, OwnsBelow, owners, times_owned}
use Rattle.chain_lock.specs.Lists.{StartsWith}
use Rattle.record_fields.specs.declared.records.Sealed.{Sealed}
use Rattle.shop_core.specs.History.{is_record, noted, recs, waiting}
use Rattle.shop_core.specs.Items.{entries_of}
use Rattle.shop_core.specs.declared.items.Item.{Item}
use Rattle.shop_core.specs.declared.items.Item.TheVariants as item
use Rattle.agency_port.specs.Ledger.{Ledger}
use Rattle.shop_core.specs.Prefix.{IsPrefix}
use Rattle.once_world.specs.Agreement.{Agree}
use Rattle.once_world.specs.Laws.{AreRecords, RecordsKeepAgreement}
use Rattle.once_world.specs.Outbox.{GainsOwnNotes}
use Rattle.till_calls.specs.Mark.{sight_by}
use Rattle.till_calls.specs.Own.{OwnsNone, is_of}
use Rattle.till_calls.specs.Root.{Root, stop_in, with_torn}
use Rattle.sender.specs.Agreeing.{Adds, AgreesIfTorn, AreNotes, AreNotesOrTorn, HasAt}
use Rattle.sender.proofs.Adding.{get_front}
use Rattle.sender.proofs.Keeping.{noted_same}
use Rattle.agency_port.specs.declared.messages.Message.{Message}
use Rattle.sender_session.specs.Session.{EndsStopped, TearsSaid}
use Rattle.sender_beside.specs.Beside.{IsTornSaid}
use Rattle.sender_beside.specs.Days.{stop_of, torn_of}
use Rattle.sender_session.specs.Noting.{TornSaid}
use Rattle.sender_session.proofs.Entries.{entries_both}
use Rattle.sender_beside.proofs.StartAndStop.{entries_in}
use Rattle.sender_session.proofs.Places.{all_by_place, all_contained, all_each, all_split, counted_in, gains_by, get_behind}
use Rattle.sender_session.proofs.Contrary.{drop_front, recs_both}
use Rattle.sender_session.proofs.Lists.{all_of_each}
use Rattle.sender_beside.proofs.TillItems.{IsOfTill, Theirs}
use Rattle.sender_beside.proofs.TillRuns.{is_stop}

-- what a place of a pass's own holds
module _ (log : List Item) where
  counted_at : (n : ℕ) (own : List (ℕ × Item)) → AllByRecursion (λ (z : ℕ × Item). IsOfTill z.1) own →
      AllByRecursion (λ (z : ℕ × Item). slice_get log z.0 ≡ Some z.1) own → 0 < count_by (λ (z : ℕ × Item). z.0 == n) own →
      HasAt IsOfTill log n
  counted_at n [] each stand some = absurd (omega (arith, some))
  counted_at n (z ∷ zs) each stand some =
      let split = sum_by-cons (λ (y : ℕ × Item). cond (y.0 == n) 1 0) z zs in
      elim (eqb_tells z.0 n) [
        | inl same ↦ (z.1, subst (λ (k : ℕ). slice_get log k ≡ Some z.1) same.1 stand.0, each.0)
        | inr apart ↦ counted_at n zs each.1 stand.1 (let none : ◌≡◌ {A = ℕ} (cond (z.0 == n) 1 0) 0 =
            (let ne : z.0 ≡ n → ⊥ = apart.1 in grind (arith, nat_tests, ne)) in omega (arith, none, some, split))
      ]

  module _ {C : Type 0} where
    theirs_at : (n : ℕ) (ks : List (Known Item (Root C))) → AllByRecursion (λ (k : Known Item (Root C)). Theirs k) ks →
        AllByRecursion (λ (k : Known Item (Root C)). Fits log k) ks → 0 < owners n ks → HasAt IsOfTill log n
    theirs_at n [] each fits some = absurd (omega (arith, some))
    theirs_at n (k ∷ ks) each fits some =
        let split = sum_by-cons (λ (j : Known Item (Root C)). times_owned n j) k ks in
        elim (cases_lt 0 (times_owned n k)) [
          | inl here ↦ counted_at n k.own each.0 (all_each (λ (z : ℕ × Item). slice_get log z.0 ≡ Some z.1) k.own fits.0.own) here
          | inr none ↦ theirs_at n ks each.1 fits.1 (omega (arith, none, some, split))
        ]

    -- an item that is owned is a till's, or stands at a place of the seat's
    by_owner : (n : ℕ) (ks : List (Known Item (Root C))) (seat : Known Item (Root C)) →
        AllByRecursion (λ (k : Known Item (Root C)). Theirs k) ks → AllByRecursion (λ (k : Known Item (Root C)). Fits log k) ks →
        owners n (ks ++ seat ∷ []) ≡ 1 → HasAt IsOfTill log n ⊎ Contains (map (λ (z : ℕ × Item). z.0) seat.own) n
    by_owner n ks seat each fits one =
        let f = sum_by_push (times_owned n) ks seat in
        elim (cases_lt 0 (times_owned n seat)) [
          | inl mine ↦ inr (counted_in n seat.own mine)
          | inr none ↦ inl (theirs_at n ks each fits (omega (arith, f, one, none)))
        ]

pub records_of_tills : (items : List Item) → AllByRecursion IsOfTill items → AreRecords (entries_of items)
records_of_tills [] h = tt
records_of_tills (item.Entry (Rec till serial sealed) ∷ items) h = (refl, records_of_tills items h.1)
records_of_tills (item.Entry (Notes first lines) ∷ items) h = absurd h.0
records_of_tills (item.Stop faults torn ∷ items) h = records_of_tills items h.1

of_till_record : (n : ℕ) (t : Entry) → IsOfTill (item.Stop n t) → AreRecords (t ∷ [])
of_till_record n (Rec till serial sealed) h = (refl, tt)
of_till_record n (Notes first lines) h = absurd h

notes_not : (till : ℕ) (x : Item) → AreNotesOrTorn x → is_of till x ≡ false
notes_not till (item.Entry (Rec own serial sealed)) h = absurd h
notes_not till (item.Entry (Notes first lines)) h = refl
notes_not till (item.Stop faults torn) h = refl

module _ {C : Type 0} (base log : List Item) (root : Root C) (tills : List (Known Item (Root C)))
    (seat then : Known Item (Root C)) where
  -- a shop that was closed, to which tills added records and its seat notes
  pub record Shared : Type 0 where
    pub fresh : IsNew base root seat
    pub fits : All (Fits log) (tills ++ then ∷ [])
    pub starts : StartsWith log base
    pub since : (n : ℕ) → length base ≤ n → n < length log → owners n (tills ++ then ∷ []) ≡ 1
    pub theirs : AllByRecursion (λ (k : Known Item (Root C)). Theirs k) tills
    pub adds : Adds AreNotesOrTorn (sight_by seat) (sight_by then)

  own_before : Shared → (sight_by seat).own ≡ []
  own_before h = ap (λ (o : List (ℕ × Item)). map (λ (z : ℕ × Item). z.0) o) h.fresh.own

  abbrev pub fit : Shared → AllByRecursion (λ (k : Known Item (Root C)). Fits log k) tills × Fits log then
  fit h = all_split (Fits log) tills then (all_each (Fits log) (tills ++ then ∷ []) h.fits)

  each : Shared → (n : ℕ) → length base ≤ n → n < length log → HasAt IsOfTill log n ⊎ Contains (sight_by then).own n
  each h n low high = by_owner log n tills then h.theirs (fit h).0 (h.since n low high)

  -- what stands at a place of the seat's own
  module _ (P : Item → Type 0) (adds : Adds P (sight_by seat) (sight_by then)) where
    mine_by : Shared → (n : ℕ) → Contains (sight_by then).own n → HasAt P then.seen n
    mine_by h n c =
        let own : (sight_by then).own ≡ adds.own = adds.own_is ∙ ap (λ (o : List ℕ). o ++ adds.own) (own_before h) in
        all_contained (HasAt P then.seen) adds.own n adds.are (subst (λ (o : List ℕ). Contains o n) own c)

    own_by : Shared → (own : List (ℕ × Item)) → ((z : ℕ) → Contains (map (λ (x : ℕ × Item). x.0) own) z →
        Contains (sight_by then).own z) → AllByRecursion (λ (z : ℕ × Item). slice_get log z.0 ≡ Some z.1) own →
        AllByRecursion (λ (z : ℕ × Item). P z.1) own
    own_by h [] within stand = tt
    own_by h (z ∷ zs) within stand =
        let there = mine_by h z.0 (within z.0 (0, omega arith, refl)) in
        let at : slice_get log z.0 ≡ Some there.0 = ap (λ (l : List Item). slice_get l z.0) (fit h).1.begins.1 ∙
        get_front then.seen (fit h).1.begins.0 z.0 there.0 there.1 in
        let same : Some there.0 ≡ Some z.1 = sym at ∙ stand.0 in
        let is : there.0 ≡ z.1 = (let e = same in cc) in
        (subst P is there.2, own_by h zs (λ n c. within n (suc c.0, (let l = c.1 in omega arith), c.2)) stand.1)

    pub all_own : Shared → AllByRecursion (λ (z : ℕ × Item). P z.1) then.own
    all_own h = own_by h then.own (λ n c. c) (all_each (λ (z : ℕ × Item). slice_get log z.0 ≡ Some z.1) then.own (fit h).1.own)

  below_by : Shared → (own : List (ℕ × Item)) → ((z : ℕ) → Contains (map (λ (x : ℕ × Item). x.0) own) z →
      Contains (sight_by then).own z) → AllByRecursion (λ (z : ℕ × Item). z.0 < length then.seen) own
  below_by h [] within = tt
  below_by h (z ∷ zs) within =
      let there = mine_by AreNotesOrTorn h.adds h z.0 (within z.0 (0, omega arith, refl)) in (
        slice_get_within then.seen z.0 there.0 there.1,
        below_by h zs (λ n c. within n (suc c.0, (let l = c.1 in omega arith), c.2)),
      )

  -- it owns nothing after what it has seen
  pub owns_seen : Shared → OwnsBelow (length then.seen) then
  owns_seen h = all_of_each (λ (z : ℕ × Item). z.0 < length then.seen) then.own (below_by h then.own (λ n c. c))

  each_change : (P Q : ℕ × Item → Type 0) → ((z : ℕ × Item) → P z → Q z) → (zs : List (ℕ × Item)) → AllByRecursion P zs →
      AllByRecursion Q zs
  each_change P Q f [] h = tt
  each_change P Q f (z ∷ zs) h = (f z h.0, each_change P Q f zs h.1)

  -- it owns no record
  pub bare : Shared → (till : ℕ) → OwnsNone till then
  bare h till = all_of_each (λ (z : ℕ × Item). is_of till z.1 ≡ false) then.own
      (each_change (λ (z : ℕ × Item). AreNotesOrTorn z.1) (λ (z : ℕ × Item). is_of till z.1 ≡ false) (λ z n. notes_not till z.1 n)
      then.own (all_own AreNotesOrTorn h.adds h))

  -- it owns notes and the stop over notes, and where it added notes alone no stop
  pub all_noted : Shared → (Faultless : Type 0) → (Faultless → Adds AreNotes (sight_by seat) (sight_by then)) →
      AllByRecursion (λ (z : ℕ × Item). AreNotesOrTorn z.1 × (Faultless → AreNotes z.1)) then.own
  all_noted h Faultless notes = both then.own (all_own AreNotesOrTorn h.adds h) (λ f. all_own AreNotes (notes f) h)
    where
      both : (zs : List (ℕ × Item)) → AllByRecursion (λ (z : ℕ × Item). AreNotesOrTorn z.1) zs →
          (Faultless → AllByRecursion (λ (z : ℕ × Item). AreNotes z.1) zs) →
          AllByRecursion (λ (z : ℕ × Item). AreNotesOrTorn z.1 × (Faultless → AreNotes z.1)) zs
      both [] any none = tt
      both (z ∷ zs) any none = ((any.0, λ f. (none f).0), both zs any.1 (λ f. (none f).1))

  pub long : Shared → length base ≤ length then.seen
  long h = let e = ap length h.adds.items_is in let f = length-append seat.seen h.adds.items in let g = ap length h.fresh.seen in
      omega arith

  abbrev rest_of : Shared → List Item
  rest_of h = (fit h).1.begins.0

  rest_is : (h : Shared) → log ≡ then.seen ++ rest_of h
  rest_is h = (fit h).1.begins.1

  -- the outbox gained no notes but its own
  pub gains : Shared → GainsOwnNotes (sight_by seat) (sight_by then)
  gains h = gains_by (sight_by seat) (sight_by then) h.adds.items (own_before h) h.adds.items_is (λ m first lines e.
      let n : ℕ = length seat.seen + m in
      let seen : slice_get then.seen n ≡ Some (item.Entry (Notes first lines)) = ap (λ (l : List Item). slice_get l n)
      h.adds.items_is ∙ get_behind seat.seen h.adds.items m ∙ e in
      let there : slice_get log n ≡ Some (item.Entry (Notes first lines)) = ap (λ (l : List Item). slice_get l n) (rest_is h) ∙
      get_front then.seen (rest_of h) n _ seen in
      let low : length base ≤ n = (let g = ap length h.fresh.seen in omega arith) in
      let high : n < length log = slice_get_within log n _ there in
      by_case n first lines there (each h n low high))
    where
      by_case : (n first : ℕ) (lines : List Line) → slice_get log n ≡ Some (item.Entry (Notes first lines)) →
          HasAt IsOfTill log n ⊎ Contains (sight_by then).own n → Contains (sight_by then).own n
      by_case n first lines there (inr c) = c
      by_case n first lines there (inl q) =
          let e : Some q.0 ≡ Some (item.Entry (Notes first lines)) = sym q.1 ∙ there in
          let f : q.0 ≡ item.Entry (Notes first lines) = (let g = e in cc) in
          absurd (subst IsOfTill f q.2)

  -- after what the seat has seen there are items of the tills alone
  rest_theirs : (h : Shared) → AllByRecursion IsOfTill (rest_of h)
  rest_theirs h = all_by_place IsOfTill (rest_of h) (λ m l.
      let n : ℕ = length then.seen + m in
      let len = ap length (rest_is h) in
      let app = length-append then.seen (rest_of h) in
      let low : length base ≤ n = (let g = long h in omega arith) in
      let high : n < length log = omega arith in
      by_case m (each h n low high))
    where
      by_case : (m : ℕ) → HasAt IsOfTill log (length then.seen + m) ⊎ Contains (sight_by then).own (length then.seen + m) →
          HasAt IsOfTill (rest_of h) m
      by_case m (inl q) = (
        q.0,
        sym (get_behind then.seen (rest_of h) m) ∙
            ap (λ (x : List Item). slice_get x (length then.seen + m)) (sym (rest_is h)) ∙ q.1,
        q.2,
      )
      by_case m (inr c) = absurd (let k = mine_by AreNotesOrTorn h.adds h (length then.seen + m) c in
          let w = slice_get_within then.seen (length then.seen + m) k.0 k.1 in omega arith)

  -- the last item is a till's, or the seat has seen all and it is the seat's
  last_one : (h : Shared) (items : List Item) (x : Item) → log ≡ items ++ x ∷ [] → length base ≤ length items → IsOfTill x ⊎
      ((then.seen ≡ log) × Contains (sight_by then).own (length items))
  last_one h items x is low =
      let len = ap length is in
      let app = length-append items (x ∷ []) in
      by_case (each h (length items) low (omega arith))
    where
      at_end : slice_get log (length items) ≡ Some x
      at_end = ap (λ (l : List Item). slice_get l (length items)) is ∙ seam items
        where
          seam : (l : List Item) → slice_get (l ++ x ∷ []) (length l) ≡ Some x
          seam [] = refl
          seam (y ∷ l) = seam l

      none_left : (r : List Item) → log ≡ then.seen ++ r → length log ≤ length then.seen → then.seen ≡ log
      none_left [] e le = sym (e ∙ append-nil then.seen)
      none_left (y ∷ r) e le = absurd (let a = ap length e in let b = length-append then.seen (y ∷ r) in omega arith)

      by_case : HasAt IsOfTill log (length items) ⊎ Contains (sight_by then).own (length items) → IsOfTill x ⊎
          ((then.seen ≡ log) × Contains (sight_by then).own (length items))
      by_case (inl q) = let e : Some q.0 ≡ Some x = sym q.1 ∙ at_end in let f : q.0 ≡ x = (let g = e in cc) in
          inl (subst IsOfTill f q.2)
      by_case (inr c) =
          let k = mine_by AreNotesOrTorn h.adds h (length items) c in
          let w = slice_get_within then.seen (length items) k.0 k.1 in
          let len = ap length is in
          let app = length-append items (x ∷ []) in
          inr (none_left (rest_of h) (rest_is h) (omega arith), c)

  module _ (h : Shared) (start es : List Entry) (stopped : Option ℕ) (torn : Option Entry) where
    -- the store that it gave
    pub record GivenStore : Type 0 where
      pub base_is : base ≡ map item.Entry start
      pub log_is : log ≡ map item.Entry es ++ stop_in stopped torn
      pub begins : StartsWith es start

    seen_entries : GivenStore → es ≡ entries_of then.seen ++ entries_of (rest_of h)
    seen_entries s = sym (entries_in es stopped torn) ∙ ap entries_of (sym s.log_is ∙ rest_is h) ∙ entries_both then.seen
        (rest_of h)

    -- what it has seen is a beginning of all, which has no further notes
    pub seen_first : GivenStore → IsPrefix (entries_of then.seen) es × (length (noted es) ≡ length (noted (entries_of then.seen)))
    seen_first s = (
      record { rest = entries_of (rest_of h); is = seen_entries s },
      ap (λ (ls : List Line). length ls) (ap noted (seen_entries s) ∙ noted_same (entries_of then.seen) (entries_of (rest_of h))
          (records_of_tills (rest_of h) (rest_theirs h))),
    )

    -- what waited at the last sight still does, in front, and no line came
    pub still_waits : GivenStore → (noted es ≡ noted (entries_of then.seen)) × IsPrefix (waiting (entries_of then.seen)) (waiting es)
    still_waits s =
        let seen = entries_of then.seen in
        let rest = entries_of (rest_of h) in
        let same : noted es ≡ noted seen = ap noted (seen_entries s) ∙ noted_same seen rest
        (records_of_tills (rest_of h) (rest_theirs h)) in
        let front : IsPrefix (waiting seen) (drop (length (noted seen)) (recs seen ++ recs rest)) =
        drop_front (length (noted seen)) (recs seen) (recs rest) in
        let first : IsPrefix (waiting seen) (drop (length (noted seen)) (recs es)) =
        subst (λ (rs : List Sealed). IsPrefix (waiting seen) (drop (length (noted seen)) rs))
        (sym (ap recs (seen_entries s) ∙ recs_both seen rest)) front in
        (same, subst (λ (n : List Line). IsPrefix (waiting seen) (drop (length n) (recs es))) (sym same) first)

    -- the records of all are those of what it has seen, and more
    pub more_records : GivenStore → (more : List Sealed) × (recs es ≡ recs (entries_of then.seen) ++ more)
    more_records s = (
      recs (entries_of (rest_of h)),
      ap recs (seen_entries s) ∙ recs_both (entries_of then.seen) (entries_of (rest_of h)),
    )

    pub agreed : GivenStore → RecordsKeepAgreement → (new : Ledger) → Agree (entries_of then.seen) new.processed new.sent →
        Agree es new.processed new.sent
    agreed s records new agree =
        subst (λ (l : List Entry). Agree l new.processed new.sent) (sym (seen_entries s))
        (records (entries_of then.seen) (entries_of (rest_of h)) new.processed new.sent agree
        (records_of_tills (rest_of h) (rest_theirs h)))

    pub agreed_torn : GivenStore → RecordsKeepAgreement → (new : Ledger) → Agree (entries_of then.seen) new.processed new.sent →
        AgreesIfTorn (sight_by seat) (sight_by then) new → Agree (with_torn es stopped torn) new.processed new.sent
    agreed_torn s records new agree if_torn = by_case stopped torn s.log_is
      where
        whole : Agree es new.processed new.sent
        whole = agreed s records new agree

        by_case : (n : Option ℕ) (t : Option Entry) → log ≡ map item.Entry es ++ stop_in n t →
            Agree (with_torn es n t) new.processed new.sent
        by_case None t e = whole
        by_case (Some n) None e = whole
        by_case (Some n) (Some t) e =
            let items : List Item = map item.Entry es in
            let low : length base ≤ length items =
            (let a = ap length s.base_is in let b = ap length s.begins.1 in let c = length-append start s.begins.0 in
            let d = length-map es item.Entry in let f = length-map start item.Entry in omega arith) in
            elim (last_one h items (item.Stop n t) e low) [
              | inl theirs ↦ records es (t ∷ []) new.processed new.sent whole (of_till_record n t theirs)
              | inr mine ↦
                  (let seen : then.seen ≡ items ++ item.Stop n t ∷ [] = mine.0 ∙ e in
                  let gained : drop (length (sight_by seat).own) (sight_by then).own ≡ (sight_by then).own =
                  ap (λ (o : List ℕ). drop (length o) (sight_by then).own) (own_before h) in
                  let is : entries_of then.seen ≡ es = ap entries_of seen ∙ entries_in es (Some n) (Some t) in
                  subst (λ (l : List Entry). Agree (l ++ t ∷ []) new.processed new.sent) is
                  (if_torn items n t seen (subst (λ (o : List ℕ). Contains o (length items)) (sym gained) mine.1)))
            ]

    -- what is torn is a till's record, or what the last message says
    pub torn_said : GivenStore → (messages : List Message) → TearsSaid (sight_by seat) (sight_by then) messages →
        AllByRecursion (IsTornSaid es messages) (torn_of (stop_of stopped torn))
    torn_said s messages tears = by_case stopped torn s.log_is
      where
        of_till : (n : ℕ) (t : Entry) → IsOfTill (item.Stop n t) → is_record t ≡ true
        of_till n t is = (of_till_record n t is).0

        by_case : (n : Option ℕ) (t : Option Entry) → log ≡ map item.Entry es ++ stop_in n t →
            AllByRecursion (IsTornSaid es messages) (torn_of (stop_of n t))
        by_case None t e = tt
        by_case (Some n) None e = tt
        by_case (Some n) (Some t) e =
            let items : List Item = map item.Entry es in
            let low : length base ≤ length items =
            (let a = ap length s.base_is in let b = ap length s.begins.1 in let c = length-append start s.begins.0 in
            let d = length-map es item.Entry in let f = length-map start item.Entry in omega arith) in (
              elim (last_one h items (item.Stop n t) e low) [
                | inl theirs ↦ inl (of_till n t theirs)
                | inr mine ↦
                    (let seen : then.seen ≡ items ++ item.Stop n t ∷ [] = mine.0 ∙ e in
                    let gained : drop (length (sight_by seat).own) (sight_by then).own ≡ (sight_by then).own =
                    ap (λ (o : List ℕ). drop (length o) (sight_by then).own) (own_before h) in
                    let is : entries_of then.seen ≡ es = ap entries_of seen ∙ entries_in es (Some n) (Some t) in
                    inr (subst (λ (l : List Entry). TornSaid l messages t) is
                    (tears items n t seen (subst (λ (o : List ℕ). Contains o (length items)) (sym gained) mine.1))))
              ],
              tt,
            )

    -- where the seat has seen a stop at the end, the shop has stopped
    pub is_stopped : GivenStore → EndsStopped then.seen → IsSome stopped
    is_stopped s ends = by_case stopped torn s.log_is
      where
        by_case : (n : Option ℕ) (t : Option Entry) → log ≡ map item.Entry es ++ stop_in n t → IsSome n
        by_case (Some n) t e = refl
        by_case None t e =
            let all : AllByRecursion (λ (x : Item). is_stop x ≡ false) log =
            subst (λ (l : List Item). AllByRecursion (λ (x : Item). is_stop x ≡ false) l) (sym e) (entries_only es) in
            let last : log ≡ ends.front ++ (item.Stop ends.faults ends.torn ∷ rest_of h) =
            rest_is h ∙ ap (λ (l : List Item). l ++ rest_of h) ends.is ∙ append_one ends.front (item.Stop ends.faults ends.torn)
            (rest_of h) in
            let no : true ≡ false = middle ends.front (item.Stop ends.faults ends.torn) (rest_of h)
            (subst (λ (l : List Item). AllByRecursion (λ (x : Item). is_stop x ≡ false) l) last all) in
            absurd (let x = no in cc)
          where
            entries_only : (xs : List Entry) → AllByRecursion (λ (x : Item). is_stop x ≡ false) (map item.Entry xs ++ [])
            entries_only [] = tt
            entries_only (x ∷ xs) = (refl, entries_only xs)

            append_one : (xs : List Item) (x : Item) (ys : List Item) → (xs ++ x ∷ []) ++ ys ≡ xs ++ (x ∷ ys)
            append_one [] x ys = refl
            append_one (z ∷ xs) x ys = ap (λ (l : List Item). z ∷ l) (append_one xs x ys)

            middle : (xs : List Item) (x : Item) (ys : List Item) → AllByRecursion (λ (y : Item). is_stop y ≡ false)
                (xs ++ (x ∷ ys)) → is_stop x ≡ false
            middle [] x ys a = a.0
            middle (z ∷ xs) x ys a = middle xs x ys a.1
