-- A day of tills, from their rows to the history at its end.
use Rattle.std.proofs.Common.{◌≡◌, ◌⊎◌, inl, inr, ℕ, zero, suc, ◌<◌, ◌≤◌, Bool, true, false, List, [], ◌∷◌, ◌++◌, length, drop}
use Rattle.std.proofs.Common.{map, All, Option, Some, None, Result, Ok, Err, slice_get, refl, ap, sym, ◌∙◌, subst, arith}
use Rattle.std.specs.Prelude.{◌≢◌, Contains, IsSome, OnOk}
use Rattle.std.specs.List.{AllByRecursion, count_by, flat_map}
use Rattle.std.proofs.lemmas.List.{append-nil, get_or-map, length-append, length-map}
use Rattle.std.proofs.lemmas.List.Elements.{All-weaker}
use Rattle.std.proofs.lemmas.List.Folds.{flat_map-map}
use Rattle.std.proofs.lemmas.List.Sums.{sum_by_push}
use Rattle.std.proofs.lemmas.Option.{get_or_from_slice_get, slice_get_within}
use Rattle.chain_disk.specs.OnDisk.{OnDisk}
use Rattle.chain_lock.specs.Known.{Known, IsNew, Fits, holders, owners, times_held}
use Rattle.chain_lock.specs.Laws.{SeesAll}
use Rattle.chain_lock.specs.Lists.{StartsWith}
use Rattle.journal.specs.declared.faults.StoreFault.{StoreFault}
use Rattle.journal.specs.declared.faults.StoreFault.TheVariants.{DiskFault, Stopped, NoMemory}
use Rattle.record_codec.specs.declared.entry.Entry.{Entry}
use Rattle.record_codec.specs.declared.entry.Entry.TheVariants.{Rec, Notes}
use Rattle.shop_core.specs.History.{recs, noted as noted_in}
use Rattle.shop_core.specs.Items.{entries_of}
use Rattle.shop_core.specs.Answer.Requests.{Asked}
use Rattle.shop_core.specs.Answer.Replies.{IsTakenAt}
use Rattle.shop_core.specs.declared.answer.Reply.{Reply}
use Rattle.shop_core.specs.declared.answer.Reply.TheVariants.{Taken, Again, Refused}
use Rattle.shop_core.specs.declared.items.Item.{Item}
use Rattle.shop_core.specs.declared.items.Item.TheVariants as item
use Rattle.till_calls.specs.Laws.{AddsForNoOther, AddsWhatIsTaken, OwnsRecordsAndStops, OwnsWithinKnown}
use Rattle.till_calls.specs.Own.{OwnsNone, is_of, records_of, AreTaken as TakenItems}
use Rattle.till_calls.specs.Mark.{sight_by}
use Rattle.till_calls.specs.Root.{Root, Parts, items_in, root_of, stop_in}
use Rattle.till_calls.specs.Sound.{IsSound}
use Rattle.sender.specs.Agreeing.{Adds, AreNotes, AreNotesOrTorn}
use Rattle.sender.specs.declared.answers.DrainFault.{DrainFault}
use Rattle.sender.specs.Turning.{AgencyState, AgencyKind}
use Rattle.sender_session.specs.Session.{FailsAtNotes, IsDiskAnswer}
use Rattle.sender_beside.specs.Beside.{SendsBeside}
use Rattle.sender_beside.specs.Days.{Day, TillReplies, all_replies, shop_day, stop_of}
use Rattle.chain_store.specs.Replies.{IsGoingOn, Replies}
use Rattle.sender_beside.specs.Tills.{AreTaken, DayRun, IsCutOffBy, RecordedBy, StopIs, TellsStop, TillServed, asks_of, is_from}
use Rattle.sender_beside.specs.Tills.{is_own_fault, own_of, stops_in}
use Rattle.sender_beside.specs.Tills.RecordedBy.{sender, till as by_till}
use Rattle.sender_beside.specs.Works.{Ran, Row, Worked}
use Rattle.sender_session.proofs.Turns.{both_ok}
use Rattle.sender_session.proofs.Lists.{each_both, each_front, each_map, each_of_all, each_piece, each_unmap, each_weaker}
use Rattle.sender_beside.proofs.Rows.{AreDistinct, after_all, none_else, own as rows_own, still_held, stop_whose, told}
use Rattle.sender_beside.proofs.Rows.{own_asks, Told as RowTold}
use Rattle.sender_beside.proofs.SeenAll.{seen_whole}
use Rattle.sender_beside.proofs.TillItems.{Theirs, run_of_till}
use Rattle.sender_beside.proofs.TillRuns.{StopTold, is_stop, items}
use Rattle.sender_beside.proofs.ClosedShop.{Shared, all_noted, bare}

no_record : (stopped : Option ℕ) (torn : Option Entry) (till : ℕ) → records_of till (stop_in stopped torn) ≡ []
no_record (Some faults) (Some t) till = refl
no_record (Some faults) None till = refl
no_record None torn till = refl

module _ (stopped : Option ℕ) (torn : Option Entry) where
  is_of_entry : (till : ℕ) (e : Entry) → is_of till (item.Entry e) ≡ is_from till e
  is_of_entry till (Rec own serial sealed) = refl
  is_of_entry till (Notes first lines) = refl

  records : (till : ℕ) (end : List Entry) → records_of till (items stopped torn end) ≡ map item.Entry (own_of till end)
  records till [] = no_record stopped torn till
  records till (e ∷ end) = by_test (is_from till e) refl (records till end)
    where
      by_test : (b : Bool) → is_from till e ≡ b → records_of till (items stopped torn end) ≡ map item.Entry (own_of till end) →
          records_of till (items stopped torn (e ∷ end)) ≡ map item.Entry (own_of till (e ∷ end))
      by_test true b h = rw (is_of_entry till e, b) (ap (λ (l : List Item). item.Entry e ∷ l) h)
      by_test false b h = rw (is_of_entry till e, b) h

  dropped : (n : ℕ) (end : List Entry) → n ≤ length end → drop n (items stopped torn end) ≡ items stopped torn (drop n end)
  dropped zero end l = refl
  dropped (suc n) [] l = absurd (omega (arith, l))
  dropped (suc n) (e ∷ end) l = dropped n end (omega (arith, l))

taken : (replies : Replies) (es : List Entry) → TakenItems replies (map item.Entry es) → AreTaken replies es
taken [] [] h = refl
taken [] (e ∷ es) h = absurd (let x = h in cc)
taken (Ok (Taken receipt) ∷ rs) [] h = absurd (let x = h.3 in cc)
taken (Ok (Taken receipt) ∷ rs) (e ∷ es) h =
    let same : h.0 ≡ e = (let x = h.3 in cc) in
    let rest : h.2 ≡ map item.Entry es = (let x = h.3 in cc) in (
      e,
      h.1,
      es,
      refl,
      subst (λ (x : Entry). IsTakenAt h.1 x (Taken receipt)) same h.4,
      taken rs es (subst (λ (l : List Item). TakenItems rs l) rest h.5),
    )
taken (Ok (Again receipt) ∷ rs) es h = taken rs es h
taken (Ok (Refused why) ∷ rs) es h = taken rs es h
taken (Err fault ∷ rs) es h = taken rs es h

going_on : (reply : Result Reply StoreFault) → StopTold None reply → IsGoingOn reply
going_on (Ok reply) h = tt
going_on (Err DiskFault) h = absurd (let x = h in cc)
going_on (Err (Stopped count)) h = absurd (let x = h in cc)
going_on (Err NoMemory) h = tt

tells_stop : (count : ℕ) (reply : Result Reply StoreFault) → StopTold (Some count) reply → TellsStop count reply
tells_stop count (Ok reply) h = tt
tells_stop count (Err DiskFault) h = tt
tells_stop count (Err (Stopped faults)) h = let x = h in cc
tells_stop count (Err NoMemory) h = tt

no_entries : (es : List Entry) → map item.Entry es ≡ [] → es ≡ []
no_entries [] h = refl
no_entries (e ∷ es) h = absurd (let x = h in cc)

at_end : (es : List Entry) (x : Item) (rest : List Item) → slice_get (map item.Entry es ++ x ∷ rest) (length es) ≡ Some x
at_end [] x rest = refl
at_end (e ∷ es) x rest = at_end es x rest

-- after entries alone the last item is the only stop
only_stop : (es : List Entry) (x : Item) (i : ℕ) (y : Item) → slice_get (map item.Entry es ++ x ∷ []) i ≡ Some y →
    is_stop y ≡ true → i ≡ length es
only_stop [] x zero y at stops = refl
only_stop [] x (suc i) y at stops = absurd (let e = at in cc)
only_stop (e ∷ es) x zero y at stops =
    let same : item.Entry e ≡ y = (let s = at in cc) in
    let no : false ≡ true = ap is_stop same ∙ stops in
    absurd (let n = no in cc)
only_stop (e ∷ es) x (suc i) y at stops = let more = only_stop es x i y at stops in omega (arith, more)

-- what is at a place of a list is in it, and so in a list that it is a piece of
got : {A : Type 0} (xs : List A) (place : ℕ) (x : A) → slice_get xs place ≡ Some x → Contains xs x
got xs place x is = (place, slice_get_within xs place x is, get_or_from_slice_get xs place x x is)

in_map : {A B : Type 0} (f : A → B) (xs : List A) (x : A) → Contains xs x → Contains (map f xs) (f x)
in_map {A} f xs x c = (
  c.0,
  (let l = c.1 in let e = length-map xs f in omega (arith, l, e)),
  get_or-map f xs c.0 x (f x) c.1 ∙ ap f c.2,
)

no_some : (o : Option ℕ) → o ≡ None → IsSome o → ⊥
no_some None e some = absurd (let x = some in cc)
no_some (Some n) e some = absurd (let x = e in cc)

stop_size : (stopped : Option ℕ) (torn : Option Entry) → length (stop_in stopped torn) ≡ stops_in (stop_of stopped torn)
stop_size (Some count) (Some torn) = refl
stop_size (Some count) None = refl
stop_size None torn = refl

tills_of_rows : {C : Type 0} (rows : List (Row C)) → map (λ (t : TillReplies). t.till) (map (λ (r : Row C). r.part) rows) ≡ map
    (λ (r : Row C). r.part.till) rows
tills_of_rows [] = refl
tills_of_rows (r ∷ rs) = ap (λ (l : List ℕ). r.part.till ∷ l) (tills_of_rows rs)

-- the same tills come back
pub same_tills : {C : Type 0} (coming : C → ℕ → Option ℕ) (asks : List Asked) (tills : List ℕ) (parts : List TillReplies)
    (old new : List (Known Item (Root C))) → Ran coming asks tills old parts new → map (λ (t : TillReplies). t.till) parts ≡ tills
same_tills coming asks tills parts old new ran =
    ap (λ (l : List TillReplies). map (λ (t : TillReplies). t.till) l) ran.parts_are ∙ tills_of_rows ran.rows ∙ sym ran.tills_are

-- where a store goes on, its items are its entries
pub no_stop_yet : {D C : Type 0} (p : Parts D C) → p.stopped ≡ None → length (items_in p) ≡ length p.state.entries
no_stop_yet p e =
    ap (λ (s : Option ℕ). length (map item.Entry p.state.entries ++ stop_in s p.torn)) e ∙ ap (λ (l : List Item). length l)
    (append-nil (map item.Entry p.state.entries)) ∙ length-map p.state.entries (λ (x : Entry). item.Entry x)

-- a shop that is sound by its own clock, asked at readings that these answers tell
module _ {D C : Type 0} (tells : Bool) (tell : D → OnDisk) (faults : D → ℕ) (coming shop_clock : C → ℕ → Option ℕ)
    (asks : List Asked) (root : Root C) (p : Parts D C) (for_no_other : AddsForNoOther coming) (what_is_taken : AddsWhatIsTaken coming) where
  abbrev Sound : Type 0
  Sound = IsSound tells tell faults shop_clock root p

  abbrev Counted : Type 0
  Counted = length (noted_in p.state.entries) ≡ length (recs p.state.entries)

  low : Sound → length root.history ≤ length p.state.entries
  low sound = let e = ap (λ (l : List Entry). length l) sound.begins.1 in let g = length-append root.history sound.begins.0 in
      omega (arith, e, g)

  since_start : (base : List Item) → length base ≡ length root.history → Sound → (till : ℕ) →
      records_of till (drop (length base) (items_in p)) ≡ map item.Entry
      (own_of till (drop (length root.history) p.state.entries))
  since_start base size sound till =
      ap (λ (n : ℕ). records_of till (drop n (items_in p))) size
      ∙ ap (λ (l : List Item). records_of till l) (dropped p.stopped p.torn (length root.history) p.state.entries (low sound))
      ∙ records p.stopped p.torn till (drop (length root.history) p.state.entries)

  abbrev RowDone : List Item → Row C → Type 0
  RowDone base r = AreTaken r.part.replies (own_of r.part.till (drop (length root.history) p.state.entries))

  served : (base : List Item) → length base ≡ length root.history → Sound → (r : Row C) → RowTold coming asks base root p.stopped
      p.torn p.state.entries for_no_other what_is_taken r →
      TakenItems r.part.replies (records_of r.part.till (drop (length base) (items_in p))) →
      (tills : List TillReplies) (kind : AgencyKind) (opened after : AgencyState) (drains : Bool)
      (answer : Result (Unit {0}) DrainFault) →
      TillServed (shop_day coming asks root p tills kind opened after drains answer) (r.part)
  served base size sound r t own_items tills kind opened after drains answer =
      let total = length-append (map item.Entry p.state.entries) (stop_in p.stopped p.torn) in
      let entries = length-map p.state.entries (λ (x : Entry). item.Entry x) in
      let stops = stop_size p.stopped p.torn in
      record {
        last = t.told.seen;
        told = t.told.told;
        run = t.told.run;
        own = taken r.part.replies (own_of r.part.till (drop (length root.history) p.state.entries))
            (subst (λ (l : List Item). TakenItems r.part.replies l) (since_start base size sound r.part.till) own_items);
        at_least = (let a = t.told.within in let b = t.told.least in let c = t.least in omega (arith, a, b, c));
        at_most = (let s = t.saw in omega (arith, s, total, entries, stops));
      }

  -- the day of all rows
  module _ (base : List Item) (size : length base ≡ length root.history) (rows : List (Row C)) (seat : Known Item (Root C))
      (distinct : AreDistinct (map (λ (r : Row C). r.part.till) rows))
      (news : AllByRecursion (λ (r : Row C). IsNew base root r.from) rows)
      (first : Known Item (Root C)) (first_new : IsNew base root first) (kind : AgencyKind) (opened after : AgencyState)
      (drains : Bool) (answer : Result (Unit {0}) DrainFault)
      (bare : (till : ℕ) → OwnsNone till seat)
      (Untorn : Type 0) (noted : AllByRecursion (λ (z : ℕ × Item). AreNotesOrTorn z.1 × (Untorn → AreNotes z.1)) seat.own)
      (fails : Untorn ⊎ FailsAtNotes kind opened after answer)
      (disk : IsDiskAnswer answer → IsSome p.stopped) (worked : AllByRecursion (Worked coming asks) rows)
      (fits : AllByRecursion (Fits (items_in p)) (after_all coming asks rows ++ seat ∷ [])) (starts : StartsWith (items_in p)
      base)
      (since : (n : ℕ) → length base ≤ n → n < length (items_in p) → owners n (after_all coming asks rows ++ seat ∷ []) ≡ 1)
      (sound : Sound) (counted : drains ≡ true → OnOk answer Counted) where
    abbrev RTold : Row C → Type 0
    RTold = RowTold coming asks base root p.stopped p.torn p.state.entries for_no_other what_is_taken

    all_told : AllByRecursion RTold rows
    all_told = told coming asks base root p.stopped p.torn p.state.entries for_no_other what_is_taken size rows seat distinct news
        bare worked fits starts since

    abbrev tills : List TillReplies
    tills = map (λ (r : Row C). r.part) rows

    abbrev day : Day
    day = shop_day coming asks root p tills kind opened after drains answer

    all_served : AllByRecursion (λ (r : Row C). TillServed day (r.part)) rows
    all_served = each_both RTold (λ (r : Row C). TakenItems r.part.replies
        (records_of r.part.till (drop (length base) (items_in p)))) (λ (r : Row C). TillServed day (r.part)) rows
        (λ r t own_items. served base size sound r t own_items tills kind opened after drains answer) all_told
        (rows_own coming asks base root p.stopped p.torn p.state.entries for_no_other
        what_is_taken size rows seat distinct news bare worked fits starts since)

    replies_are : all_replies tills ≡ flat_map (λ (r : Row C). r.part.replies) rows
    replies_are = flat_map-map (λ (t : TillReplies). t.replies) (λ (r : Row C). r.part) rows

    stops_told : AllByRecursion (StopTold p.stopped) (flat_map (λ (r : Row C). r.part.replies) rows)
    stops_told = each_piece (λ (r : Row C). r.part.replies) (StopTold p.stopped) rows
        (each_weaker RTold (λ (r : Row C). AllByRecursion (StopTold p.stopped) r.part.replies) rows (λ r t. t.told.stops)
        all_told)

    -- the entry of the stop is what a till's ask made, or the seat's notes
    cut_at : (count : ℕ) (e : Entry) → p.stopped ≡ Some count → p.torn ≡ Some e → RecordedBy day e
    cut_at count e is torn_is =
        let last : items_in p ≡ map item.Entry p.state.entries ++ item.Stop count e ∷ [] =
        ap (λ (o : Option ℕ). map item.Entry p.state.entries ++ stop_in o p.torn) is ∙
        ap (λ (o : Option Entry). map item.Entry p.state.entries ++ stop_in (Some count) o) torn_is in
        let there : slice_get (items_in p) (length p.state.entries) ≡ Some (item.Stop count e) =
        ap (λ (l : List Item). slice_get l (length p.state.entries)) last ∙ at_end p.state.entries (item.Stop count e) [] in
        let total = ap (λ (l : List Item). length l) last ∙ length-append (map item.Entry p.state.entries)
        (item.Stop count e ∷ []) in
        let entries = length-map p.state.entries (λ (x : Entry). item.Entry x) in
        elim (stop_whose coming asks base root p.stopped p.torn p.state.entries for_no_other what_is_taken size rows seat
        distinct news bare worked fits starts since (λ (x : Item). AreNotesOrTorn x × (Untorn → AreNotes x)) noted
        (length p.state.entries) (item.Stop count e) there refl
        (λ i y at stops. only_stop p.state.entries (item.Stop count e) i y
        (sym (ap (λ (l : List Item). slice_get l i) last) ∙ at) stops)
        (let l = low sound in omega (arith, size, l)) (omega (arith, total, entries))) [
          | inl by ↦
              (let one = by.0 in
              let same : Some one.cut.entry ≡ Some e = sym one.cut.is ∙ torn_is in
              let entry_is : one.cut.entry ≡ e = (let s = same in cc) in
              by_till one.row.part (in_map (λ (r : Row C). r.part) rows one.row one.among)
              (subst (λ (x : Entry). IsCutOffBy root.version root.issuer (coming root.clock) p.state.entries
              (asks_of one.row.part.till asks) one.row.part.replies x) entry_is one.cut.by)
              (ap (λ (rs : Replies). count_by is_own_fault rs) replies_are ∙ by.1))
          | inr mine ↦ sender mine.0.0 (elim fails [ inl untorn ↦ absurd (mine.0.1 untorn) | inr is ↦ is ])
              (ap (λ (rs : Replies). count_by is_own_fault rs) replies_are ∙ mine.1)
        ]

    each_told : (s : Option ℕ) → p.stopped ≡ s → AllByRecursion (StopTold s) (all_replies tills)
    each_told s is = subst (λ (o : Option ℕ). AllByRecursion (StopTold o) (all_replies tills)) is
        (subst (λ (rs : Replies). AllByRecursion (StopTold p.stopped) rs) (sym replies_are) stops_told)

    stop_at : (s : Option ℕ) (t : Option Entry) → p.stopped ≡ s → p.torn ≡ t → StopIs day root.faults (faults p.disk) (stop_of s t)
    stop_at None t is torn_is = (
      each_weaker (StopTold None) IsGoingOn (all_replies tills) going_on (each_told None is),
      λ failed. no_some p.stopped is (disk failed),
    )
    stop_at (Some count) None is torn_is = let none = sym torn_is ∙ (sound.stop count is).torn_is in absurd cc
    stop_at (Some count) (Some e) is torn_is =
        let h = sound.stop count is in
        record {
          by = cut_at count e is torn_is;
          told = each_weaker (StopTold (Some count)) (TellsStop count) (all_replies tills) (tells_stop count)
              (each_told (Some count) is);
          risen = h.rose;
          within = h.within;
        }

    pub whole : SendsBeside day → DayRun (record { tells = tells; on_disk = tell; faults = faults; coming = shop_clock }) root p day
    whole sends = record {
      sound = sound;
      served = each_map (λ (r : Row C). r.part) (TillServed day) rows all_served;
      others = λ till other. no_entries (own_of till (drop (length root.history) p.state.entries))
          (sym (since_start base size sound till) ∙ none_else coming asks base root p.stopped p.torn p.state.entries for_no_other
          what_is_taken size rows seat distinct news bare worked fits starts since first first_new till
          (each_unmap (λ (r : Row C). r.part) (λ (t : TillReplies). t.till ≢ till) rows other));
      stop = stop_at p.stopped p.torn refl refl;
      sends = sends;
      all_noted = counted;
    }

-- each number is held again
pub held_again : {C : Type 0} (coming : C → ℕ → Option ℕ) (asks : List Asked) (tills : List ℕ) (parts : List TillReplies)
    (old new : List (Known Item (Root C))) (seat then : Known Item (Root C)) → Ran coming asks tills old parts new →
    then.numbers ≡ seat.numbers → (n : ℕ) → holders n (new ++ then ∷ []) ≡ holders n (old ++ seat ∷ [])
held_again coming asks tills parts old new seat then ran same n =
    let e : times_held n then ≡ times_held n seat = ap (λ (ns : List ℕ). times_held n (record seat { numbers = ns })) same in
    let a = sum_by_push (times_held n) new seat in
    let b = sum_by_push (times_held n) new then in
    let again = ap (λ (l : List (Known Item (Root _))). holders n (l ++ seat ∷ [])) ran.new_are ∙ still_held coming asks n seat
    ran.rows ran.worked ∙ sym (ap (λ (l : List (Known Item (Root _))). holders n (l ++ seat ∷ [])) ran.old_are) in
    omega (arith, e, a, b, again)

-- what the tills that ran own are their records, and the stop over one of them
own_rows : {C : Type 0} (coming : C → ℕ → Option ℕ) (asks : List Asked) (base : List Item) (root : Root C) (rows : List (Row C)) →
    OwnsRecordsAndStops coming →
    AllByRecursion (λ (r : Row C). IsNew base root r.from) rows → AllByRecursion (λ (r : Row C). Worked coming asks r) rows →
    AllByRecursion (λ (k : Known Item (Root C)). Theirs k) (after_all coming asks rows)
own_rows coming asks base root [] owns news worked = tt
own_rows coming asks base root (r ∷ rs) owns news worked = (
  run_of_till coming r.part.till root base r.from r.last (asks_of r.part.till asks) r.part.replies owns news.0 worked.0.run
      (own_asks r.part.till asks),
  own_rows coming asks base root rs owns news.1 worked.1,
)

module _ {D C : Type 0} (tells : Bool) (tell : D → OnDisk) (faults : D → ℕ) (coming : C → ℕ → Option ℕ) (asks : List Asked)
    (p : Parts D C) (root : Root C) (base : List Item) (tills : List ℕ) (parts : List TillReplies)
    (old new : List (Known Item (Root C)))
    (seat then : Known Item (Root C))
    (ran : Ran coming asks tills old parts new) (fresh : All (IsNew base root) (old ++ seat ∷ [])) where
  news : AllByRecursion (λ (r : Row C). IsNew base root r.from) ran.rows × IsNew base root seat
  news =
      let all : AllByRecursion (IsNew base root) (map (λ (r : Row C). r.from) ran.rows ++ seat ∷ []) =
      subst (λ (l : List (Known Item (Root C))). AllByRecursion (IsNew base root) (l ++ seat ∷ [])) ran.old_are
      (each_of_all (IsNew base root) (old ++ seat ∷ []) fresh) in
      let split = each_front (IsNew base root) (map (λ (r : Row C). r.from) ran.rows) seat all in
      (each_unmap (λ (r : Row C). r.from) (IsNew base root) ran.rows split.0, split.1)

  -- the closed shop, which the tills and the seat shared
  pub shared : OwnsRecordsAndStops coming → All (Fits (items_in p)) (new ++ then ∷ []) → StartsWith (items_in p) base →
      ((n : ℕ) → length base ≤ n → n < length (items_in p) → owners n (new ++ then ∷ []) ≡ 1) →
      Adds AreNotesOrTorn (sight_by seat) (sight_by then) →
      Shared base (items_in p) root new seat then
  shared owns fits starts since adds = record {
    fresh = news.1;
    fits = fits;
    starts = starts;
    since = since;
    theirs = subst (λ (l : List (Known Item (Root C))). AllByRecursion (λ (k : Known Item (Root C)). Theirs k) l)
        (sym ran.new_are) (own_rows coming asks base root ran.rows owns news.0 ran.worked);
    adds = adds;
  }

  -- Where the seat knew of as many items as each till, and its sender is done, each record has its line noted.
  pub counts : (answer : Result (Unit {0}) DrainFault) → OwnsWithinKnown coming →
      SeesAll (items_in {D = D} {C = C}) (root_of tell faults) →
      Shared base (items_in p) root new seat then → (n : ℕ) → All (λ (k : Known Item (Root C)). k.least ≤ n) new →
      OnOk answer (n ≤ length then.seen) →
      OnOk answer (length (noted_in (entries_of then.seen)) ≡ length (recs (entries_of then.seen))) →
      OnOk answer (length (noted_in p.state.entries) ≡ length (recs p.state.entries))
  counts answer within sees h n told = both_ok answer (n ≤ length then.seen)
      (length (noted_in (entries_of then.seen)) ≡ length (recs (entries_of then.seen)))
      (length (noted_in p.state.entries) ≡ length (recs p.state.entries)) (λ covers delivered.
      let rows : List (Known Item (Root C)) = after_all coming asks ran.rows in
      let h' : Shared base (items_in p) root rows seat then =
      subst (λ (l : List (Known Item (Root C))). Shared base (items_in p) root l seat then) ran.new_are h in
      let told' : All (λ (k : Known Item (Root C)). k.least ≤ length then.seen) rows =
      All-weaker (λ (k : Known Item (Root C)). k.least ≤ n) (λ (k : Known Item (Root C)). k.least ≤ length then.seen)
      (λ k l. omega (arith, l, covers)) rows
      (subst (λ (l : List (Known Item (Root C))). All (λ (k : Known Item (Root C)). k.least ≤ n) l) ran.new_are told) in
      subst (λ (es : List Entry). length (noted_in es) ≡ length (recs es))
      (seen_whole tell faults coming asks p root base within sees ran.rows news.0 ran.worked seat then h' told') delivered)

  -- the day of the tills that ran and of the sender that ran with them, once their shop is closed
  pub ended : (shop_clock : C → ℕ → Option ℕ) (kind : AgencyKind) (opened after : AgencyState) (drains : Bool)
      (answer : Result (Unit {0}) DrainFault) →
      AddsForNoOther coming → AddsWhatIsTaken coming →
      length base ≡ length root.history → AreDistinct tills → Shared base (items_in p) root new
      seat then →
      Adds AreNotes (sight_by seat) (sight_by then) ⊎ FailsAtNotes kind opened after answer → (IsDiskAnswer answer → IsSome p.stopped) →
      IsSound tells tell faults shop_clock root p →
      (drains ≡ true → OnOk answer (length (noted_in p.state.entries) ≡ length (recs p.state.entries))) →
      SendsBeside (shop_day coming asks root p parts kind opened after drains answer) →
      DayRun (record { tells = tells; on_disk = tell; faults = faults; coming = shop_clock }) root p
      (shop_day coming asks root p parts kind opened after drains answer)
  ended shop_clock kind opened after drains answer for_no_other what_is_taken size distinct h notes disk sound counted sends =
      let distinct' : AreDistinct (map (λ (r : Row C). r.part.till) ran.rows) =
      subst (λ (l : List ℕ). AreDistinct l) ran.tills_are distinct in
      let fits' : AllByRecursion (Fits (items_in p)) (after_all coming asks ran.rows ++ then ∷ []) =
      subst (λ (l : List (Known Item (Root C))). AllByRecursion (Fits (items_in p)) (l ++ then ∷ [])) ran.new_are
      (each_of_all (Fits (items_in p)) (new ++ then ∷ []) h.fits) in
      let since' : (n : ℕ) → length base ≤ n → n < length (items_in p) → owners n (after_all coming asks ran.rows ++ then ∷ []) ≡
      1 =
      subst (λ (l : List (Known Item (Root C))). (n : ℕ) → length base ≤ n → n < length (items_in p) → owners n (l ++ then ∷ []) ≡
      1) ran.new_are h.since in
      let Told : List TillReplies → Day = λ l. shop_day coming asks root p l kind opened after drains answer in
      subst (λ (l : List TillReplies). DayRun (record { tells = tells; on_disk = tell; faults = faults; coming = shop_clock }) root p (Told l))
      (sym ran.parts_are)
      (whole tells tell faults coming shop_clock asks root p for_no_other what_is_taken base size ran.rows then distinct' news.0 seat news.1 kind opened after
      drains answer (bare base (items_in p) root new seat then h) (Adds AreNotes (sight_by seat) (sight_by then))
      (all_noted base (items_in p) root new seat then h (Adds AreNotes (sight_by seat) (sight_by then)) (λ added. added)) notes
      disk ran.worked fits' h.starts since' sound counted (subst (λ (l : List TillReplies). SendsBeside (Told l)) ran.parts_are sends))
