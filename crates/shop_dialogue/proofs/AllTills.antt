-- All tills of a shop, held by one thread, as the rows of a day.
use Rattle.std.proofs.Common.{◌≡◌, ◌∙◌, ℕ, zero, suc, ◌+◌, ◌<◌, ◌≤◌, List, [], ◌∷◌, ◌++◌, length, map, refl, ap, sym, subst, arith}
use Rattle.std.proofs.Common.{Option, Some, append_assoc, slice_get}
use Rattle.std.specs.Prelude.{◌≢◌, reverse, All}
use Rattle.std.specs.Int.{IsInRange}
use Rattle.std.specs.List.{AllByRecursion, range_with_len}
use Rattle.std.proofs.lemmas.List.{reverse-append, reverse-reverse}
use Rattle.std.proofs.lemmas.List.Sums.{sum_by-cons}
use Rattle.std.proofs.lemmas.List.FromFn.{get_or-range_with_len, length-range_with_len}
use Rattle.chain_lock.specs.Known.{Fits, IsNew, Known, holders, owners, times_held, times_owned}
use Rattle.chain_lock.specs.Lists.{StartsWith}
use Rattle.chain_store.specs.Replies.{Replies}
use Rattle.dialogue_loop.specs.InARow.{AllRan, AllRanOn, AllSeeOn, replies_of}
use Rattle.dialogue_loop.specs.Looked.{AreLooked, AreLookedAt}
use Rattle.dialogue_loop.specs.Speech.{IsReadFault, Moment}
use Rattle.dialogue_loop.specs.declared.speaking.SpeechEnd.{SpeechEnd}
use Rattle.dialogue_loop.specs.declared.speaking.SpeechEnd.TheVariants as speech
use Rattle.ports.specs.Causes.{Rose}
use Rattle.shop_core.specs.Answer.Requests.{Asked}
use Rattle.shop_core.specs.declared.items.Item.{Item}
use Rattle.dialogue.specs.Protocol.{Look}
use Rattle.record_codec.specs.declared.entry.Entry.{Entry}
use Rattle.shop_core.specs.Items.{entries_of}
use Rattle.till_calls.specs.Root.{Parts, Root, items_in}
use Rattle.sender_beside.specs.Days.{TillReplies}
use Rattle.sender_beside.specs.Works.{Ran, Row, Worked, known_after}
use Rattle.sender_session.proofs.Lists.{all_of_each, each_front, each_map, each_of_all, each_reverse, each_weaker, map_reverse}
use Rattle.sender_beside.proofs.StartAndStop.{entries_in}
use Rattle.sender_beside.proofs.Rows.{AreDistinct}
use Rattle.sender_beside.proofs.TillDays.{range_more}

-- the numbers of all tills are tills' numbers, and no two are the same
pub all_within : All (IsInRange 1 64) (range_with_len 1 64)
all_within = λ i d l.
    let long = length-range_with_len 1 64 in
    let at = get_or-range_with_len 1 64 i d (omega (arith, l, long)) in
    (omega (arith, at), omega (arith, at, l, long))

apart : (a b n : ℕ) → a < b → AllByRecursion (λ (m : ℕ). m ≢ a) (range_with_len b n)
apart a b zero l = tt
apart a b (suc n) l = ((λ e. omega (arith, e, l)), apart a (b + 1) n (omega (arith, l)))

pub all_distinct : (a n : ℕ) → AreDistinct (range_with_len a n)
all_distinct a zero = tt
all_distinct a (suc n) = (apart a (a + 1) n (omega arith), all_distinct (a + 1) n)

-- from the last to the first
abbrev down : ℕ → List ℕ
down zero = []
down (suc n) = suc n ∷ down n

down_is : (n : ℕ) → reverse (down n) ≡ range_with_len 1 n
down_is zero = refl
down_is (suc n) = reverse-append (suc n ∷ []) (down n) ∙ ap (λ (l : List ℕ). l ++ suc n ∷ []) (down_is n) ∙
    ap (λ (k : ℕ). range_with_len 1 n ++ k ∷ []) (let e : suc n ≡ 1 + n = omega arith in e) ∙ sym (range_more 1 n) ∙
    ap (λ (k : ℕ). range_with_len 1 k) (let e : n + 1 ≡ suc n = omega arith in e)

-- What a till knew at its last answer, but for how many items there are: it is as it is now, but for what it has seen.
pub record Behind {R : Type 0} (old new : Known Item R) : Type 0 where
  pub begins : StartsWith new.seen old.seen
  pub same : new ≡ record old { seen = new.seen }

abbrev pub AllBehind : {R : Type 0} → List (Known Item R) → List (Known Item R) → Type 0
AllBehind [] [] = Unit {0}
AllBehind (old ∷ olds) (new ∷ news) = Behind old new × AllBehind olds news
AllBehind _ _ = ⊥

module _ {C : Type 0} where
  abbrev raised : Known Item (Root C) → Known Item (Root C) → Known Item (Root C)
  raised mid new = record mid { least = new.least }

  behind_snoc : (olds news : List (Known Item (Root C))) (old new : Known Item (Root C)) → AllBehind olds news → Behind old new →
      AllBehind (olds ++ old ∷ []) (news ++ new ∷ [])
  behind_snoc [] [] old new h b = (b, tt)
  behind_snoc [] (n ∷ news) old new h b = absurd h
  behind_snoc (o ∷ olds) [] old new h b = absurd h
  behind_snoc (o ∷ olds) (n ∷ news) old new h b = (h.0, behind_snoc olds news old new h.1 b)

  reverse_cons : (k : Known Item (Root C)) (ks : List (Known Item (Root C))) → reverse (k ∷ ks) ≡ reverse ks ++ k ∷ []
  reverse_cons k ks = reverse-append (k ∷ []) ks

  behind_reverse : (olds news : List (Known Item (Root C))) → AllBehind olds news → AllBehind (reverse olds) (reverse news)
  behind_reverse [] [] h = tt
  behind_reverse [] (n ∷ news) h = absurd h
  behind_reverse (o ∷ olds) [] h = absurd h
  behind_reverse (o ∷ olds) (n ∷ news) h =
      subst (λ (l : List (Known Item (Root C))). AllBehind l (reverse (n ∷ news))) (sym (reverse_cons o olds))
      (subst (λ (l : List (Known Item (Root C))). AllBehind (reverse olds ++ o ∷ []) l) (sym (reverse_cons n news))
      (behind_snoc (reverse olds) (reverse news) o n (behind_reverse olds news h.1) h.0))

  -- how often passes own a place or hold a number
  pub owners_behind : (n : ℕ) (olds news : List (Known Item (Root C))) (seat : Known Item (Root C)) → AllBehind olds news →
      owners n (olds ++ seat ∷ []) ≡ owners n (news ++ seat ∷ [])
  owners_behind n [] [] seat h = refl
  owners_behind n [] (k ∷ news) seat h = absurd h
  owners_behind n (o ∷ olds) [] seat h = absurd h
  owners_behind n (o ∷ olds) (k ∷ news) seat h =
      let a = sum_by-cons (λ (j : Known Item (Root C)). times_owned n j) o (olds ++ seat ∷ []) in
      let b = sum_by-cons (λ (j : Known Item (Root C)). times_owned n j) k (news ++ seat ∷ []) in
      let e : times_owned n k ≡ times_owned n o = ap (λ (j : Known Item (Root C)). times_owned n j) h.0.same in
      let rest = owners_behind n olds news seat h.1 in
      omega (arith, a, b, e, rest)

  pub holders_behind : (n : ℕ) (olds news : List (Known Item (Root C))) (seat : Known Item (Root C)) → AllBehind olds news →
      holders n (olds ++ seat ∷ []) ≡ holders n (news ++ seat ∷ [])
  holders_behind n [] [] seat h = refl
  holders_behind n [] (k ∷ news) seat h = absurd h
  holders_behind n (o ∷ olds) [] seat h = absurd h
  holders_behind n (o ∷ olds) (k ∷ news) seat h =
      let a = sum_by-cons (λ (j : Known Item (Root C)). times_held n j) o (olds ++ seat ∷ []) in
      let b = sum_by-cons (λ (j : Known Item (Root C)). times_held n j) k (news ++ seat ∷ []) in
      let e : times_held n k ≡ times_held n o = ap (λ (j : Known Item (Root C)). times_held n j) h.0.same in
      let rest = holders_behind n olds news seat h.1 in
      omega (arith, a, b, e, rest)

  fits_one : (log : List Item) (old new : Known Item (Root C)) → Behind old new → Fits log new → Fits log old
  fits_one log old new b f = record {
    begins = (
      b.begins.0 ++ f.begins.0,
      f.begins.1 ∙ ap (λ (l : List Item). l ++ f.begins.0) b.begins.1 ∙
          append_assoc old.seen b.begins.0 f.begins.0,
    );
    at_least = (let e = ap (λ (k : Known Item (Root C)). k.least) b.same in let a = f.at_least in omega (arith, e, a));
    own = subst (λ (o : List (ℕ × Item)). All (λ (x : ℕ × Item). slice_get log x.0 ≡ Some x.1) o)
        (ap (λ (k : Known Item (Root C)). k.own) b.same) f.own;
  }

  fits_behind : (log : List Item) (olds news : List (Known Item (Root C))) (seat : Known Item (Root C)) → AllBehind olds news →
      AllByRecursion (Fits log) (news ++ seat ∷ []) → AllByRecursion (Fits log) (olds ++ seat ∷ [])
  fits_behind log [] [] seat h f = f
  fits_behind log [] (n ∷ news) seat h f = absurd h
  fits_behind log (o ∷ olds) [] seat h f = absurd h
  fits_behind log (o ∷ olds) (n ∷ news) seat h f = (fits_one log o n h.0 f.0, fits_behind log olds news seat h.1 f.1)

  pub all_fit_behind : (log : List Item) (olds news : List (Known Item (Root C))) (seat : Known Item (Root C)) → AllBehind olds news →
      All (Fits log) (news ++ seat ∷ []) → All (Fits log) (olds ++ seat ∷ [])
  all_fit_behind log olds news seat h f = all_of_each (Fits log) (olds ++ seat ∷ [])
      (fits_behind log olds news seat h (each_of_all (Fits log) (news ++ seat ∷ []) f))

  least_each : (n : ℕ) (olds news : List (Known Item (Root C))) → AllBehind olds news →
      AllByRecursion (λ (k : Known Item (Root C)). k.least ≤ n) news → AllByRecursion (λ (k : Known Item (Root C)). k.least ≤ n) olds
  least_each n [] [] h l = tt
  least_each n [] (k ∷ news) h l = absurd h
  least_each n (o ∷ olds) [] h l = absurd h
  least_each n (o ∷ olds) (k ∷ news) h l = (
    (let e = ap (λ (j : Known Item (Root C)). j.least) h.0.same in let a = l.0 in omega (arith, e, a)),
    least_each n olds news h.1 l.1,
  )

  pub least_behind : (n : ℕ) (olds news : List (Known Item (Root C))) → AllBehind olds news →
      All (λ (k : Known Item (Root C)). k.least ≤ n) news → All (λ (k : Known Item (Root C)). k.least ≤ n) olds
  least_behind n olds news h l = all_of_each (λ (k : Known Item (Root C)). k.least ≤ n) olds
      (least_each n olds news h (each_of_all (λ (k : Known Item (Root C)). k.least ≤ n) news l))

module _ {C : Type 0} (coming : C → ℕ → Option ℕ) (asks : List Asked) (replies : Replies) where
  abbrev Passes : Type 0
  Passes = List (Known Item (Root C))

  -- the rows of tills that ran, the last one first
  record Rows (olds news : Passes) : Type 0 where
    rows : List (Row C)
    backs : Passes
    tills_are : down (length olds) ≡ map (λ (r : Row C). r.part.till) rows
    old_are : olds ≡ map (λ (r : Row C). r.from) rows
    backs_are : backs ≡ map (λ (r : Row C). known_after r) rows
    behind : AllBehind backs news
    worked : AllByRecursion (λ (r : Row C). Worked coming asks r) rows
    told : AllByRecursion (λ (r : Row C). r.part.replies ≡ replies_of r.part.till asks replies) rows

  rows_of : (olds mids news : Passes) → AllRan coming asks replies olds mids → AllSeeOn mids news → Rows olds news
  rows_of [] [] [] h s =
      record { rows = []; backs = []; tills_are = refl; old_are = refl; backs_are = refl; behind = tt; worked = tt; told = tt }
  rows_of [] [] (new ∷ news) h s = absurd s
  rows_of [] (mid ∷ mids) news h s = absurd h
  rows_of (old ∷ olds) [] news h s = absurd h
  rows_of (old ∷ olds) (mid ∷ mids) [] h s = absurd s
  rows_of (old ∷ olds) (mid ∷ mids) (new ∷ news) h s =
      let more = rows_of olds mids news h.1 s.1 in
      let n : ℕ = length (old ∷ olds) in
      let row : Row C = record {
        part = record { till = n; replies = replies_of n asks replies; saw = new.least };
        from = old;
        last = mid;
      } in
      record {
        rows = row ∷ more.rows;
        backs = raised mid new ∷ more.backs;
        tills_are = ap (λ (l : List ℕ). n ∷ l) more.tills_are;
        old_are = ap (λ (l : Passes). old ∷ l) more.old_are;
        backs_are = ap (λ (l : Passes). raised mid new ∷ l) more.backs_are;
        behind = (record { begins = s.0.begins; same = s.0.same }, more.behind);
        worked = (record { run = h.0; at_least = s.0.at_least }, more.worked);
        told = (refl, more.told);
      }

  -- tills in a row that ran, in order of number, with what they knew at their last answers
  pub record RanInARow (olds news : Passes) : Type 0 where
    pub parts : List TillReplies
    pub backs : Passes
    pub ran : Ran coming asks (range_with_len 1 (length olds)) (reverse olds) parts backs
    pub behind : AllBehind backs (reverse news)
    pub told : AllByRecursion (λ (t : TillReplies). t.replies ≡ replies_of t.till asks replies) parts

  pub ran_in_a_row : (olds news : Passes) → AllRanOn coming asks replies olds news → RanInARow olds news
  ran_in_a_row olds news h =
      let r = rows_of olds h.mids news h.ran h.since in
      record {
        parts = map (λ (x : Row C). x.part) (reverse r.rows);
        backs = reverse r.backs;
        ran = record {
          rows = reverse r.rows;
          tills_are = sym (down_is (length olds)) ∙ ap (λ (l : List ℕ). reverse l) r.tills_are ∙
              sym (map_reverse (λ (x : Row C). x.part.till) r.rows);
          old_are = ap (λ (l : Passes). reverse l) r.old_are ∙ sym (map_reverse (λ (x : Row C). x.from) r.rows);
          parts_are = refl;
          new_are = ap (λ (l : Passes). reverse l) r.backs_are ∙ sym (map_reverse (λ (x : Row C). known_after x) r.rows);
          worked = each_reverse (λ (x : Row C). Worked coming asks x) r.rows r.worked;
        };
        behind = behind_reverse r.backs news r.behind;
        told = each_map (λ (x : Row C). x.part) (λ (t : TillReplies). t.replies ≡ replies_of t.till asks replies) (reverse r.rows)
            (each_reverse (λ (x : Row C). x.part.replies ≡ replies_of x.part.till asks replies) r.rows r.told);
      }

-- the looks of a dialogue with a shop that was closed
pub looked_closed : {D C : Type 0} (p : Parts D C) (base : List Item) (root : Root C) (replies : Replies) (looks : List Look)
    (olds news : List (Known Item (Root C))) (old_tills new_tills : List (Known Item (Root C))) (seat then : Known Item (Root C)) →
    reverse olds ≡ old_tills → new_tills ≡ reverse news → All (IsNew base root) (old_tills ++ seat ∷ []) →
    All (Fits (items_in p)) (new_tills ++ then ∷ []) → StartsWith p.state.entries root.history → AreLookedAt olds news replies looks →
    AreLooked root.history p.state.entries replies looks
looked_closed {D} {C} p base root replies looks olds news old_tills new_tills seat then old_is new_is fresh fit begins h =
    let are : entries_of (items_in p) ≡ p.state.entries = entries_in p.state.entries p.stopped p.torn in
    let all : AllByRecursion (IsNew base root) (reverse olds) =
    subst (λ (l : List (Known Item (Root C))). AllByRecursion (IsNew base root) l) (sym old_is)
    (each_front (IsNew base root) old_tills seat (each_of_all (IsNew base root) (old_tills ++ seat ∷ []) fresh)).0 in
    let back : AllByRecursion (IsNew base root) olds =
    subst (λ (l : List (Known Item (Root C))). AllByRecursion (IsNew base root) l) (reverse-reverse olds)
    (each_reverse (IsNew base root) (reverse olds) all) in
    let fits : AllByRecursion (Fits (items_in p)) (reverse news) =
    subst (λ (l : List (Known Item (Root C))). AllByRecursion (Fits (items_in p)) l) new_is
    (each_front (Fits (items_in p)) new_tills then (each_of_all (Fits (items_in p)) (new_tills ++ then ∷ []) fit)).0 in
    let fit_back : AllByRecursion (Fits (items_in p)) news =
    subst (λ (l : List (Known Item (Root C))). AllByRecursion (Fits (items_in p)) l) (reverse-reverse news)
    (each_reverse (Fits (items_in p)) (reverse news) fits) in
    subst (λ (es : List Entry). AreLooked root.history es replies looks) are
    (h root (items_in p) (each_weaker (IsNew base root) (λ (k : Known Item (Root C)). k.root ≡ Some root) olds (λ k n. n.root_is) back)
    fit_back (subst (λ (es : List Entry). StartsWith es root.history) (sym are) begins))

-- a fault of the source is told where it ends so
pub read_failed : (how : SpeechEnd) (from now : Moment) → IsReadFault how from now → how ≡ speech.ReadFault →
    Rose from.source_faults now.source_faults
read_failed speech.ReadFault from now rose is = rose
read_failed speech.Ended from now rose is = absurd (let x = is in cc)
read_failed speech.WriteFault from now rose is = absurd (let x = is in cc)
read_failed speech.NoMemory from now rose is = absurd (let x = is in cc)
read_failed speech.Stopped from now rose is = absurd (let x = is in cc)
