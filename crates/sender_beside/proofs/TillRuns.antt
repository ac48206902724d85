-- What one till's asks come to, once the shop's list at the end is known.
use Rattle.std.proofs.Common.{◌≡◌, ◌⊎◌, inl, inr, ℕ, ◌<◌, ◌≤◌, Bool, true, false, List, [], ◌∷◌, ◌++◌, length, map, Option}
use Rattle.std.proofs.Common.{Some, None, Result, Ok, Err, refl, ap, sym, ◌∙◌, subst, arith, append_assoc, slice_get, cond, ◌+◌}
use Rattle.std.specs.Prelude.{IsSome}
use Rattle.std.specs.List.{AllByRecursion, count_by, enumerate_from}
use Rattle.std.proofs.lemmas.List.{append-nil, append_cancel_left, length-append, length-map}
use Rattle.std.proofs.lemmas.List.Sums.{sum_by-append, sum_by-cons, sum_by_push}
use Rattle.chain_lock.specs.Known.{Known}
use Rattle.chain_lock.specs.Lists.{StartsWith}
use Rattle.journal.specs.declared.faults.StoreFault.{StoreFault}
use Rattle.journal.specs.declared.faults.StoreFault.TheVariants.{DiskFault, Stopped, NoMemory}
use Rattle.record_codec.specs.declared.entry.Entry.{Entry}
use Rattle.shop_core.specs.Answer.Plans.{answer}
use Rattle.shop_core.specs.Answer.Requests.{Asked}
use Rattle.shop_core.specs.declared.answer.Planned.TheVariants.{Made}
use Rattle.shop_core.specs.declared.answer.Reply.{Reply}
use Rattle.shop_core.specs.declared.items.Item.{Item}
use Rattle.shop_core.specs.declared.items.Item.TheVariants as item
use Rattle.till_calls.specs.Root.{Root, stop_in}
use Rattle.till_calls.specs.Client.{TillRun as Asking}
use Rattle.till_calls.specs.Client.TillRun.{begun, asked}
use Rattle.till_calls.specs.Shop.{Asks}
use Rattle.till_calls.specs.Turns.{TillDoes}
use Rattle.shop_core.specs.Prefix.{IsPrefix}
use Rattle.sender.proofs.Adding.{get_front}
use Rattle.chain_store.specs.Replies.{Replies}
use Rattle.sender_beside.specs.Tills.{IsCutOffBy, IsSomeReading, ServedRun, is_own_fault}
use Rattle.sender_beside.specs.Tills.ServedRun.{unasked, answered, torn as tears, stopped as told_stop, without_memory}
use Rattle.sender_session.proofs.Lists.{each_append, each_back, each_placed, each_snoc}

abbrev pub is_stop : Item → Bool
is_stop (item.Entry e) = false
is_stop (item.Stop faults torn) = true

-- how many of the items that a pass owns are stops
abbrev pub stops_owned : List (ℕ × Item) → ℕ
stops_owned own = count_by (λ (z : ℕ × Item). is_stop z.1) own

no_stop_counted : (xs : List Item) → AllByRecursion (λ (x : Item). is_stop x ≡ false) xs → count_by is_stop xs ≡ 0
no_stop_counted [] h = refl
no_stop_counted (x ∷ xs) h =
    let one : ◌≡◌ {A = ℕ} (cond (is_stop x) 1 0) 0 = ap (λ (b : Bool). cond b 1 0) h.0 in
    let more = no_stop_counted xs h.1 in
    let sum = sum_by-cons (λ (y : Item). cond (is_stop y) 1 0) x xs in
    omega (arith, one, more, sum)

placed_stops : (n : ℕ) (xs : List Item) → stops_owned (enumerate_from n xs) ≡ count_by is_stop xs
placed_stops n [] = refl
placed_stops n (x ∷ xs) =
    let more = placed_stops (n + 1) xs in
    let sum = sum_by-cons (λ (y : Item). cond (is_stop y) 1 0) x xs in
    let own = sum_by-cons (λ (z : ℕ × Item). cond (is_stop z.1) 1 0) (n, x) (enumerate_from (n + 1) xs) in
    omega (arith, more, sum, own)

pub no_stops : (es : List Entry) → AllByRecursion (λ (x : Item). is_stop x ≡ false) (map item.Entry es)
no_stops [] = tt
no_stops (e ∷ es) = (refl, no_stops es)

starts_trans : (a b c : List Item) → StartsWith a b → StartsWith b c → StartsWith a c
starts_trans a b c p q = (q.0 ++ p.0, p.1 ∙ ap (λ (l : List Item). l ++ p.0) q.1 ∙ append_assoc c q.0 p.0)

no_shorter : (a b : List Item) → StartsWith a b → length b ≤ length a
no_shorter a b p = let e = ap (λ (l : List Item). length l) p.1 in let f = length-append b p.0 in omega (arith, e, f)

get_last : {A : Type 0} (xs : List A) (x : A) → slice_get (xs ++ x ∷ []) (length xs) ≡ Some x
get_last [] x = refl
get_last (y ∷ xs) x = get_last xs x

-- what a reply tells of the stop at the end
abbrev pub StopTold : Option ℕ → Result Reply StoreFault → Type 0
StopTold stopped (Ok reply) = Unit {0}
StopTold stopped (Err DiskFault) = IsSome stopped
StopTold stopped (Err (Stopped count)) = stopped ≡ Some count
StopTold stopped (Err NoMemory) = Unit {0}

no_entry : (stopped : Option ℕ) (torn : Option Entry) (e : Entry) (rest : List Item) → stop_in stopped torn ≡ item.Entry e ∷ rest
    → ⊥
no_entry (Some faults) (Some t) e rest h = absurd (let x = h in cc)
no_entry (Some faults) None e rest h = absurd (let x = h in cc)
no_entry None torn e rest h = absurd (let x = h in cc)

module _ (stopped : Option ℕ) (torn : Option Entry) where
  -- a list that ends so
  abbrev pub items : List Entry → List Item
  items end = map item.Entry end ++ stop_in stopped torn

  -- what begins a list with entries alone begins its history
  pub begins : (end h : List Entry) (rest : List Item) → items end ≡ map item.Entry h ++ rest → IsPrefix h end
  begins end [] rest is = record { rest = end; is = refl }
  begins [] (x ∷ h) rest is = absurd (no_entry stopped torn x (map item.Entry h ++ rest) is)
  begins (y ∷ end) (x ∷ h) rest is =
      let more = begins end h rest (let e = is in cc) in
      let same : y ≡ x = (let e = is in cc) in
      record {
        rest = more.rest;
        is = ap (λ (l : List Entry). y ∷ l) more.is ∙ ap (λ (z : Entry). z ∷ (h ++ more.rest)) same;
      }

  record StopThere (end h : List Entry) (count : ℕ) (e : Entry) : Type 0 where
    is : stopped ≡ Some count
    torn_is : torn ≡ Some e
    whole : h ≡ end

  stop_of : (s : Option ℕ) (t : Option Entry) (count : ℕ) (e : Entry) (rest : List Item) → stop_in s t ≡ item.Stop count e ∷ rest
      → (s ≡ Some count) × (t ≡ Some e)
  stop_of (Some faults) (Some t) count e rest h =
      let x : faults ≡ count = (let z = h in cc) in
      let y : t ≡ e = (let z = h in cc) in
      (ap (λ (n : ℕ). Some n) x, ap (λ (u : Entry). Some u) y)
  stop_of (Some faults) None count e rest h = absurd (let x = h in cc)
  stop_of None t count e rest h = absurd (let x = h in cc)

  -- a stop in the list is the one at its end
  stop_there : (end h : List Entry) (count : ℕ) (e : Entry) (rest : List Item) → items end ≡ map item.Entry h ++ item.Stop count e
      ∷ rest → StopThere end h count e
  stop_there [] [] count e rest is =
      let both = stop_of stopped torn count e rest is in
      record { is = both.0; torn_is = both.1; whole = refl }
  stop_there [] (x ∷ h) count e rest is = absurd (no_entry stopped torn x (map item.Entry h ++ item.Stop count e ∷ rest) is)
  stop_there (y ∷ end) [] count e rest is = absurd (let x = is in cc)
  stop_there (y ∷ end) (x ∷ h) count e rest is =
      let more = stop_there end h count e rest (let x = is in cc) in
      let same : x ≡ y = (let z = is in cc) in
      record {
        is = more.is;
        torn_is = more.torn_is;
        whole = ap (λ (l : List Entry). x ∷ l) more.whole ∙ ap (λ (z : Entry). z ∷ end) same;
      }

-- asks leave a till its numbers
pub run_numbers : {C : Type 0} (coming : C → ℕ → Option ℕ) (old new : Known Item (Root C)) (asks : List Asked) (replies : Replies)
    → Asking coming old asks replies new → new.numbers ≡ old.numbers
run_numbers coming old new asks replies begun = refl
run_numbers {C} coming old new asks' replies' (asked asks replies mid _ ask reply run this) =
    ap (λ (k : Known Item (Root C)). k.numbers) this.after ∙ run_numbers coming old mid asks replies run

module _ {C : Type 0} (coming : C → ℕ → Option ℕ) (root : Root C) (stopped : Option ℕ) (torn : Option Entry) (end : List Entry)
  where
    abbrev log : List Item
    log = items stopped torn end

    abbrev Run : List Asked → Replies → ℕ → Bool → Type 0
    Run asks replies seen told = ServedRun root.version root.issuer (coming root.clock) root.history end asks replies seen told

    abbrev pub IsClean : List (ℕ × Item) → Type 0
    IsClean own = AllByRecursion (λ (z : ℕ × Item). is_stop z.1 ≡ false) own

    -- the entry of the stop is what one of these asks made
    pub record CutOff (asks : List Asked) (replies : Replies) : Type 0 where
      pub entry : Entry
      pub is : torn ≡ Some entry
      pub by : IsCutOffBy root.version root.issuer (coming root.clock) end asks replies entry

    -- how far the till has been told
    pub record SoFar (asks : List Asked) (replies : Replies) (k : Known Item (Root C)) : Type 0 where
      pub seen : ℕ
      pub told : Bool
      pub run : Run asks replies seen told
      pub within : seen ≤ length k.seen
      pub home : k.root ≡ Some root
      pub least : k.least ≡ length k.seen
      pub whole : told ≡ true → length end < length k.seen
      pub stops : AllByRecursion (StopTold stopped) replies
      pub even : length replies ≡ length asks
      pub clean : IsClean k.own ⊎ CutOff asks replies
      pub faults : count_by is_own_fault replies ≡ stops_owned k.own

    -- this ask, whose reply tells the fault, made the entry of the stop
    record Tore (ask : Asked) (reply : Result Reply StoreFault) : Type 0 where
      told : reply ≡ Err DiskFault
      entry : Entry
      is : torn ≡ Some entry
      seconds : ℕ
      reading : IsSomeReading (coming root.clock) seconds
      made : answer root.version root.issuer end ask seconds ≡ Made entry

    -- what one more ask tells, at this list and with what it adds
    record Step (asks : List Asked) (replies : Replies) (ask : Asked) (before more : List Item)
        (reply : Result Reply StoreFault) : Type 0 where
      seen : ℕ
      told : Bool
      run : Run asks replies seen told
      within : seen ≤ length (before ++ more)
      whole : told ≡ true → length end < length (before ++ more)
      stop : StopTold stopped reply
      clean : AllByRecursion (λ (x : Item). is_stop x ≡ false) more ⊎ Tore ask reply
      fault : cond (is_own_fault reply) 1 0 ≡ count_by is_stop more

    none_more : (before more : List Item) → before ++ more ≡ before → AllByRecursion (λ (x : Item). is_stop x ≡ false) more
    none_more before more e = subst (λ (l : List Item). AllByRecursion (λ (x : Item). is_stop x ≡ false) l)
        (sym (append_cancel_left before more [] (e ∙ sym (append-nil before)))) tt

    stop_long : (h : List Entry) (count : ℕ) (e : Entry) (items' : List Item) → StartsWith log items' →
        items' ≡ map item.Entry h ++ item.Stop count e ∷ [] → StopThere stopped torn end h count e × (length end < length items')
    stop_long h count e items' starts is =
        let there = stop_there stopped torn end h count e starts.0 (starts.1 ∙ ap (λ (l : List Item). l ++ starts.0) is ∙
        append_assoc (map item.Entry h) (item.Stop count e ∷ []) starts.0) in
        let n = ap (λ (l : List Item). length l) is in
        let m = length-append (map item.Entry h) (item.Stop count e ∷ []) in
        let k = length-map h (λ (x : Entry). item.Entry x) in
        let long = ap (λ (l : List Entry). length l) there.whole in
        (there, omega (arith, long, n, m, k))

    module _ (asks : List Asked) (replies : Replies) (ask : Asked) (old : Known Item (Root C)) (before more : List Item)
        (starts : StartsWith before old.seen) (reaches : StartsWith log (before ++ more)) where
      grows : length old.seen ≤ length (before ++ more)
      grows = let a = no_shorter before old.seen starts in let b = length-append before more in omega (arith, a, b)

      -- entries alone: the till hasn't been told of a stop
      going : (s : SoFar asks replies old) (history : List Entry) → before ≡ map item.Entry history → s.told ≡ false
      going s history is = by_mark s.told refl
        where
          by_mark : (b : Bool) → s.told ≡ b → s.told ≡ false
          by_mark false e = e
          by_mark true e =
              let long = no_shorter before old.seen starts in
              let size = ap (λ (l : List Item). length l) is ∙ length-map history (λ (x : Entry). item.Entry x) in
              let front = begins stopped torn end history (more ++ reaches.0) (reaches.1 ∙ append_assoc before more reaches.0 ∙
              ap (λ (l : List Item). l ++ (more ++ reaches.0)) is) in
              let whole = ap (λ (l : List Entry). length l) front.is ∙ length-append history front.rest in
              absurd (omega (arith, s.whole e, long, size, whole))

      on : (s : SoFar asks replies old) → s.told ≡ false → Run asks replies s.seen false
      on s e = subst (λ (b : Bool). Run asks replies s.seen b) e s.run

      none_gained : (history gained : List Entry) → before ++ more ≡ map item.Entry (history ++ gained) →
          AllByRecursion (λ (x : Item). is_stop x ≡ false) more
      none_gained history gained is = each_back (λ (x : Item). is_stop x ≡ false) before more
          (subst (λ (l : List Item). AllByRecursion (λ (x : Item). is_stop x ≡ false) l) (sym is) (no_stops (history ++ gained)))

      step : (reply : Result Reply StoreFault) → SoFar asks replies old → TillDoes coming ask reply root before (before ++ more) →
          Step (asks ++ ask ∷ []) (replies ++ reply ∷ []) ask before more reply
      step (Ok reply) s a =
          let sizes : length before ≡ length a.history = ap (λ (l : List Item). length l) a.going_on ∙ length-map a.history
          (λ (e : Entry). item.Entry e) in
          let long = no_shorter before old.seen starts in
          let all : length (before ++ more) ≡ length (a.history ++ a.gained) = ap (λ (l : List Item). length l) a.after_is ∙
          length-map (a.history ++ a.gained) (λ (e : Entry). item.Entry e) in
          let front = begins stopped torn end (a.history ++ a.gained) reaches.0 (reaches.1 ∙
          ap (λ (l : List Item). l ++ reaches.0) a.after_is) in
          record {
            seen = length (a.history ++ a.gained);
            told = false;
            run = answered asks replies s.seen ask reply a.history a.gained a.seconds (on s (going s a.history a.going_on))
                (omega (arith, s.within, long, sizes)) front (a.reading.number, a.reading.told) a.tells;
            within = omega (arith, all);
            whole = λ e. absurd (let x = e in cc);
            stop = tt;
            clean = inl (none_gained a.history a.gained a.after_is);
            fault = sym (no_stop_counted more (none_gained a.history a.gained a.after_is));
          }
      step (Err DiskFault) s t =
          let there = stop_long t.history t.count t.torn (before ++ more) reaches t.after_is in
          record {
            seen = s.seen;
            told = true;
            run = tears asks replies s.seen ask (on s (going s t.history t.going_on));
            within = omega (arith, s.within, grows);
            whole = λ e. there.1;
            stop = subst (λ (o : Option ℕ). IsSome o) (sym there.0.is) refl;
            clean = inr (record {
              told = refl;
              entry = t.torn;
              is = there.0.torn_is;
              seconds = t.seconds;
              reading = (t.reading.number, t.reading.told);
              made = subst (λ (h : List Entry). answer root.version root.issuer h ask t.seconds ≡ Made t.torn)
                  there.0.whole t.made;
            });
            fault = sym (ap (λ (l : List Item). count_by is_stop l) (append_cancel_left before more
                (item.Stop t.count t.torn ∷ []) (t.after_is ∙ sym (ap (λ (l : List Item). l ++ item.Stop t.count t.torn ∷ [])
                t.going_on))));
          }
      step (Err (Stopped count)) s t =
          let there = stop_long t.1.history count t.1.torn (before ++ more) reaches (t.0 ∙ t.1.items_are) in
          record {
            seen = s.seen;
            told = true;
            run = told_stop asks replies s.seen s.told ask count s.run;
            within = omega (arith, s.within, grows);
            whole = λ e. there.1;
            stop = there.0.is;
            clean = inl (none_more before more t.0);
            fault = sym (no_stop_counted more (none_more before more t.0));
          }
      step (Err NoMemory) s e = record {
        seen = s.seen;
        told = false;
        run = without_memory asks replies s.seen ask (on s (going s e.1.history e.1.entries));
        within = omega (arith, s.within, grows);
        whole = λ x. absurd (let y = x in cc);
        stop = tt;
        clean = inl (none_more before more e.0);
        fault = sym (no_stop_counted more (none_more before more e.0));
      }

    -- the same entry, after one more ask
    cut_more : (asks : List Asked) (replies : Replies) (ask : Asked) (reply : Result Reply StoreFault) → CutOff asks replies →
        CutOff (asks ++ ask ∷ []) (replies ++ reply ∷ [])
    cut_more asks replies ask reply c = record {
      entry = c.entry;
      is = c.is;
      by = record {
        place = c.by.place;
        told = get_front replies (reply ∷ []) c.by.place (Err DiskFault) c.by.told;
        ask = c.by.ask;
        asked = get_front asks (ask ∷ []) c.by.place c.by.ask c.by.asked;
        seconds = c.by.seconds;
        reading = c.by.reading;
        made = c.by.made;
      };
    }

    -- the entry of the last ask
    cut_here : (asks : List Asked) (replies : Replies) (ask : Asked) (reply : Result Reply StoreFault) → length replies ≡ length
        asks → Tore ask reply → CutOff (asks ++ ask ∷ []) (replies ++ reply ∷ [])
    cut_here asks replies ask reply even t = record {
      entry = t.entry;
      is = t.is;
      by = record {
        place = length replies;
        told = subst (λ (r : Result Reply StoreFault). slice_get (replies ++ reply ∷ []) (length replies) ≡ Some r) t.told
            (get_last replies reply);
        ask = ask;
        asked = subst (λ (n : ℕ). slice_get (asks ++ ask ∷ []) n ≡ Some ask) (sym even) (get_last asks ask);
        seconds = t.seconds;
        reading = t.reading;
        made = t.made;
      };
    }

    clean_more : (asks : List Asked) (replies : Replies) (ask : Asked) (reply : Result Reply StoreFault) (own : List (ℕ × Item))
        (place : ℕ) (more : List Item) → length replies ≡ length asks → IsClean own ⊎ CutOff asks replies →
        AllByRecursion (λ (x : Item). is_stop x ≡ false) more ⊎ Tore ask reply →
        IsClean (own ++ enumerate_from place more) ⊎ CutOff (asks ++ ask ∷ []) (replies ++ reply ∷ [])
    clean_more asks replies ask reply own place more even (inr cut) any = inr (cut_more asks replies ask reply cut)
    clean_more asks replies ask reply own place more even (inl clean) (inr tore) = inr (cut_here asks replies ask reply even tore)
    clean_more asks replies ask reply own place more even (inl clean) (inl none) = inl (each_append
        (λ (z : ℕ × Item). is_stop z.1 ≡ false) own (enumerate_from place more) clean
        (each_placed (λ (x : Item). is_stop x ≡ false) place more none))

    -- one more answer, and what the till owns with what it added
    faults_more : (replies : Replies) (reply : Result Reply StoreFault) (own : List (ℕ × Item)) (place : ℕ) (more : List Item) →
        count_by is_own_fault replies ≡ stops_owned own → cond (is_own_fault reply) 1 0 ≡ count_by is_stop more →
        count_by is_own_fault (replies ++ reply ∷ []) ≡ stops_owned (own ++ enumerate_from place more)
    faults_more replies reply own place more before here =
        let told = sum_by_push (λ (r : Result Reply StoreFault). cond (is_own_fault r) 1 0) replies reply in
        let owned = sum_by-append (λ (z : ℕ × Item). cond (is_stop z.1) 1 0) own (enumerate_from place more) in
        let placed = placed_stops place more in
        omega (arith, before, here, told, owned, placed)

    one_more : (asks : List Asked) (replies : Replies) (ask : Asked) (reply : Result Reply StoreFault)
        (old new : Known Item (Root C)) → Asks coming ask reply old new → StartsWith log new.seen →
        SoFar asks replies old → SoFar (asks ++ ask ∷ []) (replies ++ reply ∷ []) new
    one_more asks replies ask reply old new t whole s =
        let same : Some root ≡ Some t.home = sym s.home ∙ t.root in
        let is : t.home ≡ root = (let e = same in cc) in
        let seen : new.seen ≡ t.before ++ t.added = ap (λ (k : Known Item (Root C)). k.seen) t.after in
        let reaches : StartsWith log (t.before ++ t.added) = subst (λ (l : List Item). StartsWith log l) seen whole in
        let does : TillDoes coming ask reply root t.before (t.before ++ t.added) =
        subst (λ (r : Root C). TillDoes coming ask reply r t.before (t.before ++ t.added)) is t.related.does in
        let next = step asks replies ask old t.before t.added t.begins reaches reply s does in
        record {
          seen = next.seen;
          told = next.told;
          run = next.run;
          within = subst (λ (l : List Item). next.seen ≤ length l) (sym seen) next.within;
          home = ap (λ (k : Known Item (Root C)). k.root) t.after ∙ s.home;
          least = ap (λ (k : Known Item (Root C)). k.least) t.after ∙ ap (λ (l : List Item). length l) (sym seen);
          whole = λ e. subst (λ (l : List Item). length end < length l) (sym seen) (next.whole e);
          stops = each_snoc (StopTold stopped) replies reply s.stops next.stop;
          even = (let a = length-append replies (reply ∷ []) in let b = length-append asks (ask ∷ []) in
              omega (arith, s.even, a, b));
          clean = subst (λ (k : Known Item (Root C)). IsClean k.own ⊎ CutOff (asks ++ ask ∷ []) (replies ++ reply ∷ []))
              (sym t.after) (clean_more asks replies ask reply old.own (length t.before) t.added s.even s.clean next.clean);
          faults = subst (λ (k : Known Item (Root C)). count_by is_own_fault (replies ++ reply ∷ []) ≡ stops_owned k.own)
              (sym t.after) (faults_more replies reply old.own (length t.before) t.added s.faults next.fault);
        }

    seen_before : (ask : Asked) (reply : Result Reply StoreFault) (old new : Known Item (Root C)) →
        Asks coming ask reply old new → StartsWith log new.seen → StartsWith log old.seen
    seen_before ask reply old new t whole =
        starts_trans log new.seen old.seen whole (subst (λ (l : List Item). StartsWith l old.seen)
        (sym (ap (λ (k : Known Item (Root C)). k.seen) t.after)) (starts_trans (t.before ++ t.added) t.before old.seen
        (t.added, refl) t.begins))

    pub so_far : (old new : Known Item (Root C)) (asks : List Asked) (replies : Replies) →
        length root.history ≤ length old.seen → old.root ≡ Some root → old.least ≡ length old.seen → old.own ≡ [] →
        StartsWith log new.seen → Asking coming old asks replies new →
        SoFar asks replies new
    so_far old new asks replies low home least bare whole begun = record {
      seen = length root.history;
      told = false;
      run = unasked;
      within = low;
      home = home;
      least = least;
      whole = λ e. absurd (let x = e in cc);
      stops = tt;
      even = refl;
      clean = inl (subst (λ (o : List (ℕ × Item)). IsClean o) (sym bare) tt);
      faults = sym (ap (λ (o : List (ℕ × Item)). stops_owned o) bare);
    }
    so_far old new asks' replies' low home least bare whole (asked asks replies mid _ ask reply run this) =
        one_more asks replies ask reply mid new this whole (so_far old mid asks replies low home least bare
        (seen_before ask reply mid new this whole) run)
