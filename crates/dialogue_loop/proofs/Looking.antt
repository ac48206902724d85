-- A dialogue's looks, one turn further.
use Rattle.std.proofs.Common.{◌≡◌, ◌∙◌, ℕ, zero, suc, ◌+◌, ◌-◌, ◌<◌, ◌≤◌, List, [], ◌∷◌, ◌++◌, length, map, refl, ap, sym, subst, arith}
use Rattle.std.proofs.Common.{Bool, true, false, cond, Option, Some, None, Result, Ok, Err, append-nil, append_assoc, length-append, take, drop}
use Rattle.std.proofs.Common.{All, get_or, slice_get}
use Rattle.std.proofs.Math.ListN.{set}
use Rattle.std.proofs.Math.Seq.{drop-append_seam, take-add, take-append_seam, take-length}
use Rattle.std.proofs.lemmas.List.{get_or_append_left, length-map, length-set, take-append-drop, take-append-le}
use Rattle.std.proofs.lemmas.List.Elements.{filter_map-append}
use Rattle.std.proofs.lemmas.Option.{slice_get-get_or, slice_get_within}
use Rattle.std.specs.List.{AllByRecursion, enumerate_from, find}
use Rattle.std.specs.Prelude.{option_map}
use Rattle.std.specs.Option.{option_map_or}
use Rattle.chain_lock.specs.Known.{Fits, IsNew, Known}
use Rattle.chain_lock.specs.Lists.{StartsWith}
use Rattle.chain_store.specs.Readings.{readings}
use Rattle.chain_store.specs.Replies.{Replies}
use Rattle.dialogue.specs.Protocol.{Look}
use Rattle.journal.specs.declared.faults.StoreFault.{StoreFault}
use Rattle.record_codec.specs.declared.entry.Entry.{Entry}
use Rattle.record_codec.specs.declared.entry.Entry.TheVariants.{Rec, Notes}
use Rattle.record_fields.specs.declared.versions.Version.{Version}
use Rattle.shop_core.specs.Answer.Making.{made_sealed}
use Rattle.shop_core.specs.Answer.Plans.{answer, kept, kept_row}
use Rattle.shop_core.specs.Answer.Refusals.{refusal}
use Rattle.shop_core.specs.Answer.Replies.{Tells}
use Rattle.shop_core.specs.Answer.Requests.{Asked}
use Rattle.shop_core.specs.History.{Row, receipt, recs, rows}
use Rattle.shop_core.specs.Items.{entries_of, entry_in}
use Rattle.shop_core.specs.declared.answer.Planned.{Planned}
use Rattle.shop_core.specs.declared.answer.Planned.TheVariants as planned
use Rattle.shop_core.specs.declared.answer.Reply.{Reply}
use Rattle.shop_core.specs.declared.answer.Reply.TheVariants as reply
use Rattle.shop_core.specs.declared.answer.receipts.Receipt.{Receipt}
use Rattle.shop_core.specs.declared.items.Item.{Item}
use Rattle.shop_core.specs.declared.items.Item.TheVariants as item
use Rattle.till_calls.specs.Root.{Root}
use Rattle.ports.specs.Readings.{IsTold}
use Rattle.ports.specs.declared.faults.NoMemory.{NoMemory as NoRoom}
use Rattle.questions.specs.Answers.{IsAnswer}
use Rattle.questions.specs.declared.questions.TillQuestion.{TillQuestion}
use Rattle.till_calls.specs.Seen.{Looks, SeesOn}
use Rattle.till_calls.specs.Shop.{Asks}
use Rattle.till_calls.specs.Turns.{TillDoes}
use Rattle.shop_core.specs.declared.answer.refusals.Refusal.{Refusal}
use Rattle.dialogue_loop.specs.Looked.{AreLooked, AreLookedAt, FirstLooked, Informed, IsWithin, LookedFor, LookedOn, Rise, RunKnown}
use Rattle.dialogue_loop.specs.Looked.{RunsAt, SeesTold, items_at, records_in}
use Rattle.dialogue_loop.specs.OneRun.{AnswersAmong, LooksAmong, RunsAmong, StandsAmong, is_taken, taken_in}
use Rattle.dialogue_loop.proofs.OneRun.{none_runs, records_start, recs_both, reply_gains, runs_asked, runs_looked, runs_more}

-- lists that begin with one another
starts_trans : {A : Type 0} (a b c : List A) → StartsWith a b → StartsWith b c → StartsWith a c
starts_trans a b c h k = (k.0 ++ h.0, h.1 ∙ ap (λ (l : List _). l ++ h.0) k.1 ∙ append_assoc c k.0 h.0)

pub starts_self : {A : Type 0} (a : List A) → StartsWith a a
starts_self a = ([], sym (append-nil a))

-- the entries of items, and the records among them
pub entries_both : (xs ys : List Item) → entries_of (xs ++ ys) ≡ entries_of xs ++ entries_of ys
entries_both xs ys = filter_map-append entry_in xs ys

pub entries_start : (a b : List Item) → StartsWith a b → StartsWith (entries_of a) (entries_of b)
entries_start a b h = (entries_of h.0, ap entries_of h.1 ∙ entries_both b h.0)

entries_back : (es : List Entry) → entries_of (map item.Entry es) ≡ es
entries_back [] = refl
entries_back (e ∷ es) = ap (λ (l : List Entry). e ∷ l) (entries_back es)

-- more items have no fewer records
records_more : (n m : ℕ) (log : List Item) → n ≤ m → records_in n log ≤ records_in m log
records_more n m log h =
    let more : n + (m - n) ≡ m = omega (arith, h) in
    let e : take m log ≡ take n log ++ take (m - n) (drop n log) = ap (λ (k : ℕ). take k log) (sym more) ∙ take-add n (m - n) log in
    records_start (entries_of (take m log)) (entries_of (take n log))
    (entries_start (take m log) (take n log) (take (m - n) (drop n log), e))

take_front : (log seen : List Item) → StartsWith log seen → take (length seen) log ≡ seen
take_front log seen h = ap (λ (l : List Item). take (length seen) l) h.1 ∙ take-append_seam seen h.0

-- a front of a list begins with each shorter one
both_fronts : (log a b : List Item) → StartsWith log a → StartsWith log b → length b ≤ length a → StartsWith a b
both_fronts log a b h k low =
    let e : take (length b) a ≡ b = sym (take-append-le (length b) a h.0 low) ∙ ap (λ (l : List Item). take (length b) l) (sym h.1) ∙
    take_front log b k in
    (drop (length b) a, sym (take-append-drop (length b) a) ∙ ap (λ (l : List Item). l ++ drop (length b) a) e)

records_all : (n : ℕ) (log : List Item) → records_in n log ≤ length (recs (entries_of log))
records_all n log = records_start (entries_of log) (entries_of (take n log))
    (entries_start log (take n log) (drop n log, sym (take-append-drop n log)))

within_more : (n m : ℕ) (told : Result Reply StoreFault) → n ≤ m → IsWithin n told → IsWithin m told
within_more n m (Ok (reply.Taken r)) h w = omega (arith, h, w)
within_more n m (Ok (reply.Again r)) h w = omega (arith, h, w)
within_more n m (Ok (reply.Refused why)) h w = tt
within_more n m (Err e) h w = tt

all_within_more : (n m : ℕ) (replies : Replies) → n ≤ m → AllByRecursion (IsWithin n) replies → AllByRecursion (IsWithin m) replies
all_within_more n m [] h w = tt
all_within_more n m (told ∷ replies) h w = (within_more n m told h w.0, all_within_more n m replies h w.1)

all_push : {A : Type 0} (P : A → Type 0) (xs : List A) (x : A) → AllByRecursion P xs → P x → AllByRecursion P (xs ++ x ∷ [])
all_push P [] x h p = (p, tt)
all_push P (y ∷ xs) x h p = (h.0, all_push P xs x h.1 p)

-- one reply more, and one look more
told_on : (replies : Replies) (told : Result Reply StoreFault) (look : Look) → SeesTold replies look →
    SeesTold (replies ++ told ∷ []) look
told_on replies told look h = record {
  before = (let a = h.before in let e = length-append replies (told ∷ []) in omega (arith, a, e));
  within = subst (λ (rs : Replies). AllByRecursion (IsWithin (length (recs look.history))) rs)
      (sym (take-append-le look.after replies (told ∷ []) h.before)) h.within;
}

all_told_on : (replies : Replies) (told : Result Reply StoreFault) (looks : List Look) → AllByRecursion (SeesTold replies) looks →
    AllByRecursion (SeesTold (replies ++ told ∷ [])) looks
all_told_on replies told [] h = tt
all_told_on replies told (look ∷ looks) h = (told_on replies told look h.0, all_told_on replies told looks h.1)

rise_on : (start end : List Entry) (looks : List Look) (look : Look) → Rise start looks look.history → StartsWith end look.history →
    Rise start (looks ++ look ∷ []) end
rise_on start end [] look h s = (h, s)
rise_on start end (l ∷ looks) look h s = (h.0, rise_on l.history end looks look h.1 s)

slice_set_same : {A : Type 0} (xs : List A) (i : ℕ) (x : A) → i < length xs → slice_get (set xs i x) i ≡ Some x
slice_set_same [] i x l = absurd (omega (arith, l))
slice_set_same (y ∷ xs) zero x l = refl
slice_set_same (y ∷ xs) (suc i) x l = slice_set_same xs i x (omega (arith, l))

one_of : {A : Type 0} (P : A → Type 0) (xs : List A) (i : ℕ) (x : A) → slice_get xs i ≡ Some x → AllByRecursion P xs → P x
one_of P [] i x at h = absurd (let e = at in cc)
one_of P (y ∷ xs) zero x at h = subst P (let e : y ≡ x = (let f = at in cc) in e) h.0
one_of P (y ∷ xs) (suc i) x at h = one_of P xs i x at h.1

all_front : {A : Type 0} (P : A → Type 0) (xs ys : List A) → All P (xs ++ ys) → All P xs
all_front P xs ys h = λ i d l.
    subst P (get_or_append_left xs ys d i l) (h i d (let e = length-append xs ys in omega (arith, e, l)))

-- What a pass knows more of: the same shop, a list that begins with what was seen, and as many items or more. A list that fits it fits
-- what was known.
pub record KnowsMore {C : Type 0} (old new : Known Item (Root C)) : Type 0 where
  pub root : new.root ≡ old.root
  pub begins : StartsWith new.seen old.seen
  pub at_least : old.least ≤ new.least
  pub fits : (log : List Item) → Fits log new → Fits log old

abbrev Pass : Type 0 → Type 0
Pass C = Known Item (Root C)

module _ {C : Type 0} where
  more_self : (k : Pass C) → KnowsMore k k
  more_self k = record { root = refl; begins = starts_self k.seen; at_least = omega arith; fits = λ log f. f }

  more_trans : (a b c : Pass C) → KnowsMore a b → KnowsMore b c → KnowsMore a c
  more_trans a b c h k = record {
    root = k.root ∙ h.root;
    begins = starts_trans c.seen b.seen a.seen k.begins h.begins;
    at_least = (let x = h.at_least in let y = k.at_least in omega (arith, x, y));
    fits = λ log f. h.fits log (k.fits log f);
  }

  -- who has seen on
  pub more_seen : ((log : List Item) (old new : Pass C) → SeesOn old new → Fits log new → Fits log old) → (old new : Pass C) →
      SeesOn old new → KnowsMore old new
  more_seen law old new s = record {
    root = ap (λ (k : Pass C). k.root) s.same;
    begins = s.begins;
    at_least = s.at_least;
    fits = λ log f. law log old new s f;
  }

  -- all tills know more
  abbrev pub AllMore : List (Pass C) → List (Pass C) → Type 0
  AllMore [] [] = Unit {0}
  AllMore (old ∷ olds) (new ∷ news) = KnowsMore old new × AllMore olds news
  AllMore _ _ = ⊥

  all_self : (ks : List (Pass C)) → AllMore ks ks
  all_self [] = tt
  all_self (k ∷ ks) = (more_self k, all_self ks)

  all_trans : (olds mids news : List (Pass C)) → AllMore olds mids → AllMore mids news → AllMore olds news
  all_trans [] [] [] h k = tt
  all_trans [] [] (new ∷ news) h k = absurd k
  all_trans [] (mid ∷ mids) news h k = absurd h
  all_trans (old ∷ olds) [] news h k = absurd h
  all_trans (old ∷ olds) (mid ∷ mids) [] h k = absurd k
  all_trans (old ∷ olds) (mid ∷ mids) (new ∷ news) h k = (more_trans old mid new h.0 k.0, all_trans olds mids news h.1 k.1)

  -- one of them does
  pub one_more : (olds : List (Pass C)) (place : ℕ) (old new : Pass C) → slice_get olds place ≡ Some old → KnowsMore old new →
      AllMore olds (set olds place new)
  one_more [] place old new at h = absurd (let x = at in cc)
  one_more (k ∷ olds) zero old new at h = (subst (λ (j : Pass C). KnowsMore j new) (let e : old ≡ k = (let x = at in cc) in e) h, all_self olds)
  one_more (k ∷ olds) (suc place) old new at h = (more_self k, one_more olds place old new at h)

  all_fit : (olds news : List (Pass C)) (log : List Item) → AllMore olds news → AllByRecursion (Fits log) news → AllByRecursion (Fits log) olds
  all_fit [] [] log h f = tt
  all_fit [] (new ∷ news) log h f = absurd h
  all_fit (old ∷ olds) [] log h f = absurd h
  all_fit (old ∷ olds) (new ∷ news) log h f = (h.0.fits log f.0, all_fit olds news log h.1 f.1)

  one_fits : (ks : List (Pass C)) (place : ℕ) (k : Pass C) (log : List Item) → slice_get ks place ≡ Some k → AllByRecursion (Fits log) ks →
      Fits log k
  one_fits ks place k log at f = one_of (Fits log) ks place k at f

  -- the same till before
  record Before (olds : List (Pass C)) (place : ℕ) (new : Pass C) : Type 0 where
    old : Pass C
    at : slice_get olds place ≡ Some old
    more : KnowsMore old new

  before_of : (olds news : List (Pass C)) (place : ℕ) (new : Pass C) → AllMore olds news → slice_get news place ≡ Some new → Before olds place new
  before_of [] [] place new h at = absurd (let x = at in cc)
  before_of [] (n ∷ news) place new h at = absurd h
  before_of (o ∷ olds) [] place new h at = absurd h
  before_of (o ∷ olds) (n ∷ news) zero new h at = record {
    old = o;
    at = refl;
    more = subst (λ (k : Pass C). KnowsMore o k) (let e : n ≡ new = (let x = at in cc) in e) h.0;
  }
  before_of (o ∷ olds) (n ∷ news) (suc place) new h at = let b = before_of olds news place new h.1 at in
      record { old = b.old; at = b.at; more = b.more }

  -- a till that was told
  pub informed_more : ((log : List Item) (old new : Pass C) → SeesOn old new → Fits log new → Fits log old) → (olds news : List (Pass C))
      (by place : ℕ) → Informed olds by place news → place < length olds → AllMore olds news
  informed_more law [] news by place informed within = absurd (omega (arith, within))
  informed_more law (d ∷ ks) news by place informed within =
      let old : Pass C = get_or (d ∷ ks) place d in
      let at : slice_get (d ∷ ks) place ≡ Some old = slice_get-get_or (d ∷ ks) place d within in
      subst (λ (l : List (Pass C)). AllMore (d ∷ ks) l) (sym informed.only)
      (one_more (d ∷ ks) place old informed.now at (more_seen law old informed.now (informed.sees old at)))

  roots_more : (olds news : List (Pass C)) (root : Root C) → AllMore olds news →
      AllByRecursion (λ (k : Pass C). k.root ≡ Some root) olds → AllByRecursion (λ (k : Pass C). k.root ≡ Some root) news
  roots_more [] [] root h r = tt
  roots_more [] (new ∷ news) root h r = absurd h
  roots_more (old ∷ olds) [] root h r = absurd h
  roots_more (old ∷ olds) (new ∷ news) root h r = (h.0.root ∙ r.0, roots_more olds news root h.1 r.1)

module _ {C : Type 0} (coming : C → ℕ → Option ℕ) (from : List (Pass C)) (asks : List Asked) where
  -- where all know more, the looks are as they were
  module _ (replies : Replies) (looks : List Look) (olds news : List (Pass C)) (more : AllMore olds news)
      (h : LookedOn coming from asks replies looks olds) (first : Pass C) (at : slice_get news 63 ≡ Some first) where
    was : Before olds 63 first
    was = before_of olds news 63 first more at

    then : FirstLooked coming from asks replies looks olds was.old
    then = h was.old was.at

    pub kept_first : FirstLooked coming from asks replies looks news first
    kept_first = record {
      rise = λ root list is starts begins. then.rise root list (sym was.more.root ∙ is)
          (starts_trans list first.seen was.old.seen starts was.more.begins) begins;
      told = λ log fit. then.told log (all_fit olds news log more fit);
      within = λ log fit. all_within_more (records_in was.old.least log) (records_in first.least log) replies
          (records_more was.old.least first.least log was.more.at_least) (then.within log (all_fit olds news log more fit));
      run = λ root log fresh fit begins.
          let k = then.run root log fresh (all_fit olds news log more fit) begins in
          record {
            roots = roots_more olds news root more k.roots;
            least = (let a = k.least in let b = was.more.at_least in omega (arith, a, b));
            runs = runs_more root.version root.issuer (coming root.clock) root.history (entries_of log) asks replies looks
                (records_in was.old.least log) (records_in first.least log)
                (records_more was.old.least first.least log was.more.at_least) k.runs;
          };
    }

  pub looked_kept : (replies : Replies) (looks : List Look) (olds news : List (Pass C)) → AllMore olds news →
      LookedOn coming from asks replies looks olds → LookedOn coming from asks replies looks news
  looked_kept replies looks olds news more h = λ first at. kept_first replies looks olds news more h first at

  -- one look more, of the first till: at the history of all that it has seen
  module _ (replies : Replies) (looks : List Look) (news : List (Pass C)) (now : Pass C) (at : slice_get news 63 ≡ Some now)
      (all : now.least ≡ length now.seen) (home : Root C) (is_home : now.root ≡ Some home)
      (begins : StartsWith (entries_of now.seen) home.history) (h : LookedOn coming from asks replies looks news) where
    abbrev look : Look
    look = record { after = length replies; history = entries_of now.seen }

    all_seen : (log : List Item) → StartsWith log now.seen → take now.least log ≡ now.seen
    all_seen log starts = ap (λ (n : ℕ). take n log) all ∙ take_front log now.seen starts

    seen_told : (log : List Item) → AllByRecursion (Fits log) news → SeesTold replies look
    seen_told log fit =
        let f = one_fits news 63 now log at fit in
        let t = h now at in
        let e : take now.least log ≡ now.seen = all_seen log f.begins in
        record {
          before = omega arith;
          within = subst (λ (rs : Replies). AllByRecursion (IsWithin (length (recs (entries_of now.seen)))) rs) (sym (take-length replies))
              (subst (λ (l : List Item). AllByRecursion (IsWithin (length (recs (entries_of l)))) replies) e (t.within log fit));
        }

    -- it stands behind all that was asked so far
    look_stands : (root : Root C) (log : List Item) → AllByRecursion (Fits log) news → RunKnown coming asks replies looks news now root log →
        LooksAmong root.history (entries_of log) replies (records_in now.least log) look
    look_stands root log fit k =
        let f = one_fits news 63 now log at fit in
        let count : records_in now.least log ≡ length (recs (entries_of now.seen)) =
        ap (λ (l : List Item). length (recs (entries_of l))) (all_seen log f.begins) in
        let is : now.root ≡ Some root = one_of (λ (j : Pass C). j.root ≡ Some root) news 63 now at k.roots in
        let same : home ≡ root = (let x = sym is_home ∙ is in cc) in
        let none : drop (length replies) replies ≡ [] =
        ap (λ (rs : Replies). drop (length replies) rs) (sym (append-nil replies)) ∙ drop-append_seam replies [] in
        let es : List Entry = entries_of now.seen in
        let stands : StandsAmong root.history (entries_of log) replies [] (records_in now.least log) es [] = record {
          starts = subst (λ (r : Root C). StartsWith es r.history) same begins;
          ends = subst (λ (l : List Entry). StartsWith (entries_of log) l) (sym (append-nil es)) (entries_start log now.seen f.begins);
          no_fewer = (let a = k.runs.all in omega (arith, a, count));
          no_more = (let e : length (recs (es ++ [])) ≡ length (recs es) = ap (λ (l : List Entry). length (recs l)) (append-nil es) in
              omega (arith, e, count));
        } in
        record {
          before = omega arith;
          stands = subst (λ (rs : Replies). StandsAmong root.history (entries_of log) rs (drop (length replies) replies)
              (records_in now.least log) es []) (sym (take-length replies))
              (subst (λ (rs : Replies). StandsAmong root.history (entries_of log) replies rs (records_in now.least log) es [])
              (sym none) stands);
        }

    first_looks : FirstLooked coming from asks replies (looks ++ look ∷ []) news now
    first_looks =
        let t = h now at in
        record {
          rise = λ root list is starts from. rise_on root.history (entries_of list) looks look
              (t.rise root now.seen is (starts_self now.seen) (let e : home ≡ root = (let x = sym is_home ∙ is in cc) in
              subst (λ (r : Root C). StartsWith (entries_of now.seen) r.history) e begins))
              (entries_start list now.seen starts);
          told = λ log fit. all_push (SeesTold replies) looks look (t.told log fit) (seen_told log fit);
          within = t.within;
          run = λ root log fresh fit starts.
              let k = t.run root log fresh fit starts in
              record {
                roots = k.roots;
                least = k.least;
                runs = runs_looked root.version root.issuer (coming root.clock) root.history (entries_of log) asks replies looks
                    (records_in now.least log) look (look_stands root log fit k) k.runs;
              };
        }

    pub looked_more : LookedOn coming from asks replies (looks ++ look ∷ []) news
    looked_more = λ first is. subst (λ (k : Pass C). FirstLooked coming from asks replies (looks ++ look ∷ []) news k)
        (let e : now ≡ first = (let x = sym at ∙ is in cc) in e) first_looks

-- the place of a receipt that is kept
found_within : (p : ℕ × Row → Bool) (n : ℕ) (xs : List Row) (q : ℕ × Row) → find p (enumerate_from n xs) ≡ Some q → q.0 < n + length xs
found_within p n [] q e = absurd (let x = e in cc)
found_within p n (x ∷ xs) q e = by_test (p (n, x)) refl (λ f. found_within p (n + 1) xs q f)
  where
    by_test : (b : Bool) → p (n, x) ≡ b → (find p (enumerate_from (n + 1) xs) ≡ Some q → q.0 < n + 1 + length xs) →
        q.0 < n + length (x ∷ xs)
    by_test true is inner =
        let same : Some (n, x) ≡ Some q = (let f = rw is at e in f) in
        let here : (n, x) ≡ q = cc in
        let number : n ≡ q.0 = ap (λ (y : ℕ × Row). y.0) here in
        omega (arith, number)
    by_test false is inner = let more = inner (rw is at e) in omega (arith, more)

kept_within : (entries : List Entry) (till serial : ℕ) (r : Receipt) → kept entries till serial ≡ Some r → r.place ≤ length (recs entries)
kept_within entries till serial r e = by_row (kept_row entries till serial) refl e
  where
    by_row : (o : Option (ℕ × Row)) → kept_row entries till serial ≡ o →
        option_map (λ (p : ℕ × Row). receipt p.0 p.1.sealed) o ≡ Some r → r.place ≤ length (recs entries)
    by_row None is f = absurd (let x = f in cc)
    by_row (Some q) is f =
        let w = found_within _ 1 (rows entries) q is in
        let n = length-map (rows entries) (λ (x : Row). x.sealed) in
        let same : receipt q.0 q.1.sealed ≡ r = (let x = f in cc) in
        let place : q.0 ≡ r.place = ap (λ (x : Receipt). x.place) same in
        omega (arith, w, n, place)

-- where the answer is a receipt that is kept, its record is one of the history
abbrev AgainWithin : List Entry → Planned → Type 0
AgainWithin entries (planned.Again r) = r.place ≤ length (recs entries)
AgainWithin entries (planned.Refused why) = Unit {0}
AgainWithin entries (planned.Made entry) = Unit {0}

answer_within : (version : Version) (issuer : List ℕ) (entries : List Entry) (ask : Asked) (seconds : ℕ) →
    AgainWithin entries (answer version issuer entries ask seconds)
answer_within version issuer entries ask seconds = by_kept (kept entries ask.till ask.serial) refl
  where
    made : Planned
    made = planned.Made (Rec ask.till ask.serial (made_sealed issuer entries ask.request seconds))

    by_refusal : (o : Option Refusal) → AgainWithin entries (option_map_or planned.Refused o made)
    by_refusal None = tt
    by_refusal (Some why) = tt

    by_kept : (o : Option Receipt) → kept entries ask.till ask.serial ≡ o →
        AgainWithin entries (option_map_or planned.Again o (option_map_or planned.Refused (refusal version issuer entries ask seconds) made))
    by_kept None is = by_refusal (refusal version issuer entries ask seconds)
    by_kept (Some r) is = kept_within entries ask.till ask.serial r is

-- a record that a reply tells is one of the history afterwards
reply_within : (entries gained : List Entry) (p : Planned) (told : Reply) → AgainWithin entries p → Tells entries p told gained →
    IsWithin (length (recs (entries ++ gained))) (Ok told)
reply_within entries gained (planned.Again r) told w h =
    subst (λ (t : Reply). IsWithin (length (recs (entries ++ gained))) (Ok t)) (sym h.0)
    (let more = records_start (entries ++ gained) entries (gained, refl) in omega (arith, more, w))
reply_within entries gained (planned.Refused why) told w h =
    subst (λ (t : Reply). IsWithin (length (recs (entries ++ gained))) (Ok t)) (sym h.0) tt
reply_within entries gained (planned.Made (Rec till serial sealed)) told w h =
    subst (λ (t : Reply). IsWithin (length (recs (entries ++ gained))) (Ok t)) (sym h.0)
    (let e : length (recs (entries ++ gained)) ≡ length (recs entries ++ sealed ∷ []) =
    ap (λ (l : List Entry). length (recs (entries ++ l))) h.1 ∙ ap length (recs_both entries (Rec till serial sealed ∷ [])) in
    let f = length-append (recs entries) (sealed ∷ []) in omega (arith, e, f))
reply_within entries gained (planned.Made (Notes first lines)) told w h = absurd h.0

-- one ask, at this reading
module _ {C : Type 0} (coming : ℕ → Option ℕ) (seconds : ℕ) (ask : Asked) where
  -- Where a turn stands in a list: behind all that this many items have, and before all that is known then.
  record TurnStands (told : Result Reply StoreFault) (root : Root C) (log : List Item) (replies : Replies) (known then : ℕ) : Type 0
    where
      up : records_in known log + cond (is_taken told) 1 0 ≤ then
      answers : (reply : Reply) → told ≡ Ok reply → AnswersAmong root.version root.issuer coming root.history
          (entries_of log) replies [] then ask reply

  turn_stands : (told : Result Reply StoreFault) (old new : Known Item (Root C)) (root : Root C) (log : List Item) (replies : Replies)
      (known then : ℕ) → IsTold (coming (readings replies)) seconds → Asks (λ c k. Some seconds) ask told old new → old.root ≡ Some root → StartsWith log new.seen → StartsWith log (items_at root) →
      length root.history ≤ known → known ≤ old.least → length (recs root.history) + taken_in replies ≤ records_in known log →
      records_in new.least log ≤ then → TurnStands told root log replies known then
  turn_stands (Err e) old new root log replies known then read t is starts begins base low all high = record {
    up = (let a : new.least ≡ length (t.before ++ t.added) = ap (λ (k : Known Item (Root C)). k.least) t.after in
        let b = length-append t.before t.added in let c = t.at_least in
        let more = records_more known new.least log (omega (arith, a, b, c, low)) in omega (arith, more, high));
    answers = λ reply is. absurd (let x = is in cc);
  }
  turn_stands (Ok told) old new root log replies known then read t is starts begins base low all high =
      let home : t.home ≡ root = (let x = sym t.root ∙ is in cc) in
      let does : TillDoes (λ c k. Some seconds) ask (Ok told) root t.before (t.before ++ t.added) =
      subst (λ (r : Root C). TillDoes (λ c k. Some seconds) ask (Ok told) r t.before (t.before ++ t.added)) home t.related.does in
      let history : List Entry = does.history in
      let after : List Entry = history ++ does.gained in
      let saw : new.seen ≡ t.before ++ t.added = ap (λ (k : Known Item (Root C)). k.seen) t.after in
      let seen : new.seen ≡ map item.Entry after = saw ∙ does.after_is in
      let front : StartsWith log t.before = starts_trans log new.seen t.before starts (t.added, saw) in
      let count : records_in (length t.before) log ≡ length (recs history) =
      ap (λ (l : List Item). length (recs (entries_of l))) (take_front log t.before front ∙ does.going_on) ∙
      ap (λ (l : List Entry). length (recs l)) (entries_back history) in
      let long : new.least ≡ length new.seen = ap (λ (k : Known Item (Root C)). k.least) t.after ∙
      ap (λ (k : Known Item (Root C)). length k.seen) (sym t.after) in
      let count_after : records_in new.least log ≡ length (recs after) =
      ap (λ (n : ℕ). records_in n log) long ∙ ap (λ (l : List Item). length (recs (entries_of l))) (take_front log new.seen starts ∙ seen) ∙
      ap (λ (l : List Entry). length (recs l)) (entries_back after) in
      let reach : known ≤ length t.before = (let a = t.at_least in omega (arith, a, low)) in
      let more = records_more known (length t.before) log reach in
      let gains = reply_gains history does.gained (answer root.version root.issuer history ask does.seconds) told does.tells in
      let first : StartsWith t.before (items_at root) = both_fronts log t.before (items_at root) front begins
      (let e = length-map root.history (λ (x : Entry). item.Entry x) in omega (arith, e, base, reach)) in
      let begun : StartsWith history root.history =
      subst (λ (l : List Entry). StartsWith l root.history) (ap entries_of does.going_on ∙ entries_back history)
      (subst (λ (l : List Entry). StartsWith (entries_of t.before) l) (entries_back root.history)
      (entries_start t.before (items_at root) first)) in
      let ends : StartsWith (entries_of log) after =
      subst (λ (l : List Entry). StartsWith (entries_of log) l) (ap entries_of seen ∙ entries_back after)
      (entries_start log new.seen starts) in
      record {
        up = omega (arith, more, count, gains, count_after, high);
        answers = λ reply is.
            let same : told ≡ reply = (let x = is in cc) in
            subst (λ (r : Reply). AnswersAmong root.version root.issuer coming root.history (entries_of log) replies []
            then ask r) same (record {
              history = history;
              gained = does.gained;
              stands = record {
                starts = begun;
                ends = ends;
                no_fewer = omega (arith, all, more, count);
                no_more = omega (arith, count_after, high);
              };
              seconds = does.seconds;
              reading = subst (λ (s : ℕ). IsTold (coming (readings replies)) s) (sym does.reading.told) read;
              tells = does.tells;
            });
      }

  -- what a till that asked knows more of
  pub more_asked : (told : Result Reply StoreFault) (old new : Known Item (Root C)) → Asks (λ c k. Some seconds) ask told old new → KnowsMore old new
  more_asked told old new t = record {
    root = ap (λ (k : Known Item (Root C)). k.root) t.after;
    begins = (let e : new.seen ≡ t.before ++ t.added = ap (λ (k : Known Item (Root C)). k.seen) t.after in
        starts_trans new.seen t.before old.seen (t.added, e) t.begins);
    at_least = (let e : new.least ≡ length (t.before ++ t.added) = ap (λ (k : Known Item (Root C)). k.least) t.after in
        let f = length-append t.before t.added in let a = t.at_least in omega (arith, e, f, a));
    fits = λ log f. record {
      begins = (let e : new.seen ≡ t.before ++ t.added = ap (λ (k : Known Item (Root C)). k.seen) t.after in
          starts_trans log new.seen old.seen f.begins (starts_trans new.seen t.before old.seen (t.added, e) t.begins));
      at_least = (let e : new.least ≡ length (t.before ++ t.added) = ap (λ (k : Known Item (Root C)). k.least) t.after in
          let g = length-append t.before t.added in let a = t.at_least in let b = f.at_least in omega (arith, e, g, a, b));
      own = all_front (λ (x : ℕ × Item). slice_get log x.0 ≡ Some x.1) old.own (enumerate_from (length t.before) t.added)
          (subst (λ (o : List (ℕ × Item)). All (λ (x : ℕ × Item). slice_get log x.0 ≡ Some x.1) o)
          (ap (λ (k : Known Item (Root C)). k.own) t.after) f.own);
    };
  }

  -- a record that the reply tells stands within as many items as the till then knows of
  pub asked_within : (told : Result Reply StoreFault) (old new : Known Item (Root C)) (log : List Item) → Asks (λ c k. Some seconds) ask told old new →
      Fits log new → IsWithin (records_in new.least log) told
  asked_within (Err e) old new log t f = tt
  asked_within (Ok told) old new log t f =
      let does = t.related.does in
      let root = t.home in
      let after : List Entry = does.history ++ does.gained in
      let seen : new.seen ≡ map item.Entry after = ap (λ (k : Known Item (Root C)). k.seen) t.after ∙ does.after_is in
      let all : new.least ≡ length new.seen = ap (λ (k : Known Item (Root C)). k.least) t.after ∙
      ap (λ (k : Known Item (Root C)). length k.seen) (sym t.after) in
      let front : take new.least log ≡ new.seen = ap (λ (n : ℕ). take n log) all ∙ take_front log new.seen f.begins in
      let are : entries_of (take new.least log) ≡ after = ap entries_of (front ∙ seen) ∙ entries_back after in
      subst (λ (es : List Entry). IsWithin (length (recs es)) (Ok told)) (sym are)
      (reply_within does.history does.gained (answer root.version root.issuer does.history ask does.seconds) told
      (answer_within root.version root.issuer does.history ask does.seconds) does.tells)

  -- one ask of a till that knows of as much as the first one, which was told of it
  pub looked_asked : ((log : List Item) (old new : Known Item (Root C)) → SeesOn old new → Fits log new → Fits log old) →
      (from : List (Known Item (Root C))) (asks : List Asked) (replies : Replies) (looks : List Look) (told : Result Reply StoreFault)
      (olds news : List (Known Item (Root C))) (place : ℕ) (old new : Known Item (Root C)) → length replies ≡ length asks →
      IsTold (coming (readings replies)) seconds →
      length olds ≡ 64 → slice_get olds place ≡ Some old →
      ((first : Known Item (Root C)) → slice_get olds 63 ≡ Some first → first.least ≤ old.least) → Asks (λ c k. Some seconds) ask told old new →
      Informed (set olds place new) place 63 news → LookedOn (λ c. coming) from asks replies looks olds →
      LookedOn (λ c. coming) from (asks ++ ask ∷ []) (replies ++ told ∷ []) looks news
  looked_asked law from asks replies looks told olds news place old new even read size at as_many t informed h = λ first is.
      let k = kept first is in
      record {
        rise = k.rise;
        told = λ log fit. all_told_on replies told looks (k.told log fit);
        within = λ log fit. all_push (IsWithin (records_in first.least log)) replies told (k.within log fit) (within first log is fit);
        run = λ root log fresh fit begins. ran first root log is fresh fit begins;
      }
    where
      asked : List (Known Item (Root C))
      asked = set olds place new

      asking : AllMore olds asked
      asking = one_more olds place old new at (more_asked told old new t)

      long : 63 < length asked
      long = let e = length-set olds place new in omega (arith, e, size)

      informing : AllMore asked news
      informing = informed_more law asked news place 63 informed long

      more : AllMore olds news
      more = all_trans olds asked news asking informing

      kept : LookedOn (λ c. coming) from asks replies looks news
      kept = looked_kept (λ c. coming) from asks replies looks olds news more h

      new_at : slice_get asked place ≡ Some new
      new_at = slice_set_same olds place new (slice_get_within olds place old at)

      new_fits : (log : List Item) → AllByRecursion (Fits log) news → Fits log new
      new_fits log fit = one_fits asked place new log new_at (all_fit asked news log informing fit)

      knows : (k : Known Item (Root C)) → slice_get news 63 ≡ Some k → new.least ≤ k.least
      knows k is =
          let one : slice_get news 63 ≡ Some informed.now = ap (λ (ks : List (Known Item (Root C))). slice_get ks 63) informed.only ∙
          slice_set_same asked 63 informed.now long in
          let same : informed.now ≡ k = (let x = sym one ∙ is in cc) in
          subst (λ (j : Known Item (Root C)). new.least ≤ j.least) same (informed.as_many new new_at)

      within : (k : Known Item (Root C)) (log : List Item) → slice_get news 63 ≡ Some k → AllByRecursion (Fits log) news →
          IsWithin (records_in k.least log) told
      within k log is fit = within_more (records_in new.least log) (records_in k.least log) told
          (records_more new.least k.least log (knows k is)) (asked_within told old new log t (new_fits log fit))

      ran : (k : Known Item (Root C)) (root : Root C) (log : List Item) → slice_get news 63 ≡ Some k →
          AllByRecursion (IsNew (items_at root) root) from → AllByRecursion (Fits log) news → StartsWith log (items_at root) →
          RunKnown (λ c. coming) (asks ++ ask ∷ []) (replies ++ told ∷ []) looks news k root log
      ran k root log is fresh fit begins =
          let was = before_of olds news 63 k more is in
          let first : Known Item (Root C) = was.old in
          let then = (h first was.at).run root log fresh (all_fit olds news log more fit) begins in
          let turn = turn_stands told old new root log replies first.least (records_in k.least log) read t
          (one_of (λ (j : Known Item (Root C)). j.root ≡ Some root) olds place old at then.roots) (new_fits log fit).begins begins
          then.least (as_many first was.at) then.runs.all (records_more new.least k.least log (knows k is)) in
          record {
            roots = roots_more olds news root more then.roots;
            least = (let a = then.least in let b = was.more.at_least in omega (arith, a, b));
            runs = runs_asked root.version root.issuer coming root.history (entries_of log) asks replies looks
                (records_in first.least log) (records_in k.least log) ask told even turn.up turn.answers then.runs;
          }

-- the dialogue at its start, and at its end
module _ {C : Type 0} (coming : C → ℕ → Option ℕ) where
  new_roots : (news : List (Known Item (Root C))) (root : Root C) → AllByRecursion (IsNew (items_at root) root) news →
      AllByRecursion (λ (k : Known Item (Root C)). k.root ≡ Some root) news
  new_roots [] root h = tt
  new_roots (k ∷ news) root h = (h.0.root_is, new_roots news root h.1)

  pub none_looked : (news : List (Known Item (Root C))) → LookedOn coming news [] [] [] news
  none_looked news = λ first at. record {
    rise = λ root list is starts begins. begins;
    told = λ log fit. tt;
    within = λ log fit. tt;
    run = λ root log fresh fit begins.
        let new = one_of (IsNew (items_at root) root) news 63 first at fresh in
        let e = length-map root.history (λ (x : Entry). item.Entry x) in
        let count : records_in first.least log ≡ length (recs root.history) = ap (λ (n : ℕ). records_in n log) new.least ∙
        ap (λ (l : List Item). length (recs (entries_of l))) (take_front log (items_at root) begins) ∙
        ap (λ (l : List Entry). length (recs l)) (entries_back root.history) in
        let least = new.least in
        record {
          roots = new_roots news root fresh;
          least = omega (arith, e, least);
          runs = none_runs root.version root.issuer (coming root.clock) root.history (entries_of log) (records_in first.least log)
              (omega (arith, count));
        };
  }

  pub none_ran_at : (olds news : List (Known Item (Root C))) → RunsAt coming olds news [] [] []
  none_ran_at olds news = λ root log fresh fit begins.
      none_runs root.version root.issuer (coming root.clock) root.history (entries_of log) (length (recs (entries_of log)))
      (records_start (entries_of log) root.history (subst (λ (l : List Entry). StartsWith (entries_of log) l) (entries_back root.history)
      (entries_start log (items_at root) begins)))

  pub run_at_end : (asks : List Asked) (replies : Replies) (looks : List Look) (olds news : List (Known Item (Root C))) →
      length news ≡ 64 → LookedOn coming olds asks replies looks news → RunsAt coming olds news asks replies looks
  run_at_end asks replies looks olds news size h = λ root log fresh fit begins. at_end root log fresh fit begins news refl
    where
      at_end : (root : Root C) (log : List Item) → AllByRecursion (IsNew (items_at root) root) olds → AllByRecursion (Fits log) news →
          StartsWith log (items_at root) → (ks : List (Known Item (Root C))) → ks ≡ news →
          RunsAmong root.version root.issuer (coming root.clock) root.history (entries_of log) asks replies looks
          (length (recs (entries_of log)))
      at_end root log fresh fit begins [] is = absurd (let e = ap (λ (l : List (Known Item (Root C))). length l) is in omega (arith, e, size))
      at_end root log fresh fit begins (d ∷ ks) is =
          let first : Known Item (Root C) = get_or news 63 d in
          let k = (h first (slice_get-get_or news 63 d (omega (arith, size)))).run root log fresh fit begins in
          runs_more root.version root.issuer (coming root.clock) root.history (entries_of log) asks replies looks
          (records_in first.least log) (length (recs (entries_of log))) (records_all first.least log) k.runs

  pub looked_at_end : (asks : List Asked) (replies : Replies) (looks : List Look) (olds news : List (Known Item (Root C))) →
      length news ≡ 64 →
      ((root : Root C) → AllByRecursion (λ (k : Known Item (Root C)). k.root ≡ Some root) olds →
      AllByRecursion (λ (k : Known Item (Root C)). k.root ≡ Some root) news) → LookedOn coming olds asks replies looks news →
      AreLookedAt olds news replies looks
  looked_at_end asks replies looks olds news size roots h = λ root log same fit begins. at_end root log (roots root same) fit begins news refl
    where
      at_end : (root : Root C) (log : List Item) → AllByRecursion (λ (k : Known Item (Root C)). k.root ≡ Some root) news →
          AllByRecursion (Fits log) news → StartsWith (entries_of log) root.history → (ks : List (Known Item (Root C))) → ks ≡ news →
          AreLooked root.history (entries_of log) replies looks
      at_end root log same fit begins [] is = absurd (let e = ap (λ (l : List (Known Item (Root C))). length l) is in omega (arith, e, size))
      at_end root log same fit begins (d ∷ ks) is =
          let first : Known Item (Root C) = get_or news 63 d in
          let at : slice_get news 63 ≡ Some first = slice_get-get_or news 63 d (omega (arith, size)) in
          let f = h first at in
          let begun : Fits log first = one_fits news 63 first log at fit in
          record {
            rise = f.rise root log (one_of (λ (k : Known Item (Root C)). k.root ≡ Some root) news 63 first at same) begun.begins begins;
            told = f.told log fit;
          }

-- a look of the first till
module _ {C : Type 0} (coming : C → ℕ → Option ℕ) where
  pub looked_by : ((log : List Item) (old new : Known Item (Root C)) → SeesOn old new → Fits log new → Fits log old) →
      (asked : TillQuestion) (found : Result (List ℕ) NoRoom) (olds : List (Known Item (Root C))) (old new : Known Item (Root C)) →
      slice_get olds 63 ≡ Some old →
      Looks (λ (version : Version) (issuer : List ℕ) (entries : List Entry) (text : List ℕ). IsAnswer asked entries text) found old new →
      LookedFor coming asked found olds (set olds 63 new)
  looked_by law asked (Err e) olds old new at l = λ from asks replies looks h.
      looked_kept coming from asks replies looks olds (set olds 63 new) (one_more olds 63 old new at (more_seen law old new l.sees)) h
  looked_by law asked (Ok text) olds old new at l = (
    entries_of new.seen,
    l.answer,
    λ from asks replies looks h. looked_more coming from asks replies looks (set olds 63 new) new
        (slice_set_same olds 63 new (slice_get_within olds 63 old at)) l.all l.home
        (ap (λ (k : Known Item (Root C)). k.root) l.sees.same ∙ l.root) l.list.begins
        (looked_kept coming from asks replies looks olds (set olds 63 new)
        (one_more olds 63 old new at (more_seen law old new l.sees)) h),
  )
