-- The records that each till gains in a run.
use Rattle.std.proofs.Common.{◌≡◌, inl, ◌≤◌, ℕ, ◌==◌, List, [], ◌∷◌, ◌++◌, append-nil, append_assoc, length, map, drop}
use Rattle.std.proofs.Common.{refl, sym, ◌∙◌, ap, subst, arith, Bool, true, false, Result}
use Rattle.std.specs.Prelude.{filter, if◌then◌else◌}
use Rattle.std.specs.List.{AllByRecursion, range_with_len}
use Rattle.std.proofs.lemmas.List.{drop-append-le, drop_all, length-append}
use Rattle.std.proofs.lemmas.List.Elements.{filter-append}
use Rattle.record_fields.specs.declared.versions.Version.{Version}
use Rattle.journal.specs.declared.faults.StoreFault.{StoreFault}
use Rattle.shop_core.specs.Prefix.{IsPrefix}
use Rattle.ports.specs.Sources.{Sources}
use Rattle.record_codec.specs.declared.entry.Entry.{Entry}
use Rattle.record_codec.specs.declared.entry.Entry.TheVariants.{Rec, Notes}
use Rattle.record_codec.specs.declared.entry.TheConstants.{LAST_TILL}
use Rattle.shop_core.specs.Answer.Replies.{ChainRun}
use Rattle.shop_core.specs.Answer.Replies.ChainRun.{begun, replied}
use Rattle.shop_core.specs.Answer.Requests.{Asked}
use Rattle.shop_core.specs.declared.answer.Reply.{Reply}
use Rattle.shop_commands.specs.Day.{EachTill, EachTillOf}
use Rattle.sender_beside.specs.Days.{Day, TillReplies}
use Rattle.shop_drain.specs.Draining.{AddsNotesAlone}
use Rattle.sender_session.specs.Session.{AreNotesEntry}
use Rattle.verifactu.specs.TillPromise.{AreAccepted, AreAskedIn, TillsGain}
use Rattle.chain_store.specs.Replies.{Replies}
use Rattle.sender_beside.specs.Tills.{TillServed, asks_of, has_asks, is_from, own_of, tills_of}
use Rattle.verifactu.proofs.Accepted.{accepted_append, all_accepted, by_reply}
use Rattle.sender_session.proofs.Lists.{each_map, each_weaker}
use Rattle.sender_beside.proofs.TillDays.{each_filtered}

-- no till asked
filter_none : (p : ℕ → Bool) (xs : List ℕ) → ((x : ℕ) → p x ≡ false) → [] ≡ filter p xs
filter_none p [] none = refl
filter_none p (x ∷ xs) none = rw (none x) (filter_none p xs none)

nobody : [] ≡ tills_of []
nobody = filter_none (has_asks []) (range_with_len 1 LAST_TILL) (λ x. refl)

behind : (start more : List Entry) → drop (length start) (start ++ more) ≡ more
behind [] more = refl
behind (e ∷ start) more = behind start more

-- nothing was asked, and no record came
pub gains_none : (s : Sources) (start end : List Entry) →
    ((till : ℕ) → own_of till (drop (length start) end) ≡ []) → TillsGain s start end
gains_none s start end none = record {
  asks = [];
  asked = inl refl;
  told = [];
  tills = nobody;
  own = tt;
  others = λ till e. none till;
}

-- the history stayed
pub gains_nothing : (s : Sources) (start : List Entry) → TillsGain s start start
gains_nothing s start = gains_none s start start
    (λ till. ap (λ (es : List Entry). own_of till es) (drop_all (length start) start (omega arith)))

no_notes : (till : ℕ) (more : List Entry) → AllByRecursion AreNotesEntry more → own_of till more ≡ []
no_notes till [] notes = refl
no_notes till (Rec own serial sealed ∷ more) notes = absurd notes.0
no_notes till (Notes first lines ∷ more) notes = no_notes till more notes.1

-- notes alone came
pub gains_notes : (s : Sources) (start end : List Entry) → AddsNotesAlone start end → TillsGain s start end
gains_notes s start end h = gains_none s start end
    (λ till. ap (λ (es : List Entry). own_of till (drop (length start) es)) h.is ∙
    ap (λ (es : List Entry). own_of till es) (behind start h.more) ∙ no_notes till h.more h.are)

-- what a till was told of its own asks among these
replies_to : ℕ → List Asked → Replies → Replies
replies_to till [] replies = []
replies_to till (ask ∷ asks) [] = []
replies_to till (ask ∷ asks) (told ∷ replies) =
    if ask.till == till then told ∷ replies_to till asks replies else replies_to till asks replies

-- and of one ask
abbrev reply_to : ℕ → Asked → Result Reply StoreFault → Replies
reply_to till ask told = if ask.till == till then told ∷ [] else []

one_more : (b : Bool) (told : Result Reply StoreFault) (xs ys : Replies) →
    (if b then told ∷ (xs ++ ys) else xs ++ ys) ≡ (if b then told ∷ xs else xs) ++ ys
one_more true told xs ys = refl
one_more false told xs ys = refl

reply_more : (till : ℕ) (asks : List Asked) (replies : Replies) (ask : Asked) (told : Result Reply StoreFault) →
    length asks ≡ length replies →
    replies_to till (asks ++ ask ∷ []) (replies ++ told ∷ []) ≡ replies_to till asks replies ++ reply_to till ask told
unfolding replies_to
reply_more till [] [] ask told same = refl
reply_more till [] (r ∷ replies) ask told same = absurd (omega (arith, same))
reply_more till (a ∷ asks) [] ask told same = absurd (omega (arith, same))
reply_more till (a ∷ asks) (r ∷ replies) ask told same =
    ap (λ (l : Replies). if a.till == till then r ∷ l else l) (reply_more till asks replies ask told (omega (arith, same)))
    ∙ one_more (a.till == till) r (replies_to till asks replies) (reply_to till ask told)

-- a till that asks for nothing has no asks and is told nothing
no_asks : (till : ℕ) (asks : List Asked) → has_asks asks till ≡ false → asks_of till asks ≡ []
no_asks till [] none = refl
no_asks till (ask ∷ asks) none = by_test (ask.till == till) refl (no_asks till asks)
  where
    by_test : (b : Bool) → (ask.till == till) ≡ b → (has_asks asks till ≡ false → asks_of till asks ≡ []) →
        asks_of till (ask ∷ asks) ≡ []
    by_test true e inner = absurd (let x = rw e at none in cc)
    by_test false e inner = rw e (inner (rw e at none))

told_nothing : (till : ℕ) (asks : List Asked) (replies : Replies) → has_asks asks till ≡ false →
    replies_to till asks replies ≡ []
unfolding replies_to
told_nothing till [] replies none = refl
told_nothing till (ask ∷ asks) [] none = refl
told_nothing till (ask ∷ asks) (told ∷ replies) none = by_test (ask.till == till) refl (told_nothing till asks replies)
  where
    by_test : (b : Bool) → (ask.till == till) ≡ b → (has_asks asks till ≡ false → replies_to till asks replies ≡ []) →
        replies_to till (ask ∷ asks) (told ∷ replies) ≡ []
    by_test true e inner = absurd (let x = rw e at none in cc)
    by_test false e inner = rw e (inner (rw e at none))

-- how far a run has come for a till
record Gained (start : List Entry) (till : ℕ) (asks : List Asked) (replies : Replies) (end : List Entry) : Type 0 where
  same : length asks ≡ length replies
  low : length start ≤ length end
  taken : AreAccepted (asks_of till asks) (replies_to till asks replies) (own_of till (drop (length start) end))

module _ (version : Version) (issuer : List ℕ) (R : Replies → ℕ → Type 0) (start : List Entry) (till : ℕ) where
  run_gains : {asks : List Asked} {replies : Replies} {end : List Entry} → ChainRun version issuer R start asks replies end →
      Gained start till asks replies end
  unfolding replies_to
  run_gains begun = record {
    same = refl;
    low = omega arith;
    taken = ap (λ (es : List Entry). own_of till es) (drop_all (length start) start (omega arith));
  }
  run_gains (replied asks replies entries ask told gained run seconds reading h) =
      let so_far = run_gains run in
      let size = length-append entries gained in
      record {
        same = (let a = length-append asks (ask ∷ []) in let b = length-append replies (told ∷ []) in let c = so_far.same in
            omega (arith, a, b, c));
        low = (let l = so_far.low in omega (arith, size, l));
        taken = subst (λ (rs : Replies). AreAccepted (asks_of till (asks ++ ask ∷ [])) rs (own_of till (drop (length start)
            (entries ++ gained)))) (sym (reply_more till asks replies ask told so_far.same))
            (subst (λ (es : List Entry). AreAccepted (asks_of till (asks ++ ask ∷ []))
            (replies_to till asks replies ++ reply_to till ask told) es)
            (sym (ap (λ (es : List Entry). own_of till es) (drop-append-le (length start) entries gained so_far.low)
            ∙ filter-append (is_from till) (drop (length start) entries) gained))
            (subst (λ (l : List Asked). AreAccepted l (replies_to till asks replies ++ reply_to till ask told)
            (own_of till (drop (length start) entries) ++ own_of till gained))
            (sym (filter-append (λ (a : Asked). a.till == till) asks (ask ∷ [])))
            (accepted_append (asks_of till asks) (asks_of till (ask ∷ [])) (replies_to till asks replies)
            (reply_to till ask told) (own_of till (drop (length start) entries)) (own_of till gained) so_far.taken
            (by_reply version issuer entries ask seconds told gained till h))));
      }

each_any : {A : Type 0} (P : A → Type 0) → ((x : A) → P x) → (xs : List A) → AllByRecursion P xs
each_any P f [] = tt
each_any P f (x ∷ xs) = (f x, each_any P f xs)

firsts : (f : ℕ → Replies) (tills : List ℕ) →
    map (λ (t : ℕ × Replies). t.0) (map (λ (till : ℕ). (till, f till)) tills) ≡ tills
firsts f [] = refl
firsts f (till ∷ tills) = ap (λ (l : List ℕ). till ∷ l) (firsts f tills)

-- a run of one thread
pub gains_run : (s : Sources) (version : Version) (issuer : List ℕ) (R : Replies → ℕ → Type 0) (start : List Entry) (asks : List Asked)
    (replies : Replies) (end : List Entry) → AreAskedIn s asks → ChainRun version issuer R start asks replies end →
    TillsGain s start end
gains_run s version issuer R start asks replies end asked run =
    let Own : ℕ × Replies → Type 0 = λ t. AreAccepted (asks_of t.0 asks) t.1 (own_of t.0 (drop (length start) end)) in
    let row : ℕ → ℕ × Replies = λ till. (till, replies_to till asks replies) in
    record {
      asks = asks;
      asked = asked;
      told = map row (tills_of asks);
      tills = firsts (λ till. replies_to till asks replies) (tills_of asks);
      own = each_map row Own (tills_of asks) (each_any (λ (till : ℕ). Own (row till))
          (λ till. (run_gains version issuer R start till run).taken) (tills_of asks));
      others = λ till none. subst (λ (rs : Replies). AreAccepted [] rs (own_of till (drop (length start) end)))
          (told_nothing till asks replies none)
          (subst (λ (l : List Asked). AreAccepted l (replies_to till asks replies) (own_of till (drop (length start) end)))
          (no_asks till asks none) (run_gains version issuer R start till run).taken);
    }

rows_of : (tills : List TillReplies) →
    map (λ (t : ℕ × Replies). t.0) (map (λ (t : TillReplies). (t.till, t.replies)) tills)
    ≡ map (λ (t : TillReplies). t.till) tills
rows_of [] = refl
rows_of (t ∷ tills) = ap (λ (l : List ℕ). t.till ∷ l) (rows_of tills)

-- each ask of a till's own is the till's
own_asks : (till : ℕ) (asks : List Asked) → AllByRecursion (λ (a : Asked). (a.till == till) ≡ true) (asks_of till asks)
own_asks till [] = tt
own_asks till (ask ∷ asks) = by_test (ask.till == till) refl (own_asks till asks)
  where
    by_test : (b : Bool) → (ask.till == till) ≡ b →
        AllByRecursion (λ (a : Asked). (a.till == till) ≡ true) (asks_of till asks) →
        AllByRecursion (λ (a : Asked). (a.till == till) ≡ true) (asks_of till (ask ∷ asks))
    by_test true e inner = rw e (e, inner)
    by_test false e inner = rw e inner

served_accepted : (d : Day) → IsPrefix d.start d.end → (t : TillReplies) → TillServed d t →
    AreAccepted (asks_of t.till d.asks) t.replies (own_of t.till (drop (length d.start) d.end))
served_accepted d begins t h =
    all_accepted d.version d.issuer d.coming d.start d.end t.till begins (asks_of t.till d.asks) t.replies h.last h.told h.run
    (own_asks t.till d.asks) h.own

-- notes that came after change no till's records
own_stays : (till : ℕ) (start middle end : List Entry) → IsPrefix start middle → AddsNotesAlone middle end →
    own_of till (drop (length start) end) ≡ own_of till (drop (length start) middle)
own_stays till start middle end begins h =
    let later : drop (length start) middle ≡ begins.rest =
    ap (λ (es : List Entry). drop (length start) es) begins.is ∙ behind start begins.rest in
    let last : drop (length start) end ≡ begins.rest ++ h.more =
    ap (λ (es : List Entry). drop (length start) es)
    (h.is ∙ ap (λ (es : List Entry). es ++ h.more) begins.is ∙ append_assoc start begins.rest h.more) ∙
    behind start (begins.rest ++ h.more) in
    ap (λ (es : List Entry). own_of till es) last ∙ filter-append (is_from till) begins.rest h.more ∙
    ap (λ (es : List Entry). own_of till begins.rest ++ es) (no_notes till h.more h.are) ∙ append-nil (own_of till begins.rest) ∙
    ap (λ (es : List Entry). own_of till es) (sym later)

-- notes came after
pub gains_on : (s : Sources) (start middle end : List Entry) → IsPrefix start middle → AddsNotesAlone middle end →
    TillsGain s start middle → TillsGain s start end
gains_on s start middle end begins notes g = record {
  asks = g.asks;
  asked = g.asked;
  told = g.told;
  tills = g.tills;
  own = each_weaker (λ (t : ℕ × Replies). AreAccepted (asks_of t.0 g.asks) t.1 (own_of t.0 (drop (length start) middle)))
      (λ (t : ℕ × Replies). AreAccepted (asks_of t.0 g.asks) t.1 (own_of t.0 (drop (length start) end))) g.told
      (λ t h. subst (λ (es : List Entry). AreAccepted (asks_of t.0 g.asks) t.1 es)
      (sym (own_stays t.0 start middle end begins notes)) h) g.own;
  others = λ till none. own_stays till start middle end begins notes ∙ g.others till none;
}

-- tills at the same time
pub gains_day : (s : Sources) (d : Day) → AreAskedIn s d.asks → IsPrefix d.start d.end → EachTill d →
    TillsGain s d.start d.end
gains_day s d asked begins each =
    let Own : ℕ × Replies → Type 0 = λ t. AreAccepted (asks_of t.0 d.asks) t.1 (own_of t.0 (drop (length d.start) d.end)) in
    let row : TillReplies → ℕ × Replies = λ t. (t.till, t.replies) in
    record {
      asks = d.asks;
      asked = asked;
      told = map row d.tills;
      tills = rows_of d.tills ∙ each.are;
      own = each_map row Own d.tills (each_weaker (TillServed d) (λ (t : TillReplies). Own (row t)) d.tills
          (served_accepted d begins) each.served);
      others = each.others;
    }

-- the numbers that pass a test, of what is numbered
filter_numbers : (p : ℕ → Bool) (tills : List TillReplies) → map (λ (t : TillReplies). t.till) (filter (λ (t : TillReplies). p t.till) tills)
    ≡ filter p (map (λ (t : TillReplies). t.till) tills)
filter_numbers p [] = refl
filter_numbers p (t ∷ tills) = by_test (p t.till) refl (filter_numbers p tills)
  where
    by_test : (b : Bool) → p t.till ≡ b → map (λ (x : TillReplies). x.till) (filter (λ (x : TillReplies). p x.till) tills) ≡ filter p
        (map (λ (x : TillReplies). x.till) tills) → map (λ (x : TillReplies). x.till) (filter (λ (x : TillReplies). p x.till)
        (t ∷ tills)) ≡ filter p (map (λ (x : TillReplies). x.till) (t ∷ tills))
    by_test true e same = rw e (ap (λ (l : List ℕ). t.till ∷ l) same)
    by_test false e same = rw e same

-- all tills of a shop, of which some ask
pub gains_all : (s : Sources) (d : Day) → AreAskedIn s d.asks → IsPrefix d.start d.end →
    EachTillOf (range_with_len 1 LAST_TILL) d → TillsGain s d.start d.end
gains_all s d asked begins each =
    let Own : ℕ × Replies → Type 0 = λ t. AreAccepted (asks_of t.0 d.asks) t.1 (own_of t.0 (drop (length d.start) d.end)) in
    let row : TillReplies → ℕ × Replies = λ t. (t.till, t.replies) in
    let own : TillReplies → Bool = λ t. has_asks d.asks t.till in
    record {
      asks = d.asks;
      asked = asked;
      told = map row (filter own d.tills);
      tills = rows_of (filter own d.tills) ∙ filter_numbers (has_asks d.asks) d.tills ∙
          ap (λ (l : List ℕ). filter (has_asks d.asks) l) each.are;
      own = each_map row Own (filter own d.tills) (each_filtered (λ (t : TillReplies). Own (row t)) own d.tills
          (each_weaker (TillServed d) (λ (t : TillReplies). Own (row t)) d.tills (served_accepted d begins) each.served));
      others = each.others;
    }
