-- Two runs of one issuer's asks, from one history and at the same readings, are one.
use Rattle.std.proofs.Common.{◌≡◌, ◌≢◌, inl, inr, ℕ, ◌+◌, List, [], ◌∷◌, ◌++◌, length, refl, ap, sym, ◌∙◌, subst, arith, IsOk}
use Rattle.std.proofs.Common.{Some, None, Option, Result, Ok, Err}
use Rattle.std.specs.List.{AllByRecursion}
use Rattle.std.proofs.lemmas.List.{length_push, same_from_push}
use Rattle.ports.specs.Causes.{Rose}
use Rattle.ports.specs.Readings.{IsTold}
use Rattle.ports.specs.declared.Clock as clock
use Rattle.chain_disk.specs.declared.disk.Disk as disk
use Rattle.journal.specs.Journal.{disk_of, stopped_of}
use Rattle.journal.specs.declared.faults.StoreFault.{StoreFault}
use Rattle.journal.specs.declared.faults.StoreFault.TheVariants.{DiskFault, Stopped, NoMemory}
use Rattle.record_fields.specs.declared.versions.Version.{Version}
use Rattle.record_codec.specs.declared.entry.Entry.{Entry}
use Rattle.record_codec.specs.declared.entry.Entry.TheVariants.{Rec, Notes}
use Rattle.shop_core.specs.Answer.Plans.{answer}
use Rattle.shop_core.specs.Answer.Requests.{Asked}
use Rattle.shop_core.specs.History.{History, recs}
use Rattle.shop_core.specs.Answer.Replies.{ChainRun, IsReply, IsTakenAt, Tells}
use Rattle.shop_core.specs.Answer.Replies.ChainRun.{begun, replied}
use Rattle.shop_core.specs.declared.answer.Planned.{Planned}
use Rattle.shop_core.specs.declared.answer.Planned.TheVariants.{Again, Refused, Made}
use Rattle.shop_core.specs.declared.answer.Reply.{Reply}
use Rattle.chain_store.specs.Store.{clock_of, journal_of, state_of}
use Rattle.chain_store.specs.declared.store.Store.{Store}
use Rattle.chain_store.specs.Readings.{IsComing, readings}
use Rattle.chain_store.specs.Replies.{IsGoingOn, Replies, StopsOnce}
use Rattle.chain_store.specs.Runs.{Answers, this_store}
use Rattle.chain_store.specs.Taking.{OwnRun}
use Rattle.issuers.specs.Serving.{replies_to}
use Rattle.issuers.specs.Turns.{asks_in, mine}
use Rattle.issuers.specs.Worlds.{OwnWorlds}
use Rattle.issuers.proofs.EachElement.{each_both, each_front}

abbrev Told : Type 0
Told = Result Reply StoreFault

ok_by : (r : Told) → IsGoingOn r → r ≢ Err NoMemory → IsOk r
ok_by (Ok reply) on apart = refl
ok_by (Err DiskFault) on apart = absurd on
ok_by (Err (Stopped faults)) on apart = absurd on
ok_by (Err NoMemory) on apart = absurd (apart refl)

-- without a fault of the disk and without lack of memory each answer is a reply
all_replied : (faults after : ℕ) (replies : Replies) → StopsOnce faults after replies → (Rose faults after → ⊥) →
    AllByRecursion (λ (r : Told). r ≢ Err NoMemory) replies → AllByRecursion (λ (r : Told). IsOk r) replies
all_replied faults after replies (inl on) none memory =
    each_both IsGoingOn (λ (r : Told). r ≢ Err NoMemory) (λ (r : Told). IsOk r) replies ok_by on memory
all_replied faults after replies (inr stops) none memory = absurd (none stops.risen)

taken_same : (place : ℕ) (entry : Entry) (a b : Reply) → IsTakenAt place entry a → IsTakenAt place entry b → a ≡ b
taken_same place (Rec till serial sealed) a b p q = p ∙ sym q
taken_same place (Notes first lines) a b p q = absurd p

same_tells : (entries : List Entry) (planned : Planned) (a b : Reply) (x y : List Entry) → Tells entries planned a x →
    Tells entries planned b y → (a ≡ b) × (x ≡ y)
same_tells entries (Again kept) a b x y p q = (p.0 ∙ sym q.0, p.1 ∙ sym q.1)
same_tells entries (Refused why) a b x y p q = (p.0 ∙ sym q.0, p.1 ∙ sym q.1)
same_tells entries (Made entry) a b x y p q = (taken_same (length (recs entries) + 1) entry a b p.0 q.0, p.1 ∙ sym q.1)

same_reply : (version : Version) (issuer : List ℕ) (entries : List Entry) (ask : Asked) (seconds : ℕ) (a b : Told) (x y : List Entry) → IsOk a → IsOk b →
    IsReply version issuer entries ask seconds a x → IsReply version issuer entries ask seconds b y → (a ≡ b) × (x ≡ y)
same_reply version issuer entries ask seconds (Ok a) (Ok b) x y ok ok' p q =
    let same = same_tells entries (answer version issuer entries ask seconds) a b x y p q in
    ((let e : a ≡ b = same.0 in cc), same.1)
same_reply version issuer entries ask seconds (Ok a) (Err e) x y ok ok' p q = absurd cc
same_reply version issuer entries ask seconds (Err e) b x y ok ok' p q = absurd cc

-- the last ask of a run, and the run before it
record Last (version : Version) (issuer : List ℕ) (S : Replies → ℕ → Type 0) (start : List Entry) (asks : List Asked) (ask : Asked) (replies : Replies)
    (end : List Entry) : Type 0 where
  pub before : Replies
  pub entries : List Entry
  pub told : Told
  pub gained : List Entry
  pub run : ChainRun version issuer S start asks before entries
  pub seconds : ℕ
  pub reading : S before seconds
  pub reply : IsReply version issuer entries ask seconds told gained
  pub replies_are : replies ≡ before ++ told ∷ []
  pub end_is : end ≡ entries ++ gained

module _ (version : Version) (issuer : List ℕ) (S : Replies → ℕ → Type 0) (start : List Entry) where
  none_of : {asks : List Asked} {replies : Replies} {end : List Entry} → ChainRun version issuer S start asks replies end → asks ≡ [] →
      (replies ≡ []) × (end ≡ start)
  none_of begun is = (refl, refl)
  none_of (replied asks replies entries ask told gained run seconds reading h) is =
      absurd (omega (arith, length_push asks ask, ap length is))

  last_of : {whole : List Asked} {replies : Replies} {end : List Entry} (asks : List Asked) (ask : Asked) →
      ChainRun version issuer S start whole replies end → whole ≡ asks ++ ask ∷ [] → Last version issuer S start asks ask replies end
  last_of asks ask begun is = absurd (omega (arith, length_push asks ask, ap length is))
  last_of asks ask (replied asks' replies entries ask' told gained run seconds reading h) is =
      let same = same_from_push asks' asks ask' ask is in
      record {
        before = replies;
        entries = entries;
        told = told;
        gained = gained;
        run = subst (λ (qs : List Asked). ChainRun version issuer S start qs replies entries) same.0 run;
        seconds = seconds;
        reading = reading;
        reply = subst (λ (q : Asked). IsReply version issuer entries q seconds told gained) same.1 h;
        replies_are = refl;
        end_is = refl;
      }

  -- two runs of the same asks at the same readings, in which all got replies
  same_runs : (R : Replies → ℕ → Type 0) → ((replies : Replies) (x y : ℕ) → R replies x → S replies y → x ≡ y) →
      {asks : List Asked} {replies : Replies} {end : List Entry} → ChainRun version issuer R start asks replies end →
      (replies' : Replies) (end' : List Entry) → ChainRun version issuer S start asks replies' end' →
      AllByRecursion (λ (r : Told). IsOk r) replies → AllByRecursion (λ (r : Told). IsOk r) replies' →
      (replies ≡ replies') × (end ≡ end')
  same_runs R agree begun replies' end' other ok ok' = let e = none_of other refl in (sym e.0, sym e.1)
  same_runs R agree (replied asks replies entries ask told gained run seconds reading h) replies' end' other ok ok' =
      let l = last_of asks ask other refl in
      let one = each_front (λ (r : Told). IsOk r) replies told ok in
      let two = each_front (λ (r : Told). IsOk r) l.before l.told
      (subst (λ (rs : Replies). AllByRecursion (λ (r : Told). IsOk r) rs) l.replies_are ok') in
      let so_far = same_runs R agree run l.before l.entries l.run one.0 two.0 in
      let at_one : seconds ≡ l.seconds = agree replies seconds l.seconds reading
      (subst (λ (rs : Replies). S rs l.seconds) (sym so_far.0) l.reading) in
      let reply : IsReply version issuer entries ask seconds l.told l.gained =
      subst (λ (n : ℕ). IsReply version issuer entries ask n l.told l.gained) (sym at_one)
      (subst (λ (es : List Entry). IsReply version issuer es ask l.seconds l.told l.gained) (sym so_far.1) l.reply) in
      let last = same_reply version issuer entries ask seconds told l.told gained l.gained one.1 two.1 h reply in (
        ap (λ (rs : Replies). rs ++ told ∷ []) so_far.0 ∙ ap (λ (r : Told). l.before ++ r ∷ []) last.0 ∙ sym l.replies_are,
        ap (λ (es : List Entry). es ++ gained) so_far.1 ∙ ap (λ (es : List Entry). l.entries ++ es) last.1 ∙ sym l.end_is,
      )

told_alike : (a b : Option ℕ) (second x y : ℕ) → a ≡ Some second → b ≡ Some second → IsTold a x → IsTold b y → x ≡ y
told_alike a b second x y is is' p q =
    let first : x ≡ second = subst (λ (o : Option ℕ). IsTold o x) is p in
    let other : y ≡ second = subst (λ (o : Option ℕ). IsTold o y) is' q in
    first ∙ sym other

own_answers : {D C : Type 0} (d : disk.Ghosts D) (c : clock.Ghosts C) (old new : Store D C d) (asks : List Asked) (replies : Replies) →
    stopped_of (journal_of old) ≡ None →
    OwnRun (stopped_of (journal_of old)) asks replies (this_store d.tells d.on_disk d.faults c.coming old new) →
    Answers asks replies (this_store d.tells d.on_disk d.faults c.coming old new)
own_answers d c old new asks replies going run =
    subst (λ (x : Option ℕ). OwnRun x asks replies (this_store d.tells d.on_disk d.faults c.coming old new)) going run

-- a run of one history is one of an equal one
run_alike : (S : Replies → ℕ → Type 0) (one other : History) (asks : List Asked) (replies : Replies) (end : List Entry) →
    one.issuer ≡ other.issuer → one.version ≡ other.version → one.entries ≡ other.entries →
    ChainRun other.version other.issuer S other.entries asks replies end → ChainRun one.version one.issuer S one.entries asks replies end
run_alike S one other asks replies end issuer version entries run =
    subst (λ (v : Version). ChainRun v one.issuer S one.entries asks replies end) (sym version)
    (subst (λ (n : List ℕ). ChainRun other.version n S one.entries asks replies end) (sym issuer)
    (subst (λ (es : List Entry). ChainRun other.version other.issuer S es asks replies end) (sym entries) run))

pub own_worlds : {D C E F : Type 0} (d : disk.Ghosts D) (c : clock.Ghosts C) (e : disk.Ghosts E) (f : clock.Ghosts F) →
    OwnWorlds d c e f
own_worlds d c e f = λ parts parts' before after before' after' answers answers' index index' s s' a b agree one two.
    let first = state_of a.old in
    let second = state_of b.old in
    let asks = a.part.script.asks in
    let replies = replies_to index answers in
    let replies' = replies_to index' answers' in
    let end = (state_of a.new).entries in
    let end' = (state_of b.new).entries in
    let R = IsComing (c.coming (clock_of a.old)) in
    let S = IsComing (f.coming (clock_of b.old)) in
    let own = own_answers d c a.old a.new (asks_in (mine index s.made)) replies one.going_on
    (s.own index a.old a.new a.was a.is) in
    let own' = own_answers e f b.old b.new (asks_in (mine index' s'.made)) replies' two.going_on
    (s'.own index' b.old b.new b.was b.is) in
    let run : ChainRun first.version first.issuer R first.entries asks replies end =
    subst (λ (qs : List Asked). ChainRun first.version first.issuer R first.entries qs replies end) (s.whole index a.part a.own)
    own.run in
    let other : ChainRun first.version first.issuer S first.entries asks replies' end' =
    run_alike S first second asks replies' end' agree.issuer agree.version agree.entries
    (subst (λ (qs : List Asked). ChainRun second.version second.issuer S second.entries qs replies' end')
    (s'.whole index' b.part b.own ∙ sym agree.asks_are) own'.run) in
    let ok = all_replied (d.faults (disk_of (journal_of a.old))) (d.faults (disk_of (journal_of a.new))) replies own.stops
    one.no_fault one.memory in
    let ok' = all_replied (e.faults (disk_of (journal_of b.old))) (e.faults (disk_of (journal_of b.new))) replies' own'.stops
    two.no_fault two.memory in
    let same = same_runs first.version first.issuer S first.entries R
    (λ rs x y p q. told_alike (c.coming (clock_of a.old) (readings rs)) (f.coming (clock_of b.old) (readings rs))
    (agree.readings (readings rs)).0 x y (agree.readings (readings rs)).1 (agree.readings (readings rs)).2 p q)
    run replies' end' other ok ok' in
    record { replies_are = same.0; history_is = same.1 }
