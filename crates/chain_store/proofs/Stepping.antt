-- A run of a store goes on by one more reply.
use Rattle.std.proofs.Common.{◌≡◌, inl, inr, ℕ, ◌+◌, ◌≤◌, List, [], ◌∷◌, ◌++◌, length, append_assoc, sym, ◌∙◌, ap, subst, refl}
use Rattle.std.proofs.Common.{arith, add_assoc, add-zero, Bool, true, cond, IsTrue, IsSome, Option, Some, None, Result, Ok, Err}
use Rattle.std.proofs.Common.{get_or, length-append, slice_get}
use Rattle.std.specs.List.{AllByRecursion}
use Rattle.std.proofs.Math.Seq.{get_or-append_seam}
use Rattle.std.proofs.lemmas.List.{append-nil, get_or_append_left}
use Rattle.std.proofs.lemmas.Option.{get_or_from_slice_get, slice_get_read, slice_get_within}
use Rattle.std.proofs.lemmas.List.Sums.{sum_by-append}
use Rattle.record_fields.specs.declared.versions.Version.{Version}
use Rattle.chain_disk.specs.OnDisk.{OnDisk, LeavesOnly, LeavesNow, moment}
use Rattle.chain_disk.specs.Runs.{follows, weaker}
use Rattle.chain_store.specs.Ready.{Takes, Tears}
use Rattle.shop_core.specs.File.Files.{StandsFor, StandsAround, StandsBeforeOrWith}
use Rattle.journal.specs.declared.faults.StoreFault.{StoreFault}
use Rattle.journal.specs.declared.faults.StoreFault.TheVariants.{DiskFault, Stopped, NoMemory}
use Rattle.ports.specs.Causes.{Rose}
use Rattle.ports.specs.Readings.{IsTold, MovedBy}
use Rattle.record_codec.specs.declared.entry.Entry.{Entry}
use Rattle.shop_core.specs.Answer.Plans.{answer}
use Rattle.shop_core.specs.Answer.Requests.{Asked}
use Rattle.shop_core.specs.Answer.Replies.{ChainRun, IsReply, Tells}
use Rattle.shop_core.specs.Answer.Replies.ChainRun.{begun, replied}
use Rattle.shop_core.specs.declared.answer.Planned.{Planned}
use Rattle.shop_core.specs.declared.answer.Planned.TheVariants.{Again, Refused, Made}
use Rattle.shop_core.specs.declared.answer.Reply.{Reply}
use Rattle.shop_core.specs.Prefix.{IsPrefix}
use Rattle.chain_store.specs.Crashes.{IsCutOff, StandsUpTo, StandsForEnd}
use Rattle.chain_store.specs.Losing.{none_lost_in_both}
use Rattle.chain_store.specs.Readings.{IsComing, has_read, readings}
use Rattle.chain_store.specs.Replies.{IsGoingOn, IsStopped, StopsByFault}
use Rattle.chain_store.proofs.EachElement.{each_weaker}
use Rattle.chain_store.specs.Progress.{Origin, Point, GoingOn, Torn, Halted, Progress, SoFar, Step, call_at}

abbrev Told_reply : Type 0
Told_reply = Result Reply StoreFault

all_push : (P : Told_reply → Type 0) (xs : List Told_reply) (x : Told_reply) → P x → AllByRecursion P xs →
    AllByRecursion P (xs ++ x ∷ [])
all_push P [] x p h = (p, tt)
all_push P (y ∷ xs) x p h = (h.0, all_push P xs x p h.1)

readings_read : (replies : List Told_reply) (told : Told_reply) → has_read told ≡ true → readings (replies ++ told ∷ []) ≡
    readings replies + 1
readings_read replies told read =
    let one : ◌≡◌ {A = ℕ} (cond (has_read told) 1 0) 1 = rw read refl in
    let more = sum_by-append (λ (r : Told_reply). cond (has_read r) 1 0) replies (told ∷ []) in
    omega (arith, more, one)

readings_stopped : (replies : List Told_reply) (count : ℕ) → readings (replies ++ Err (Stopped count) ∷ []) ≡ readings replies
readings_stopped replies count =
    let more = sum_by-append (λ (r : Told_reply). cond (has_read r) 1 0) replies (Err (Stopped count) ∷ []) in
    omega (arith, more)

moved_on : (i : ℕ) (old mid new : ℕ → Option ℕ) → MovedBy i old mid → MovedBy 1 mid new → MovedBy (i + 1) old new
moved_on i old mid new a b k = b k ∙ a (1 + k) ∙ ap old (sym (add_assoc i 1 k))

-- some number is a coming answer
some_told : (o : Option ℕ) → (seconds : ℕ) × IsTold o seconds
some_told None = (0, tt)
some_told (Some told) = (told, refl)

prefix_more : (start entries gained whole : List Entry) → whole ≡ entries ++ gained → IsPrefix start entries →
    IsPrefix start whole
prefix_more start entries gained whole is h = record {
  rest = h.rest ++ gained;
  is = is ∙ ap (λ (es : List Entry). es ++ gained) h.is ∙ append_assoc start h.rest gained;
}

prefix_all : (entries : List Entry) → IsPrefix entries entries
prefix_all entries = record { rest = []; is = sym (append-nil entries) }

-- what was left of a run is left of a longer one
pub between_more : (version : Version) (issuer : List ℕ) (start entries gained torn whole : List Entry) →
    whole ≡ entries ++ gained → (c : List ℕ) →
    StandsUpTo version issuer start entries [] c → StandsUpTo version issuer start whole torn c
between_more version issuer start entries gained torn whole is c h =
    let within : IsPrefix h.history entries = subst (λ (es : List Entry). IsPrefix h.history es) (append-nil entries) h.within in
    record {
      history = h.history;
      stands = h.stands;
      begins = h.begins;
      within = prefix_more h.history entries (gained ++ torn) (whole ++ torn) (ap (λ (es : List Entry). es ++ torn) is ∙
          append_assoc entries gained torn) within;
    }

stands_between : (version : Version) (issuer : List ℕ) (start entries history rest : List Entry) (c : List ℕ) →
    IsPrefix start history → entries ≡ history ++ rest → StandsFor version issuer history c →
    StandsUpTo version issuer start entries [] c
stands_between version issuer start entries history rest c begins is stands = record {
  history = history;
  stands = stands;
  begins = begins;
  within = record { rest = rest; is = append-nil entries ∙ is };
}

-- what one answered ask leaves
around_gained : (version : Version) (issuer : List ℕ) (start entries gained whole : List Entry) (planned : Planned)
    (told : Reply) (c : List ℕ) → IsPrefix start entries → whole ≡ entries ++ gained →
    Tells entries planned told gained → StandsAround version issuer entries planned c → StandsUpTo version issuer start whole [] c
around_gained version issuer start entries gained whole (Again receipt) told c begins is tells stands =
    stands_between version issuer start whole entries gained c begins is stands
around_gained version issuer start entries gained whole (Refused why) told c begins is tells stands =
    stands_between version issuer start whole entries gained c begins is stands
around_gained version issuer start entries gained whole (Made entry) told c begins is tells (inl before) =
    stands_between version issuer start whole entries gained c begins is before
around_gained version issuer start entries gained whole (Made entry) told c begins is tells (inr with_it) =
    let all : whole ≡ entries ++ entry ∷ [] = is ∙ ap (λ (es : List Entry). entries ++ es) tells.1 in
    stands_between version issuer start whole (entries ++ entry ∷ []) [] c (prefix_more start entries (entry ∷ []) _ refl begins)
    (all ∙ sym (append-nil (entries ++ entry ∷ []))) with_it

end_between : (version : Version) (issuer : List ℕ) (start entries torn : List Entry) (c : List ℕ) → IsPrefix start entries →
    StandsForEnd version issuer entries torn c → StandsUpTo version issuer start entries torn c
end_between version issuer start entries torn c begins (inl stands) = record {
  history = entries;
  stands = stands;
  begins = begins;
  within = record { rest = torn; is = refl };
}
end_between version issuer start entries torn c begins (inr stands) = record {
  history = entries ++ torn;
  stands = stands;
  begins = prefix_more start entries torn _ refl begins;
  within = prefix_all (entries ++ torn);
}

none_some : {A : Type 0} {o : Option A} {x : A} → o ≡ None → o ≡ Some x → ⊥
none_some none some = absurd cc

some_same : {A : Type 0} {o : Option A} {x y : A} → o ≡ Some x → o ≡ Some y → x ≡ y
some_same a b = cc

fault_told : {x y : ℕ} {told : Told_reply} → told ≡ Err (Stopped x) → told ≡ Err (Stopped y) → x ≡ y
fault_told a b = cc

-- a reply at a journal that goes on read the clock
reads : (told : Told_reply) → ((count : ℕ) → told ≡ Err (Stopped count) → ⊥) → has_read told ≡ true
reads (Ok reply) none = refl
reads (Err DiskFault) none = refl
reads (Err (Stopped count)) none = absurd (none count refl)
reads (Err NoMemory) none = refl

-- what is said of one ask, with the issuer of the run
pub record Taking (o : Origin) (p : Point) (ask : Asked) (told : Told_reply) (q : Point) : Type 0 where
  pub seconds : ℕ
  pub reading : IsTold (p.next 0) seconds
  pub moved : MovedBy 1 p.next q.next
  pub own : q.history.issuer ≡ o.issuer
  pub version : q.history.version ≡ o.version
  pub gained : List Entry
  pub entries : q.history.entries ≡ p.history.entries ++ gained
  pub reply : IsReply o.version o.issuer p.history.entries ask seconds told gained
  pub any_moment : IsTrue o.tells → LeavesOnly p.now q.now (StandsAround o.version o.issuer p.history.entries
      (answer o.version o.issuer p.history.entries ask seconds))

taking : (o : Origin) (p q : Point) (ask : Asked) (told : Told_reply) → p.history.issuer ≡ o.issuer →
    p.history.version ≡ o.version →
    Takes (call_at o.tells p q) ask told → Taking o p ask told q
taking o p q ask told own version t = record {
  seconds = t.seconds;
  reading = t.reading;
  moved = t.moved;
  own = t.issuer ∙ own;
  version = t.version ∙ version;
  gained = t.gained;
  entries = t.entries;
  reply = subst (λ (v : Version). IsReply v o.issuer p.history.entries ask t.seconds told t.gained) version
      (subst (λ (n : List ℕ). IsReply p.history.version n p.history.entries ask t.seconds told t.gained) own t.reply);
  any_moment = λ tells.
      subst (λ (v : Version). LeavesOnly p.now q.now (StandsAround v o.issuer p.history.entries
      (answer v o.issuer p.history.entries ask t.seconds))) version
      (subst (λ (n : List ℕ). LeavesOnly p.now q.now (StandsAround p.history.version n p.history.entries
      (answer p.history.version n p.history.entries
      ask t.seconds))) own (t.any_moment tells));
}

answered : (o : Origin) (p q : Point) (ask : Asked) (reply : Reply) (replies : List Told_reply) →
    IsPrefix o.start p.history.entries → GoingOn o replies p → Taking o p ask (Ok reply) q →
    GoingOn o (replies ++ Ok reply ∷ []) q
answered o p q ask reply replies begins g t = record {
  go_on = all_push IsGoingOn replies (Ok reply) tt g.go_on;
  only = λ tells. follows o.since p.now q.now
      (StandsUpTo o.version o.issuer o.start p.history.entries [])
      (StandsAround o.version o.issuer p.history.entries (answer o.version o.issuer p.history.entries ask t.seconds))
      (StandsUpTo o.version o.issuer o.start q.history.entries [])
      (g.only tells) (t.any_moment tells)
      (between_more o.version o.issuer o.start p.history.entries t.gained [] q.history.entries t.entries)
      (λ c stands. around_gained o.version o.issuer o.start p.history.entries t.gained q.history.entries
      (answer o.version o.issuer p.history.entries
      ask t.seconds) reply c begins t.entries t.reply stands);
}

unanswered : (o : Origin) (p q : Point) (ask : Asked) (replies : List Told_reply) → GoingOn o replies p →
    Taking o p ask (Err NoMemory) q → q.now ≡ p.now →
    GoingOn o (replies ++ Err NoMemory ∷ []) q
unanswered o p q ask replies g t same = record {
  go_on = all_push IsGoingOn replies (Err NoMemory) tt g.go_on;
  only = λ tells.
      subst (λ (u : OnDisk). LeavesOnly o.since u (StandsUpTo o.version o.issuer o.start q.history.entries [])) (sym same)
      (weaker o.since p.now (StandsUpTo o.version o.issuer o.start p.history.entries [])
      (StandsUpTo o.version o.issuer o.start q.history.entries []) (g.only tells)
      (between_more o.version o.issuer o.start p.history.entries t.gained [] q.history.entries t.entries));
}

-- what is said of an ask that was cut off, with the issuer of the run
pub record Tearing (o : Origin) (p : Point) (ask : Asked) (q : Point) : Type 0 where
  pub entry : Entry
  pub seconds : ℕ
  pub reading : IsTold (p.next 0) seconds
  pub made : answer o.version o.issuer p.history.entries ask seconds ≡ Made entry
  pub any_moment : IsTrue o.tells → LeavesOnly p.now q.now (StandsBeforeOrWith o.version o.issuer p.history.entries entry)

tearing : (o : Origin) (p q : Point) (ask : Asked) (torn : Option Entry) → p.history.issuer ≡ o.issuer →
    p.history.version ≡ o.version →
    Tears (call_at o.tells p q) ask torn → Tearing o p ask q
tearing o p q ask torn own version t = record {
  entry = t.entry;
  seconds = t.seconds;
  reading = t.reading;
  made = subst (λ (v : Version). answer v o.issuer p.history.entries ask t.seconds ≡ Made t.entry) version
      (subst (λ (n : List ℕ). answer p.history.version n p.history.entries ask t.seconds ≡ Made t.entry) own t.made);
  any_moment = λ tells.
      subst (λ (v : Version). LeavesOnly p.now q.now (StandsBeforeOrWith v o.issuer p.history.entries t.entry)) version
      (subst (λ (n : List ℕ). LeavesOnly p.now q.now (StandsBeforeOrWith p.history.version n p.history.entries t.entry)) own
      (t.any_moment tells));
}

-- a run has one reply an ask
replies_of_asks : (version : Version) (issuer : List ℕ) (R : List Told_reply → ℕ → Type 0)
    (start : List Entry) {asks : List Asked}
    {replies : List Told_reply} {entries : List Entry} → ChainRun version issuer R start asks replies entries →
    length asks ≡ length replies
replies_of_asks version issuer R start begun = refl
replies_of_asks version issuer R start (replied asks replies entries ask told gained run seconds reading h) =
    let so_far = replies_of_asks version issuer R start run in
    omega (arith, so_far, length-append asks (ask ∷ []), length-append replies (told ∷ []))

-- the last ask of a list is after the others
asked_last : (asks : List Asked) (ask : Asked) (place : ℕ) → length asks ≡ place → slice_get (asks ++ ask ∷ []) place ≡ Some ask
asked_last asks ask place is =
    let more = length-append asks (ask ∷ []) in
    slice_get_read (asks ++ ask ∷ []) (length (asks ++ ask ∷ [])) place ask refl (omega (arith, is, more))
    (sym (subst (λ (n : ℕ). get_or (asks ++ ask ∷ []) n ask ≡ ask) is (get_or-append_seam asks ask [] ask)))

-- an ask keeps its place where others come after it
asked_before : (asks more : List Asked) (ask : Asked) (place : ℕ) → slice_get asks place ≡ Some ask →
    slice_get (asks ++ more) place ≡ Some ask
asked_before asks more ask place is =
    let within = slice_get_within asks place ask is in
    let size = length-append asks more in
    slice_get_read (asks ++ more) (length (asks ++ more)) place ask refl (omega (arith, within, size))
    (sym (get_or_append_left asks more ask place within ∙ get_or_from_slice_get asks place ask ask is))

-- a clock's next answer is the coming one of the number of readings so far
next_coming : (o : Origin) (replies : List Told_reply) (p : Point) (seconds : ℕ) → MovedBy (readings replies) o.coming p.next →
    IsTold (p.next 0) seconds → IsComing o.coming replies seconds
next_coming o replies p seconds moved told =
    subst (λ (a : Option ℕ). IsTold a seconds) (moved 0 ∙ ap o.coming (add-zero (readings replies))) told

-- the entry of an ask that was cut off, at the end of its run
cut_off_here : (o : Origin) (asks : List Asked) (replies : List Told_reply) (p q : Point) (ask : Asked) → SoFar o asks replies p →
    (t : Tearing o p ask q) → IsCutOff o.version o.issuer (IsComing o.coming) (asks ++ ask ∷ []) p.history.entries
    (replies ++ Err DiskFault ∷ []) t.entry
cut_off_here o asks replies p q ask h t = record {
  before = replies;
  behind = [];
  told = refl;
  ask = ask;
  asked = asked_last asks ask (length replies) (replies_of_asks o.version o.issuer (IsComing o.coming) o.start h.run);
  seconds = t.seconds;
  reading = next_coming o replies p t.seconds h.moved t.reading;
  made = t.made;
}

-- the same in a longer run
cut_off_more : (o : Origin) (asks : List Asked) (history : List Entry) (replies : List Told_reply) (ask : Asked)
    (told : Told_reply) (entry : Entry) → IsCutOff o.version o.issuer (IsComing o.coming) asks history replies entry →
    IsCutOff o.version o.issuer (IsComing o.coming) (asks ++ ask ∷ []) history (replies ++ told ∷ []) entry
cut_off_more o asks history replies ask told entry h = record {
  before = h.before;
  behind = h.behind ++ told ∷ [];
  told = ap (λ (rs : List Told_reply). rs ++ told ∷ []) h.told ∙ append_assoc h.before (Err DiskFault ∷ h.behind) (told ∷ []);
  ask = h.ask;
  asked = asked_before asks (ask ∷ []) h.ask (length h.before) h.asked;
  seconds = h.seconds;
  reading = h.reading;
  made = h.made;
}

torn : (o : Origin) (asks : List Asked) (replies : List Told_reply) (p q : Point) (ask : Asked) → SoFar o asks replies p →
    GoingOn o replies p → q.history.entries ≡ p.history.entries → Tearing o p ask q → IsTrue o.tells →
    Torn o (asks ++ ask ∷ []) (replies ++ Err DiskFault ∷ []) q
torn o asks replies p q ask h g same t tells =
    let more = t.entry ∷ [] in
    let any = t.any_moment tells in
    let only : LeavesOnly o.since q.now (StandsUpTo o.version o.issuer o.start p.history.entries more) =
    follows o.since p.now q.now
    (StandsUpTo o.version o.issuer o.start p.history.entries [])
    (StandsBeforeOrWith o.version o.issuer p.history.entries t.entry)
    (StandsUpTo o.version o.issuer o.start p.history.entries more)
    (g.only tells) any
    (between_more o.version o.issuer o.start p.history.entries [] more p.history.entries (sym (append-nil p.history.entries)))
    (λ c stands. end_between o.version o.issuer o.start p.history.entries more c h.begins stands) in
    record {
      torn = more;
      at_most_one = omega arith;
      made = (
        subst (λ (es : List Entry). IsCutOff o.version o.issuer (IsComing o.coming) (asks ++ ask ∷ []) es
            (replies ++ Err DiskFault ∷ [])
            t.entry) (sym same) (cut_off_here o asks replies p q ask h t),
        tt,
      );
      only = subst (λ (es : List Entry). LeavesOnly o.since q.now (StandsUpTo o.version o.issuer o.start es more)) (sym same)
          only;
      here = subst (λ (es : List Entry). LeavesNow q.now (StandsForEnd o.version o.issuer es more)) (sym same)
          (λ c left. any.each (moment q.now) c any.later left);
    }

risen_from : (first before after : ℕ) → first ≤ before → Rose before after → Rose first after
risen_from first before after later rose = λ below. let risen = rose below in omega (arith, later, risen)

-- the journal went on before the ask
progress_on : (o : Origin) (asks : List Asked) (replies : List Told_reply) (p q : Point) (ask : Asked) (told : Told_reply) →
    SoFar o asks replies p → GoingOn o replies p → p.stopped ≡ None → Taking o p ask told q → Step o.tells p ask told q →
    Progress o (asks ++ ask ∷ []) (replies ++ told ∷ []) q q.stopped
progress_on o asks replies p q ask (Ok reply) h g none t s =
    subst (λ (x : Option ℕ). Progress o (asks ++ ask ∷ []) (replies ++ Ok reply ∷ []) q x) (sym s.going_on.1)
    (answered o p q ask reply replies h.begins g t)
progress_on o asks replies p q ask (Err NoMemory) h g none t s =
    let same = s.no_memory refl in
    subst (λ (x : Option ℕ). Progress o (asks ++ ask ∷ []) (replies ++ Err NoMemory ∷ []) q x) (sym (same.1 ∙ none))
    (unanswered o p q ask replies g t same.0)
progress_on o asks replies p q ask (Err DiskFault) h g none t s =
    let f = s.fault refl in
    let cut = s.tears refl in
    let same : q.history.entries ≡ p.history.entries = t.entries ∙ ap (λ (es : List Entry). p.history.entries ++ es) t.reply ∙
    append-nil p.history.entries in
    subst (λ (x : Option ℕ). Progress o (asks ++ ask ∷ []) (replies ++ Err DiskFault ∷ []) q x) (sym f.1) (record {
      stops = record {
        before = replies;
        behind = [];
        parts = refl;
        go_on = g.go_on;
        stopped = tt;
        risen = risen_from o.at_faults p.faults q.faults h.later f.0;
      };
      at_this = refl;
      left = torn o asks replies p q ask h g same (tearing o p q ask cut.0 h.own h.version cut.1);
    })
progress_on o asks replies p q ask (Err (Stopped count)) h g none t s = absurd (none_some none ((s.stops count).0 refl))

step_on : (o : Origin) (asks : List Asked) (replies : List Told_reply) (p q : Point) (ask : Asked) (told : Told_reply) →
    p.stopped ≡ None → SoFar o asks replies p → Step o.tells p ask told q →
    SoFar o (asks ++ ask ∷ []) (replies ++ told ∷ []) q
step_on o asks replies p q ask told none h s =
    let t = taking o p q ask told h.own h.version (s.takes none) in
    let g : GoingOn o replies p = subst (λ (x : Option ℕ). Progress o asks replies p x) none h.progress in
    let read = readings_read replies told (reads told (λ count is. none_some none ((s.stops count).0 is))) in
    let reading = next_coming o replies p t.seconds h.moved t.reading in
    record {
      own = t.own;
      version = t.version;
      run = subst (λ (es : List Entry). ChainRun o.version o.issuer (IsComing o.coming) o.start (asks ++ ask ∷ [])
          (replies ++ told ∷ [])
          es) (sym t.entries)
          (replied asks replies p.history.entries ask told t.gained h.run t.seconds reading t.reply);
      moved = subst (λ (n : ℕ). MovedBy n o.coming q.next) (sym read) (moved_on (readings replies) o.coming p.next q.next h.moved
          t.moved);
      begins = prefix_more o.start p.history.entries t.gained q.history.entries t.entries h.begins;
      later = omega (arith, h.later, s.later);
      never_loses = λ tells. none_lost_in_both o.since p.now q.now (h.never_loses tells) (s.never_loses tells);
      progress = progress_on o asks replies p q ask told h g none t s;
    }

stopped_more : (faults count : ℕ) (replies : List Told_reply) → StopsByFault faults count replies →
    StopsByFault faults count (replies ++ Err (Stopped count) ∷ [])
stopped_more faults count replies h = record {
  before = h.before;
  behind = h.behind ++ Err (Stopped count) ∷ [];
  parts = ap (λ (rs : List Told_reply). rs ++ Err (Stopped count) ∷ []) h.parts ∙ append_assoc h.before (Err DiskFault ∷ h.behind)
      (Err (Stopped count) ∷ []);
  go_on = h.go_on;
  stopped = all_push (IsStopped count) h.behind (Err (Stopped count)) refl h.stopped;
  risen = h.risen;
}

torn_more : (o : Origin) (asks : List Asked) (replies : List Told_reply) (p : Point) (ask : Asked) (told : Told_reply) →
    Torn o asks replies p → Torn o (asks ++ ask ∷ []) (replies ++ told ∷ []) p
torn_more o asks replies p ask told h = record {
  torn = h.torn;
  at_most_one = h.at_most_one;
  made = each_weaker _ _ h.torn (cut_off_more o asks p.history.entries replies ask told) h.made;
  only = h.only;
  here = h.here;
}

-- the journal had stopped before the ask
step_stopped : (o : Origin) (asks : List Asked) (replies : List Told_reply) (p : Point) (ask : Asked) (count : ℕ) →
    p.stopped ≡ Some count → SoFar o asks replies p →
    SoFar o (asks ++ ask ∷ []) (replies ++ Err (Stopped count) ∷ []) p
step_stopped o asks replies p ask count some h =
    let told : Told_reply = Err (Stopped count) in
    let g : Halted o asks replies p count = subst (λ (x : Option ℕ). Progress o asks replies p x) some h.progress in
    let any = some_told (o.coming (readings replies)) in
    let here : Progress o (asks ++ ask ∷ []) (replies ++ told ∷ []) p (Some count) = record {
      stops = stopped_more o.at_faults count replies g.stops;
      at_this = g.at_this;
      left = λ tells. torn_more o asks replies p ask told (g.left tells);
    } in
    record {
      own = h.own;
      version = h.version;
      run = subst (λ (es : List Entry). ChainRun o.version o.issuer (IsComing o.coming) o.start (asks ++ ask ∷ [])
          (replies ++ told ∷ [])
          es) (append-nil p.history.entries)
          (replied asks replies p.history.entries ask told [] h.run any.0 any.1 refl);
      moved = subst (λ (n : ℕ). MovedBy n o.coming p.next) (sym (readings_stopped replies count)) h.moved;
      begins = h.begins;
      later = h.later;
      never_loses = h.never_loses;
      progress = subst (λ (x : Option ℕ). Progress o (asks ++ ask ∷ []) (replies ++ told ∷ []) p x) (sym some) here;
    }

step_by : (stopped : Option ℕ) (o : Origin) (asks : List Asked) (replies : List Told_reply) (p q : Point) (ask : Asked)
    (told : Told_reply) → p.stopped ≡ stopped → SoFar o asks replies p →
    Step o.tells p ask told q → SoFar o (asks ++ ask ∷ []) (replies ++ told ∷ []) q
step_by None o asks replies p q ask told is h s = step_on o asks replies p q ask told is h s
step_by (Some count) o asks replies p q ask told is h s =
    let same : q ≡ p = s.untouched (subst (λ (x : Option ℕ). IsSome x) (sym is) refl) in
    subst (λ (t : Told_reply). SoFar o (asks ++ ask ∷ []) (replies ++ t ∷ []) q) (sym ((s.stops count).1 is))
    (subst (λ (x : Point). SoFar o (asks ++ ask ∷ []) (replies ++ Err (Stopped count) ∷ []) x) (sym same)
    (step_stopped o asks replies p ask count is h))

pub step : (o : Origin) (asks : List Asked) (replies : List Told_reply) (p q : Point) (ask : Asked) (told : Told_reply) →
    SoFar o asks replies p → Step o.tells p ask told q →
    SoFar o (asks ++ ask ∷ []) (replies ++ told ∷ []) q
step o asks replies p q ask told h s = step_by p.stopped o asks replies p q ask told refl h s

untouched_by : {C : Type 0} (stopped : Option ℕ) (tells : Bool) (p q : Point) (ask : Asked) (told : Told_reply)
    (first old new : C) (replies : List Told_reply) → p.stopped ≡ stopped →
    Step tells p ask told q → (IsSome p.stopped → new ≡ old) → (readings replies ≡ 0 → old ≡ first) →
    readings (replies ++ told ∷ []) ≡ 0 → new ≡ first
untouched_by None tells p q ask told first old new replies is s same before none =
    let read = readings_read replies told (reads told (λ count e. none_some is ((s.stops count).0 e))) in
    absurd (omega (arith, read, none))
untouched_by (Some count) tells p q ask told first old new replies is s same before none =
    let fewer : readings (replies ++ Err (Stopped count) ∷ []) ≡ 0 = subst (λ (t : Told_reply). readings (replies ++ t ∷ []) ≡ 0)
    ((s.stops count).1 is) none in
    same (subst (λ (x : Option ℕ). IsSome x) (sym is) refl) ∙ before (sym (readings_stopped replies count) ∙ fewer)

-- a clock that wasn't read before an ask, nor in it, is as it was
pub untouched : {C : Type 0} (tells : Bool) (p q : Point) (ask : Asked) (told : Told_reply) (first old new : C)
    (replies : List Told_reply) →
    Step tells p ask told q → (IsSome p.stopped → new ≡ old) → (readings replies ≡ 0 → old ≡ first) →
    readings (replies ++ told ∷ []) ≡ 0 → new ≡ first
untouched tells p q ask told first old new replies s same before none = untouched_by p.stopped tells p q ask told first old new
    replies refl s same before none
