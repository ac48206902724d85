-- Where a run of a store begins, and what it comes to.
use Rattle.std.proofs.Common.{◌≡◌, inl, inr, ℕ, ◌+◌, List, [], ◌∷◌, ◌++◌, sym, ◌∙◌, ap, subst, refl, arith, IsTrue}
use Rattle.std.proofs.Common.{Option, Some, None, Result, Err}
use Rattle.std.specs.List.{AllByRecursion}
use Rattle.std.proofs.lemmas.List.{append-nil}
use Rattle.chain_disk.specs.OnDisk.{OnDisk, IsImage, LeavesOnly}
use Rattle.chain_disk.specs.Runs.{leaves_now, started_settled}
use Rattle.chain_store.specs.Ready.{Holds}
use Rattle.shop_core.specs.File.Files.{StandsFor}
use Rattle.journal.specs.declared.faults.StoreFault.{StoreFault}
use Rattle.journal.specs.declared.faults.StoreFault.TheVariants.{DiskFault}
use Rattle.record_fields.specs.declared.versions.Version.{Version}
use Rattle.record_codec.specs.declared.entry.Entry.{Entry}
use Rattle.shop_core.specs.Answer.Requests.{Asked}
use Rattle.shop_core.specs.History.{History}
use Rattle.shop_core.specs.Legal.{Legal}
use Rattle.shop_core.specs.Answer.Replies.{ChainRun}
use Rattle.shop_core.specs.Answer.Replies.ChainRun.{begun}
use Rattle.shop_core.specs.declared.answer.Reply.{Reply}
use Rattle.shop_core.specs.Prefix.{IsPrefix}
use Rattle.chain_store.specs.Crashes.{IsCutOff, KeptByRun, StandsUpTo, StandsForEnd}
use Rattle.chain_store.specs.Losing.{NeverLoses, none_lost_by}
use Rattle.chain_store.specs.Readings.{IsComing}
use Rattle.chain_store.specs.Replies.{AllGoOn, IsGoingOn, StopsByFault, StopsOnce}
use Rattle.chain_store.specs.Progress.{Origin, Point, Progress, SoFar}

-- a store that holds its history stands for it
pub stands : (history : History) (gate : ℕ) (t : OnDisk) → Holds history gate t →
    Legal history.version history.issuer history.entries →
    StandsFor history.version history.issuer history.entries t.content
stands history gate t h legal = record { frames = h.file.file; encoded = h.encoded; legal = legal }

-- the same at the version and the issuer of the run
stands_here : (o : Origin) (p : Point) (gate : ℕ) → p.history.issuer ≡ o.issuer → p.history.version ≡ o.version →
    Legal p.history.version p.history.issuer p.history.entries → Holds p.history gate p.now →
    StandsFor o.version o.issuer p.history.entries p.now.content
stands_here o p gate issuer version legal holds =
    subst (λ (v : Version). StandsFor v o.issuer p.history.entries p.now.content) version
    (subst (λ (n : List ℕ). StandsFor p.history.version n p.history.entries p.now.content) issuer
    (stands p.history gate p.now holds legal))

pub begins : (o : Origin) (p : Point) (replies : List (Result Reply StoreFault)) (gate : ℕ) → replies ≡ [] →
    p.history.issuer ≡ o.issuer → p.history.version ≡ o.version → p.history.entries ≡ o.start → p.now ≡ o.since →
    p.faults ≡ o.at_faults → p.stopped ≡ None → ((k : ℕ) → p.next k ≡ o.coming k) →
    Legal p.history.version p.history.issuer p.history.entries →
    (IsTrue o.tells → Holds p.history gate p.now) →
    SoFar o [] replies p
begins o p replies gate none issuer version start since faults going next legal holds =
    let whole : IsPrefix o.start p.history.entries = record { rest = []; is = start ∙ sym (append-nil o.start) } in
    let only : IsTrue o.tells → LeavesOnly o.since p.now (StandsUpTo o.version o.issuer o.start p.history.entries []) = λ tells.
    let h = holds tells in
    let here = stands_here o p gate issuer version legal h in
    subst (λ (t : OnDisk). LeavesOnly t p.now (StandsUpTo o.version o.issuer o.start p.history.entries [])) since
    (started_settled p.now (StandsUpTo o.version o.issuer o.start p.history.entries []) h.file.nothing_pending (record {
      history = p.history.entries;
      stands = here;
      begins = whole;
      within = record { rest = []; is = refl };
    })) in
    let progress : Progress o [] [] p None = record { go_on = tt; only = only } in
    subst (λ (rs : List (Result Reply StoreFault)). SoFar o [] rs p) (sym none) (record {
      own = issuer;
      version = version;
      run = subst (λ (es : List Entry). ChainRun o.version o.issuer (IsComing o.coming) o.start [] [] es) (sym start) begun;
      moved = λ k. let e : k ≡ 0 + k = omega arith in next k ∙ ap o.coming e;
      begins = whole;
      later = omega (arith, faults);
      never_loses = λ tells. none_lost_by o.since p.now since;
      progress = subst (λ (x : Option ℕ). Progress o [] [] p x) (sym going) progress;
    })

all_middle : (P : Result Reply StoreFault → Type 0) (before behind : List (Result Reply StoreFault)) (x : Result Reply StoreFault)
    → AllByRecursion P (before ++ (x ∷ behind)) → P x
all_middle P [] behind x h = h.0
all_middle P (y ∷ before) behind x h = all_middle P before behind x h.1

-- where the journal has stopped, not all replies go on
stopped_once : (faults count : ℕ) (replies : List (Result Reply StoreFault)) → StopsByFault faults count replies →
    AllGoOn replies → ⊥
stopped_once faults count replies h all =
    all_middle IsGoingOn h.before h.behind (Err DiskFault) (subst (λ (rs : List (Result Reply StoreFault)). AllGoOn rs) h.parts
    all)

stops_by : (stopped : Option ℕ) (o : Origin) (asks : List Asked) (replies : List (Result Reply StoreFault)) (p : Point) →
    Progress o asks replies p stopped → StopsOnce o.at_faults p.faults replies
stops_by None o asks replies p h = inl h.go_on
stops_by (Some count) o asks replies p h = inr (subst (λ (n : ℕ). StopsByFault o.at_faults n replies) h.at_this h.stops)

pub stops : (o : Origin) (asks : List Asked) (replies : List (Result Reply StoreFault)) (p : Point) → SoFar o asks replies p →
    StopsOnce o.at_faults p.faults replies
stops o asks replies p h = stops_by p.stopped o asks replies p h.progress

-- what this run leaves up to this point
abbrev KeptSoFar : Origin → List Asked → List (Result Reply StoreFault) → Point → Type 0
KeptSoFar o asks replies p = KeptByRun (StandsUpTo o.version o.issuer o.start p.history.entries)
    (IsCutOff o.version o.issuer (IsComing o.coming) asks p.history.entries replies) o.version o.issuer p.history.entries
    replies o.since p.now

kept_by : (stopped : Option ℕ) (o : Origin) (asks : List Asked) (replies : List (Result Reply StoreFault)) (p : Point) (gate : ℕ)
    → p.history.issuer ≡ o.issuer → p.history.version ≡ o.version → Progress o asks replies p stopped →
    Legal p.history.version p.history.issuer p.history.entries → (stopped ≡ None → IsTrue o.tells → Holds p.history gate p.now) →
    IsImage p.now.now p.now.content → IsTrue o.tells → NeverLoses o.since p.now → KeptSoFar o asks replies p
kept_by None o asks replies p gate own version g legal holds image tells stays =
    let h = holds refl tells in
    let here = stands_here o p gate own version legal h in
    record {
      torn = [];
      at_most_one = omega arith;
      by_a_fault = λ all. refl;
      made = tt;
      kept = record {
        each_moment = g.only tells;
        never_loses = stays;
        every_crash = leaves_now p.now (StandsForEnd o.version o.issuer p.history.entries []) h.file.nothing_pending (inl here);
        reads = inl here;
      };
    }
kept_by (Some count) o asks replies p gate own version g legal holds image tells stays =
    let left = g.left tells in
    record {
      torn = left.torn;
      at_most_one = left.at_most_one;
      by_a_fault = λ all. absurd (stopped_once o.at_faults count replies g.stops all);
      made = left.made;
      kept = record {
        each_moment = left.only;
        never_loses = stays;
        every_crash = left.here;
        reads = left.here p.now.content (inl (refl, image));
      };
    }

pub kept : (o : Origin) (asks : List Asked) (replies : List (Result Reply StoreFault)) (p : Point) (gate : ℕ) →
    SoFar o asks replies p → Legal p.history.version p.history.issuer p.history.entries →
    (p.stopped ≡ None → IsTrue o.tells → Holds p.history gate p.now) → IsImage p.now.now p.now.content → IsTrue o.tells →
    KeptSoFar o asks replies p
kept o asks replies p gate h legal holds image tells =
    kept_by p.stopped o asks replies p gate h.own h.version h.progress legal holds image tells (h.never_loses tells)
