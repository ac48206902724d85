-- A run of a store, from where it begins, ask by ask, to what it comes to.
use Rattle.std.proofs.Common.{◌≡◌, ◌⊎◌, ℕ, List, [], ◌∷◌, ◌++◌, length-append, sym, ◌∙◌, ap, subst, refl, arith, IsTrue, IsSome}
use Rattle.std.proofs.Common.{Option, Some, None, Result, Ok, Err, append_assoc, inl, inr}
use Rattle.ports.specs.declared.Clock as clock
use Rattle.chain_disk.specs.Disks.{this_disk}
use Rattle.chain_disk.specs.OnDisk.{IsImage, LeavesNow}
use Rattle.chain_disk.specs.Runs.{leaves_now}
use Rattle.chain_disk.specs.declared.disk.Disk as disk
use Rattle.std.proofs.lemmas.List.{append-nil}
use Rattle.huella.specs.Linked.{Linked}
use Rattle.journal.specs.Journal.{disk_of, end_of, stopped_of}
use Rattle.journal.specs.declared.faults.StoreFault.{StoreFault}
use Rattle.journal.specs.declared.faults.StoreFault.TheVariants.{DiskFault, NoMemory, Stopped}
use Rattle.record_fields.specs.declared.versions.Version.{Version}
use Rattle.record_codec.specs.declared.entry.Entry.{Entry}
use Rattle.shop_core.specs.Answer.Requests.{Asked}
use Rattle.shop_core.specs.File.Files.{StandsFor}
use Rattle.shop_core.specs.History.{recs}
use Rattle.shop_core.specs.Legal.{Legal}
use Rattle.shop_core.specs.Rising.{SerialsRise}
use Rattle.shop_core.specs.declared.answer.Reply.{Reply}
use Rattle.chain_store.specs.Store.{Ready, clock_of, journal_of, state_of, torn_of}
use Rattle.chain_store.specs.declared.store.Store.{Store}
use Rattle.chain_store.specs.Crashes.{FailsIn}
use Rattle.chain_store.specs.Progress.{Progress, Step, origin_of, point_of}
use Rattle.chain_store.specs.Replies.{AllGoOn, Replies}
use Rattle.chain_store.specs.Runs.{this_store}
use Rattle.chain_store.specs.Taking.{Fails, FailsOnce, GoesOrFails, OwnRun, RunsBy}
use Rattle.chain_store.specs.Took.{Took}
use Rattle.chain_store.proofs.EachElement.{each_snoc}
use Rattle.chain_store.proofs.Finishing.{begins, kept, stands, stops}
use Rattle.chain_store.proofs.Stepping.{step, untouched}

none_some : {A : Type 0} {o : Option A} {x : A} → o ≡ None → o ≡ Some x → ⊥
none_some none some = absurd cc

module _ {D C : Type 0} (d : disk.Ghosts D) (c : clock.Ghosts C) where
  -- one ask more at a store whose journal went on, where it has stopped by then
  fails_now : (first old new : Store D C d) (asks : List Asked) (replies : Replies) (ask : Asked)
      (told : Result Reply StoreFault) (count : ℕ) → stopped_of (journal_of old) ≡ None → Ready d.tells d.on_disk old →
      GoesOrFails d c first old asks replies → Took d c old new ask told → stopped_of (journal_of new) ≡ Some count →
      Fails d c first new (asks ++ ask ∷ []) (replies ++ told ∷ [])
  fails_now first old new asks replies ask (Ok reply) count none ready run took is = absurd (none_some took.going_on.1 is)
  fails_now first old new asks replies ask (Err NoMemory) count none ready run took is =
      absurd (none_some (ap (λ j. stopped_of j) (took.no_memory refl) ∙ none) is)
  fails_now first old new asks replies ask (Err (Stopped n)) count none ready run took is =
      absurd (none_some none ((took.stopped n).0 refl))
  fails_now first old new asks replies ask (Err DiskFault) count none ready run took is = record {
    before = replies;
    behind = [];
    told = refl;
    earlier = asks;
    ask = ask;
    later = [];
    asks_are = refl;
    found = old;
    ready = ready;
    going_on = none;
    run = run.goes;
    took = took;
  }

  -- one ask more at a store whose journal had stopped
  fails_still : (first old new : Store D C d) (asks : List Asked) (replies : Replies) (ask : Asked)
      (told : Result Reply StoreFault) → new ≡ old → Fails d c first old asks replies →
      Fails d c first new (asks ++ ask ∷ []) (replies ++ told ∷ [])
  fails_still first old new asks replies ask told same f = record {
    before = f.before;
    behind = f.behind ++ told ∷ [];
    told = ap (λ (rs : Replies). rs ++ told ∷ []) f.told ∙ append_assoc f.before (Err DiskFault ∷ f.behind) (told ∷ []);
    earlier = f.earlier;
    ask = f.ask;
    later = f.later ++ ask ∷ [];
    asks_are = ap (λ (xs : List Asked). xs ++ ask ∷ []) f.asks_are ∙ append_assoc f.earlier (f.ask ∷ f.later) (ask ∷ []);
    found = f.found;
    ready = f.ready;
    going_on = f.going_on;
    run = f.run;
    took = subst (λ (s : Store D C d). Took d c f.found s f.ask (Err DiskFault)) (sym same) f.took;
  }

  fails_more : (x : Option ℕ) (first old new : Store D C d) (asks : List Asked) (replies : Replies) (ask : Asked)
      (told : Result Reply StoreFault) (count : ℕ) → stopped_of (journal_of old) ≡ x → Ready d.tells d.on_disk old →
      GoesOrFails d c first old asks replies → Took d c old new ask told → stopped_of (journal_of new) ≡ Some count →
      Fails d c first new (asks ++ ask ∷ []) (replies ++ told ∷ [])
  fails_more None first old new asks replies ask told count was ready run took is =
      fails_now first old new asks replies ask told count was ready run took is
  fails_more (Some n) first old new asks replies ask told count was ready run took is =
      fails_still first old new asks replies ask told
      (took.untouched (subst (λ (x : Option ℕ). IsSome x) (sym was) refl)) (run.fails n was)

  begins_by : (x : Option ℕ) (s : Store D C d) → stopped_of (journal_of s) ≡ x → Ready d.tells d.on_disk s →
      Legal (state_of s).version (state_of s).issuer (state_of s).entries → RunsBy x d c s s [] []
  begins_by None s is ready legal =
      let o = origin_of d.tells d.on_disk d.faults c.coming s in
      let p = point_of d.on_disk d.faults c.coming s in
      record {
        goes = record {
          so_far = begins o p [] (end_of (journal_of s)) refl refl refl refl refl refl is (λ k. refl) legal
              (λ says. ready.holds is says);
          unread = λ none. refl;
        };
        fails = λ count stopped. absurd (none_some is stopped);
      }
  begins_by (Some count) s is ready legal = record { each = tt; one_each = refl; same = refl }

  pub run_begins : (s : Store D C d) → Ready d.tells d.on_disk s → Legal (state_of s).version (state_of s).issuer
      (state_of s).entries →
      RunsBy (stopped_of (journal_of s)) d c s s [] []
  run_begins s ready legal = begins_by (stopped_of (journal_of s)) s refl ready legal

  goes_by : (x : Option ℕ) (first old new : Store D C d) (asks : List Asked) (replies : Replies) (ask : Asked)
      (told : Result Reply StoreFault) → stopped_of (journal_of first) ≡ x → Ready d.tells d.on_disk old →
      RunsBy x d c first old asks replies →
      Took d c old new ask told → RunsBy x d c first new (asks ++ ask ∷ []) (replies ++ told ∷ [])
  goes_by None first old new asks replies ask told is ready run took =
      let o = origin_of d.tells d.on_disk d.faults c.coming first in
      let p = point_of d.on_disk d.faults c.coming old in
      let q = point_of d.on_disk d.faults c.coming new in
      let one : Step d.tells p ask told q = record {
        takes = took.takes;
        going_on = took.going_on;
        no_memory = λ is. let same = took.no_memory is in
            (ap (λ j. d.on_disk (disk_of j)) same, ap (λ j. stopped_of j) same);
        fault = took.fault;
        tears = λ is. (torn_of new, took.torn is);
        stops = took.stopped;
        untouched = λ is. ap (λ s. point_of d.on_disk d.faults c.coming s) (took.untouched is);
        later = took.later;
        never_loses = took.never_loses;
      } in
      record {
        goes = record {
          so_far = step o asks replies p q ask told run.goes.so_far one;
          unread = untouched d.tells p q ask told (clock_of first) (clock_of old) (clock_of new) replies one
              (λ is. ap (λ s. clock_of s) (took.untouched is)) run.goes.unread;
        };
        fails = λ count stopped. fails_more (stopped_of (journal_of old)) first old new asks replies ask told count refl ready run
            took stopped;
      }
  goes_by (Some count) first old new asks replies ask told is ready run took =
      let still : stopped_of (journal_of old) ≡ Some count = ap (λ (s : Store D C d). stopped_of (journal_of s)) run.same ∙ is in
      let same : new ≡ old = took.untouched (subst (λ (x : Option ℕ). IsSome x) (sym still) refl) in
      record {
        each = each_snoc (λ (r : Result Reply StoreFault). r ≡ Err (Stopped count)) replies told run.each
            ((took.stopped count).1 still);
        one_each = omega (arith, run.one_each, length-append replies (told ∷ []), length-append asks (ask ∷ []));
        same = same ∙ run.same;
      }

  pub run_goes : (first old new : Store D C d) (asks : List Asked) (replies : Replies) (ask : Asked)
      (told : Result Reply StoreFault) → Ready d.tells d.on_disk old →
      RunsBy (stopped_of (journal_of first)) d c first old asks replies → Took d c old new ask told →
      RunsBy (stopped_of (journal_of first)) d c first new (asks ++ ask ∷ []) (replies ++ told ∷ [])
  run_goes first old new asks replies ask told ready run took =
      goes_by (stopped_of (journal_of first)) first old new asks replies ask told refl ready run took

  -- what every legal history is
  pub record Chained : Type 0 where
    pub linked : (version : Version) (issuer : List ℕ) (entries : List Entry) → Legal version issuer entries →
        Linked issuer (recs entries)
    pub rising : (version : Version) (issuer : List ℕ) (entries : List Entry) (till : ℕ) → Legal version issuer entries →
        SerialsRise entries till

  fails_by : (x : Option ℕ) (first now : Store D C d) (asks : List Asked) (replies : Replies) → stopped_of (journal_of now) ≡ x →
      GoesOrFails d c first now asks replies → FailsOnce d c first now asks replies
  fails_by None first now asks replies is run =
      let o = origin_of d.tells d.on_disk d.faults c.coming first in
      let p = point_of d.on_disk d.faults c.coming now in
      let going : Progress o asks replies p None =
      subst (λ (x : Option ℕ). Progress o asks replies p x) is run.goes.so_far.progress in
      inl going.go_on
  fails_by (Some count) first now asks replies is run = inr (run.fails count is)

  -- what the disk was in such a call
  fails_in : (first now : Store D C d) (asks : List Asked) (replies : Replies) →
      Legal (state_of now).version (state_of now).issuer (state_of now).entries → GoesOrFails d c first now asks replies →
      FailsOnce d c first now asks replies →
      AllGoOn replies ⊎ FailsIn (this_disk d.tells d.on_disk d.faults (disk_of (journal_of first)) (disk_of (journal_of now)))
      (state_of first).version (state_of first).issuer (state_of now).entries
  fails_in first now asks replies own run (inl all) = inl all
  fails_in first now asks replies own run (inr f) =
      let t = f.took.takes f.going_on in
      let found = state_of f.found in
      let at = d.on_disk (disk_of (journal_of f.found)) in
      let same : (state_of now).entries ≡ found.entries =
      t.entries ∙ ap (λ (es : List Entry). found.entries ++ es) t.reply ∙ append-nil found.entries in
      let issuer : found.issuer ≡ (state_of first).issuer = f.run.so_far.own in
      let version : found.version ≡ (state_of first).version = f.run.so_far.version in
      let legal : Legal found.version found.issuer found.entries =
      subst (λ (es : List Entry). Legal found.version found.issuer es) same
      (subst (λ (v : Version). Legal v found.issuer (state_of now).entries) t.version
      (subst (λ (n : List ℕ). Legal (state_of now).version n (state_of now).entries) t.issuer own)) in
      inr (record {
        found = disk_of (journal_of f.found);
        left = disk_of (journal_of now);
        held = λ says.
            let holds = f.ready.holds f.going_on says in
            subst (λ (v : Version). LeavesNow at (StandsFor v (state_of first).issuer (state_of now).entries)) version
            (subst (λ (n : List ℕ). LeavesNow at (StandsFor found.version n (state_of now).entries)) issuer
            (subst (λ (es : List Entry). LeavesNow at (StandsFor found.version found.issuer es)) (sym same)
            (leaves_now at (StandsFor found.version found.issuer found.entries) holds.file.nothing_pending
            (stands found (end_of (journal_of f.found)) at holds legal))));
        early = f.run.so_far.later;
        risen = (f.took.fault refl).0;
        late = omega arith;
      })

  ends_by : (x : Option ℕ) (first now : Store D C d) (asks : List Asked) (replies : Replies) →
      RunsBy x d c first now asks replies → Ready d.tells d.on_disk now →
      Legal (state_of now).version (state_of now).issuer (state_of now).entries → Chained →
      (IsTrue d.tells → IsImage (d.on_disk (disk_of (journal_of now))).now (d.on_disk (disk_of (journal_of now))).content) →
      OwnRun x asks replies (this_store d.tells d.on_disk d.faults c.coming first now)
  ends_by None first now asks replies run ready own chained image =
      let o = origin_of d.tells d.on_disk d.faults c.coming first in
      let p = point_of d.on_disk d.faults c.coming now in
      let so_far = run.goes.so_far in
      let legal : Legal o.version o.issuer (state_of now).entries =
      subst (λ (v : Version). Legal v o.issuer (state_of now).entries) so_far.version
      (subst (λ (n : List ℕ). Legal (state_of now).version n (state_of now).entries) so_far.own own) in
      record {
        run = so_far.run;
        begins = so_far.begins;
        legal = legal;
        linked = chained.linked o.version o.issuer (state_of now).entries legal;
        rising = λ till. chained.rising o.version o.issuer (state_of now).entries till legal;
        stops = stops o asks replies p so_far;
        fails = fails_in first now asks replies own run (fails_by (stopped_of (journal_of now)) first now asks replies refl run);
        kept = λ says. kept o asks replies p (end_of (journal_of now)) so_far own (λ going told. ready.holds going told)
            (image says) says;
        never_loses = so_far.never_loses;
        asked = record { moved = so_far.moved; untouched = run.goes.unread };
      }
  ends_by (Some count) first now asks replies run ready own chained image = record {
    each = run.each;
    one_each = run.one_each;
    end = ap (λ (s : Store D C d). (state_of s).entries) run.same;
    disk = ap (λ (s : Store D C d). disk_of (journal_of s)) run.same;
    clock = ap (λ (s : Store D C d). clock_of s) run.same;
  }

  pub run_ends : (first now : Store D C d) (asks : List Asked) (replies : Replies) →
      RunsBy (stopped_of (journal_of first)) d c first now asks replies → Ready d.tells d.on_disk now →
      Legal (state_of now).version (state_of now).issuer (state_of now).entries → Chained →
      (IsTrue d.tells → IsImage (d.on_disk (disk_of (journal_of now))).now (d.on_disk (disk_of (journal_of now))).content) →
      OwnRun (stopped_of (journal_of first)) asks replies (this_store d.tells d.on_disk d.faults c.coming first now)
  run_ends first now asks replies run ready own chained image =
      ends_by (stopped_of (journal_of first)) first now asks replies run ready own chained image

  -- a run of a store whose journal went on as it began
  pub run_fails : (first now : Store D C d) (asks : List Asked) (replies : Replies) → stopped_of (journal_of first) ≡ None →
      RunsBy (stopped_of (journal_of first)) d c first now asks replies → FailsOnce d c first now asks replies
  run_fails first now asks replies going run =
      let own : RunsBy None d c first now asks replies =
      subst (λ (x : Option ℕ). RunsBy x d c first now asks replies) going run in
      fails_by (stopped_of (journal_of now)) first now asks replies refl own
