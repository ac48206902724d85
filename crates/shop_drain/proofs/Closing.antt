-- What the end of a drained shop says of its store.
use Rattle.std.proofs.Common.{◌≡◌, ◌∙◌, ◌⊎◌, inl, inr, refl, sym, ap, subst, arith, ℕ, ◌+◌, ◌-◌, ◌^◌, ◌<◌, ◌≤◌, List, [], map}
use Rattle.std.proofs.Common.{length, Bool, IsTrue, Option, Some, None, Result, Err}
use Rattle.std.specs.Prelude.{IsSome, count_by}
use Rattle.std.proofs.lemmas.List.{map-append}
use Rattle.std.proofs.lemmas.List.Sums.{sum_by-append}
use Rattle.record_fields.specs.declared.versions.Version.{Version}
use Rattle.ports.specs.Causes.{Rose}
use Rattle.chain_disk.specs.Runs.{follows, weaker}
use Rattle.chain_disk.specs.OnDisk.{OnDisk, IsImage, LeavesOnly}
use Rattle.record_fields.specs.declared.records.Sealed.{Sealed}
use Rattle.record_fields.specs.declared.lines.Line.{Line}
use Rattle.huella.specs.Linked.{Linked}
use Rattle.record_codec.specs.declared.entry.Entry.{Entry}
use Rattle.shop_core.specs.File.Files.{StandsFor}
use Rattle.shop_core.specs.History.{recs, noted}
use Rattle.shop_core.specs.Legal.{Legal}
use Rattle.agency_rules.specs.declared.plans.Plan.{Plan}
use Rattle.agency_port.specs.Ledger.{Begins}
use Rattle.agency_port.specs.declared.turns.Evidence.{Evidence}
use Rattle.agency_port.specs.declared.turns.Told.{Told as TurnLine}
use Rattle.agency_port.specs.declared.turns.Told.TheVariants as told
use Rattle.once_world.specs.Agreement.{Agree}
use Rattle.till_calls.specs.Root.{Parts, root_of, with_torn}
use Rattle.till_calls.specs.Sound.{IsSound}
use Rattle.till_calls.specs.Sound as sound
use Rattle.sender.specs.declared.answers.DrainFault.{DrainFault}
use Rattle.sender.specs.declared.answers.DrainFault.TheVariants as drain
use Rattle.sender.specs.declared.draining.TheConstants.{MAX_LINK_FAULTS}
use Rattle.sender.specs.Draining.{is_link}
use Rattle.sender.specs.Turning.{AgencyKind, AgencyState}
use Rattle.chain_store.specs.Crashes.{StandsBetween, StandsUpTo, StandsForEnd}
use Rattle.chain_store.specs.Losing.{NeverLoses, none_lost_in_both}
use Rattle.shop_drain.specs.Crashes.{IsFoundSince, StandsSince}
use Rattle.shop_drain.specs.Draining.{AddsNotesAlone, AgreesInFile, Beginning, DiskSpan, OpensSession, IsSession, IsUnopened}
use Rattle.shop_drain.specs.Draining.{Outcome, Sends, Span, StillAgrees, StoreDrains, from_agency_state, noted_pairs, spanning, torn_in}
use Rattle.sender_session.specs.Session.{IsDiskAnswer}
use Rattle.sender_session.specs.Steps.{EndsBy, EndsSaying, Step, Steps, after_steps, at_start, line_in}
use Rattle.shop_drain.proofs.Agreed.{torn_is}
use Rattle.shop_drain.proofs.Finishing.{since_found}
use Rattle.shop_drain.proofs.Pairs.{pairs_count}

-- the session was opened, and its sender sent
pub in_session : (begun : Beginning) (plan : Plan) (d : Span) (opened : AgencyState) → (IsTrue d.kind.keeps_rules → IsTrue d.kind.tells)
    → OpensSession d.kind begun plan d.start d.old opened → Sends (from_agency_state opened d) → IsSession begun plan d
in_session begun plan d opened tells opens sends = record {
  opened = opened;
  opens = opens;
  sends = sends;
  agreement = λ keeps agree.
      let sent = (opens.lists (tells keeps)).sent in
      let there : Agree d.start opened.ledger.processed opened.ledger.sent =
      subst (λ (ps : List _). Agree d.start ps opened.ledger.sent) (sym (opens.rules keeps))
      (subst (λ (ss : List _). Agree d.start (begun d.old.ledger.processed (noted_pairs d.start)) ss) (sym sent) agree) in
      let still = sends.agreement keeps there in
      record { whole = still.whole; torn = still.torn; no_contradiction = still.no_contradiction; bound = still.bound };
}

module _ {D C : Type 0} (tells : Bool) (on_disk : D → OnDisk) (faults : D → ℕ) (coming : C → ℕ → Option ℕ) (p0 p1 : Parts D C)
    (s : IsSound tells on_disk faults coming (root_of on_disk faults p0) p1) where
  pub between : (c : List ℕ) → StandsBetween p0.state.version p0.state.issuer p0.state.entries (with_torn p1.state.entries p1.stopped
      p1.torn) c → StandsUpTo p0.state.version p0.state.issuer p0.state.entries p1.state.entries (torn_in p1.stopped p1.torn) c
  between c h = record {
    history = h.history;
    stands = h.stands;
    begins = h.begins;
    within = record { rest = h.within.rest; is = sym (torn_is p1.state.entries p1.stopped p1.torn) ∙ h.within.is };
  }

  pub either : (c : List ℕ) → sound.StandsForEither p0.state.version p0.state.issuer p1.state.entries (with_torn p1.state.entries p1.stopped
      p1.torn) c → StandsForEnd p0.state.version p0.state.issuer p1.state.entries (torn_in p1.stopped p1.torn) c
  either c (inl h) = inl h
  either c (inr h) = inr (subst (λ (es : List Entry). StandsFor p0.state.version p0.state.issuer es c) (torn_is p1.state.entries p1.stopped
      p1.torn) h)

  risen_by : (o : Option ℕ) → p1.stopped ≡ o → IsSome o → Rose (faults p0.disk) (faults p1.disk)
  risen_by None e some = absurd cc
  risen_by (Some count) e some = λ below. let h = s.stop count e in let rose = h.rose in let within = h.within in
      let strict = rose (omega (arith, below, within)) in omega (arith, strict, within)

  torn_by : (o : Option ℕ) → p1.stopped ≡ o → (torn_in o p1.torn ≡ []) ⊎ Rose (faults p0.disk) (faults p1.disk)
  torn_by None e = inl refl
  torn_by (Some count) e = inr (risen_by (Some count) e refl)

  pub store_drains : (begun : Beginning) (plan : Plan) (kind : AgencyKind) (old new : AgencyState) (exact : Bool) (at : ℕ)
      (turns : List TurnLine) (answer : Result (Unit {0}) DrainFault) (o : Outcome) →
      o ≡ record { end = p1.state.entries; torn = torn_in p1.stopped p1.torn; turns = turns; answer = answer } →
      IsUnopened (spanning p0.state.entries kind old new exact at o) ⊎ IsSession begun plan (spanning p0.state.entries kind old
      new exact at o) → AddsNotesAlone p0.state.entries p1.state.entries →
      (IsDiskAnswer answer → IsSome p1.stopped) → (IsTrue tells → IsImage (on_disk p1.disk).now (on_disk p1.disk).content) →
      ((version : Version) (issuer : List ℕ) (entries : List Entry) → Legal version issuer entries →
      Linked issuer (recs entries)) →
      StoreDrains (StandsUpTo p0.state.version p0.state.issuer) begun plan p0.state.version p0.state.issuer (record {
        tells = tells;
        since = on_disk p0.disk;
        now = on_disk p1.disk;
        faults = faults p0.disk;
        faults_after = faults p1.disk;
      }) (spanning p0.state.entries kind old new
      exact at o)
  store_drains begun plan kind old new exact at turns answer o is session notes stopped image linked =
      subst (λ (x : Outcome). StoreDrains (StandsUpTo p0.state.version p0.state.issuer) begun plan p0.state.version p0.state.issuer (record {
        tells = tells;
        since = on_disk p0.disk;
        now = on_disk p1.disk;
        faults = faults p0.disk;
        faults_after = faults p1.disk;
      })
      (spanning p0.state.entries kind old new exact at x)) (sym is)
      (record {
        session = subst (λ (x : Outcome). IsUnopened (spanning p0.state.entries kind old new exact at x) ⊎
            IsSession begun plan (spanning p0.state.entries kind old new exact at x)) is session;
        notes = notes;
        legal = s.legal;
        linked = linked p0.state.version p0.state.issuer p1.state.entries s.legal;
        kept = λ says. record {
          each_moment = weaker (on_disk p0.disk) (on_disk p1.disk) _ _ (s.crashes says).since between;
          never_loses = (s.crashes says).never_loses;
          every_crash = λ c left. either c ((s.crashes says).whole c left);
          reads = either (on_disk p1.disk).content ((s.crashes says).whole (on_disk p1.disk).content (inl (refl, image says)));
        };
        images = λ says agrees c left. in_file agrees c (either c ((s.crashes says).whole c left));
        risen = λ disk. risen_by p1.stopped refl (stopped disk);
        torn_risen = torn_by p1.stopped refl;
        later = s.later;
      })
    where
      in_file : (agrees : StillAgrees (spanning p0.state.entries kind old new exact at (record {
        end = p1.state.entries;
        torn = torn_in p1.stopped p1.torn;
        turns = turns;
        answer = answer;
      }))) (c : List ℕ) →
          StandsForEnd p0.state.version p0.state.issuer p1.state.entries (torn_in p1.stopped p1.torn) c → AgreesInFile p0.state.version p0.state.issuer new c
      in_file agrees c (inl h) = (_, h, agrees.whole)
      in_file agrees c (inr h) = (_, h, agrees.torn)

-- what a drain leaves, said since its file was opened
pub since_opening : (begun : Beginning) (plan : Plan) (version : Version) (issuer : List ℕ) (k : DiskSpan) (d : Span)
    (first : OnDisk) (held : List ℕ) (faults : ℕ) →
    StoreDrains (StandsUpTo version issuer) begun plan version issuer k d →
    (IsTrue k.tells → LeavesOnly first k.since (IsFoundSince held version issuer d.start)) →
    (IsTrue k.tells → NeverLoses first k.since) →
    faults ≤ k.faults → StoreDrains (StandsSince held version issuer) begun plan version issuer (record {
      tells = k.tells;
      since = first;
      now = k.now;
      faults = faults;
      faults_after = k.faults_after;
    }) d
since_opening begun plan version issuer k d first held faults h found stays early = record {
  session = h.session;
  notes = h.notes;
  legal = h.legal;
  linked = h.linked;
  kept = λ says. let kept = h.kept says in record {
    each_moment = follows first k.since k.now (IsFoundSince held version issuer d.start) (StandsUpTo version issuer d.start d.end d.torn)
        (StandsSince held version issuer d.start d.end d.torn) (found says) kept.each_moment
        (λ c here. since_found held version issuer d.start d.end d.torn c (record { rest = h.notes.more; is = h.notes.is }) here)
        (λ c here. inr here);
    never_loses = none_lost_in_both first k.since k.now (stays says) kept.never_loses;
    every_crash = kept.every_crash;
    reads = kept.reads;
  };
  images = h.images;
  risen = λ disk below. let rose = h.risen disk in let strict = rose below in omega (arith, strict, early);
  torn_risen = elim h.torn_risen [
    | inl none ↦ inl none
    | inr rose ↦ inr (λ below. let strict = rose below in
        omega (arith, strict, early))
  ];
  later = let late = h.later in omega (arith, late, early);
}

one_link : (last : List Step) → EndsSaying last told.Link → count_by is_link (map line_in last) ≡ 1
one_link last e = ap (λ (steps : List Step). count_by is_link (map line_in steps)) e.is

undelivered_steps : (tells exact : Bool) (records : List Sealed) (from to at : ℕ) (old new : AgencyState) (turns : List TurnLine)
    (answer : Result (Unit {0}) DrainFault) → Steps tells exact records from to at old new turns answer → (n r : ℕ) →
    answer ≡ Err (drain.Undelivered n r) →
    (n < r) × (new.faults < 2 ^ 64 - 1 → old.faults + MAX_LINK_FAULTS ≤ new.faults)
undelivered_steps tells exact records from to at old new turns answer steps n r is =
    let e = subst (λ (a : Result (Unit {0}) DrainFault). EndsBy records (after_steps (at_start from at) steps.going)
    (count_by is_link (map line_in steps.going)) to steps.last a) is steps.ends in
    let a = e.2 in
    let b = e.3 in
    let c = e.4 in (
      omega (arith, a, b, c),
      λ below.
          let split = ap (λ (ls : List TurnLine). count_by is_link ls) (map-append line_in steps.going steps.last) ∙
          sum_by-append _ (map line_in steps.going) (map line_in steps.last) in
          let one = one_link steps.last e.0 in
          let eight = e.1 in
          let all = steps.links below in
          omega (arith, split, one, eight, all),
    )

-- the agency failed eight times in a drain that is undelivered
pub undelivered_in : (begun : Beginning) (plan : Plan) (d : Span) → IsUnopened d ⊎ IsSession begun plan d → (n r : ℕ) →
    d.answer ≡ Err (drain.Undelivered n r) →
    (n < r) × (d.new.faults < 2 ^ 64 - 1 → d.old.faults + MAX_LINK_FAULTS ≤ d.new.faults)
undelivered_in begun plan d session n r is = elim session [
  | inl u ↦ absurd (let e = sym u.answer ∙ is in cc)
  | inr s ↦ (let u = undelivered_steps d.kind.tells d.exact (recs d.start) _ _ d.moment s.opened d.new d.turns d.answer
      s.sends.steps n r is in
      let same = s.opens.faults in
      (u.0, λ below. let more = u.1 below in omega (arith, same, more)))
]

pub undelivered_by : (P : List Entry → List Entry → List Entry → List ℕ → Type 0) (begun : Beginning) (plan : Plan)
    (version : Version) (issuer : List ℕ) (k : DiskSpan) (d : Span) → StoreDrains P begun plan version issuer k d → (n r : ℕ) →
    d.answer ≡ Err (drain.Undelivered n r) →
    (n < r) × (d.new.faults < 2 ^ 64 - 1 → d.old.faults + MAX_LINK_FAULTS ≤ d.new.faults)
undelivered_by P begun plan version issuer k d h n r is = undelivered_in begun plan d h.session n r is

-- an agency that keeps its rules and agreed doesn't contradict itself
pub never_in : (begun : Beginning) (plan : Plan) (d : Span) → IsUnopened d ⊎ IsSession begun plan d → IsTrue d.kind.keeps_rules →
    Agree d.start (begun d.old.ledger.processed (noted_pairs d.start)) d.old.ledger.sent → (evidence : Evidence) →
    d.answer ≡ Err (drain.Contradiction evidence) → ⊥
never_in begun plan d session keeps agree evidence is = elim session [
  | inl u ↦ (let e = sym u.answer ∙ is in cc)
  | inr s ↦ (s.agreement keeps agree).no_contradiction evidence is
]

pub never_contrary : (P : List Entry → List Entry → List Entry → List ℕ → Type 0) (begun : Beginning) (plan : Plan)
    (version : Version) (issuer : List ℕ) (k : DiskSpan) (d : Span) → StoreDrains P begun plan version issuer k d →
    IsTrue d.kind.keeps_rules →
    Agree d.start (begun d.old.ledger.processed (noted_pairs d.start)) d.old.ledger.sent → (evidence : Evidence) →
    d.answer ≡ Err (drain.Contradiction evidence) → ⊥
never_contrary P begun plan version issuer k d h keeps agree evidence is =
    never_in begun plan d h.session keeps agree evidence is

-- a session was opened with the pairs that are noted
pub opened_by : (kind : AgencyKind) (begun : Beginning) (plan : Plan) (start : List Entry) (old opened : AgencyState)
    (pairs : List (Sealed × Line)) → pairs ≡ noted_pairs start → length (noted start) ≤ length (recs start) →
    (IsTrue kind.tells → Begins old.ledger opened.ledger plan (length pairs)) →
    (IsTrue kind.keeps_rules → opened.ledger.processed ≡ begun old.ledger.processed pairs) → opened.faults ≡ old.faults →
    OpensSession kind begun plan start old opened
opened_by kind begun plan start old opened pairs are few lists rules faults = record {
  lists = λ tells. subst (λ (n : ℕ). Begins old.ledger opened.ledger plan n) (ap length are ∙ pairs_count (recs start)
      (noted start) few) (lists tells);
  rules = λ keeps. rules keeps ∙ ap (λ (ps : List (Sealed × Line)). begun old.ledger.processed ps) are;
  faults = faults;
}
