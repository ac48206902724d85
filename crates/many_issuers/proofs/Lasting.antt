-- What is kept of an issuer's file from its opening on, and what its agency agrees with, by its commands and by what came after them.
use Rattle.std.proofs.Common.{◌≡◌, ◌⊎◌, inl, inr, ℕ, ◌+◌, ◌≤◌, List, [], ◌∷◌, ◌++◌, length, refl, ap, sym, ◌∙◌, subst, arith, append_assoc}
use Rattle.std.proofs.Common.{Option, Some, None, Err, Bool, IsTrue}
use Rattle.std.specs.Prelude.{zip}
use Rattle.std.specs.List.{AllByRecursion}
use Rattle.std.specs.Option.{option_map_or}
use Rattle.std.proofs.lemmas.List.{append-nil}
use Rattle.record_fields.specs.declared.versions.Version.{Version}
use Rattle.record_fields.specs.declared.records.Sealed.{Sealed}
use Rattle.record_fields.specs.declared.lines.Line.{Line}
use Rattle.pacing.specs.declared.pace.TheConstants.{MAX_BATCH}
use Rattle.chain_disk.specs.Disks.{DiskRose, Disks}
use Rattle.chain_disk.specs.OnDisk.{OnDisk, LeavesNow, LeavesOnly, synced}
use Rattle.huella.specs.Linked.{Linked}
use Rattle.chain_disk.specs.Runs.{follows}
use Rattle.record_codec.specs.declared.entry.Entry.{Entry}
use Rattle.record_codec.specs.declared.entry.Entry.TheVariants.{Rec}
use Rattle.shop_core.specs.Answer.Making.{made_sealed}
use Rattle.shop_core.specs.Answer.Plans.{kept}
use Rattle.shop_core.specs.Answer.Refusals.{refusal}
use Rattle.shop_core.specs.Answer.Requests.{Asked}
use Rattle.shop_core.specs.declared.answer.Planned.TheVariants.{Again, Refused, Made}
use Rattle.shop_core.specs.declared.answer.refusals.Refusal.{Refusal}
use Rattle.shop_core.specs.declared.answer.receipts.Receipt.{Receipt}
use Rattle.shop_core.specs.History.{noted, recs}
use Rattle.shop_core.specs.Legal.{Legal}
use Rattle.shop_core.specs.Prefix.{IsPrefix}
use Rattle.once_world.specs.Agreement.{Agree, IsRun, records_of}
use Rattle.agency_rules.specs.declared.plans.Plan.{Plan}
use Rattle.agency_port.specs.Ledger.{Begins}
use Rattle.sender.specs.Turning.{AgencyKind, AgencyState}
use Rattle.sender.specs.declared.answers.DrainFault.TheVariants as drain
use Rattle.chain_store.specs.Crashes.{IsCutOff, SurvivesCrashes, KeptByRun, StandsForEnd, StandsUpTo}
use Rattle.chain_store.specs.Losing.{none_lost_in_both}
use Rattle.chain_store.specs.Replies.{AllGoOn, Replies}
use Rattle.shop_drain.specs.Opening.{IsUnbegun}
use Rattle.shop_drain.specs.Crashes.{StandsSince}
use Rattle.shop_drain.specs.Devices.{Agencies}
use Rattle.shop_drain.specs.Draining.{AgreesAtStart}
use Rattle.command_ends.proofs.RunEnding.{or_so}
use Rattle.shop_drain.specs.Draining.{AgreesInFile, Beginning, IsSession, IsUnopened, OpensSession, Outcome, StoreDrains}
use Rattle.shop_drain.specs.Draining.{noted_pairs, spanning}
use Rattle.many_issuers.specs.Ends.{IsBegunAlone, span_from}
use Rattle.many_issuers.specs.Lasting.{HistoryKept, SessionKept}
use Rattle.sender_session.proofs.Contrary.{recs_both}
use Rattle.sender_session.proofs.Lists.{each_weaker}
use Rattle.shop_drain.proofs.Saying.{noted_both}

pub prefix_on : (xs ys zs : List Entry) → IsPrefix xs ys → IsPrefix ys zs → IsPrefix xs zs
prefix_on xs ys zs a b = record {
  rest = a.rest ++ b.rest;
  is = b.is ∙ ap (λ (l : List Entry). l ++ b.rest) a.is ∙ append_assoc xs a.rest b.rest;
}

-- the front of a legal history is legal
pub front_legal : (version : Version) (issuer : List ℕ) (front history : List Entry) → IsPrefix front history → Legal version issuer history →
    Legal version issuer front
front_legal version issuer front history begins legal before after entry is =
    legal before (after ++ begins.rest) entry
    (begins.is ∙ ap (λ (l : List Entry). l ++ begins.rest) is ∙ append_assoc before (entry ∷ after) begins.rest)

module _ (held : List ℕ) (version : Version) (issuer : List ℕ) (start middle end torn : List Entry) (begins : IsPrefix start middle)
    (goes_on : IsPrefix middle end) where
  since_commands : (c : List ℕ) → StandsSince held version issuer start middle [] c → StandsSince held version issuer start end torn c
  since_commands c (inl none) = inl none
  since_commands c (inr h) = inr (record {
    history = h.history;
    stands = h.stands;
    begins = h.begins;
    within = record {
      rest = h.within.rest ++ (goes_on.rest ++ torn);
      is = ap (λ (l : List Entry). l ++ torn) goes_on.is ∙ append_assoc middle goes_on.rest torn ∙
          ap (λ (l : List Entry). l ++ (goes_on.rest ++ torn)) (sym (append-nil middle) ∙ h.within.is) ∙
          append_assoc h.history h.within.rest (goes_on.rest ++ torn);
    };
  })

  since_drain : (c : List ℕ) → StandsUpTo version issuer middle end torn c → StandsSince held version issuer start end torn c
  since_drain c h = inr (record {
    history = h.history;
    stands = h.stands;
    begins = prefix_on start middle h.history begins h.begins;
    within = h.within;
  })

  -- the crashes since the opening, by those up to the last command and those from there on
  pub kept_on : {IsTorn : Entry → Type 0} (replies : Replies) (first half now : OnDisk) → AllGoOn replies →
      KeptByRun (StandsSince held version issuer start middle) IsTorn version issuer middle replies first half →
      SurvivesCrashes (StandsUpTo version issuer middle end torn) version issuer end torn half now →
      SurvivesCrashes (StandsSince held version issuer start end torn) version issuer end torn first now
  kept_on replies first half now going before behind =
      let each : LeavesOnly first half (StandsSince held version issuer start middle []) =
      subst (λ (t : List Entry). LeavesOnly first half (StandsSince held version issuer start middle t)) (before.by_a_fault going)
      before.kept.each_moment in
      record {
        each_moment = follows first half now (StandsSince held version issuer start middle []) (StandsUpTo version issuer middle end torn)
            (StandsSince held version issuer start end torn) each behind.each_moment since_commands since_drain;
        never_loses = none_lost_in_both first half now before.kept.never_loses behind.never_loses;
        every_crash = behind.every_crash;
        reads = behind.reads;
      }

-- more records leave the pairs that are noted as they are
zip_front : (xs more : List Sealed) (ys : List Line) → length ys ≤ length xs → zip (xs ++ more) ys ≡ zip xs ys
zip_front [] [] [] few = refl
zip_front [] (m ∷ more) [] few = refl
zip_front [] more (y ∷ ys) few = absurd (omega (arith, few))
zip_front (x ∷ xs) more [] few = refl
zip_front (x ∷ xs) more (y ∷ ys) few = ap (λ (l : List (Sealed × Line)). (x, y) ∷ l) (zip_front xs more ys (omega (arith, few)))

module _ (start middle : List Entry) (begins : IsPrefix start middle) (same : noted middle ≡ noted start) where
  records : recs middle ≡ recs start ++ recs begins.rest
  records = ap recs begins.is ∙ recs_both start begins.rest

  pub pairs_stay : length (noted start) ≤ length (recs start) → noted_pairs middle ≡ noted_pairs start
  pairs_stay few = ap (λ (rs : List Sealed). zip rs (noted middle)) records ∙
      ap (λ (ls : List Line). zip (recs start ++ recs begins.rest) ls) same ∙ zip_front (recs start) (recs begins.rest) (noted start) few

  run_on : (batch : List Sealed) (from to : ℕ) → IsRun (recs start) batch from to → IsRun (recs middle) batch from to
  run_on batch from to h = record {
    before = h.before;
    after = h.after ++ recs begins.rest;
    run = records ∙ ap (λ (l : List Sealed). l ++ recs begins.rest) h.run ∙
        append_assoc h.before (batch ++ h.after) (recs begins.rest) ∙
        ap (λ (l : List Sealed). h.before ++ l) (append_assoc batch h.after (recs begins.rest));
    begins = h.begins;
    ends = h.ends;
  }

  -- an agency that agrees with a history does with it and records more
  pub agree_on : (processed : List (Sealed × Line)) (sent : List (List Sealed)) → Agree start processed sent → Agree middle processed sent
  agree_on processed sent h = record {
    records = record {
      rest = h.records.rest ++ recs begins.rest;
      is = records ∙ ap (λ (l : List Sealed). l ++ recs begins.rest) h.records.is ∙
          append_assoc (records_of processed) h.records.rest (recs begins.rest);
    };
    lines = record { rest = h.lines.rest; is = h.lines.is ∙ ap (λ (l : List Line). l ++ h.lines.rest) (sym same) };
    batches = each_weaker (λ (b : List Sealed). IsRun (recs start) b (length processed) (length (noted start) + MAX_BATCH))
        (λ (b : List Sealed). IsRun (recs middle) b (length processed) (length (noted middle) + MAX_BATCH)) sent
        (λ b run. subst (λ (n : ℕ). IsRun (recs middle) b (length processed) (n + MAX_BATCH)) (ap length (sym same))
        (run_on b (length processed) (length (noted start) + MAX_BATCH) run)) h.batches;
  }

  -- a session with the pairs noted after the commands is one with those noted at the opening
  pub opens_back : (kind : AgencyKind) (begun : Beginning) (plan : Plan) (old opened : AgencyState) → length (noted start) ≤ length (recs start) →
      OpensSession kind begun plan middle old opened → OpensSession kind begun plan start old opened
  opens_back kind begun plan old opened few h = record {
    lists = λ tells. subst (λ (n : ℕ). Begins old.ledger opened.ledger plan n) (ap length same) (h.lists tells);
    rules = λ keeps. h.rules keeps ∙ ap (λ (ps : List (Sealed × Line)). begun old.ledger.processed ps) (pairs_stay few);
    faults = h.faults;
  }

-- an answer makes records
no_lines : (entries : List Entry) (ask : Asked) (sealed : Sealed) (k : Option Receipt) (r : Option Refusal) (entry : Entry) →
    option_map_or Again k (option_map_or Refused r (Made (Rec ask.till ask.serial sealed))) ≡ Made entry → noted (entry ∷ []) ≡ []
no_lines entries ask sealed (Some old) r entry e = absurd cc
no_lines entries ask sealed None (Some why) entry e = absurd cc
no_lines entries ask sealed None None entry e =
    let same : Rec ask.till ask.serial sealed ≡ entry = (let x = e in cc) in ap (λ (n : Entry). noted (n ∷ [])) (sym same)

pub none_torn_noted : (version : Version) (issuer : List ℕ) (R : Replies → ℕ → Type 0) (asks : List Asked) (history : List Entry)
    (replies : Replies) (torn : List Entry) → AllByRecursion (IsCutOff version issuer R asks history replies) torn → noted torn ≡ []
none_torn_noted version issuer R asks history replies [] each = refl
none_torn_noted version issuer R asks history replies (entry ∷ torn) each =
    noted_both (entry ∷ []) torn ∙
    ap (λ (l : List Line). l ++ noted torn) (no_lines history each.0.ask (made_sealed issuer history each.0.ask.request each.0.seconds)
    (kept history each.0.ask.till each.0.ask.serial) (refusal version issuer history each.0.ask each.0.seconds) entry each.0.made) ∙
    none_torn_noted version issuer R asks history replies torn each.1

module _ {D G : Type 0} (version : Version) (issuer : List ℕ) (start middle : List Entry) (begins : IsPrefix start middle)
    (same : noted middle ≡ noted start) (few : length (noted start) ≤ length (recs start)) (k : Disks D) (half : D)
    (early : k.faults k.disk ≤ k.faults half) (R : Replies → ℕ → Type 0) (asks : List Asked) (replies : Replies)
    (kept_so : IsTrue k.tells → KeptByRun (StandsSince (k.on_disk k.disk).content version issuer start middle)
    (IsCutOff version issuer R asks middle replies) version issuer middle replies (synced (k.on_disk k.disk)) (k.on_disk half)) (plan : Plan) (a : Agencies G) (o : Outcome) where
  pub agree_there : AgreesAtStart a start → Agree middle (a.begun a.before.ledger.processed (noted_pairs middle)) a.before.ledger.sent
  agree_there agree =
      let ps = a.begun a.before.ledger.processed (noted_pairs start) in
      subst (λ (l : List (Sealed × Line)). Agree middle l a.before.ledger.sent)
      (ap (λ (l : List (Sealed × Line)). a.begun a.before.ledger.processed l) (sym (pairs_stay start middle begins same few)))
      (agree_on start middle begins same ps a.before.ledger.sent agree)

  module _ (exact : Bool) (moment : ℕ) (going : AllGoOn replies)
      (h : StoreDrains (StandsUpTo version issuer) a.begun plan version issuer (span_from k half)
      (spanning middle a.kind a.before a.after exact moment o)) where
    torn_few : IsUnopened (spanning middle a.kind a.before a.after exact moment o)
        ⊎ IsSession a.begun plan (spanning middle a.kind a.before a.after exact moment o) → length o.torn ≤ 1
    torn_few (inl none) = let e = ap (λ (es : List Entry). length es) none.torn in omega (arith, e)
    torn_few (inr s) = s.sends.at_most_one

    pub history_drained : HistoryKept version issuer start middle o.end k
    history_drained =
        let onward : IsPrefix middle o.end = record { rest = h.notes.more; is = h.notes.is } in
        record {
          begins = prefix_on start middle o.end begins onward;
          notes = h.notes;
          legal = h.legal;
          linked = h.linked;
          file = λ says. record {
            torn = o.torn;
            at_most_one = torn_few h.session;
            by_a_fault = or_so (λ rose below. let r = rose below in omega (arith, r, early)) h.torn_risen;
            kept = kept_on (k.on_disk k.disk).content version issuer start middle o.end o.torn begins onward replies
                (synced (k.on_disk k.disk)) (k.on_disk half) (k.on_disk k.disk_after) going (kept_so says) (h.kept says);
          };
        }

    pub session_drained : ((o.answer ≡ Err drain.NoMemory) × IsUnbegun a.kind a.before a.after)
        ⊎ SessionKept plan version issuer start o.end k a
    session_drained = elim h.session [
      | inl none ↦ inl (none.answer, record { lists = none.lists; faults = none.faults })
      | inr s ↦ inr (record {
        opened = s.opened;
        opens = opens_back start middle begins same a.kind a.begun plan a.before s.opened few s.opens;
        agreement = λ keeps agree.
            let still = s.agreement keeps (agree_there agree) in
            record { whole = still.whole; images = λ says. h.images says still };
      })
    ]

  module _ (h : IsBegunAlone plan middle replies k half a o) (legal : Legal version issuer middle) (linked : Linked issuer (recs middle))
      (rose : DiskRose k) (rules : IsTrue a.kind.keeps_rules → IsTrue a.kind.tells) where
    pub history_alone : HistoryKept version issuer start middle o.end k
    history_alone = subst (λ (es : List Entry). HistoryKept version issuer start middle es k) (sym h.end) (record {
      begins = begins;
      notes = record { more = []; is = sym (append-nil middle); are = tt };
      legal = legal;
      linked = linked;
      file = λ says.
          let q = kept_so says in
          record {
            torn = q.torn;
            at_most_one = q.at_most_one;
            by_a_fault = inr rose;
            kept = subst (λ (x : D). SurvivesCrashes (StandsSince (k.on_disk k.disk).content version issuer start middle q.torn)
                version issuer middle q.torn (synced (k.on_disk k.disk)) (k.on_disk x)) (sym h.disk) q.kept;
          };
    })

    with_torn : (agency_state : AgencyState) → Agree middle agency_state.ledger.processed agency_state.ledger.sent → (torn : List Entry) → noted torn ≡ [] →
        (c : List ℕ) → StandsForEnd version issuer middle torn c → AgreesInFile version issuer agency_state c
    with_torn agency_state agree torn none c (inl stands) = (middle, stands, agree)
    with_torn agency_state agree torn none c (inr stands) = (
      middle ++ torn,
      stands,
      agree_on middle (middle ++ torn) (record { rest = torn; is = refl })
          (noted_both middle torn ∙ ap (λ (l : List Line). noted middle ++ l) none ∙ append-nil (noted middle))
          agency_state.ledger.processed agency_state.ledger.sent agree,
    )

    pub session_alone : ((o.answer ≡ Err drain.NoMemory) × IsUnbegun a.kind a.before a.after)
        ⊎ SessionKept plan version issuer start o.end k a
    session_alone = elim h.session [
      | inl s ↦ inr (subst (λ (es : List Entry). SessionKept plan version issuer start es k a) (sym h.end) (record {
        opened = a.after;
        opens = opens_back start middle begins same a.kind a.begun plan a.before a.after few s.2;
        agreement = λ keeps agree.
            let sent = (s.2.lists (rules keeps)).sent in
            let there : Agree middle a.after.ledger.processed a.after.ledger.sent =
            subst (λ (ps : List (Sealed × Line)). Agree middle ps a.after.ledger.sent) (sym (s.2.rules keeps))
            (subst (λ (ss : List (List Sealed)). Agree middle (a.begun a.before.ledger.processed (noted_pairs middle)) ss) (sym sent)
            (agree_there agree)) in
            record {
              whole = there;
              images = λ says.
                  let q = kept_so says in
                  let none = none_torn_noted version issuer R asks middle replies q.torn q.made in
                  subst (λ (x : D). LeavesNow (k.on_disk x) (AgreesInFile version issuer a.after)) (sym h.disk)
                  (λ c left. with_torn a.after there q.torn none c (q.kept.every_crash c left));
            };
      }))
      | inr none ↦ inl none
    ]
