-- How a drain over a file and its copy ends.
use Rattle.std.proofs.Common.{◌≡◌, ◌∙◌, ◌⊎◌, inl, inr, refl, sym, ap, subst, arith, ℕ, ◌+◌, ◌-◌, ◌^◌, ◌<◌, ◌≤◌, List, ◌++◌}
use Rattle.std.proofs.Common.{append_assoc, Bool, true, IsTrue, Option, Some, None}
use Rattle.std.specs.Prelude.{IsSome}
use Rattle.agency_rules.specs.declared.plans.Plan.{Plan}
use Rattle.chain_disk.specs.Disks.{DiskRose, Disks, this_disk}
use Rattle.chain_disk.specs.OnDisk.{IsImage, LeavesNow, LeavesOnly, OnDisk, synced}
use Rattle.chain_disk.specs.Runs.{follows}
use Rattle.chain_store.specs.Clocks.{Clocks, LeftClock}
use Rattle.chain_store.specs.Crashes.{StandsUpTo}
use Rattle.chain_store.specs.Losing.{NeverLoses, none_lost_in_both}
use Rattle.chain_store.specs.Opening.{IsFound as IsCopyFound}
use Rattle.ports.specs.Causes.{Rose}
use Rattle.ports.specs.Sinks.{Sinks, WroteNothing}
use Rattle.record_codec.specs.declared.entry.Entry.{Entry}
use Rattle.record_fields.specs.declared.versions.Version.{Version}
use Rattle.recovery.specs.Opening.{IsFound}
use Rattle.report.specs.declared.status.Detail.{Detail}
use Rattle.report.specs.declared.status.Detail.TheVariants as detail
use Rattle.script.specs.declared.scripts.Script.{Script}
use Rattle.sender.specs.declared.draining.TheConstants.{MAX_LINK_FAULTS}
use Rattle.shop_core.specs.File.Files.{StandsFor}
use Rattle.shop_core.specs.Prefix.{IsPrefix}
use Rattle.standby.specs.Chains.{ChainOnDisk}
use Rattle.till_calls.specs.Root.{Parts}
use Rattle.shop_drain.specs.Crashes.{IsFoundSince, StandsSince}
use Rattle.shop_drain.specs.Devices.{Agencies, LeftSleeper, Sleepers, first_moment, tells_moment}
use Rattle.sender_session.specs.Kinds.{StoreKind}
use Rattle.shop_drain.specs.Draining.{AgreesAtStart, AddsNotesAlone, DiskSpan, Outcome, Span, spanning}
use Rattle.shop_commands.specs.Drain.{NothingRose, drain_text, file_span}
use Rattle.command_ends.specs.DrainEnds.{DrainRunEnds}
use Rattle.command_ends.specs.DrainEnds.DrainRunEnds.{done, write_fault, undelivered, contradiction, disk_fault, no_memory}
use Rattle.shop_commands.specs.Follow.{IsFollowImage}
use Rattle.shop_commands.specs.Follow.IsFollowImage.{as_before, not_begun, front as image_front}
use Rattle.shop_commands.specs.Guard.{FileGuardEnds, FileGuarded, GuardsFile, IsCopied, IsUncopied, LeftUncopied, NotCopied}
use Rattle.shop_commands.specs.Guard.{GuardImage, ScriptGuardEnds, whole_span}
use Rattle.shop_commands.specs.Guard.IsUncopied.{disk_fault as copy_fault}
use Rattle.shop_drain.specs.Guarding.{ChainDrained, GuardDrains, Held}
use Rattle.shop_drain.specs.Opening.{IsOpened}
use Rattle.shop_drain.proofs.Closing.{never_in, undelivered_in}
use Rattle.shop_drain.proofs.Finishing.{since_found}
use Rattle.command_ends.proofs.RunEnding.{not_opened_by, rose_opening}

pub front_on : (xs ys zs : List Entry) → IsPrefix xs ys → IsPrefix ys zs → IsPrefix xs zs
front_on xs ys zs p q = record {
  rest = p.rest ++ q.rest;
  is = q.is ∙ ap (λ (l : List Entry). l ++ q.rest) p.is ∙ append_assoc xs p.rest q.rest;
}

-- an image of a copy of this history is one of a longer history
pub further_image : (version : Version) (issuer : List ℕ) (history longer : List Entry) (t : OnDisk) (c : List ℕ) →
    IsPrefix history longer → IsFollowImage version issuer history t c → IsFollowImage version issuer longer t c
further_image version issuer history longer t c more (as_before image) = as_before image
further_image version issuer history longer t c more (not_begun none file) = not_begun none file
further_image version issuer history longer t c more (image_front copy found b) = image_front copy found (record {
  history = b.history;
  stands = b.stands;
  begins = b.begins;
  within = front_on b.history history longer b.within more;
})

-- what a drain leaves of one of the two, said since an earlier moment
chain_since : (P Q : List Entry → List Entry → List Entry → List ℕ → Type 0) (Found : List ℕ → Type 0) (version : Version)
    (issuer : List ℕ) (start : List Entry) (h : Held) (k : DiskSpan) (d : Span) (first : OnDisk) (faults : ℕ) →
    ChainDrained P version issuer start h k d → (IsTrue k.tells → LeavesOnly first k.since Found) →
    (IsTrue k.tells → NeverLoses first k.since) → faults ≤ k.faults →
    (IsTrue k.tells → (c : List ℕ) → Found c → Q start h.entries h.torn c) →
    (IsTrue k.tells → (c : List ℕ) → P start h.entries h.torn c → Q start h.entries h.torn c) →
    ChainDrained Q version issuer start h (record {
      tells = k.tells;
      since = first;
      now = k.now;
      faults = faults;
      faults_after = k.faults_after;
    }) d
chain_since P Q Found version issuer start h k d first faults c found stays early early_is late_is = record {
  notes = c.notes;
  said = c.said;
  legal = c.legal;
  linked = c.linked;
  kept = λ says. let kept = c.kept says in record {
    each_moment = follows first k.since k.now Found (P start h.entries h.torn) (Q start h.entries h.torn) (found says)
        kept.each_moment (early_is says) (late_is says);
    never_loses = none_lost_in_both first k.since k.now (stays says) kept.never_loses;
    every_crash = kept.every_crash;
    reads = kept.reads;
  };
  images = c.images;
  torn_risen = elim c.torn_risen [
    | inl none ↦ inl none
    | inr rose ↦ inr (λ below. let strict = rose below in
        omega (arith, strict, early))
  ];
  later = let late = c.later in omega (arith, late, early);
}

module _ {D G : Type 0} (issuer : List ℕ) (version : Version) (plan : Plan) (exact : Bool) (moment : ℕ) (s : Sinks) (k l : Disks D)
    (a : Agencies G) (start copy : List Entry) (o : Outcome) (file own : Held) where
  abbrev span : Span
  span = spanning start a.kind a.before a.after exact moment o

  abbrev Drains : Type 0
  Drains = GuardDrains (StandsSince (k.on_disk k.disk).content version issuer) (GuardImage version issuer (l.on_disk l.disk)) a.begun
      plan version issuer
      (file_span k) (whole_span l) span file own

  abbrev Failing : ℕ → ℕ → Type 0
  Failing n r = (n < r) × (a.after.faults < 2 ^ 64 - 1 → a.before.faults + MAX_LINK_FAULTS ≤ a.after.faults)

  eight_failed : Drains → (end : Detail) → DrainRunEnds o.answer (drain_text o.turns file.entries) s end → (n r : ℕ) →
      end ≡ detail.Undelivered n r → Failing n r
  eight_failed h end (undelivered m q e w) n r is =
      let first : m ≡ n = cc in
      let second : q ≡ r = cc in
      let u : Failing m q = undelivered_in a.begun plan span h.session m q e in
      subst (λ (x : ℕ). Failing x r) first (subst (λ (y : ℕ). Failing m y) second u)
  eight_failed h end _ n r is = absurd cc

  completed : Drains → (end : Detail) → DrainRunEnds o.answer (drain_text o.turns file.entries) s end → NothingRose s k a →
      (DiskRose l → ⊥) → IsTrue a.kind.keeps_rules → AgreesAtStart a start → (end ≡ detail.Done) ⊎ (end ≡ detail.NoMemory)
  completed h end (done e w) none other keeps agree = inl refl
  completed h end (no_memory w) none other keeps agree = inr refl
  completed h end (write_fault e w) none other keeps agree = absurd (none.sink w.risen)
  completed h end (undelivered n r e w) none other keeps agree =
      let u = undelivered_in a.begun plan span h.session n r e in
      absurd (none.agency (λ below. let more = u.1 below in omega (arith, more)))
  completed h end (contradiction evidence e w) none other keeps agree =
      absurd (never_in a.begun plan span h.session keeps agree evidence e)
  completed h end (disk_fault e w) none other keeps agree = elim (h.risen e) [
    | inl rose ↦ absurd (none.disk rose)
    | inr rose ↦ absurd (other rose)
  ]

  file_guarded : Drains → (end : Detail) → (IsTrue k.tells → IsFound version issuer start (k.on_disk k.disk).content) →
      (IsTrue l.tells → IsCopyFound version version issuer copy (l.on_disk l.disk).content) → IsPrefix copy start →
      DrainRunEnds o.answer (drain_text o.turns file.entries) s end → FileGuarded issuer plan exact moment s k l a end
  file_guarded h end found copied front ends = record {
    version = version;
    start = start;
    found = found;
    copy = copy;
    copy_found = copied;
    front = front;
    outcome = o;
    file_held = file;
    copy_held = own;
    drains = h;
    ends = ends;
    undelivered = eight_failed h end ends;
    complete = completed h end ends;
  }

  -- from the moments of the two openings on
  module _ (since since_copy : OnDisk) (between between_copy : ℕ) where
    abbrev file_now : DiskSpan
    file_now = record {
      tells = k.tells;
      since = since;
      now = k.on_disk k.disk_after;
      faults = between;
      faults_after = k.faults k.disk_after;
    }

    abbrev copy_now : DiskSpan
    copy_now = record {
      tells = l.tells;
      since = since_copy;
      now = l.on_disk l.disk_after;
      faults = between_copy;
      faults_after = l.faults l.disk_after;
    }

    drained_front : AddsNotesAlone start own.entries → IsPrefix start (own.entries ++ own.torn)
    drained_front notes = record {
      rest = notes.more ++ own.torn;
      is = ap (λ (es : List Entry). es ++ own.torn) notes.is ∙ append_assoc start notes.more own.torn;
    }

    earlier : (one two more : ℕ) → one ≤ two → Rose two more → Rose one more
    earlier one two more le rose below = let strict = rose below in omega (arith, strict, le)

    pub opened_guarded : (end : Detail) → (IsTrue k.tells → IsFound version issuer start (k.on_disk k.disk).content) →
        (IsTrue k.tells → LeavesOnly (synced (k.on_disk k.disk)) since (IsFoundSince (k.on_disk k.disk).content version issuer start))
        → (IsTrue k.tells → NeverLoses (synced (k.on_disk k.disk)) since) → k.faults k.disk ≤ between →
        (IsTrue l.tells → IsCopyFound version version issuer copy (l.on_disk l.disk).content) → IsPrefix copy start →
        (IsTrue l.tells → LeavesOnly (l.on_disk l.disk) since_copy (IsFollowImage version issuer start (l.on_disk l.disk))) →
        (IsTrue l.tells → NeverLoses (l.on_disk l.disk) since_copy) → l.faults l.disk ≤ between_copy →
        GuardDrains (StandsUpTo version issuer) (StandsUpTo version issuer) a.begun plan version issuer file_now copy_now span file
        own → DrainRunEnds o.answer (drain_text o.turns file.entries) s end → FileGuarded issuer plan exact moment s k l a end
    opened_guarded end found any stays later copied front copy_any copy_stays copy_later h ends =
        file_guarded (record {
          session = h.session;
          shop = chain_since (StandsUpTo version issuer) (StandsSince (k.on_disk k.disk).content version issuer)
              (IsFoundSince (k.on_disk k.disk).content version issuer start) version issuer
              start file file_now span (synced (k.on_disk k.disk)) (k.faults k.disk) h.shop any stays later
              (λ says c here. since_found (k.on_disk k.disk).content version issuer start file.entries file.torn c
              (record { rest = h.shop.notes.more; is = h.shop.notes.is }) here)
              (λ says c here. inr here);
          standby = chain_since (StandsUpTo version issuer) (GuardImage version issuer (l.on_disk l.disk))
              (IsFollowImage version issuer start (l.on_disk l.disk)) version issuer start own copy_now span (l.on_disk l.disk)
              (l.faults l.disk) h.standby copy_any copy_stays copy_later
              (λ says c image. further_image version issuer start (own.entries ++ own.torn) (l.on_disk l.disk) c
              (drained_front h.standby.notes) image)
              (λ says c b. image_front copy (copied says) (record {
                history = b.history;
                stands = b.stands;
                begins = front_on copy start b.history front b.begins;
                within = b.within;
              }));
          ahead = h.ahead;
          risen = λ disk. elim (h.risen disk) [
            | inl rose ↦ inl (earlier (k.faults k.disk) between (k.faults k.disk_after) later rose)
            | inr rose ↦ inr (earlier (l.faults l.disk) between_copy (l.faults l.disk_after) copy_later rose)
          ];
        }) end found copied front ends

-- of an opened file, with its copy brought up to it
module _ {D C G : Type 0} (issuer : List ℕ) (plan : Plan) (exact : Bool) (moment : ℕ) (s : Sinks) (kind : StoreKind D C)
    (disk after copy_disk copy_after : D) (a : Agencies G) (end : Detail) (clock : C) (p : Parts D C)
    (opened : IsOpened issuer kind disk clock p) where
  abbrev file_in : Disks D
  file_in = this_disk kind.tells kind.on_disk kind.faults disk after

  abbrev copy_in : Disks D
  copy_in = this_disk kind.tells kind.on_disk kind.faults copy_disk copy_after

  abbrev span_from : D → D → DiskSpan
  span_from old new = record {
    tells = kind.tells;
    since = kind.on_disk old;
    now = kind.on_disk new;
    faults = kind.faults old;
    faults_after = kind.faults new;
  }

  pub guarded_file : (standby : ChainOnDisk D) → IsCopied kind.tells kind.on_disk kind.faults p.state.version p.state.issuer p.state.entries copy_disk standby →
      (o : Outcome) (file own : Held) →
      GuardDrains (StandsUpTo p.state.version p.state.issuer) (StandsUpTo p.state.version p.state.issuer) a.begun plan
      p.state.version p.state.issuer (span_from p.disk after) (span_from standby.disk copy_after)
      (spanning p.state.entries a.kind a.before a.after exact moment o) file own →
      DrainRunEnds o.answer (drain_text o.turns file.entries) s end →
      FileGuarded issuer plan exact moment s file_in copy_in a end
  guarded_file standby copied o file own drains ends =
      let found = subst (λ (n : List ℕ). IsTrue kind.tells → IsFound p.state.version n p.state.entries (kind.on_disk disk).content)
      (sym opened.issuer_is) opened.found in
      let any = subst (λ (n : List ℕ). IsTrue kind.tells → LeavesOnly (synced (kind.on_disk disk)) (kind.on_disk p.disk)
      (IsFoundSince (kind.on_disk disk).content p.state.version n p.state.entries)) (sym opened.issuer_is) opened.any_moment in
      subst (λ (n : List ℕ). FileGuarded n plan exact moment s file_in copy_in a end) opened.issuer_is
      (opened_guarded p.state.issuer p.state.version plan exact moment s file_in copy_in a p.state.entries copied.copy o file own
      (kind.on_disk p.disk) (kind.on_disk standby.disk) (kind.faults p.disk) (kind.faults standby.disk) end found any opened.never_loses
      opened.later copied.found copied.front copied.any_moment copied.never_loses copied.later drains ends)

  pub not_copied : {left : Type 0} → after ≡ p.disk → (IsTrue kind.tells → IsImage (kind.on_disk after).now (kind.on_disk after).content) →
      LeftUncopied p.state.version p.state.issuer p.state.entries copy_in end → WroteNothing s → left →
      NotCopied issuer left s file_in copy_in end
  not_copied same image uncopied wrote rest = record {
    version = p.state.version;
    start = p.state.entries;
    found = opened.found;
    any_moment = λ says. subst (λ (d : D). LeavesOnly (synced (kind.on_disk disk)) (kind.on_disk d)
        (IsFoundSince (kind.on_disk disk).content p.state.version issuer p.state.entries)) (sym same) (opened.any_moment says);
    never_loses = λ says. subst (λ (d : D). NeverLoses (synced (kind.on_disk disk)) (kind.on_disk d)) (sym same) (opened.never_loses says);
    every_crash = left_now;
    reads = λ says. left_now says (kind.on_disk after).content (inl (refl, image says));
    later = subst (λ (d : D). kind.faults disk ≤ kind.faults d) (sym same) opened.later;
    copy = subst (λ (n : List ℕ). LeftUncopied p.state.version n p.state.entries copy_in end) opened.issuer_is uncopied;
    wrote = wrote;
    rest = rest;
  }
    where
      left_now : IsTrue kind.tells → LeavesNow (kind.on_disk after) (StandsFor p.state.version issuer p.state.entries)
      left_now says = subst (λ (d : D). LeavesNow (kind.on_disk d) (StandsFor p.state.version issuer p.state.entries)) (sym same)
          (opened.every_crash says)

-- a disk failed where that is the end
drained_rose : {D G : Type 0} (issuer : List ℕ) (plan : Plan) (exact : Bool) (moment : ℕ) (s : Sinks) (k l : Disks D)
    (a : Agencies G) (end : Detail) (f : FileGuarded issuer plan exact moment s k l a end) →
    DrainRunEnds f.outcome.answer (drain_text f.outcome.turns f.file_held.entries) s end → end ≡ detail.DiskFault → DiskRose k ⊎ DiskRose l
drained_rose issuer plan exact moment s k l a end f (disk_fault e w) is = f.drains.risen e
drained_rose issuer plan exact moment s k l a end f _ is = absurd cc

copy_rose : {D : Type 0} (version : Version) (issuer : List ℕ) (history : List Entry) (l : Disks D) (end : Detail) →
    IsUncopied version issuer history l end → end ≡ detail.DiskFault → DiskRose l
copy_rose version issuer history l end (copy_fault rose) is = rose
copy_rose version issuer history l end _ is = absurd cc

pub guard_rose : {D C Z G : Type 0} (issuer : List ℕ) (plan : Plan) (exact : Bool) (moment : ℕ) (s : Sinks) (k l : Disks D)
    (t : Clocks C) (z : Sleepers Z) (a : Agencies G) (end : Detail) → GuardsFile issuer plan exact moment s k l t z a end →
    end ≡ detail.DiskFault → DiskRose k ⊎ DiskRose l
guard_rose issuer plan exact moment s k l t z a end (inl h) is = inl (rose_opening h.why k h.risen (sym h.ends ∙ is))
guard_rose issuer plan exact moment s k l t z a end (inr (inl h)) is = inr (copy_rose h.version issuer h.start l end h.copy.why is)
guard_rose issuer plan exact moment s k l t z a end (inr (inr h)) is = drained_rose issuer plan exact moment s k l a end h h.ends is

-- the same, where another rest was left
not_copied_by : {D : Type 0} {issuer : List ℕ} {left more : Type 0} {s : Sinks} {k l : Disks D} {end : Detail} → (left → more) →
    NotCopied issuer left s k l end → NotCopied issuer more s k l end
not_copied_by f h = record {
  version = h.version;
  start = h.start;
  found = h.found;
  any_moment = h.any_moment;
  never_loses = h.never_loses;
  every_crash = h.every_crash;
  reads = h.reads;
  later = h.later;
  copy = h.copy;
  wrote = h.wrote;
  rest = f h.rest;
}

module _ {D C Z G : Type 0} (issuer : List ℕ) (script : Script) (s : Sinks) (k l : Disks D) (t : Clocks C) (z : Sleepers Z)
    (a : Agencies G) (end : Detail) where
  -- without a clock line
  pub guard_plain : script.clock ≡ None → FileGuardEnds issuer script.plan s k l t z a end →
      ScriptGuardEnds issuer script s k l t z a end
  guard_plain none h = record {
    ends = subst (λ (o : Option (ℕ × ℕ)). GuardsFile issuer script.plan (tells_moment o z) (first_moment o z) s k l t z a end)
        (sym none) h.ends;
    clock = h.clock;
    sleeper = λ some. absurd (no_line script.clock none some);
    risen = guard_rose issuer script.plan z.tells (z.moment z.sleeper) s k l t z a end h.ends;
  }
    where
      no_line : (o : Option (ℕ × ℕ)) → o ≡ None → IsSome o → ⊥
      no_line None e some = absurd cc
      no_line (Some line) e some = absurd cc

  -- with one
  pub guard_timed : {O P : Type 0} (line : ℕ × ℕ) (own : Clocks O) (leap : Sleepers P) → script.clock ≡ Some line →
      leap.tells ≡ true → leap.moment leap.sleeper ≡ line.0 → LeftClock t → LeftSleeper z →
      FileGuardEnds issuer script.plan s k l own leap a end → ScriptGuardEnds issuer script s k l t z a end
  guard_timed line own leap some exact at clock sleeper h = record {
    ends = subst (λ (o : Option (ℕ × ℕ)). GuardsFile issuer script.plan (tells_moment o z) (first_moment o z) s k l t z a end)
        (sym some) (timed h.ends);
    clock = clock;
    sleeper = λ is. sleeper;
    risen = guard_rose issuer script.plan leap.tells (leap.moment leap.sleeper) s k l own leap a end h.ends;
  }
    where
      timed : GuardsFile issuer script.plan leap.tells (leap.moment leap.sleeper) s k l own leap a end →
          GuardsFile issuer script.plan true line.0 s k l t z a end
      timed (inl n) = inl (not_opened_by (λ left. (
        record {
          clock = clock;
          sleeper = sleeper;
          agency = left.0.agency;
        },
        left.1,
      )) n)
      timed (inr (inl n)) = inr (inl (not_copied_by (λ left. record {
        clock = clock;
        sleeper = sleeper;
        agency = left.agency;
      }) n))
      timed (inr (inr f)) = inr (inr (subst (λ (b : Bool). FileGuarded issuer script.plan b line.0 s k l a end) exact
          (subst (λ (m : ℕ). FileGuarded issuer script.plan leap.tells m s k l a end) at f)))
