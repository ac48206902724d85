-- The history that a run leaves in its file, by the way it ended.
use Rattle.std.proofs.Common.{◌≡◌, ◌⊎◌, inl, inr, ◌<◌, ◌≤◌, ℕ, List, [], ◌∷◌, ◌++◌, append-nil, length, take, refl, sym, ◌∙◌, ap}
use Rattle.std.proofs.Common.{subst, arith, IsTrue, Option, Some, None}
use Rattle.std.proofs.lemmas.Bool.{cases_lt}
use Rattle.record_fields.specs.declared.versions.Version.TheVariants.{Two}
use Rattle.record_fields.specs.declared.versions.Version.{Version}
use Rattle.chain_disk.specs.Disks.{DiskRose, Disks, LeftDisk}
use Rattle.chain_disk.specs.OnDisk.{IsImage, IsLeft, IsSettled, LeavesNow, LeavesOnly, OnDisk, Pending, later, moment, synced}
use Rattle.chain_disk.specs.Runs.{leaves_now, left_before, settled_image, started_settled, weaker}
use Rattle.chain_store.specs.declared.causes.OpenCause.{OpenCause}
use Rattle.chain_store.specs.declared.causes.OpenCause.TheVariants as cause
use Rattle.chain_store.specs.Losing.{NeverLoses, none_lost_in_both, sync_failed_loses_none, sync_loses_none}
use Rattle.huella.specs.Linked.{Linked}
use Rattle.journal.specs.File.{IsNotBegun, IsNotBegunOrEmpty, closing_gate}
use Rattle.shop_core.specs.Prefix.{IsPrefix}
use Rattle.ports.specs.Causes.{Rose}
use Rattle.ports.specs.Sinks.{Sinks}
use Rattle.record_codec.specs.declared.entry.Entry.{Entry}
use Rattle.recovery.specs.Opening.{IsBegunInPart, IsFound, IsLeftUnopened}
use Rattle.chain_store.specs.Opening.IsDiskLost.{not_synced, not_read, in_part}
use Rattle.report.specs.declared.status.Detail.{Detail}
use Rattle.shop_core.specs.File.Laws.{NotBegunIsNeither, OneHistory, SoundOrDamaged}
use Rattle.shop_core.specs.File.Files.{StandsFor, bodies_of}
use Rattle.shop_core.specs.History.{recs}
use Rattle.shop_core.specs.Legal.{Legal}
use Rattle.chain_store.specs.Crashes.{KeptByRun, StandsForEnd}
use Rattle.shop_drain.specs.Crashes.{StandsSince}
use Rattle.sender_beside.specs.Days.{Day, Stop, torn_of}
use Rattle.shop_drain.specs.Opening.{NotOpened}
use Rattle.verifactu.specs.ChainPromise.{AppendsOnly, ChainGoesOn, Crashes, IsAppendedTo, IsEither, IsFoundAgain}
use Rattle.verifactu.specs.ChainPromise.Crashes.{unwritten, since_sync}
use Rattle.verifactu.specs.FilePromise.{DamagedIsNotOwn, ForeignIsNotOwn, IsOwn, IsUnwritten}
use Rattle.chain_store.specs.Replies.{Replies, StopsOnce}
use Rattle.sender_beside.specs.Tills.{StopIs}
use Rattle.verifactu.proofs.Appended.{end_appended, since_appended, unbegun_appended}
use Rattle.shop_drain.proofs.Finishing.{found_held, found_unbegun, since_found}

pub whole : (start : List Entry) → IsPrefix start start
whole start = record { rest = []; is = sym (append-nil start) }

none_legal : (version : Version) (issuer : List ℕ) → Legal version issuer []
none_legal version issuer [] after entry e = absurd (let x = e in cc)
none_legal version issuer (b ∷ before) after entry e = absurd (let x = e in cc)

pub legal_found : (version : Version) (issuer : List ℕ) (start : List Entry) (file : List ℕ) → IsFound version issuer start file →
    Legal version issuer start
legal_found version issuer start file (inl none) =
    subst (λ (es : List Entry). Legal version issuer es) (sym none.1) (none_legal version issuer)
legal_found version issuer start file (inr stands) = stands.legal

empty_found : (issuer file : List ℕ) → IsNotBegunOrEmpty Two issuer file → IsFound Two issuer [] file
empty_found issuer file (inl none) = inl (none, refl, refl)
empty_found issuer file (inr frames) = inr (record { frames = frames; encoded = tt; legal = none_legal Two issuer })

same_content : (old new : OnDisk) → IsUnwritten old new → new.content ≡ old.content
same_content old new (inl (inl e)) = ap (λ (t : OnDisk). t.content) e
same_content old new (inl (inr e)) = ap (λ (t : OnDisk). t.content) e
same_content old new (inr e) = ap (λ (t : OnDisk). t.content) e

either : (version : Version) (issuer : List ℕ) (end torn : List Entry) (file : List ℕ) → StandsForEnd version issuer end torn file →
    IsEither version issuer end torn file
either version issuer end torn file (inl stands) = inl (inr stands)
either version issuer end torn file (inr stands) = inr (inr stands)

same_crashes : (version : Version) (issuer : List ℕ) (start : List Entry) (old new : OnDisk) → IsUnwritten old new →
    IsFound version issuer start old.content →
    Crashes (StandsSince old.content version issuer start start []) (IsEither version issuer start []) old new
same_crashes version issuer start old new (inl failed) found = unwritten failed
same_crashes version issuer start old new (inr e) found =
    let Since : List ℕ → Type 0 = StandsSince old.content version issuer start start [] in
    let Now : List ℕ → Type 0 = IsEither version issuer start [] in
    since_sync
    (subst (λ (t : OnDisk). LeavesOnly (synced old) t Since) (sym e)
    (started_settled (synced old) Since refl (since_found old.content version issuer start start [] old.content (whole start)
    (found_held version issuer start old.content found))))
    (subst (λ (t : OnDisk). LeavesNow t Now) (sym e) (leaves_now (synced old) Now refl (inl found)))

-- a crash at the last moment of a disk with nothing pending leaves its content
content_left : (t : OnDisk) (m : ℕ) (c : List ℕ) → IsSettled t → moment t ≤ m → IsLeft t m c → c ≡ t.content
content_left t m c quiet since (inl now) = settled_image t.content c (subst (λ (p : Pending). IsImage p c) quiet now.1)
content_left t m c quiet since (inr past) = absurd (let l = left_before t.past m c past in omega (arith, l, since))

-- and so does one at the moment after a sync that failed
later_left : (t : OnDisk) (m : ℕ) (c : List ℕ) → IsSettled t → moment t ≤ m → IsLeft (later t) m c → c ≡ t.content
later_left t m c quiet since (inl now) = settled_image t.content c (subst (λ (p : Pending). IsImage p c) quiet now.1)
later_left t m c quiet since (inr before) = content_left t m c quiet since before

-- where nothing was pending at the start, each crash in the run leaves a file with Since, as the content at the start is
plainly : (Since Now : List ℕ → Type 0) (old new : OnDisk) → Crashes Since Now old new → Since old.content → IsSettled old →
    (m : ℕ) (c : List ℕ) → moment old ≤ m → IsLeft new m c → Since c
plainly Since Now old new (unwritten (inl e)) here quiet m c since left =
    subst Since (sym (content_left old m c quiet since (subst (λ (t : OnDisk). IsLeft t m c) e left))) here
plainly Since Now old new (unwritten (inr e)) here quiet m c since left =
    subst Since (sym (later_left old m c quiet since (subst (λ (t : OnDisk). IsLeft t m c) e left))) here
plainly Since Now old new (since_sync only now) here quiet m c since left =
    elim (cases_lt m (moment (synced old))) [
      | inl early ↦ at_start (only.before m c (omega (arith, early)) left) early
      | inr late ↦ only.each m c late left
    ]
  where
    at_start : IsLeft (synced old) m c → m < moment (synced old) → Since c
    at_start (inl there) early = absurd (let e = there.0 in omega (arith, e, early))
    at_start (inr before) early = subst Since (sym (content_left old m c quiet since before)) here

-- A file begins with the bytes of the chain that it stood for, before that one's closing gate: one that wasn't written, one that
-- wasn't begun, which stood for none, and one whose history went on.
module _ (version : Version) (issuer : List ℕ) (start : List Entry) (old new : OnDisk) where
  abbrev Appends : List ℕ → Type 0
  Appends file = IsAppendedTo version issuer start old.content file

  still_crashes : IsUnwritten old new → Crashes Appends Appends old new
  still_crashes (inl failed) = unwritten failed
  still_crashes (inr e) = since_sync
      (subst (λ (t : OnDisk). LeavesOnly (synced old) t Appends) (sym e) (started_settled (synced old) Appends refl (λ from. refl)))
      (subst (λ (t : OnDisk). LeavesNow t Appends) (sym e) (leaves_now (synced old) Appends refl (λ from. refl)))

  still_appended : IsUnwritten old new → AppendsOnly version issuer start old new
  still_appended same = record {
    file = λ from. ap (λ (l : List ℕ). take (closing_gate (bodies_of version start)) l) (same_content old new same);
    each_crash = plainly Appends Appends old new (still_crashes same) (λ from. refl);
    crashes = still_crashes same;
  }

  begun_appended : (Q : List ℕ → Type 0) → IsNotBegun old.content → LeavesOnly (synced old) new Q →
      AppendsOnly version issuer start old new
  begun_appended Q none only =
      let each : (c : List ℕ) → Appends c = λ c. unbegun_appended version issuer start old.content c none in
      let crashes : Crashes Appends Appends old new =
      since_sync (weaker (synced old) new Q Appends only (λ c is. each c)) (λ c left. each c) in
      record {
        file = each new.content;
        each_crash = plainly Appends Appends old new crashes (each old.content);
        crashes = crashes;
      }

  goes_on_appended : (end torn : List Entry) → IsPrefix start end →
      LeavesOnly (synced old) new (StandsSince old.content version issuer start end torn) →
      LeavesNow new (StandsForEnd version issuer end torn) → StandsForEnd version issuer end torn new.content →
      AppendsOnly version issuer start old new
  goes_on_appended end torn begins moments crash reads =
      let crashes : Crashes Appends Appends old new =
      since_sync (weaker (synced old) new (StandsSince old.content version issuer start end torn) Appends moments
      (λ c is. since_appended version issuer start end torn old.content c is))
      (λ c left. end_appended version issuer start end torn old.content c begins (crash c left)) in
      record {
        file = end_appended version issuer start end torn old.content new.content begins reads;
        each_crash = plainly Appends Appends old new crashes (λ from. refl);
        crashes = crashes;
      }

-- the entry of a day's stop is torn only where the disk's count of faults rose
pub torn_risen : (d : Day) (before after : ℕ) (stop : Option Stop) → StopIs d before after stop →
    (torn_of stop ≡ []) ⊎ Rose before after
torn_risen d before after None is = inl refl
torn_risen d before after (Some stop) is =
    inr (λ few. let l = is.within in let r = is.risen (omega (arith, l, few)) in omega (arith, l, r))

pub one_torn : (stop : Option Stop) → length (torn_of stop) ≤ 1
one_torn None = omega arith
one_torn (Some stop) = omega arith

-- What a run for this issuer leaves of its file, and with it what T says of the histories at the start and at the end and of
-- the torn entry.
pub data Left {D : Type 0} (issuer : List ℕ) (k : Disks D) (T : List Entry → List Entry → List Entry → Type 0) : Type 0 where
  untouched : IsUnwritten (k.on_disk k.disk) (k.on_disk k.disk_after) → ((start : List Entry) → T start start []) → Left issuer k T
  begun_in_part : IsBegunInPart issuer (synced (k.on_disk k.disk)) (k.on_disk k.disk_after) →
      NeverLoses (k.on_disk k.disk) (k.on_disk k.disk_after) → ((start : List Entry) → T start start []) → Left issuer k T
  grown : (version : Version) (start end torn : List Entry) → IsFound version issuer start (k.on_disk k.disk).content →
      ChainGoesOn version issuer start end torn k → T start end torn → Left issuer k T

pub record Grown {D : Type 0} (version : Version) (issuer : List ℕ) (k : Disks D) (T : List Entry → List Entry → List Entry → Type 0)
    (start : List Entry) : Type 0 where
  pub end : List Entry
  pub torn : List Entry
  pub chain : ChainGoesOn version issuer start end torn k
  pub rest : T start end torn

-- a file is found as one history of an issuer
pub same_found : OneHistory → NotBegunIsNeither → (version another : Version) (issuer : List ℕ) (start other : List Entry)
    (file : List ℕ) → IsFound version issuer start file → IsFound another issuer other file →
    (version ≡ another) × (start ≡ other)
same_found one neither version another issuer start other file (inl none) (inl same) = (none.2 ∙ sym same.2, none.1 ∙ sym same.1)
same_found one neither version another issuer start other file (inl none) (inr stands) =
    absurd ((neither another issuer other file 0 none.0).0 stands)
same_found one neither version another issuer start other file (inr stands) (inl none) =
    absurd ((neither version issuer start file 0 none.0).0 stands)
same_found one neither version another issuer start other file (inr stands) (inr same) =
    let both = one version another issuer issuer start other file stands same in
    (both.0, both.2)

pub found_again : OneHistory → NotBegunIsNeither → IsFoundAgain
found_again one neither version another issuer end torn next file (inl here) found =
    let same = same_found one neither version another issuer end next file here found in
    (sym same.0, subst (λ (es : List Entry). IsPrefix end es) same.1 (whole end))
found_again one neither version another issuer end torn next file (inr here) found =
    let same = same_found one neither version another issuer (end ++ torn) next file here found in
    (sym same.0, record { rest = torn; is = sym same.1 })

pub damaged_not_own : NotBegunIsNeither → SoundOrDamaged → DamagedIsNotOwn
damaged_not_own neither sound None file at damage own = own
damaged_not_own neither sound (Some issuer) file at damage own = by_found own.2
  where
    by_found : IsFound own.0 issuer own.1 file → ⊥
    by_found (inl none) = (neither own.0 issuer own.1 file at none.0).1 damage
    by_found (inr stands) = sound own.0 issuer own.1 file at stands damage

pub foreign_not_own : OneHistory → NotBegunIsNeither → ForeignIsNotOwn
foreign_not_own one neither version issuer held entries file stands other own = by_found own.2
  where
    by_found : IsFound own.0 issuer own.1 file → ⊥
    by_found (inl none) = (neither version held entries file 0 none.0).0 stands
    by_found (inr mine) = other (one version own.0 held issuer entries own.1 file stands mine).1

-- a legal history is linked
abbrev pub AreLinked : Type 0
AreLinked = (version : Version) (issuer : List ℕ) (entries : List Entry) → Legal version issuer entries →
    Linked issuer (recs entries)

-- nothing was written, so nothing is lost
unwritten_loses_none : (old new : OnDisk) → IsImage old.now old.content → IsUnwritten old new → NeverLoses old new
unwritten_loses_none old new image (inl failed) = sync_failed_loses_none old new failed
unwritten_loses_none old new image (inr e) = sync_loses_none old new e image

module _ {D : Type 0} (chained : AreLinked) (issuer : List ℕ) (k : Disks D)
    (image : IsImage (k.on_disk k.disk).now (k.on_disk k.disk).content) where
  abbrev Old : OnDisk
  Old = k.on_disk k.disk

  abbrev New : OnDisk
  New = k.on_disk k.disk_after

  -- a file that wasn't written
  stays : (version : Version) (start : List Entry) → IsUnwritten Old New → IsFound version issuer start Old.content →
      ChainGoesOn version issuer start start [] k
  stays version start same found = record {
    begins = whole start;
    legal = legal_found version issuer start Old.content found;
    linked = chained version issuer start (legal_found version issuer start Old.content found);
    at_most_one = omega arith;
    by_a_fault = inl refl;
    file = inl (subst (λ (c : List ℕ). IsFound version issuer start c) (sym (same_content Old New same)) found);
    each_crash = plainly (StandsSince Old.content version issuer start start []) (IsEither version issuer start []) Old New
        (same_crashes version issuer start Old New same found)
        (since_found Old.content version issuer start start [] Old.content (whole start)
        (found_held version issuer start Old.content found));
    crashes = same_crashes version issuer start Old New same found;
    append_only = still_appended version issuer start Old New same;
    never_loses = unwritten_loses_none Old New image same;
  }

  -- a file that was begun in part
  begun_crashes : IsBegunInPart issuer (synced Old) New →
      Crashes (StandsSince Old.content Two issuer [] [] []) (IsEither Two issuer [] []) Old New
  begun_crashes h = since_sync
      (weaker (synced Old) New (IsNotBegunOrEmpty Two issuer) (StandsSince Old.content Two issuer [] [] []) h.any_moment
      (λ c empty. since_found Old.content Two issuer [] [] [] c (whole [])
      (found_unbegun Old.content Two issuer [] c h.not_begun (empty_found issuer c empty))))
      (λ c left. inl (empty_found issuer c (h.any_moment.each (moment New) c h.any_moment.later left)))

  begins_file : IsBegunInPart issuer (synced Old) New → NeverLoses Old New → ChainGoesOn Two issuer [] [] [] k
  begins_file h stay = record {
    begins = whole [];
    legal = none_legal Two issuer;
    linked = chained Two issuer [] (none_legal Two issuer);
    at_most_one = omega arith;
    by_a_fault = inl refl;
    file = inl (empty_found issuer New.content h.reads);
    each_crash = plainly (StandsSince Old.content Two issuer [] [] []) (IsEither Two issuer [] []) Old New (begun_crashes h)
        (since_found Old.content Two issuer [] [] [] Old.content (whole []) (inl (h.not_begun, h.not_begun, refl, refl)));
    crashes = begun_crashes h;
    append_only = begun_appended Two issuer [] Old New (IsNotBegunOrEmpty Two issuer) h.not_begun h.any_moment;
    never_loses = stay;
  }

  -- a file whose history went on
  pub goes_on : (version : Version) (start end torn : List Entry) → IsFound version issuer start Old.content →
      IsPrefix start end → Legal version issuer end →
      length torn ≤ 1 → (torn ≡ []) ⊎ DiskRose k → LeavesOnly (synced Old) New (StandsSince Old.content version issuer start end torn) →
      NeverLoses (synced Old) New →
      LeavesNow New (StandsForEnd version issuer end torn) → StandsForEnd version issuer end torn New.content →
      ChainGoesOn version issuer start end torn k
  goes_on version start end torn found begins legal at_most_one by_a_fault moments stay crash reads =
      let crashes : Crashes (StandsSince Old.content version issuer start end torn) (IsEither version issuer end torn) Old New =
      since_sync moments (λ c left. either version issuer end torn c (crash c left)) in
      record {
        begins = begins;
        legal = legal;
        linked = chained version issuer end legal;
        at_most_one = at_most_one;
        by_a_fault = by_a_fault;
        file = either version issuer end torn New.content reads;
        each_crash = plainly (StandsSince Old.content version issuer start end torn) (IsEither version issuer end torn) Old New crashes
            (since_found Old.content version issuer start end torn Old.content begins (found_held version issuer start Old.content found));
        crashes = crashes;
        append_only = goes_on_appended version issuer start Old New end torn begins moments crash reads;
        never_loses = none_lost_in_both Old (synced Old) New (sync_loses_none Old (synced Old) refl image) stay;
      }

  module _ (one : OneHistory) (neither : NotBegunIsNeither) where
    at_that : {T : List Entry → List Entry → List Entry → Type 0} (version another : Version) (start other : List Entry) →
        (version ≡ another) × (start ≡ other) → Grown version issuer k T start → Grown another issuer k T other
    at_that {T = T} version another start other same g =
        subst (λ (v : Version). Grown v issuer k T other) same.0
        (subst (λ (es : List Entry). Grown version issuer k T es) same.1 g)

    pub own_of : (T : List Entry → List Entry → List Entry → Type 0) → Left issuer k T → (version : Version) (start : List Entry) →
        IsFound version issuer start Old.content → Grown version issuer k T start
    own_of T (untouched same rest) version start found =
        record { end = start; torn = []; chain = stays version start same found; rest = rest start }
    own_of T (begun_in_part h stay rest) version start found =
        at_that Two version [] start (same_found one neither Two version issuer [] start Old.content
        (inl (h.not_begun, refl, refl)) found)
        (record { end = []; torn = []; chain = begins_file h stay; rest = rest [] })
    own_of T (grown here first end torn from chain rest) version start found =
        at_that here version first start (same_found one neither here version issuer first start Old.content from found)
        (record { end = end; torn = torn; chain = chain; rest = rest })

  pub others_of : (T : List Entry → List Entry → List Entry → Type 0) → Left issuer k T →
      (IsOwn (Some issuer) Old.content → ⊥) → IsUnwritten Old New
  others_of T (untouched same rest) other = same
  others_of T (begun_in_part h stay rest) other = absurd (other (Two, [], inl (h.not_begun, refl, refl)))
  others_of T (grown version start end torn found chain rest) other = absurd (other (version, start, found))

  -- no call of the disk was made
  pub left_disk : (T : List Entry → List Entry → List Entry → Type 0) → LeftDisk k → ((start : List Entry) → T start start []) →
      Left issuer k T
  left_disk T same rest = untouched (inl (inl (ap k.on_disk same))) rest

  pub unopened : (T : List Entry → List Entry → List Entry → Type 0) (why : OpenCause) → IsLeftUnopened issuer why Old New →
      NeverLoses Old New → ((start : List Entry) → T start start []) → Left issuer k T
  unopened T cause.DiskFault (not_synced failed) stay rest = untouched (inl failed) rest
  unopened T cause.DiskFault (not_read e) stay rest = untouched (inr e) rest
  unopened T cause.DiskFault (in_part h) stay rest = begun_in_part h stay rest
  unopened T (cause.Damaged at) h stay rest = untouched (inr h.1) rest
  unopened T (cause.OtherIssuer held) h stay rest = untouched (inr h.1) rest
  unopened T cause.NoMemory h stay rest = untouched (inr h) rest

  -- the file couldn't be opened
  pub not_opened : {left : Type 0} {s : Sinks} {end : Detail} (T : List Entry → List Entry → List Entry → Type 0) →
      IsTrue k.tells → NotOpened issuer left s k end → ((start : List Entry) → T start start []) → Left issuer k T
  not_opened T says h rest = unopened T h.why (h.left_by says) (h.never_loses says) rest

  -- a run of replies, and the entry that was cut off in it
  pub by_kept : (P : Entry → Type 0) (version : Version) (start end : List Entry) (replies : Replies) →
      IsFound version issuer start Old.content → IsPrefix start end → Legal version issuer end → StopsOnce (k.faults k.disk) (k.faults k.disk_after) replies →
      (h : KeptByRun (StandsSince Old.content version issuer start end) P version issuer end replies (synced Old) New) →
      ChainGoesOn version issuer start end h.torn k
  by_kept P version start end replies found begins legal stops h =
      goes_on version start end h.torn found begins legal h.at_most_one (by_a_fault stops) h.kept.each_moment
      h.kept.never_loses h.kept.every_crash h.kept.reads
    where
      by_a_fault : StopsOnce (k.faults k.disk) (k.faults k.disk_after) replies → (h.torn ≡ []) ⊎ DiskRose k
      by_a_fault (inl all) = inl (h.by_a_fault all)
      by_a_fault (inr stopped) = inr stopped.risen

-- a file that wasn't written, whoever's history it stands for
pub stands_still : {D : Type 0} (chained : AreLinked) (k : Disks D) (image : IsImage (k.on_disk k.disk).now (k.on_disk k.disk).content)
    (T : List Entry → List Entry → List Entry → Type 0) (version : Version) (issuer : List ℕ) (start : List Entry) → IsUnwritten (k.on_disk k.disk) (k.on_disk k.disk_after) →
    ((start : List Entry) → T start start []) → StandsFor version issuer start (k.on_disk k.disk).content → Grown version issuer k T start
stands_still chained k image T version issuer start same rest stands =
    record { end = start; torn = []; chain = stays chained issuer k image version start same (inr stands); rest = rest start }

-- whoever's history the file stood for, it went on
pub sound_of : {D : Type 0} (chained : AreLinked) (k : Disks D) (image : IsImage (k.on_disk k.disk).now (k.on_disk k.disk).content)
    (T : List Entry → List Entry → List Entry → Type 0) → OneHistory → NotBegunIsNeither → (own : List ℕ) (version : Version) (issuer : List ℕ) (start : List Entry) → Left own k T →
    StandsFor version issuer start (k.on_disk k.disk).content → Grown version issuer k T start
sound_of chained k image T one neither own version issuer start (untouched same rest) stands =
    stands_still chained k image T version issuer start same rest stands
sound_of chained k image T one neither own version issuer start (begun_in_part h stay rest) stands =
    absurd ((neither version issuer start (k.on_disk k.disk).content 0 h.not_begun).0 stands)
sound_of chained k image T one neither own version issuer start (grown here first end torn (inl none) chain rest) stands =
    absurd ((neither version issuer start (k.on_disk k.disk).content 0 none.0).0 stands)
sound_of chained k image T one neither own version issuer start (grown here first end torn (inr from) chain rest) stands =
    let same = one here version own issuer first start (k.on_disk k.disk).content from stands in
    subst (λ (v : Version). Grown v issuer k T start) same.0
    (subst (λ (es : List Entry). Grown here issuer k T es) same.2
    (subst (λ (i : List ℕ). Grown here i k T first) same.1 (record { end = end; torn = torn; chain = chain; rest = rest })))
