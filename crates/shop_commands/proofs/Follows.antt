-- A copy that follows a file: what each crash leaves of it, and how that ended.
use Rattle.std.proofs.Common.{◌≡◌, inl, inr, ℕ, ◌+◌, ◌≤◌, List, [], ◌∷◌, ◌++◌, length, refl, sym, ◌∙◌, ap, subst, subst₂, arith}
use Rattle.std.proofs.Common.{Bool, IsTrue, Result, Ok, Err, None}
use Rattle.chain_disk.specs.Disks.{DiskRose, Disks, this_disk}
use Rattle.chain_disk.specs.OnDisk.{OnDisk, IsImage, IsSyncFailed, LeavesNow, LeavesOnly, synced}
use Rattle.chain_disk.specs.Runs.{Reached, follows, on_sync, on_sync_failed, settled_image, started, weaker}
use Rattle.chain_store.specs.Crashes.{StandsBetween}
use Rattle.chain_store.specs.Losing.{NeverLoses, none_lost_by, none_lost_in_both}
use Rattle.chain_store.specs.Opening.{IsBegunInPart, IsDiskLost, IsFound, IsOnlySynced}
use Rattle.chain_store.specs.Opening.IsDiskLost.{not_synced, not_read, in_part}
use Rattle.chain_store.specs.declared.causes.LoadFault.{LoadFault}
use Rattle.chain_store.specs.declared.causes.LoadFault.TheVariants as load
use Rattle.journal.specs.File.{IsNotBegun, IsNotBegunOrEmpty}
use Rattle.journal.specs.declared.faults.StoreFault.{StoreFault}
use Rattle.journal.specs.declared.faults.StoreFault.TheVariants as store
use Rattle.ports.specs.Causes.{Rose}
use Rattle.ports.specs.Sinks.{Sinks, WroteNothing}
use Rattle.record_fields.specs.declared.versions.Version.{Version}
use Rattle.record_codec.specs.declared.entry.Entry.{Entry}
use Rattle.report.specs.declared.status.Detail.{Detail}
use Rattle.shop_core.specs.File.Files.{IsDamagedFile, StandsFor}
use Rattle.shop_core.specs.File.Laws.{NotBegunIsNeither, OneHistory, SoundOrDamaged}
use Rattle.shop_core.specs.Legal.{Legal}
use Rattle.shop_core.specs.Prefix.{IsPrefix}
use Rattle.standby.specs.Starting.{IsLeftUnstarted}
use Rattle.standby.specs.declared.causes.StandbyCause.{StandbyCause}
use Rattle.standby.specs.declared.causes.StandbyCause.TheVariants as cause
use Rattle.standby.specs.Catching.{CatchesUp, IsFirstApart}
use Rattle.standby.specs.Chains.{ChainOnDisk}
use Rattle.standby.specs.Following.{IsFollowing}
use Rattle.command_ends.specs.DrainEnds.{store_end}
use Rattle.shop_commands.specs.Follow.{BesideNothing, BringsUp, CountsPrinted, FollowEnds, HasNoEntry, IsFollowImage}
use Rattle.shop_commands.specs.Follow.{LeftOrFollowed, OnlyFollowed, load_end, start_end}
use Rattle.shop_commands.specs.Follow.FollowEnds.{copy_damaged, disk_fault, file_damaged, followed, no_memory, nothing, parted}
use Rattle.shop_commands.specs.Follow.IsFollowImage.{as_before, front, not_begun}
use Rattle.shop_commands.specs.Follow.IsParted.{at_entry, of_nothing, of_other}

none_legal : (version : Version) (issuer : List ℕ) → Legal version issuer []
none_legal version issuer [] after entry is = absurd cc
none_legal version issuer (x ∷ before) after entry is = absurd cc

whole_front : {A : Type 0} (xs : List A) → IsPrefix [] xs
whole_front xs = record { rest = xs; is = refl }

-- what was found, at each moment of an opening
module _ (version : Version) (issuer : List ℕ) (history : List Entry) (t : OnDisk) (reads : IsImage t.now t.content) where
  abbrev Image : List ℕ → Type 0
  Image c = IsFollowImage version issuer history t c

  -- the sync at the start
  synced_image : LeavesOnly t (synced t) (IsImage t.now)
  synced_image =
      let r : Reached t (IsImage t.now) t t.content t.now = record {
        content_is = refl;
        now_is = refl;
        so_far = started t (IsImage t.now) (λ c image. image);
      } in
      let s = on_sync r refl (λ c image. subst (λ (l : List ℕ). IsImage t.now l) (sym (settled_image t.content c image)) reads) in
      s.so_far

  pub only_synced : (u : OnDisk) → u ≡ synced t → LeavesOnly t u Image
  only_synced u same = subst (λ (w : OnDisk). LeavesOnly t w Image) (sym same)
      (weaker t (synced t) (IsImage t.now) Image synced_image (λ c image. as_before image))

  pub untouched : LeavesOnly t t Image
  untouched = started t Image (λ c image. as_before image)

  sync_lost : (u : OnDisk) → IsSyncFailed t u → LeavesOnly t u Image
  sync_lost u failed =
      let r : Reached t Image t t.content t.now = record { content_is = refl; now_is = refl; so_far = untouched } in
      on_sync_failed r failed (λ c image. as_before image)

  begun_in_part : (u : OnDisk) → IsBegunInPart version issuer (synced t) u → LeavesOnly t u Image
  begun_in_part u b = follows t (synced t) u (IsImage t.now) (IsNotBegunOrEmpty version issuer) Image synced_image b.any_moment
      (λ c image. as_before image) in_part_image
    where
      in_part_image : (c : List ℕ) → IsNotBegunOrEmpty version issuer c → Image c
      in_part_image c (inl none) = not_begun b.not_begun none
      in_part_image c (inr file) = front [] (inl (b.not_begun, refl, refl)) (record {
        history = [];
        stands = record { frames = file; encoded = tt; legal = none_legal version issuer };
        begins = whole_front [];
        within = whole_front history;
      })

  disk_lost : (u : OnDisk) → IsDiskLost version issuer t u → LeavesOnly t u Image
  disk_lost u (not_synced failed) = sync_lost u failed
  disk_lost u (not_read same) = only_synced u same
  disk_lost u (in_part b) = begun_in_part u b

  -- of a copy that wasn't opened
  pub unstarted : (why : StandbyCause) (u : OnDisk) → IsLeftUnstarted version issuer why t u → LeavesOnly t u Image
  unstarted cause.DiskFault u lost = disk_lost u lost
  unstarted (cause.Damaged at) u left = only_synced u left.1
  unstarted (cause.OtherIssuer held) u left = only_synced u left.1
  unstarted (cause.OtherVersion held) u left = only_synced u left.1
  unstarted cause.NoMemory u same = only_synced u same

  opened_image : (copy : List Entry) (c : List ℕ) → IsNotBegun t.content → IsFound version version issuer copy t.content →
      copy ≡ [] → IsFound version version issuer copy c → Image c
  opened_image copy c none found nil (inl not) = not_begun none not.0
  opened_image copy c none found nil (inr stands) = front copy found (record {
    history = copy;
    stands = stands;
    begins = record { rest = []; is = nil ∙ sym nil_more };
    within = subst (λ (es : List Entry). IsPrefix es history) (sym nil) (whole_front history);
  })
    where
      nil_more : copy ++ [] ≡ []
      nil_more = ap (λ (es : List Entry). es ++ []) nil

  -- of a copy that was opened
  pub opened : NotBegunIsNeither → (copy : List Entry) (u : OnDisk) → IsFound version version issuer copy t.content →
      LeavesOnly (synced t) u (IsFound version version issuer copy) → IsOnlySynced t u → LeavesOnly t u Image
  opened neither copy u (inl not) only unwritten =
      follows t (synced t) u (IsImage t.now) (IsFound version version issuer copy) Image synced_image only
      (λ c image. as_before image) (λ c found. opened_image copy c not.0 (inl not) not.1 found)
  opened neither copy u (inr stands) only unwritten =
      only_synced u (unwritten (λ none. (neither version issuer copy t.content 0 none).0 stands))

-- how it ends where the copy can't be opened
pub unstarted_end : {D : Type 0} (s : Sinks) (file : Disks D) (tells : Bool) (on_disk : D → OnDisk) (faults : D → ℕ) (copy disk : D)
    (version : Version) (issuer : List ℕ) (history : List Entry) (why : StandbyCause) →
    (IsTrue file.tells → StandsFor version issuer history (file.on_disk file.disk).content) →
    (IsTrue tells → IsLeftUnstarted version issuer why (on_disk copy) (on_disk disk)) →
    (why ≡ cause.DiskFault → Rose (faults copy) (faults disk)) → WroteNothing s →
    FollowEnds s file (this_disk tells on_disk faults copy disk) (start_end why)
unstarted_end s file tells on_disk faults copy disk version issuer history cause.DiskFault stands left rose wrote =
    disk_fault (inr (rose refl)) wrote
unstarted_end s file tells on_disk faults copy disk version issuer history (cause.Damaged at) stands left rose wrote =
    copy_damaged at (λ says. inr (version, issuer, history, stands says)) (λ says. (left says).0) wrote
unstarted_end s file tells on_disk faults copy disk version issuer history (cause.OtherIssuer held) stands left rose wrote =
    parted 0
    (λ says tell.
    let o = (left tell).0 in
    of_other version o.version issuer held history o.entries (stands says) o.stands (λ both. o.other both.1))
    (λ tell. inr (left tell).1) wrote
unstarted_end s file tells on_disk faults copy disk version issuer history (cause.OtherVersion held) stands left rose wrote =
    parted 0
    (λ says tell.
    let o = (left tell).0 in
    of_other version held issuer issuer history o.entries (stands says) o.stands (λ both. o.other both.0))
    (λ tell. inr (left tell).1) wrote
unstarted_end s file tells on_disk faults copy disk version issuer history cause.NoMemory stands left rose wrote = no_memory wrote

rose_from : (a b c : ℕ) → a ≤ b → Rose b c → Rose a c
rose_from a b c le rose = λ small. let strict = rose small in omega (arith, le, strict)

-- how it ends where the file can't be loaded
pub load_failed : {A D : Type 0} (s : Sinks) (file new : Disks D) (fault : LoadFault) →
    ((at : ℕ) → ◌≡◌ {A = Result A LoadFault} (Err fault) (Err (load.Damaged at)) → IsTrue file.tells →
    IsDamagedFile (file.on_disk file.disk).content at) →
    (◌≡◌ {A = Result A LoadFault} (Err fault) (Err load.DiskFault) → DiskRose file) → WroteNothing s →
    FollowEnds s file new (load_end fault)
load_failed s file new load.DiskFault damaged rose wrote = disk_fault (inl (rose refl)) wrote
load_failed s file new (load.Damaged at) damaged rose wrote = file_damaged at (damaged at refl) wrote
load_failed s file new load.NoMemory damaged rose wrote = no_memory wrote

-- and where the copy can't
pub copy_failed : {A D : Type 0} (s : Sinks) (file new : Disks D) (fault : LoadFault) →
    (IsTrue file.tells → IsNotBegun (file.on_disk file.disk).content) →
    ((at : ℕ) → ◌≡◌ {A = Result A LoadFault} (Err fault) (Err (load.Damaged at)) → IsTrue new.tells →
    IsDamagedFile (new.on_disk new.disk).content at) →
    (◌≡◌ {A = Result A LoadFault} (Err fault) (Err load.DiskFault) → DiskRose new) → WroteNothing s →
    FollowEnds s file new (load_end fault)
copy_failed s file new load.DiskFault none damaged rose wrote = disk_fault (inr (rose refl)) wrote
copy_failed s file new (load.Damaged at) none damaged rose wrote =
    copy_damaged at (λ says. inl (none says)) (damaged at refl) wrote
copy_failed s file new load.NoMemory none damaged rose wrote = no_memory wrote

-- next to a file that isn't begun
pub nothing_ends : {D : Type 0} (s : Sinks) (file new : Disks D) (end : Detail) →
    (IsTrue file.tells → IsNotBegun (file.on_disk file.disk).content) →
    (IsTrue new.tells → HasNoEntry (new.on_disk new.disk).content) → CountsPrinted 0 0 s end → FollowEnds s file new end
nothing_ends s file new end none no_entry (inl text) = nothing end none no_entry text
nothing_ends s file new end none no_entry (inr lost) =
    subst (λ (e : Detail). FollowEnds s file new e) (sym lost.0) (no_memory lost.1)

empty_by : (entries : List Entry) → length entries ≡ 0 → entries ≡ []
empty_by [] n = refl
empty_by (x ∷ entries) n = absurd (omega (arith, n))

pub beside_ends : {D : Type 0} (s : Sinks) (file new : Disks D) (end : Detail) (version : Version) (issuer : List ℕ)
    (copy : List Entry) → (IsTrue file.tells → IsNotBegun (file.on_disk file.disk).content) →
    (IsTrue new.tells → StandsFor version issuer copy (new.on_disk new.disk).content) →
    (new.on_disk new.disk_after ≡ new.on_disk new.disk) → BesideNothing copy s end → FollowEnds s file new end
beside_ends s file new end version issuer copy none stands same (inl h) =
    subst (λ (e : Detail). FollowEnds s file new e) (sym h.1)
    (parted 1 (λ says tell. of_nothing version issuer copy (none says) (stands tell) h.0) (λ tell. inl same) h.2)
beside_ends s file new end version issuer copy none stands same (inr h) =
    nothing_ends s file new end none
    (λ tell. inr (
      version,
      issuer,
      subst (λ (es : List Entry). StandsFor version issuer es (new.on_disk new.disk).content)
          (empty_by copy h.0) (stands tell),
    )) h.1

apart_stands : (version : Version) (issuer : List ℕ) (history copy : List Entry) (at : ℕ) (file : List ℕ) →
    IsFirstApart history copy at → IsFound version version issuer copy file → StandsFor version issuer copy file
apart_stands version issuer history copy at file f (inl none) =
    let lt = f.within in
    let n : length copy ≡ 0 = ap (λ (es : List Entry). length es) none.1 in
    absurd (omega (arith, lt, n))
apart_stands version issuer history copy at file f (inr stands) = stands

module _ {D : Type 0} (tells : Bool) (on_disk : D → OnDisk) (faults : D → ℕ) (version : Version) (issuer : List ℕ)
    (history : List Entry) where
  -- what became of a copy that was brought up, once its disk was given back
  pub brings_err : (old new : ChainOnDisk D) (disk : D) (fault : StoreFault) → disk ≡ new.disk →
      CatchesUp faults old new history (Err fault) →
      BringsUp tells on_disk faults version issuer history old disk (Err (store_end fault))
  brings_err old new disk store.DiskFault same c =
      inr (inl (refl, subst (λ (d : D). Rose (faults old.disk) (faults d)) (sym same) c.0))
  brings_err old new disk (store.Stopped count) same c = absurd c
  brings_err old new disk store.NoMemory same c = inr (inr refl)

  pub brings_ok : (old new : ChainOnDisk D) (disk : D) (kept : ℕ) → IsPrefix old.history.entries history →
      new.history.version ≡ version → new.history.issuer ≡ issuer → CatchesUp faults old new history (Ok kept) →
      (new.stopped ≡ None → IsTrue tells →
      LeavesNow (on_disk disk) (StandsFor new.history.version new.history.issuer new.history.entries)) →
      BringsUp tells on_disk faults version issuer history old disk (Ok kept)
  brings_ok old new disk kept within v i c every = (
    within,
    c.2,
    λ says.
        subst (λ (w : Version). LeavesNow (on_disk disk) (StandsFor w issuer history)) v
        (subst₂ (λ (n : List ℕ) (es : List Entry). LeavesNow (on_disk disk) (StandsFor new.history.version n es)) i c.1
        (every c.0 says)),
  )

  module _ (s : Sinks) (file : Disks D) (copy after : D) (standby : ChainOnDisk D)
      (stands : IsTrue file.tells → StandsFor version issuer history (file.on_disk file.disk).content)
      (found : IsTrue tells → IsFound version version issuer standby.history.entries (on_disk copy).content) where
    -- how it ends where the copy has all, and where it was opened and hasn't
    pub followed_ends : (kept entries : ℕ) (end : Detail) → ((disk : D) → IsTrue tells → IsImage (on_disk disk).now (on_disk disk).content) →
        BringsUp tells on_disk faults version issuer history standby after (Ok kept) → entries ≡ length history →
        CountsPrinted kept entries s end → FollowEnds s file (this_disk tells on_disk faults copy after) end
    followed_ends kept entries end reads b count (inl text) = followed kept entries end
        (record {
          version = version;
          issuer = issuer;
          history = history;
          copy = standby.history.entries;
          stands = stands;
          found = found;
          front = b.0;
          kept_is = b.1;
          entries_are = count;
          reads = λ says. b.2 says (on_disk after).content (inl (refl, reads after says));
          every_crash = b.2;
        }) text
    followed_ends kept entries end reads b count (inr lost) =
        subst (λ (e : Detail). FollowEnds s file (this_disk tells on_disk faults copy after) e) (sym lost.0) (no_memory lost.1)

    pub unbrought_ends : NotBegunIsNeither → (end : Detail) → (IsTrue tells → IsOnlySynced (on_disk copy) (on_disk standby.disk)) →
        faults copy ≤ faults standby.disk → WroteNothing s →
        BringsUp tells on_disk faults version issuer history standby after (Err end) →
        FollowEnds s file (this_disk tells on_disk faults copy after) end
    unbrought_ends neither end unwritten later wrote (inl h) =
        subst (λ (e : Detail). FollowEnds s file (this_disk tells on_disk faults copy after) e) (sym h.2) (parted (h.0 + 1)
        (λ says tell. at_entry version issuer history standby.history.entries h.0 (stands says)
        (apart_stands version issuer history standby.history.entries h.0 (on_disk copy).content h.1 (found tell)) h.1)
        (λ tell. inr (ap (λ (d : D). on_disk d) h.3 ∙ unwritten tell (λ none. (neither version issuer standby.history.entries
        (on_disk copy).content 0 none).0 (apart_stands version issuer history standby.history.entries h.0 (on_disk copy).content h.1
        (found tell))))) wrote)
    unbrought_ends neither end unwritten later wrote (inr (inl h)) =
        subst (λ (e : Detail). FollowEnds s file (this_disk tells on_disk faults copy after) e) (sym h.0)
        (disk_fault (inr (rose_from (faults copy) (faults standby.disk) (faults after) later h.1)) wrote)
    unbrought_ends neither end unwritten later wrote (inr (inr same)) =
        subst (λ (e : Detail). FollowEnds s file (this_disk tells on_disk faults copy after) e) (sym same) (no_memory wrote)

  -- what each crash leaves of a copy that was opened
  pub brought_images : NotBegunIsNeither → (copy after : D) (standby : ChainOnDisk D) →
      IsImage (on_disk copy).now (on_disk copy).content → standby.history.version ≡ version → standby.history.issuer ≡ issuer →
      IsFound version version issuer standby.history.entries (on_disk copy).content →
      LeavesOnly (synced (on_disk copy)) (on_disk standby.disk) (IsFound version version issuer standby.history.entries) →
      IsOnlySynced (on_disk copy) (on_disk standby.disk) → IsTrue tells → LeftOrFollowed tells on_disk history standby after →
      LeavesOnly (on_disk copy) (on_disk after) (IsFollowImage version issuer history (on_disk copy))
  brought_images neither copy after standby reads v i found only unwritten says (inl same) =
      subst (λ (d : D). LeavesOnly (on_disk copy) (on_disk d) (IsFollowImage version issuer history (on_disk copy))) (sym same)
      (opened version issuer history (on_disk copy) reads neither standby.history.entries (on_disk standby.disk) found only unwritten)
  brought_images neither copy after standby reads v i found only unwritten says (inr both) =
      follows (on_disk copy) (on_disk standby.disk) (on_disk after) (IsFollowImage version issuer history (on_disk copy))
      (StandsBetween standby.history.version standby.history.issuer standby.history.entries history)
      (IsFollowImage version issuer history (on_disk copy))
      (opened version issuer history (on_disk copy) reads neither standby.history.entries (on_disk standby.disk) found only unwritten)
      (both.1 says) (λ c image. image) (λ c between. front standby.history.entries found
      (subst₂ (λ (w : Version) (n : List ℕ). StandsBetween w n standby.history.entries history c) v i between))

-- and what was made sure of in it stays
pub brought_loses_none : {D : Type 0} (tells : Bool) (on_disk : D → OnDisk) (history : List Entry) (copy after : D)
    (standby : ChainOnDisk D) → IsTrue tells → NeverLoses (on_disk copy) (on_disk standby.disk) →
    LeftOrFollowed tells on_disk history standby after → NeverLoses (on_disk copy) (on_disk after)
brought_loses_none tells on_disk history copy after standby says stays (inl same) =
    subst (λ (d : _). NeverLoses (on_disk copy) (on_disk d)) (sym same) stays
brought_loses_none tells on_disk history copy after standby says stays (inr both) =
    none_lost_in_both (on_disk copy) (on_disk standby.disk) (on_disk after) stays (both.2 says)

-- a copy that followed, once its disk was given back
pub followed_since : {D : Type 0} (tells : Bool) (on_disk : D → OnDisk) (history : List Entry) (old new : ChainOnDisk D) (disk : D) →
    IsPrefix old.history.entries history → disk ≡ new.disk → IsFollowing tells on_disk old new history →
    LeftOrFollowed tells on_disk history old disk
followed_since tells on_disk history old new disk within same f = inr (
  within,
  λ says.
      subst (λ (d : _). LeavesOnly (on_disk old.disk) (on_disk d)
      (StandsBetween old.history.version old.history.issuer old.history.entries history)) (sym same) (f.images says),
  λ says. subst (λ (d : _). NeverLoses (on_disk old.disk) (on_disk d)) (sym same) (f.never_loses says),
)

-- what is left of a copy that was only read
pub only_left : {D : Type 0} (file : Disks D) (tells : Bool) (on_disk : D → OnDisk) (faults : D → ℕ) (copy after : D) →
    on_disk after ≡ on_disk copy → ((disk : D) → IsTrue tells → IsImage (on_disk disk).now (on_disk disk).content) →
    OnlyFollowed file (this_disk tells on_disk faults copy after)
only_left file tells on_disk faults copy after same reads = record {
  nothing = λ says tell none. same;
  damaged = λ at says tell damaged. same;
  images = λ version issuer history says tell stands.
      subst (λ (u : OnDisk). LeavesOnly (on_disk copy) u (IsFollowImage version issuer history (on_disk copy))) (sym same)
      (untouched version issuer history (on_disk copy) (reads copy tell));
  never_loses = λ tell. none_lost_by (on_disk copy) (on_disk after) same;
}

-- and of one that followed this history
pub only_followed : {D : Type 0} → OneHistory → NotBegunIsNeither → SoundOrDamaged → (file : Disks D) (tells : Bool)
    (on_disk : D → OnDisk) (faults : D → ℕ) (copy after : D) (version : Version) (issuer : List ℕ) (history : List Entry) →
    (IsTrue file.tells → StandsFor version issuer history (file.on_disk file.disk).content) →
    (IsTrue tells → LeavesOnly (on_disk copy) (on_disk after) (IsFollowImage version issuer history (on_disk copy))) →
    (IsTrue tells → NeverLoses (on_disk copy) (on_disk after)) → OnlyFollowed file (this_disk tells on_disk faults copy after)
only_followed one neither sound file tells on_disk faults copy after version issuer history stands images stays = record {
  nothing = λ says tell none.
      absurd ((neither version issuer history (file.on_disk file.disk).content 0 none).0 (stands says));
  damaged = λ at says tell damaged.
      absurd (sound version issuer history (file.on_disk file.disk).content at (stands says) damaged);
  images = λ v n es says tell others.
      let same = one version v issuer n history es (file.on_disk file.disk).content (stands says) others in
      subst (λ (w : Version). LeavesOnly (on_disk copy) (on_disk after) (IsFollowImage w n es (on_disk copy))) same.0
      (subst₂ (λ (i : List ℕ) (h : List Entry). LeavesOnly (on_disk copy) (on_disk after) (IsFollowImage version i h (on_disk copy)))
      same.1 same.2 (images tell));
  never_loses = stays;
}
