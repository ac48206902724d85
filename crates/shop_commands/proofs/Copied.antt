-- A copy that is brought up to an opened file, or why it isn't.
use Rattle.std.proofs.Common.{◌≡◌, ◌∙◌, inl, inr, refl, sym, ap, subst, subst₂, arith, ℕ, ◌+◌, ◌≤◌, List, length, Bool, IsTrue}
use Rattle.std.proofs.Common.{None, Result, Ok, Err}
use Rattle.std.specs.Prelude.{IfErr, IfOk}
use Rattle.chain_disk.specs.Disks.{Disks, this_disk}
use Rattle.chain_disk.specs.OnDisk.{IsImage, LeavesOnly, OnDisk, synced}
use Rattle.chain_disk.specs.Runs.{follows}
use Rattle.chain_store.specs.Crashes.{StandsBetween}
use Rattle.chain_store.specs.Losing.{NeverLoses, none_lost_in_both}
use Rattle.chain_store.specs.Opening.{IsFound, IsOnlySynced}
use Rattle.ports.specs.Causes.{Rose}
use Rattle.record_codec.specs.declared.entry.Entry.{Entry}
use Rattle.record_fields.specs.declared.versions.Version.{Version}
use Rattle.report.specs.declared.status.Detail.{Detail}
use Rattle.shop_core.specs.File.Files.{StandsFor}
use Rattle.shop_core.specs.File.Laws.{NotBegunIsNeither}
use Rattle.shop_core.specs.Prefix.{IsPrefix}
use Rattle.standby.specs.Catching.{IsFirstApart}
use Rattle.standby.specs.Chains.{ChainOnDisk}
use Rattle.standby.specs.Following.{IsFollowing}
use Rattle.standby.specs.Starting.{IsLeftUnstarted}
use Rattle.standby.specs.declared.causes.StandbyCause.{StandbyCause}
use Rattle.standby.specs.declared.causes.StandbyCause.TheVariants as cause
use Rattle.shop_commands.specs.Follow.{BringsUp, IsFollowImage, IsSyncedAtMost, LeftOrFollowed, start_end}
use Rattle.shop_commands.specs.Follow.IsFollowImage.{front}
use Rattle.shop_commands.specs.Guard.{IsCopied, IsPartedFrom, IsUncopied, LeftUncopied}
use Rattle.shop_commands.specs.declared.guard.Uncopied.{Uncopied}
use Rattle.shop_commands.specs.Guard.IsPartedFrom.{at_entry, of_other}
use Rattle.shop_commands.specs.Guard.IsUncopied.{damaged, disk_fault, no_memory, parted}
use Rattle.shop_commands.proofs.Follows.{brought_loses_none, opened, unstarted}

-- how it ends where the copy can't be opened
unstarted_why : {D : Type 0} (tells : Bool) (on_disk : D → OnDisk) (faults : D → ℕ) (disk left : D) (version : Version)
    (issuer : List ℕ) (history : List Entry) (why : StandbyCause) →
    (IsTrue tells → IsLeftUnstarted version issuer why (on_disk disk) (on_disk left)) →
    (why ≡ cause.DiskFault → Rose (faults disk) (faults left)) →
    IsUncopied version issuer history (this_disk tells on_disk faults disk left) (start_end why)
unstarted_why tells on_disk faults disk left version issuer history cause.DiskFault kept rose = disk_fault (rose refl)
unstarted_why tells on_disk faults disk left version issuer history (cause.Damaged at) kept rose =
    damaged at (λ says. (kept says).0) (λ says. inr (kept says).1)
unstarted_why tells on_disk faults disk left version issuer history (cause.OtherIssuer held) kept rose =
    parted 0 (λ says. let o = (kept says).0 in of_other o.version held o.entries o.stands (λ both. o.other both.1))
    (λ says. inr (kept says).1)
unstarted_why tells on_disk faults disk left version issuer history (cause.OtherVersion held) kept rose =
    parted 0 (λ says. let o = (kept says).0 in of_other held issuer o.entries o.stands (λ both. o.other both.0))
    (λ says. inr (kept says).1)
unstarted_why tells on_disk faults disk left version issuer history cause.NoMemory kept rose = no_memory

pub not_started : {D : Type 0} (tells : Bool) (on_disk : D → OnDisk) (faults : D → ℕ) (disk left : D) (version : Version)
    (issuer : List ℕ) (history : List Entry) (why : StandbyCause) (end : Detail) → end ≡ start_end why →
    (IsTrue tells → IsImage (on_disk disk).now (on_disk disk).content) →
    (IsTrue tells → IsLeftUnstarted version issuer why (on_disk disk) (on_disk left)) →
    (why ≡ cause.DiskFault → Rose (faults disk) (faults left)) → (IsTrue tells → NeverLoses (on_disk disk) (on_disk left)) →
    faults disk ≤ faults left → LeftUncopied version issuer history (this_disk tells on_disk faults disk left) end
not_started tells on_disk faults disk left version issuer history why end is reads kept rose stays later = record {
  why = subst (λ (e : Detail). IsUncopied version issuer history (this_disk tells on_disk faults disk left) e) (sym is)
      (unstarted_why tells on_disk faults disk left version issuer history why kept rose);
  images = λ says. unstarted version issuer history (on_disk disk) (reads says) why (on_disk left) (kept says);
  never_loses = stays;
  later = later;
}

module _ {D : Type 0} (tells : Bool) (on_disk : D → OnDisk) (faults : D → ℕ) (version : Version) (issuer : List ℕ)
    (history : List Entry) (disk : D) (first : ChainOnDisk D) (v : first.history.version ≡ version)
    (i : first.history.issuer ≡ issuer)
    (found : IsTrue tells → IsFound version version issuer first.history.entries (on_disk disk).content)
    (any : IsTrue tells → LeavesOnly (synced (on_disk disk)) (on_disk first.disk) (IsFound version version issuer first.history.entries))
    (later : faults disk ≤ faults first.disk) (neither : NotBegunIsNeither)
    (unwritten : IsTrue tells → IsOnlySynced (on_disk disk) (on_disk first.disk))
    (stays : IsTrue tells → NeverLoses (on_disk disk) (on_disk first.disk))
    (reads : IsTrue tells → IsImage (on_disk disk).now (on_disk disk).content) where
  abbrev Image : List ℕ → Type 0
  Image c = IsFollowImage version issuer history (on_disk disk) c

  -- at each moment of the opening
  opening : IsTrue tells → LeavesOnly (on_disk disk) (on_disk first.disk) Image
  opening says = opened version issuer history (on_disk disk) (reads says) neither first.history.entries (on_disk first.disk)
      (found says) (any says) (unwritten says)

  -- and of the calls after it
  on_from : IsTrue tells → (then : D) → LeavesOnly (on_disk first.disk) (on_disk then)
      (StandsBetween first.history.version first.history.issuer first.history.entries history) →
      LeavesOnly (on_disk disk) (on_disk then) Image
  on_from says then since = follows (on_disk disk) (on_disk first.disk) (on_disk then) Image
      (StandsBetween first.history.version first.history.issuer first.history.entries history) Image (opening says) since
      (λ c is. is)
      (λ c b. front first.history.entries (found says) (record {
        history = b.history;
        stands = subst₂ (λ (w : Version) (n : List ℕ). StandsFor w n b.history c) v i b.stands;
        begins = b.begins;
        within = b.within;
      }))

  -- it was brought up to the history
  pub copied : (then : ChainOnDisk D) → IsPrefix first.history.entries history → then.history.entries ≡ history →
      then.stopped ≡ None → IsFollowing tells on_disk first then history → faults first.disk ≤ faults then.disk →
      IsCopied tells on_disk faults version issuer history disk then
  copied then begins entries going follows_it more = record {
    copy = first.history.entries;
    found = found;
    front = begins;
    issuer_is = follows_it.issuer ∙ i;
    version_is = follows_it.version ∙ v;
    entries_are = entries;
    going_on = going;
    any_moment = λ says. on_from says then.disk (follows_it.images says);
    never_loses = λ says. none_lost_in_both (on_disk disk) (on_disk first.disk) (on_disk then.disk) (stays says)
        (follows_it.never_loses says);
    later = omega (arith, later, more);
  }

  pub copied_result : {E : Type 0} (r : Result (ChainOnDisk D) E) → IfOk r (λ s. IsPrefix first.history.entries history) →
      IfOk r (λ s. s.history.entries ≡ history) → IfOk r (λ s. s.stopped ≡ None) →
      IfOk r (λ s. IsFollowing tells on_disk first s history) → IfOk r (λ s. faults first.disk ≤ faults s.disk) →
      IfOk r (λ s. IsCopied tells on_disk faults version issuer history disk s)
  copied_result (Ok s) begins entries going follows_it more = copied s begins entries going follows_it more
  copied_result (Err why) begins entries going follows_it more = tt

  module _ (left : D) where
    abbrev here : Disks D
    here = this_disk tells on_disk faults disk left

    apart_of : (at : ℕ) → IsFirstApart history first.history.entries at →
        IsFound version version issuer first.history.entries (on_disk disk).content →
        IsPartedFrom version issuer history (on_disk disk).content (at + 1)
    apart_of at apart (inl none) = absurd (let e = ap (λ (es : List Entry). length es) none.1 in let w = apart.within in
        omega (arith, e, w))
    apart_of at apart (inr stands) = at_entry first.history.entries at stands apart

    synced_of : (at : ℕ) → IsFirstApart history first.history.entries at → left ≡ first.disk →
        IsFound version version issuer first.history.entries (on_disk disk).content → IsOnlySynced (on_disk disk) (on_disk first.disk) →
        IsSyncedAtMost (on_disk disk) (on_disk left)
    synced_of at apart same (inl none) only = absurd (let e = ap (λ (es : List Entry). length es) none.1 in
        let w = apart.within in omega (arith, e, w))
    synced_of at apart same (inr stands) only =
        inr (ap on_disk same ∙ only (λ none. (neither version issuer first.history.entries (on_disk disk).content 0 none).0 stands))

    why_of : (end : Detail) → BringsUp tells on_disk faults version issuer history first left (Err end) →
        IsUncopied version issuer history here end
    why_of end (inl h) = subst (λ (e : Detail). IsUncopied version issuer history here e) (sym h.2)
        (parted (h.0 + 1) (λ says. apart_of h.0 h.1 (found says))
        (λ says. synced_of h.0 h.1 h.3 (found says) (unwritten says)))
    why_of end (inr (inl h)) = subst (λ (e : Detail). IsUncopied version issuer history here e) (sym h.0)
        (disk_fault (λ below. let rose = h.1 below in omega (arith, rose, later)))
    why_of end (inr (inr is)) = subst (λ (e : Detail). IsUncopied version issuer history here e) (sym is) no_memory

    images_of : IsTrue tells → LeftOrFollowed tells on_disk history first left → LeavesOnly (on_disk disk) (on_disk left) Image
    images_of says (inl same) = subst (λ (d : D). LeavesOnly (on_disk disk) (on_disk d) Image) (sym same) (opening says)
    images_of says (inr h) = on_from says left (h.1 says)

    stays_of : IsTrue tells → LeftOrFollowed tells on_disk history first left → NeverLoses (on_disk disk) (on_disk left)
    stays_of says kept = brought_loses_none tells on_disk history disk left first says (stays says) kept

    -- it wasn't
    pub not_brought : (end : Detail) → BringsUp tells on_disk faults version issuer history first left (Err end) →
        LeftOrFollowed tells on_disk history first left → faults first.disk ≤ faults left →
        LeftUncopied version issuer history here end
    not_brought end why kept more = record {
      why = why_of end why;
      images = λ says. images_of says kept;
      never_loses = λ says. stays_of says kept;
      later = omega (arith, later, more);
    }

  pub uncopied_result : {T : Type 0} (r : Result T (Uncopied D)) →
      IfErr r (λ u. BringsUp tells on_disk faults version issuer history first u.disk (Err u.end)) →
      IfErr r (λ u. LeftOrFollowed tells on_disk history first u.disk) → IfErr r (λ u. faults first.disk ≤ faults u.disk) →
      IfErr r (λ u. LeftUncopied version issuer history (this_disk tells on_disk faults disk u.disk) u.end)
  uncopied_result (Ok x) why kept more = tt
  uncopied_result (Err u) why kept more = not_brought u.disk u.end why kept more
