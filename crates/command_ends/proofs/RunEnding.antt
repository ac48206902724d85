-- How a command's run ends, and what is left where it had no script or its file wasn't opened.
use Rattle.std.proofs.Common.{◌≡◌, inl, inr, ◌⊎◌, ℕ, ◌≤◌, List, [], ◌∷◌, sym, subst, refl, arith, false, IsTrue, Result, Ok}
use Rattle.std.proofs.Common.{Err}
use Rattle.std.specs.List.{list_any}
use Rattle.record_fields.specs.declared.versions.Version.TheVariants.{Two}
use Rattle.chain_disk.specs.Runs.{started_settled, weaker}
use Rattle.chain_disk.specs.OnDisk.{OnDisk, LeavesOnly, synced}
use Rattle.journal.specs.File.{IsNotBegun, IsNotBegunOrEmpty}
use Rattle.chain_store.specs.declared.causes.OpenCause.{OpenCause}
use Rattle.chain_store.specs.declared.causes.OpenCause.TheVariants as cause
use Rattle.chain_store.specs.Losing.{NeverLoses}
use Rattle.journal.specs.declared.faults.StoreFault.{StoreFault}
use Rattle.journal.specs.declared.faults.StoreFault.TheVariants.{DiskFault, Stopped, NoMemory}
use Rattle.ports.specs.declared.faults.Failed.{Failed}
use Rattle.recovery.specs.Opening.{IsDiskLost, IsLeftUnopened}
use Rattle.chain_store.specs.Opening.IsDiskLost.{not_synced, not_read, in_part}
use Rattle.report.specs.declared.status.Detail.{Detail}
use Rattle.report.specs.declared.status.Detail.TheVariants as detail
use Rattle.shop_core.specs.declared.answer.Reply.{Reply}
use Rattle.shop_drain.specs.Crashes.{KeepsFile}
use Rattle.chain_store.specs.Replies.{AllGoOn, AllReplied, StopsOnce, is_disk_fault, is_no_memory}
use Rattle.ports.specs.Sinks.{FailedIn, OutputIs, Sinks, Wrote, WroteNothing}
use Rattle.chain_disk.specs.Disks.{DiskRose, Disks}
use Rattle.shop_drain.specs.Opening.{NoRoom, NotOpened, opening_end}
use Rattle.command_ends.specs.Scripts.{ScriptIs, ScriptedEnds, no_script_end}
use Rattle.command_ends.specs.Scripts.ScriptedEnds.{bad_line, read_fault, too_big, no_memory as unread_memory}
use Rattle.command_ends.specs.declared.scripts.NoScript.{NoScript}
use Rattle.command_ends.specs.declared.scripts.NoScript.TheVariants as no_script
use Rattle.script.specs.declared.forms.Form.{Form}
use Rattle.script.specs.declared.scripts.Script.{Script}
use Rattle.ports.specs.Sources.{Sources}

-- no reply is lack of memory, and none a fault of the disk
pub all_replied : (replies : List (Result Reply StoreFault)) → list_any is_no_memory replies ≡ false →
    list_any is_disk_fault replies ≡ false → AllReplied replies
all_replied [] memory disk = tt
all_replied (Ok reply ∷ replies) memory disk = (refl, all_replied replies memory disk)
all_replied (Err NoMemory ∷ replies) memory disk = absurd cc
all_replied (Err DiskFault ∷ replies) memory disk = absurd cc
all_replied (Err (Stopped count) ∷ replies) memory disk = absurd cc

-- where the journal went on, no reply is a fault of the disk
pub went_on : (replies : List (Result Reply StoreFault)) → AllGoOn replies → list_any is_disk_fault replies ≡ false
went_on [] all = refl
went_on (Ok reply ∷ replies) all = went_on replies all.1
went_on (Err NoMemory ∷ replies) all = went_on replies all.1
went_on (Err DiskFault ∷ replies) all = absurd all.0
went_on (Err (Stopped count) ∷ replies) all = absurd all.0

pub written_whole : (text : List ℕ) (s : Sinks) (w : Result (Unit {0}) Failed) (u : Unit {0}) → w ≡ Ok u → OutputIs s text w →
    Wrote s text
written_whole text s w u is h = subst (λ (r : Result (Unit {0}) Failed). OutputIs s text r) is h

pub written_part : (text : List ℕ) (s : Sinks) (w : Result (Unit {0}) Failed) (e : Failed) → w ≡ Err e → OutputIs s text w →
    FailedIn s text
written_part text s w e is h = subst (λ (r : Result (Unit {0}) Failed). OutputIs s text r) is h

pub written_either : (text : List ℕ) (s : Sinks) (w : Result (Unit {0}) Failed) → OutputIs s text w → Wrote s text ⊎
    FailedIn s text
written_either text s (Ok u) h = inl h
written_either text s (Err e) h = inr h

as_it_stood : (issuer : List ℕ) (old new : OnDisk) → new ≡ synced old → KeepsFile issuer old new
as_it_stood issuer old new is =
    let P : List ℕ → Type 0 = λ c. (c ≡ old.content) ⊎ (IsNotBegun old.content × IsNotBegunOrEmpty Two issuer c) in
    inr (subst (λ (t : OnDisk). LeavesOnly (synced old) t P) (sym is) (started_settled (synced old) P refl (inl refl)))

disk_lost : (issuer : List ℕ) (old new : OnDisk) → IsDiskLost issuer old new → KeepsFile issuer old new
disk_lost issuer old new (not_synced failed) = inl failed
disk_lost issuer old new (not_read is) = as_it_stood issuer old new is
disk_lost issuer old new (in_part h) =
    inr (weaker (synced old) new (IsNotBegunOrEmpty Two issuer) (λ c. (c ≡ old.content) ⊎
    (IsNotBegun old.content × IsNotBegunOrEmpty Two issuer c)) h.any_moment (λ c empty. inr (h.not_begun, empty)))

-- what an opening that failed leaves keeps the file
pub keeps_file : (issuer : List ℕ) (why : OpenCause) (old new : OnDisk) → IsLeftUnopened issuer why old new →
    KeepsFile issuer old new
keeps_file issuer cause.DiskFault old new h = disk_lost issuer old new h
keeps_file issuer (cause.Damaged at) old new h = as_it_stood issuer old new h.1
keeps_file issuer (cause.OtherIssuer held) old new h = as_it_stood issuer old new h.1
keeps_file issuer cause.NoMemory old new h = as_it_stood issuer old new h

-- an opening that failed, by what it answers
pub not_opened : {D : Type 0} {issuer : List ℕ} {left : Type 0} {s : Sinks} {k : Disks D} {end : Detail} (why : OpenCause) →
    end ≡ opening_end why → (why ≡ cause.DiskFault → DiskRose k) →
    (IsTrue k.tells → IsLeftUnopened issuer why (k.on_disk k.disk) (k.on_disk k.disk_after)) →
    (IsTrue k.tells → NeverLoses (k.on_disk k.disk) (k.on_disk k.disk_after)) → WroteNothing s → left →
    NotOpened issuer left s k end
not_opened {D} {issuer} {left} {s} {k} {end} why ends risen left_by stays wrote rest = record {
  why = why;
  ends = ends;
  risen = risen;
  left_by = left_by;
  never_loses = stays;
  every_crash = λ says. keeps_file issuer why (k.on_disk k.disk) (k.on_disk k.disk_after) (left_by says);
  wrote = wrote;
  rest = rest;
}

-- the same end, where more is left
pub not_opened_by : {D : Type 0} {issuer : List ℕ} {left more : Type 0} {s : Sinks} {k : Disks D} {end : Detail} →
    (left → more) → NotOpened issuer left s k end → NotOpened issuer more s k end
not_opened_by f h = record {
  why = h.why;
  ends = h.ends;
  risen = h.risen;
  left_by = h.left_by;
  never_loses = h.never_loses;
  every_crash = h.every_crash;
  wrote = h.wrote;
  rest = f h.rest;
}

pub no_room_by : {D : Type 0} {left more : Type 0} {s : Sinks} {k : Disks D} {end : Detail} → (left → more) →
    NoRoom left s k end → NoRoom more s k end
no_room_by f h = record { ends = h.ends; wrote = h.wrote; disk = h.disk; rest = f h.rest }

pub stops_from : (first before after : ℕ) (replies : List (Result Reply StoreFault)) → first ≤ before → StopsOnce before after replies
    → StopsOnce first after replies
stops_from first before after replies later (inl all) = inl all
stops_from first before after replies later (inr h) = inr (record {
  before = h.before;
  behind = h.behind;
  parts = h.parts;
  go_on = h.go_on;
  stopped = h.stopped;
  risen = λ below. let risen = h.risen below in omega (arith, later, risen);
})

pub or_so : {A P Q : Type 0} → (P → Q) → A ⊎ P → A ⊎ Q
or_so f (inl a) = inl a
or_so f (inr p) = inr (f p)

pub rose_opening : {D : Type 0} (why : OpenCause) (k : Disks D) → (why ≡ cause.DiskFault → DiskRose k) →
    opening_end why ≡ detail.DiskFault → DiskRose k
rose_opening cause.DiskFault k risen is = risen refl
rose_opening _ k risen is = absurd cc

-- the end of a command whose source is no script
pub unread : (form : Form) (s : Sources) (untouched : Type 0) (Ran : Script → Detail → Type 0) (fault : NoScript) →
    ScriptIs form s (Err fault) → untouched →
    ScriptedEnds form s untouched Ran (no_script_end fault)
unread form s untouched Ran no_script.ReadFault is left = read_fault is left
unread form s untouched Ran no_script.TooBig is left = too_big is left
unread form s untouched Ran (no_script.BadLine line fault) is left = bad_line line fault is left
unread form s untouched Ran no_script.NoMemory is left = unread_memory left
