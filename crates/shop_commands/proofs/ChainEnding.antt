-- How a run of `chain` ends, and what its clause says of the whole call.
use Rattle.std.proofs.Common.{◌≡◌, inl, inr, ℕ, ◌+◌, ◌≤◌, List, [], sym, ◌∙◌, ap, subst, arith, Bool, true, IsTrue, Option}
use Rattle.std.proofs.Common.{Result}
use Rattle.std.specs.List.{list_any}
use Rattle.record_fields.specs.declared.versions.Version.{Version}
use Rattle.chain_disk.specs.OnDisk.{OnDisk, LeavesOnly, synced}
use Rattle.journal.specs.declared.faults.StoreFault.{StoreFault}
use Rattle.ports.specs.Causes.{Rose}
use Rattle.ports.specs.Readings.{IsTold}
use Rattle.record_codec.specs.declared.entry.Entry.{Entry}
use Rattle.recovery.specs.Opening.{IsFound}
use Rattle.shop_drain.specs.Crashes.{IsFoundSince}
use Rattle.report.specs.declared.status.Detail.{Detail}
use Rattle.report.specs.declared.status.Detail.TheVariants as detail
use Rattle.shop_core.specs.Answer.Requests.{Asked}
use Rattle.huella.specs.Linked.{Linked}
use Rattle.shop_core.specs.History.{recs}
use Rattle.shop_core.specs.Legal.{Legal}
use Rattle.shop_core.specs.Answer.Replies.{ChainRun}
use Rattle.shop_core.specs.Answer.Replies.ChainRun.{begun, replied}
use Rattle.shop_core.specs.declared.answer.Reply.{Reply}
use Rattle.chain_store.specs.Crashes.{FailsIn, IsCutOff, KeptByRun, StandsUpTo}
use Rattle.chain_store.specs.Losing.{NeverLoses}
use Rattle.command_ends.specs.Printed.{printed}
use Rattle.chain_store.specs.Readings.{IsComing, IsAsked, LeavesClock, readings, readings_of}
use Rattle.chain_store.specs.Replies.{StopsOnce, is_disk_fault}
use Rattle.ports.specs.Sinks.{Sinks}
use Rattle.chain_disk.specs.Disks.{DiskRose, Disks}
use Rattle.shop_commands.specs.Chain.{ChainEnds, ScriptEnds}
use Rattle.command_ends.specs.Played.{Played}
use Rattle.command_ends.specs.Scripts.{IsGoodScript}
use Rattle.command_ends.specs.Scripts.ScriptedEnds.{ran}
use Rattle.chain_store.specs.Runs.{Answers, Stores}
use Rattle.chain_store.specs.Clocks.{Clocks, LeftClock}
use Rattle.shop_drain.specs.Devices.{Devices}
use Rattle.command_ends.specs.Ending.{RunEnds}
use Rattle.command_ends.specs.Ending.RunEnds.{disk_fault}
use Rattle.script.specs.declared.forms.Form.TheVariants.{Full}
use Rattle.script.specs.declared.scripts.Script.{Script}
use Rattle.sender_session.proofs.Lists.{each_weaker}
use Rattle.shop_drain.proofs.Finishing.{kept_since}
use Rattle.command_ends.proofs.RunEnding.{went_on, not_opened_by, no_room_by, stops_from, or_so, rose_opening}

pub not_asked : {C : Type 0} (t : Clocks C) → LeftClock t → IsAsked t 0
not_asked t same = record {
  moved = λ k. let e : k ≡ 0 + k = omega arith in ap (λ c. t.coming c k) same ∙ ap (t.coming t.clock) e;
  untouched = λ none. same;
}

-- a run of a store is one of its file, from its opening on
pub store_ran : {D C : Type 0} (issuer : List ℕ) (asks : List Asked) (replies : List (Result Reply StoreFault)) (s : Stores D C)
    (sink : Sinks) (k : Disks D) (end : Detail) → s.issuer ≡ issuer →
    s.tells ≡ k.tells → s.faults_after ≡ k.faults k.disk_after → s.now ≡ k.on_disk k.disk_after → k.faults k.disk ≤ s.faults →
    (IsTrue k.tells → IsFound s.version issuer s.start (k.on_disk k.disk).content) →
    (IsTrue k.tells → LeavesOnly (synced (k.on_disk k.disk)) s.since (IsFoundSince (k.on_disk k.disk).content s.version issuer s.start)) →
    (IsTrue k.tells → NeverLoses (synced (k.on_disk k.disk)) s.since) →
    ((v : Version) (n : List ℕ) (es : List Entry) → FailsIn s.disk v n es → FailsIn k v n es) → Answers asks replies s →
    RunEnds replies (printed asks replies s.end) sink end → ScriptEnds issuer asks (s.clock.coming s.clock.clock)
    (λ rs. IsAsked s.clock (readings rs)) sink k end
store_ran issuer asks replies s sink k end own tells faults_after now later found any stays widen h ends =
    let Torn : List ℕ → Entry → Type 0 = λ n. IsCutOff s.version n (IsComing (s.clock.coming s.clock.clock)) asks s.end replies in
    let kept_here : IsTrue k.tells → KeptByRun (StandsUpTo s.version issuer s.start s.end) (Torn issuer) s.version issuer s.end replies s.since
    (k.on_disk k.disk_after) = λ says.
    subst (λ (t : OnDisk). KeptByRun (StandsUpTo s.version issuer s.start s.end) (Torn issuer) s.version issuer s.end replies s.since t) now
    (subst (λ (n : List ℕ). KeptByRun (StandsUpTo s.version n s.start s.end) (Torn n) s.version n s.end replies s.since s.now) own
    (h.kept (subst (λ (b : Bool). IsTrue b) (sym tells) says))) in
    inr (inr (
      record {
        version = s.version;
        start = s.start;
        replies = replies;
        end = s.end;
        found = found;
        run = subst (λ (n : List ℕ). ChainRun s.version n (IsComing (s.clock.coming s.clock.clock)) s.start asks replies s.end) own
            h.run;
        begins = h.begins;
        legal = subst (λ (n : List ℕ). Legal s.version n s.end) own h.legal;
        linked = subst (λ (n : List ℕ). Linked n (recs s.end)) own h.linked;
        rising = h.rising;
        stops = subst (λ (n : ℕ). StopsOnce (k.faults k.disk) n replies) faults_after (stops_from (k.faults k.disk) s.faults
            s.faults_after replies later h.stops);
        fails = or_so (λ f. widen s.version issuer s.end (subst (λ (n : List ℕ). FailsIn s.disk s.version n s.end) own f)) h.fails;
        kept = λ says. kept_since (Torn issuer) (k.on_disk k.disk).content s.version issuer s.start s.end replies (synced (k.on_disk
            k.disk)) s.since
            (k.on_disk k.disk_after) h.begins (any says) (stays says) (kept_here says);
        clock = h.asked;
      },
      ends,
    ))

-- a run by readings of one kind is one by readings of another kind, where each of the first is one of the second
run_by : (version : Version) (issuer : List ℕ) (R Q : List (Result Reply StoreFault) → ℕ → Type 0) (start : List Entry) →
    ((replies : List (Result Reply StoreFault)) (seconds : ℕ) → R replies seconds → Q replies seconds) →
    {asks : List Asked} {replies : List (Result Reply StoreFault)} {entries : List Entry} → ChainRun version issuer R start asks replies
    entries → ChainRun version issuer Q start asks replies entries
run_by version issuer R Q start each begun = begun
run_by version issuer R Q start each (replied asks replies entries ask told gained run seconds reading h) =
    replied asks replies entries ask told gained (run_by version issuer R Q start each run) seconds (each replies seconds reading) h

-- so is the entry that was cut off
cut_off_by : (version : Version) (issuer : List ℕ) (R Q : List (Result Reply StoreFault) → ℕ → Type 0) (asks : List Asked) (history : List Entry)
    (replies : List (Result Reply StoreFault)) →
    ((replies : List (Result Reply StoreFault)) (seconds : ℕ) → R replies seconds → Q replies seconds) → (entry : Entry) →
    IsCutOff version issuer R asks history replies entry → IsCutOff version issuer Q asks history replies entry
cut_off_by version issuer R Q asks history replies each entry h = record {
  before = h.before;
  behind = h.behind;
  told = h.told;
  ask = h.ask;
  asked = h.asked;
  seconds = h.seconds;
  reading = each h.before h.seconds h.reading;
  made = h.made;
}

-- what a run keeps, said of its torn entry in other words
kept_with : {P : List Entry → List ℕ → Type 0} {version : Version} {issuer : List ℕ} {end : List Entry} {replies : List (Result Reply StoreFault)}
    {since now : OnDisk} (IsTorn IsAlso : Entry → Type 0) → ((entry : Entry) → IsTorn entry → IsAlso entry) →
    KeptByRun P IsTorn version issuer end replies since now → KeptByRun P IsAlso version issuer end replies since now
kept_with IsTorn IsAlso each h = record {
  torn = h.torn;
  at_most_one = h.at_most_one;
  by_a_fault = h.by_a_fault;
  made = each_weaker IsTorn IsAlso h.torn each h.made;
  kept = h.kept;
}

-- the same end, said of other readings and of another clock
pub script_by : {D : Type 0} (issuer : List ℕ) (asks : List Asked) (old new : ℕ → Option ℕ)
    (Leaves Left : List (Result Reply StoreFault) → Type 0) (s : Sinks) (k : Disks D) (end : Detail) →
    ((i : ℕ) → old i ≡ new i) → ((replies : List (Result Reply StoreFault)) → Leaves replies → Left replies) →
    ScriptEnds issuer asks old Leaves s k end → ScriptEnds issuer asks new Left s k end
script_by issuer asks old new Leaves Left s k end same leaves (inl h) = inl (no_room_by (leaves []) h)
script_by issuer asks old new Leaves Left s k end same leaves (inr (inl h)) = inr (inl (not_opened_by (leaves []) h))
script_by issuer asks old new Leaves Left s k end same leaves (inr (inr h)) =
    let p = h.0 in
    let told : (replies : List (Result Reply StoreFault)) (seconds : ℕ) → IsComing old replies seconds → IsComing new replies
    seconds = λ replies seconds. subst (λ (o : Option ℕ). IsTold o seconds) (same (readings replies)) in
    inr (inr (
      record {
        version = p.version;
        start = p.start;
        replies = p.replies;
        end = p.end;
        found = p.found;
        run = run_by p.version issuer (IsComing old) (IsComing new) p.start told p.run;
        begins = p.begins;
        legal = p.legal;
        linked = p.linked;
        rising = p.rising;
        stops = p.stops;
        fails = p.fails;
        kept = λ says. kept_with _ _
            (cut_off_by p.version issuer (IsComing old) (IsComing new) asks p.end p.replies told) (p.kept says);
        clock = leaves p.replies p.clock;
      },
      h.1,
    ))

rose_of : (faults after : ℕ) (replies : List (Result Reply StoreFault)) → StopsOnce faults after replies →
    list_any is_disk_fault replies ≡ true → Rose faults after
rose_of faults after replies (inl all) some = let none = went_on replies all in absurd cc
rose_of faults after replies (inr stop) some = stop.risen

rose_ran : {D : Type 0} (issuer : List ℕ) (asks : List Asked) (coming : ℕ → Option ℕ) (Leaves : List (Result Reply StoreFault) →
    Type 0) (s : Sinks) (k : Disks D) (end : Detail) →
    (p : Played issuer asks coming Leaves k) → RunEnds p.replies (printed asks p.replies p.end) s end → end ≡ detail.DiskFault →
    DiskRose k
rose_ran issuer asks coming Leaves s k end p (disk_fault memory some wrote) is = rose_of (k.faults k.disk) (k.faults k.disk_after)
    p.replies p.stops some
rose_ran issuer asks coming Leaves s k end p _ is = absurd cc

disk_rose : {D : Type 0} (issuer : List ℕ) (asks : List Asked) (coming : ℕ → Option ℕ) (Leaves : List (Result Reply StoreFault) →
    Type 0) (s : Sinks) (k : Disks D) (end : Detail) →
    ScriptEnds issuer asks coming Leaves s k end → end ≡ detail.DiskFault → DiskRose k
disk_rose issuer asks coming Leaves s k end (inl h) is = let none = sym h.ends ∙ is in absurd cc
disk_rose issuer asks coming Leaves s k end (inr (inl h)) is = rose_opening h.why k h.risen (sym h.ends ∙ is)
disk_rose issuer asks coming Leaves s k end (inr (inr h)) is = rose_ran issuer asks coming Leaves s k end h.0 h.1 is

-- the end of a command that read its script is that of its run
pub chain_ran : {D C : Type 0} (issuer : List ℕ) (d : Devices D C) (script : Script) (end : Detail) → IsGoodScript Full d.source
    script →
    ScriptEnds issuer script.asks (readings_of script.clock (d.clock.coming d.clock.clock)) (LeavesClock d.clock script.clock)
    d.sink d.disk end → ChainEnds issuer d end
chain_ran issuer d script end good h = ran script end good (record {
  ends = h;
  risen = disk_rose issuer script.asks (readings_of script.clock (d.clock.coming d.clock.clock))
      (LeavesClock d.clock script.clock) d.sink d.disk end h;
})
