-- The causes of an issuer's end.
use Rattle.std.proofs.Common.{◌≡◌, ◌⊎◌, inl, inr, ℕ, ◌+◌, ◌-◌, ◌^◌, ◌<◌, ◌≤◌, List, length, refl, ap, sym, ◌∙◌, subst, arith, if◌then◌else◌, ◌||◌}
use Rattle.std.proofs.Common.{Bool, true, false, IsTrue, Result, Ok, Err, OnOk}
use Rattle.std.specs.List.{list_any}
use Rattle.ports.specs.Causes.{Rose}
use Rattle.chain_disk.specs.Disks.{DiskRose, Disks}
use Rattle.journal.specs.declared.faults.StoreFault.TheVariants as store
use Rattle.record_codec.specs.declared.entry.Entry.{Entry}
use Rattle.record_fields.specs.declared.versions.Version.{Version}
use Rattle.report.specs.declared.status.Detail.{Detail}
use Rattle.report.specs.declared.status.Detail.TheVariants as detail
use Rattle.shop_core.specs.History.{noted, recs}
use Rattle.agency_rules.specs.declared.plans.Plan.{Plan}
use Rattle.once_world.specs.Agreement.{Agree}
use Rattle.sender.specs.declared.answers.DrainFault.{DrainFault}
use Rattle.sender.specs.declared.answers.DrainFault.TheVariants as drain
use Rattle.sender.specs.declared.draining.TheConstants.{MAX_LINK_FAULTS}
use Rattle.chain_store.specs.Crashes.{StandsUpTo}
use Rattle.chain_store.specs.Replies.{Replies, is_disk_fault, is_no_memory}
use Rattle.command_ends.specs.DrainEnds.{sender_lacks_memory}
use Rattle.shop_drain.specs.Devices.{Agencies}
use Rattle.sender_session.specs.Session.{IsDiskAnswer}
use Rattle.shop_drain.specs.Draining.{IsSession, IsUnopened, Outcome, StoreDrains, noted_pairs, spanning}
use Rattle.many_issuers.specs.Ends.{IsBegunAlone, span_from}
use Rattle.many_issuers.specs.Blocks.{answer_end, issuer_end}
use Rattle.shop_drain.proofs.Closing.{never_contrary, undelivered_by}

abbrev Answer : Type 0
Answer = Result (Unit {0}) DrainFault

-- an issuer's end by its cases: memory, the disk at a command, or the answer after the commands
pub data EndBy (replies : Replies) (answer : Answer) : Detail → Type 0 where
  by_memory : EndBy replies answer detail.NoMemory
  by_disk : list_any is_disk_fault replies ≡ true → EndBy replies answer detail.DiskFault
  by_answer : list_any is_disk_fault replies ≡ false → EndBy replies answer (answer_end answer)

chosen : (replies : Replies) (answer : Answer) (lacks fails : Bool) → list_any is_disk_fault replies ≡ fails →
    EndBy replies answer (if lacks then detail.NoMemory else if fails then detail.DiskFault else answer_end answer)
chosen replies answer true fails is = by_memory
chosen replies answer false true is = by_disk is
chosen replies answer false false is = by_answer is

pub end_by : (replies : Replies) (answer : Answer) (end : Detail) → end ≡ issuer_end replies answer → EndBy replies answer end
end_by replies answer end is = subst (λ (e : Detail). EndBy replies answer e) (sym is)
    (chosen replies answer (list_any is_no_memory replies || sender_lacks_memory answer) (list_any is_disk_fault replies) refl)

disk_answer : (answer : Answer) → answer_end answer ≡ detail.DiskFault → IsDiskAnswer answer
disk_answer (Ok u) is = absurd cc
disk_answer (Err (drain.Undelivered n r)) is = absurd cc
disk_answer (Err (drain.Contradiction evidence)) is = absurd cc
disk_answer (Err (drain.Store store.DiskFault)) is = tt
disk_answer (Err (drain.Store (store.Stopped count))) is = tt
disk_answer (Err (drain.Store store.NoMemory)) is = absurd cc
disk_answer (Err drain.NoMemory) is = absurd cc

done_answer : (answer : Answer) → answer_end answer ≡ detail.Done → answer ≡ Ok tt
done_answer (Ok u) is = refl
done_answer (Err (drain.Undelivered n r)) is = absurd cc
done_answer (Err (drain.Contradiction evidence)) is = absurd cc
done_answer (Err (drain.Store store.DiskFault)) is = absurd cc
done_answer (Err (drain.Store (store.Stopped count))) is = absurd cc
done_answer (Err (drain.Store store.NoMemory)) is = absurd cc
done_answer (Err drain.NoMemory) is = absurd cc

late_answer : (answer : Answer) (n r : ℕ) → answer_end answer ≡ detail.Undelivered n r → answer ≡ Err (drain.Undelivered n r)
late_answer (Ok u) n r is = absurd cc
late_answer (Err (drain.Undelivered m q)) n r is =
    let a : m ≡ n = cc in let b : q ≡ r = cc in ap (λ (x : ℕ). Err (drain.Undelivered x q)) a ∙ ap (λ (y : ℕ). Err (drain.Undelivered n y)) b
late_answer (Err (drain.Contradiction evidence)) n r is = absurd cc
late_answer (Err (drain.Store store.DiskFault)) n r is = absurd cc
late_answer (Err (drain.Store (store.Stopped count))) n r is = absurd cc
late_answer (Err (drain.Store store.NoMemory)) n r is = absurd cc
late_answer (Err drain.NoMemory) n r is = absurd cc

module _ {D G : Type 0} (k : Disks D) (half : D) (a : Agencies G) (replies : Replies) (o : Outcome) (end : Detail)
    (early : k.faults k.disk ≤ k.faults half)
    (fault : list_any is_disk_fault replies ≡ true → Rose (k.faults k.disk) (k.faults half)) where
  abbrev pub Late : ℕ → ℕ → Type 0
  Late n r = (n < r) × (a.after.faults < 2 ^ 64 - 1 → a.before.faults + MAX_LINK_FAULTS ≤ a.after.faults)

  module _ (version : Version) (issuer : List ℕ) (plan : Plan) (middle : List Entry) (exact : Bool) (moment : ℕ)
      (h : StoreDrains (StandsUpTo version issuer) a.begun plan version issuer (span_from k half)
      (spanning middle a.kind a.before a.after exact moment o)) where
    rose_at_command : list_any is_disk_fault replies ≡ true → DiskRose k
    rose_at_command some below =
        let later = h.later in
        let r = fault some (omega (arith, below, later)) in
        omega (arith, r, later)

    rose_behind : IsDiskAnswer o.answer → DiskRose k
    rose_behind failed below = let r = h.risen failed below in omega (arith, r, early)

    pub risen_drained : (e : Detail) → EndBy replies o.answer e → e ≡ detail.DiskFault → DiskRose k
    risen_drained e by_memory is = absurd cc
    risen_drained e (by_disk some) is = rose_at_command some
    risen_drained e (by_answer none) is = rose_behind (disk_answer o.answer is)

    noted_by : (answer : Answer) → answer ≡ Ok tt →
        IsUnopened (spanning middle a.kind a.before a.after exact moment o)
        ⊎ IsSession a.begun plan (spanning middle a.kind a.before a.after exact moment o) → o.answer ≡ answer →
        length (noted o.end) ≡ length (recs o.end)
    noted_by answer ok (inl none) is = absurd (let e = sym none.answer ∙ is ∙ ok in cc)
    noted_by answer ok (inr s) is = (subst (λ (r : Answer). OnOk r (length (noted o.end) ≡ length (recs o.end))) (is ∙ ok) s.sends.all_noted)

    pub noted_drained : (e : Detail) → EndBy replies o.answer e → e ≡ detail.Done → length (noted o.end) ≡ length (recs o.end)
    noted_drained e by_memory is = absurd cc
    noted_drained e (by_disk some) is = absurd cc
    noted_drained e (by_answer none) is = noted_by o.answer (done_answer o.answer is) h.session refl

    pub late_drained : (e : Detail) → EndBy replies o.answer e → (n r : ℕ) → e ≡ detail.Undelivered n r → Late n r
    late_drained e by_memory n r is = absurd cc
    late_drained e (by_disk some) n r is = absurd cc
    late_drained e (by_answer none) n r is =
        undelivered_by (StandsUpTo version issuer) a.begun plan version issuer (span_from k half)
        (spanning middle a.kind a.before a.after exact moment o) h n r (late_answer o.answer n r is)

    module _ (still : DiskRose k → ⊥) (linked : Rose a.before.faults a.after.faults → ⊥) (keeps : IsTrue a.kind.keeps_rules)
        (agree : Agree middle (a.begun a.before.ledger.processed (noted_pairs middle)) a.before.ledger.sent) where
      complete_by : (answer : Answer) → o.answer ≡ answer → (answer_end answer ≡ detail.Done) ⊎ (answer_end answer ≡ detail.NoMemory)
      complete_by (Ok u) is = inl refl
      complete_by (Err (drain.Undelivered n r)) is =
          let u = undelivered_by (StandsUpTo version issuer) a.begun plan version issuer (span_from k half)
          (spanning middle a.kind a.before a.after exact moment o) h n r is in
          absurd (linked (λ below. let more = u.1 below in omega (arith, more)))
      complete_by (Err (drain.Contradiction evidence)) is =
          absurd (never_contrary (StandsUpTo version issuer) a.begun plan version issuer (span_from k half)
          (spanning middle a.kind a.before a.after exact moment o) h keeps agree evidence is)
      complete_by (Err (drain.Store store.DiskFault)) is = absurd (still (rose_behind (subst IsDiskAnswer (sym is) tt)))
      complete_by (Err (drain.Store (store.Stopped count))) is = absurd (still (rose_behind (subst IsDiskAnswer (sym is) tt)))
      complete_by (Err (drain.Store store.NoMemory)) is = inr refl
      complete_by (Err drain.NoMemory) is = inr refl

      pub complete_drained : (e : Detail) → EndBy replies o.answer e → (e ≡ detail.Done) ⊎ (e ≡ detail.NoMemory)
      complete_drained e by_memory = inr refl
      complete_drained e (by_disk some) = absurd (still (rose_at_command some))
      complete_drained e (by_answer none) = complete_by o.answer refl

  -- where the disk had failed at a command
  module _ (plan : Plan) (middle : List Entry) (h : IsBegunAlone plan middle replies k half a o) where
    pub rose_alone : DiskRose k
    rose_alone = subst (λ (x : D). Rose (k.faults k.disk) (k.faults x)) (sym h.disk) (fault h.failed)

    pub ends_alone : (e : Detail) → EndBy replies o.answer e → (e ≡ detail.NoMemory) ⊎ (e ≡ detail.DiskFault)
    ends_alone e by_memory = inl refl
    ends_alone e (by_disk some) = inr refl
    ends_alone e (by_answer none) = absurd (let f = h.failed in cc)

-- lack of memory after the commands is told
pub memory_tells : (replies : Replies) (answer : Answer) (end : Detail) → end ≡ issuer_end replies answer → answer ≡ Err drain.NoMemory →
    end ≡ detail.NoMemory
memory_tells replies answer end is lacks =
    is ∙ ap (λ (a : Answer). issuer_end replies a) lacks ∙ by_any (list_any is_no_memory replies)
  where
    by_any : (b : Bool) → (if b || true then detail.NoMemory
        else if list_any is_disk_fault replies then detail.DiskFault else detail.NoMemory) ≡ detail.NoMemory
    by_any true = refl
    by_any false = refl
