-- The laws of what a disk tells.
use Rattle.std.proofs.Common.{◌⊎◌, ◌≤◌, ◌+◌, inl, inr, ℕ, List, refl, sym, subst, arith}
use Rattle.std.proofs.lemmas.Bool.{cases_lt}
use Rattle.chain_disk.specs.OnDisk.{OnDisk, Pending, IsImage, IsLeft, moment, IsLeftSince, moved, settled}
use Rattle.chain_disk.specs.Runs.{left_before, settled_now}
use Rattle.chain_disk.specs.Stays.{call_run, no_run, run_follows}
use Rattle.chain_disk.specs.Laws.{SettledLeaves, NoCallIsARun, CallIsARun, RunsFollow}

whole : (s : List ℕ) → IsImage (settled s) s
whole s = record { no_shorter = omega arith; no_longer = omega arith; kept = λ i within free. refl }

pub settled_leaves : SettledLeaves
settled_leaves t c quiet = (
  λ left. settled_now t c quiet left,
  λ is. inl (
    refl,
    subst (λ (p : Pending). IsImage p c) (sym quiet) (subst (λ (l : List ℕ). IsImage (settled t.content) l)
        (sym is) (whole t.content)),
  ),
)

no_call : (t : OnDisk) (c : List ℕ) (m : ℕ) → moment t ≤ m → IsLeft t m c → IsImage t.now c
no_call t c m since (inl now) = now.1
no_call t c m since (inr past) = absurd (omega (arith, left_before t.past m c past))

pub no_call_is_a_run : NoCallIsARun
no_call_is_a_run t = (
  no_run t,
  λ c. (λ since. no_call t c since.0 since.1 since.2, λ image. (moment t, omega arith, inl (refl, image))),
)

pub call_is_a_run : CallIsARun
call_is_a_run t content now = (
  call_run t content now,
  λ c. (λ since. either c since.0 since.1 since.2, back c),
)
  where
    either : (c : List ℕ) (m : ℕ) → moment t ≤ m → IsLeft (moved content now t) m c → IsImage t.now c ⊎ IsImage now c
    either c m since (inl newest) = inr newest.1
    either c m since (inr older) = inl (no_call t c m since older)

    back : (c : List ℕ) → IsImage t.now c ⊎ IsImage now c → IsLeftSince t (moved content now t) c
    back c (inl was) = (moment t, omega arith, inr (inl (refl, was)))
    back c (inr is) = (moment t + 1, omega arith, inl (omega arith, is))

pub runs_follow : RunsFollow
runs_follow t u v first second = (
  run_follows t u v first second,
  λ c. (λ since. either c since.0 since.1 since.2, back c),
)
  where
    either : (c : List ℕ) (m : ℕ) → moment t ≤ m → IsLeft v m c → IsLeftSince t u c ⊎ IsLeftSince u v c
    either c m since left = elim (cases_lt m (moment u)) [
      | inl early ↦ inl (m, since, second.before m c (omega (arith, early)) left)
      | inr late ↦ inr (m, late, left)
    ]

    left_by : (x : OnDisk) (m : ℕ) (c : List ℕ) → IsLeft x m c → m ≤ moment x
    left_by x m c (inl now) = omega (arith, now.0)
    left_by x m c (inr past) = omega (arith, left_before x.past m c past)

    back : (c : List ℕ) → IsLeftSince t u c ⊎ IsLeftSince u v c → IsLeftSince t v c
    back c (inl early) = (early.0, early.1, second.stays early.0 c (left_by u early.0 c early.2) early.2)
    back c (inr late) = (late.0, omega (arith, late.1, first.later), late.2)
