-- What is known of a mirror, of either half: for every fact P on what crashes leave.
use Rattle.std.specs.Prelude.{◌≡◌, ◌≤◌, ◌+◌, ℕ, List, refl}
use Rattle.std.proofs.Common.{inl, sym, ◌∙◌, ap, subst, arith}
use Rattle.chain_disk.specs.OnDisk.{OnDisk, Pending, IsImage, IsLeftSince, IsSettled, LeavesNow, LeavesOnly, moment, settled}
use Rattle.chain_disk.specs.Runs.{left_now, settled_image}
use Rattle.mirror_disk.specs.Halves.{IsHalf, IsSame}

-- Each crash since the mirror was made leaves of the half what has P, where each leaves that of the mirror.
pub leaves_since : (made half start mirror : OnDisk) (P : List ℕ → Type 0) → IsHalf made half mirror → moment start ≡ 0 →
    LeavesOnly start mirror P → (c : List ℕ) → IsLeftSince made half c → P c
leaves_since made half start mirror P is new only c left =
    let there = is.images c left in
    only.each there.0 c (omega (arith, new)) there.2

-- A crash now leaves of the half what has P, where each since a moment before the last one leaves that of the mirror.
pub leaves_now : (made half old mirror : OnDisk) (P : List ℕ → Type 0) → IsHalf made half mirror →
    moment old + 1 ≤ moment mirror → LeavesOnly old mirror P → LeavesNow half P
leaves_now made half old mirror P is before only c left =
    let there = is.lately c (left_now half c left) in
    only.each there.0 c (omega (arith, before, there.1)) there.2

-- the same, since the mirror was made
pub leaves_now_since : (made half start mirror : OnDisk) (P : List ℕ → Type 0) → IsHalf made half mirror → moment start ≡ 0 →
    LeavesOnly start mirror P → LeavesNow half P
leaves_now_since made half start mirror P is new only c left =
    let there = is.lately c (left_now half c left) in
    only.each there.0 c (omega (arith, new)) there.2

-- A crash now leaves of the half what it leaves of the mirror, where both are the same: of a whole mirror, and of one with nothing
-- pending.
pub same_leaves : (half mirror : OnDisk) (P : List ℕ → Type 0) → IsSame half mirror → LeavesNow mirror P → LeavesNow half P
same_leaves half mirror P same only c left =
    only c (inl (refl, subst (λ (p : Pending). IsImage p c) same.now (left_now half c left)))

-- Where nothing is pending on the mirror, nothing is on the half, and a crash now leaves of it what it leaves of the mirror.
pub settled_half : (made half mirror : OnDisk) → IsHalf made half mirror → IsSettled mirror → IsSettled half
settled_half made half mirror is quiet =
    let same = is.settled quiet in
    same.now ∙ quiet ∙ ap (λ (c : List ℕ). settled c) (sym same.content)

pub settled_leaves : (made half mirror : OnDisk) (P : List ℕ → Type 0) → IsHalf made half mirror → IsSettled mirror →
    P mirror.content → LeavesNow half P
settled_leaves made half mirror P is quiet here c left =
    let image = subst (λ (p : Pending). IsImage p c) ((is.settled quiet).now ∙ quiet) (left_now half c left) in
    subst P (sym (settled_image mirror.content c image)) here
