-- What each crash at a moment leaves stays so at the later ones. Each lemma holds for every fact P on images.
use Rattle.std.specs.Prelude.{◌≡◌, ◌<◌, ◌≤◌, ℕ, List, [], ◌∷◌, length, refl}
use Rattle.std.proofs.Common.{inl, inr, sym, subst, arith}
use Rattle.std.proofs.lemmas.Bool.{cases_lt}
use Rattle.chain_disk.specs.OnDisk.{OnDisk, Pending, IsImage, IsLeft, IsLeftOf, LeavesAt, LeavesOnly, MayLeave, StillLeaves, moment}
use Rattle.chain_disk.specs.OnDisk.{IsRun, IsSyncFailed, IsWriteFailed, moved, pasted, settled, synced, wider, written}
use Rattle.chain_disk.specs.Runs.{left_now, settled_image}
use Rattle.chain_disk.specs.MemoryReads.{furthest_least}

-- what the last sync made sure of is an image
pub synced_image : (p : Pending) → IsImage p p.synced
synced_image p = record {
  no_shorter = omega arith;
  no_longer = furthest_least (length p.synced) p.ranges;
  kept = λ i within free. refl;
}

left_of : (past : List Pending) (m : ℕ) → m < length past → (c : List ℕ) × IsLeftOf past m c
left_of [] m none = absurd (omega (arith, none))
left_of (p ∷ older) m within = elim (cases_lt m (length older)) [
  | inl early ↦ (let at = left_of older m early in (at.0, inr at.1))
  | inr here ↦ (p.synced, inl (omega (arith, here, within), synced_image p))
]

-- at each moment a crash leaves something
pub some_left : (t : OnDisk) (m : ℕ) → m ≤ moment t → (c : List ℕ) × IsLeft t m c
some_left t m within = left_of (t.now ∷ t.past) m (omega (arith, within))

-- no call is a run, and two runs are one
pub no_run : (t : OnDisk) → IsRun t t
no_run t = record { later = omega arith; before = λ m c was left. left; stays = λ m c was left. left }

pub run_follows : (t u v : OnDisk) → IsRun t u → IsRun u v → IsRun t v
run_follows t u v first second = record {
  later = omega (arith, first.later, second.later);
  before = λ m c was left. first.before m c was (second.before m c (omega (arith, was, first.later)) left);
  stays = λ m c was left. second.stays m c (omega (arith, was, first.later)) (first.stays m c was left);
}

-- a call that takes a moment is a run
pub call_run : (t : OnDisk) (content : List ℕ) (now : Pending) → IsRun t (moved content now t)
call_run t content now = record { later = omega arith; before = before; stays = λ m c was left. inr left }
  where
    before : (m : ℕ) (c : List ℕ) → m ≤ moment t → IsLeft (moved content now t) m c → IsLeft t m c
    before m c was (inl newest) = absurd (omega (arith, newest.0))
    before m c was (inr older) = older

pub sync_failed_run : (t u : OnDisk) → IsSyncFailed t u → IsRun t u
sync_failed_run t u (inl same) = subst (λ (d : OnDisk). IsRun t d) (sym same) (no_run t)
sync_failed_run t u (inr late) = subst (λ (d : OnDisk). IsRun t d) (sym late) (call_run t t.content t.now)

-- a run of which something is said is a run
pub run_of : {t u : OnDisk} {P : List ℕ → Type 0} → LeavesOnly t u P → IsRun t u
run_of only = record { later = only.later; before = only.before; stays = only.stays }

-- a moment is the same one, or a later one
same_moment : (u : OnDisk) (P : List ℕ → Type 0) (m next : ℕ) → m ≡ next → LeavesAt u m P → LeavesAt u next P
same_moment u P m next same leaves = subst (λ (n : ℕ). LeavesAt u n P) same leaves

pub none_still : (t : OnDisk) (P : List ℕ → Type 0) → StillLeaves t t P
none_still t P m next since on within leaves = same_moment t P m next (omega arith) leaves

pub runs_still : (t u v : OnDisk) (P : List ℕ → Type 0) → IsRun t u → IsRun u v → StillLeaves t u P → StillLeaves u v P →
    StillLeaves t v P
runs_still t u v P first second in_first in_second m next since on within leaves = elim (cases_lt next (moment u)) [
  | inl early ↦ (λ c left. in_first m next since on (omega (arith, early)) (back m (omega (arith, on, early)) leaves) c
      (second.before next c (omega (arith, early)) left))
  | inr late ↦ elim (cases_lt m (moment u)) [
    | inl between ↦ in_second (moment u) next (omega arith) late within (λ c left. in_first m (moment u) since
        (omega (arith, between)) (omega arith) (back m (omega (arith, between)) leaves) c
        (second.before (moment u) c (omega arith) left))
    | inr behind ↦ in_second m next behind on within leaves
  ]
]
  where
    back : (m : ℕ) → m ≤ moment u → LeavesAt v m P → LeavesAt u m P
    back m was leaves c left = leaves c (second.stays m c was left)

-- one moment more
pub call_still : (t : OnDisk) (content : List ℕ) (now : Pending) (P : List ℕ → Type 0) →
    (((c : List ℕ) → IsImage t.now c → P c) → (c : List ℕ) → IsImage now c → P c) → StillLeaves t (moved content now t) P
call_still t content now P goes_on m next since on within leaves = elim (cases_lt m next) [
  | inl before ↦ (λ c left. goes_on (λ d image. leaves d (inr (inl (omega (arith, since, before, within), image)))) c
      (newest c (subst (λ (n : ℕ). IsLeft (moved content now t) n c) (last before) left)))
  | inr same ↦ same_moment (moved content now t) P m next (omega (arith, on, same)) leaves
]
  where
    last : m < next → next ≡ moment (moved content now t)
    last before = omega (arith, since, before, within)

    newest : (c : List ℕ) → IsLeft (moved content now t) (moment (moved content now t)) c → IsImage now c
    newest c left = left_now (moved content now t) c left

pub sync_still : (t : OnDisk) (P : List ℕ → Type 0) → IsImage t.now t.content → StillLeaves t (synced t) P
sync_still t P reads = call_still t t.content (settled t.content) P (λ leaves c image. subst P (sym (settled_image t.content c image))
    (leaves t.content reads))

-- a sync that failed
pub sync_failed_still : (t u : OnDisk) (P : List ℕ → Type 0) → IsSyncFailed t u → StillLeaves t u P
sync_failed_still t u P (inl same) = subst (λ (d : OnDisk). StillLeaves t d P) (sym same) (none_still t P)
sync_failed_still t u P (inr late) = subst (λ (d : OnDisk). StillLeaves t d P) (sym late)
    (call_still t t.content t.now P (λ leaves. leaves))

-- Of a run in which each crash leaves Q, and at each moment before its last may leave W: where P of something with W gives P
-- of all that has Q, P stays.
pub still_by : (t u : OnDisk) (P Q W : List ℕ → Type 0) → LeavesOnly t u Q → MayLeave t u W →
    ((c d : List ℕ) → W c → P c → Q d → P d) → StillLeaves t u P
still_by t u P Q W only seen gives m next since on within leaves = elim (cases_lt m next) [
  | inl before ↦ (
      let at = seen m since (omega (arith, before, within)) in
      λ c left. gives at.0 c at.2 (leaves at.0 at.1) (only.each next c (omega (arith, since, on)) left))
  | inr same ↦ same_moment u P m next (omega (arith, on, same)) leaves
]

-- what each crash leaves some crash may leave
pub seen_of : (t u : OnDisk) (P : List ℕ → Type 0) → LeavesOnly t u P → MayLeave t u P
seen_of t u P only m since before =
    let at = some_left u m (omega (arith, before)) in
    (at.0, at.1, only.each m at.0 since at.1)

-- no moment before the last
pub seen_none : (t : OnDisk) (W : List ℕ → Type 0) → MayLeave t t W
seen_none t W m since before = absurd (omega (arith, since, before))

-- a moment more, where what was synced last has W
pub seen_more : (t u : OnDisk) (content : List ℕ) (now : Pending) (W : List ℕ → Type 0) → MayLeave t u W → W u.now.synced →
    MayLeave t (moved content now u) W
seen_more t u content now W seen has m since before = elim (cases_lt m (moment u)) [
  | inl early ↦ (let at = seen m since early in (at.0, inr at.1, at.2))
  | inr last ↦ (u.now.synced, inr (inl (omega (arith, last, before), synced_image u.now)), has)
]

pub seen_write : (t u v : OnDisk) (W : List ℕ → Type 0) (at : ℕ) (bytes : List ℕ) → MayLeave t u W → W u.now.synced →
    v ≡ written at bytes u → MayLeave t v W
seen_write t u v W at bytes seen has ok = subst (λ (d : OnDisk). MayLeave t d W) (sym ok)
    (seen_more t u (pasted at bytes u.content) (wider at (length bytes) u.now) W seen has)

pub seen_sync : (t u v : OnDisk) (W : List ℕ → Type 0) → MayLeave t u W → W u.now.synced → v ≡ synced u → MayLeave t v W
seen_sync t u v W seen has ok = subst (λ (d : OnDisk). MayLeave t d W) (sym ok)
    (seen_more t u u.content (settled u.content) W seen has)

pub seen_write_failed : (t u v : OnDisk) (W : List ℕ → Type 0) (at n : ℕ) → MayLeave t u W → W u.now.synced →
    IsWriteFailed at n u v → MayLeave t v W
seen_write_failed t u v W at n seen has (inl same) = subst (λ (d : OnDisk). MayLeave t d W) (sym same) seen
seen_write_failed t u v W at n seen has (inr torn) = subst (λ (d : OnDisk). MayLeave t d W) (sym torn.2)
    (seen_more t u torn.0 (wider at n u.now) W seen has)

pub seen_sync_failed : (t u v : OnDisk) (W : List ℕ → Type 0) → MayLeave t u W → W u.now.synced → IsSyncFailed u v →
    MayLeave t v W
seen_sync_failed t u v W seen has (inl same) = subst (λ (d : OnDisk). MayLeave t d W) (sym same) seen
seen_sync_failed t u v W seen has (inr late) = subst (λ (d : OnDisk). MayLeave t d W) (sym late)
    (seen_more t u u.content u.now W seen has)

-- one run after another
pub seen_follows : (t u v : OnDisk) (W V : List ℕ → Type 0) → IsRun u v → MayLeave t u W → MayLeave u v V →
    ((c : List ℕ) → W c → V c) → MayLeave t v V
seen_follows t u v W V run first second gives m since before = elim (cases_lt m (moment u)) [
  | inl early ↦ (
      let at = first m since early in
      (at.0, run.stays m at.0 (omega (arith, early)) at.1, gives at.0 at.2))
  | inr late ↦ second m late before
]

-- less is said of what may be left
pub seen_weaker : (t u : OnDisk) (W V : List ℕ → Type 0) → MayLeave t u W → ((c : List ℕ) → W c → V c) → MayLeave t u V
seen_weaker t u W V seen gives m since before = let at = seen m since before in (at.0, at.1, gives at.0 at.2)
