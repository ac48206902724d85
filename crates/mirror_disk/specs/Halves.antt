-- What crashes leave of the halves of a mirror, beside what they leave of the mirror.
use Rattle.std.specs.Prelude.{◌≡◌, ◌≤◌, ◌+◌, ◌-◌, ℕ, Bool, IsTrue, List}
use Rattle.chain_disk.specs.Memory.{fresh}
use Rattle.chain_disk.specs.OnDisk.{OnDisk, IsImage, IsLeft, IsLeftSince, IsSettled, moment}
use Rattle.mirror_disk.specs.Mirror.{Mirrored, since, told_by}
use Rattle.mirror_disk.specs.declared.standing.Standing.{Standing}
use Rattle.mirror_disk.specs.declared.standing.Standing.TheVariants.{Whole}

-- a crash at this moment or at the one before may leave these bytes
abbrev pub IsLeftAround : OnDisk → ℕ → List ℕ → Type 0
IsLeftAround t m c = (k : ℕ) × (k ≤ m) × (m ≤ k + 1) × IsLeft t k c

-- a crash now or at the moment before may leave these bytes
abbrev pub IsLeftLately : OnDisk → List ℕ → Type 0
IsLeftLately t c = (k : ℕ) × (moment t ≤ k + 1) × IsLeft t k c

-- both read the same, and the same is pending
pub record IsSame (half mirror : OnDisk) : Type 0 where
  pub content : half.content ≡ mirror.content
  pub now : half.now ≡ mirror.now

-- Of one of the halves, as it was when the mirror was made and as it is, and of what the mirror tells. The mirror's moments are
-- counted from when it was made.
pub record IsHalf (made half mirror : OnDisk) : Type 0 where
  -- what a crash at a moment since then may leave of the half, a crash at some moment since then may leave of the mirror
  --= What a crash since it was made may leave of either half, a crash may leave of the mirror.
  --= No body: a law of the type, `each_half_is_an_image`, which has no body
  pub images : (c : List ℕ) → IsLeftSince made half c → IsLeftSince (fresh made.content) mirror c
  -- the same moment or the one before
  --= What a crash at a moment may leave of a half, one at that moment or the one before may leave of the mirror.
  --= No body: a law of the type, which has no body
  pub moments : (m : ℕ) (c : List ℕ) → moment made ≤ m → IsLeft half m c → IsLeftAround mirror (m - moment made) c
  -- a crash now: now or the moment before
  pub lately : (c : List ℕ) → IsImage half.now c → IsLeftLately mirror c
  -- where nothing is pending on the mirror, nothing is on the half, which holds the same
  --= Where nothing is pending on the mirror, nothing is on either half, and both hold what it reads.
  --= No body: a law of the type, which has no body
  pub settled : IsSettled mirror → IsSame half mirror

-- what crashes leave of a half, by its moments since the mirror was made
pub record IsWithin (half mirror : OnDisk) : Type 0 where
  pub moments : (m : ℕ) (c : List ℕ) → IsLeft half m c → IsLeftAround mirror m c
  pub lately : (c : List ℕ) → IsImage half.now c → IsLeftLately mirror c
  pub settled : IsSettled mirror → IsSame half mirror

-- two halves, by their moments since the mirror was made: while it is whole they are the same
pub record AreHalves (standing : Standing) (first second : OnDisk) : Type 0 where
  pub whole : standing ≡ Whole → first ≡ second
  pub content : (told_by standing first second).content ≡ first.content
  pub first_within : IsWithin first (told_by standing first second)
  pub second_within : IsWithin second (told_by standing first second)

-- two halves that tell
pub record IsTold (standing : Standing) (first_made first second_made second : OnDisk) : Type 0 where
  pub first_later : moment first_made ≤ moment first
  pub second_later : moment second_made ≤ moment second
  pub halves : AreHalves standing (since first_made first) (since second_made second)

-- both halves tell or neither does
pub record IsMirror {D M : Type 0} (tells : Bool) (on_disk : D → OnDisk) (others_tell : Bool) (others_on_disk : M → OnDisk)
    (m : Mirrored D M) : Type 0 where
  pub alike : tells ≡ others_tell
  pub told : IsTrue tells →
      IsTold m.standing (on_disk m.first_made) (on_disk m.first) (others_on_disk m.second_made) (others_on_disk m.second)
