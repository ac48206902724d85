-- What contracts see of a mirror, and what it tells.
use Rattle.std.specs.Prelude.{◌-◌, ℕ, Bool, true, false, take, min}
use Rattle.ports.specs.Causes.{greatest_u64}
use Rattle.chain_disk.specs.OnDisk.{OnDisk, moment}
use Rattle.mirror_disk.specs.declared.standing.Standing.{Standing}
use Rattle.mirror_disk.specs.declared.standing.Standing.TheVariants.{Whole, Broken, HalfSynced}

-- its halves as they are and as they were when it was made, how it stands, and how often it has failed
pub record Mirrored (D M : Type 0) : Type 0 where
  pub first : D
  pub second : M
  pub first_made : D
  pub second_made : M
  pub standing : Standing
  pub faults : ℕ

-- what a disk tells of the moments since another, which came before: that one's is moment 0
abbrev pub since : OnDisk → OnDisk → OnDisk
since made t = record { content = t.content; now = t.now; past = take (moment t - moment made) t.past }

-- what a half tells of the moments since the mirror was made
abbrev pub told_first : {D M : Type 0} → (D → OnDisk) → Mirrored D M → OnDisk
told_first on_disk m = since (on_disk m.first_made) (on_disk m.first)

abbrev pub told_second : {D M : Type 0} → (M → OnDisk) → Mirrored D M → OnDisk
told_second on_disk m = since (on_disk m.second_made) (on_disk m.second)

-- what the first half tells; where it alone was synced, what the second half tells
abbrev pub told_by : Standing → OnDisk → OnDisk → OnDisk
told_by Whole first second = first
told_by Broken first second = first
told_by HalfSynced first second = second

-- what a mirror tells: moment 0 is the one at which it was made
abbrev pub told : {D M : Type 0} → (D → OnDisk) → (M → OnDisk) → Mirrored D M → OnDisk
told on_disk others_on_disk m = told_by m.standing (told_first on_disk m) (told_second others_on_disk m)

-- both halves tell
abbrev pub both_tell : Bool → Bool → Bool
both_tell true others = others
both_tell false others = false

-- its count of faults, which a u64 holds
abbrev pub faults_of : {D M : Type 0} → Mirrored D M → ℕ
faults_of m = min m.faults greatest_u64
