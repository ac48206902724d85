-- A mirror, as it reads, is one of its images.
use Rattle.std.specs.Prelude.{◌≡◌, ◌≤◌, ◌-◌, ◌^◌, Bool, true, false, IsTrue, refl}
use Rattle.std.proofs.Common.{arith, sym}
use Rattle.chain_disk.specs.OnDisk.{OnDisk, IsImage}
use Rattle.mirror_disk.specs.Mirror.{Mirrored, both_tell, faults_of, told, told_by, told_first, told_second}
use Rattle.mirror_disk.specs.declared.standing.Standing.{Standing}
use Rattle.mirror_disk.specs.declared.standing.Standing.TheVariants.{Whole, Broken, HalfSynced}

pub first_tells : (a b : Bool) → IsTrue (both_tell a b) → IsTrue a
first_tells true b both = refl
first_tells false b both = both

pub second_tells : (a b : Bool) → IsTrue (both_tell a b) → IsTrue b
second_tells true b both = both
second_tells false b both = let e : false ≡ true = both in cc

pub tell_alike : (a b : Bool) → a ≡ b → IsTrue a → IsTrue (both_tell a b)
tell_alike true b same one = sym same
tell_alike false b same one = one

reads_by : (standing : Standing) (first second : OnDisk) → IsImage first.now first.content → IsImage second.now second.content →
    IsImage (told_by standing first second).now (told_by standing first second).content
reads_by Whole first second a b = a
reads_by Broken first second a b = a
reads_by HalfSynced first second a b = b

pub reads : {D M : Type 0} (tells : Bool) (on_disk : D → OnDisk) (others_tell : Bool) (others_on_disk : M → OnDisk) →
    ((disk : D) → IsTrue tells → IsImage (on_disk disk).now (on_disk disk).content) →
    ((disk : M) → IsTrue others_tell → IsImage (others_on_disk disk).now (others_on_disk disk).content) → (m : Mirrored D M) →
    IsTrue (both_tell tells others_tell) → IsImage (told on_disk others_on_disk m).now (told on_disk others_on_disk m).content
reads tells on_disk others_tell others_on_disk first second m both = reads_by m.standing (told_first on_disk m)
    (told_second others_on_disk m) (first m.first (first_tells tells others_tell both))
    (second m.second (second_tells tells others_tell both))

pub few : {D M : Type 0} → (m : Mirrored D M) → faults_of m ≤ 2 ^ 64 - 1
few m = omega arith
