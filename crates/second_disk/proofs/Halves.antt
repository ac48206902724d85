-- What crashes leave of a half of a mirror.
use Rattle.std.proofs.Common.{◌≡◌}
use Rattle.chain_disk.specs.OnDisk.{OnDisk, moment}
use Rattle.chain_store.specs.Crashes.{StandsBetween}
use Rattle.mirror_disk.specs.Halves.{IsHalf}
use Rattle.mirror_disk.specs.Survivors.{leaves_now, leaves_since, settled_leaves}
use Rattle.shop_core.specs.File.Files.{StandsFor}
use Rattle.second_disk.specs.Lasting.{GoesOnAs}

pub goes_on_as : (start made half mirror : OnDisk) → IsHalf made half mirror → moment start ≡ 0 → GoesOnAs start made half mirror
goes_on_as start made half mirror is new = record {
  any_moment = λ version issuer held end only c left.
      leaves_since made half start mirror (StandsBetween version issuer held end) is new only c left;
  lately = λ old version issuer held end before only.
      leaves_now made half old mirror (StandsBetween version issuer held end) is before only;
  acknowledged = λ version issuer entries quiet here.
      settled_leaves made half mirror (StandsFor version issuer entries) is quiet here;
}
