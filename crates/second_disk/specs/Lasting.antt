-- What crashes leave of a half of a mirror, by what they leave of the mirror.
use Rattle.std.specs.Prelude.{◌≤◌, ◌+◌, ℕ, List}
use Rattle.chain_disk.specs.OnDisk.{OnDisk, IsLeftSince, IsSettled, LeavesNow, LeavesOnly, moment}
use Rattle.chain_store.specs.Crashes.{StandsBetween}
use Rattle.record_codec.specs.declared.entry.Entry.{Entry}
use Rattle.record_fields.specs.declared.versions.Version.{Version}
use Rattle.shop_core.specs.File.Files.{StandsFor}

-- Of what the mirror told when it was made, of a half as it was then and as it is, and of what the mirror tells: what each crash leaves of
-- the half stands for such a history too.
pub record GoesOnAs (start made half mirror : OnDisk) : Type 0 where
  -- each crash since the mirror was made
  pub any_moment : (version : Version) (issuer : List ℕ) (held end : List Entry) →
      LeavesOnly start mirror (StandsBetween version issuer held end) →
      (c : List ℕ) → IsLeftSince made half c → StandsBetween version issuer held end c
  -- a crash now, where each since an earlier moment of the mirror leaves that of it
  pub lately : (old : OnDisk) (version : Version) (issuer : List ℕ) (held end : List Entry) → moment old + 1 ≤ moment mirror →
      LeavesOnly old mirror (StandsBetween version issuer held end) → LeavesNow half (StandsBetween version issuer held end)
  -- a crash now, where nothing is pending on the mirror, as after each answer
  pub acknowledged : (version : Version) (issuer : List ℕ) (entries : List Entry) → IsSettled mirror →
      StandsFor version issuer entries mirror.content → LeavesNow half (StandsFor version issuer entries)
