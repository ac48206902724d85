-- Following: a standby that is told pieces of a history stays a front of it, and so does each file that a crash may leave.
use Rattle.std.specs.Prelude.{◌≡◌, ℕ, List, Bool, IsTrue, IsSome}
use Rattle.chain_disk.specs.OnDisk.{OnDisk, LeavesNow, LeavesOnly}
use Rattle.chain_store.specs.Crashes.{StandsBetween}
use Rattle.chain_store.specs.Losing.{NeverLoses}
use Rattle.record_fields.specs.declared.versions.Version.{Version}
use Rattle.shop_core.specs.Prefix.{IsPrefix}
use Rattle.record_codec.specs.declared.entry.Entry.{Entry}
use Rattle.shop_core.specs.File.Files.{StandsFor}
use Rattle.shop_core.specs.Legal.{Legal}
use Rattle.standby.specs.Chains.{ChainOnDisk}
use Rattle.standby.specs.Pieces.{ArePiecesOf}
use Rattle.standby.specs.declared.pieces.Piece.{Piece}

-- the file stands for a front of this history
pub record StandsForFront (version : Version) (issuer : List ℕ) (entries : List Entry) (file : List ℕ) : Type 0 where
  pub history : List Entry
  pub stands : StandsFor version issuer history file
  pub within : IsPrefix history entries

-- The history is a front of that one, and begins with the one before. So does each file that a crash at a moment since leaves. What
-- was made sure of at any moment stays.
pub record IsFollowing {D : Type 0} (tells : Bool) (on_disk : D → OnDisk) (old new : ChainOnDisk D) (entries : List Entry) :
    Type 0 where
  pub issuer : new.history.issuer ≡ old.history.issuer
  pub version : new.history.version ≡ old.history.version
  pub within : IsPrefix new.history.entries entries
  pub begins : IsPrefix old.history.entries new.history.entries
  pub images : IsTrue tells → LeavesOnly (on_disk old.disk) (on_disk new.disk)
      (StandsBetween old.history.version old.history.issuer old.history.entries entries)
  pub never_loses : IsTrue tells → NeverLoses (on_disk old.disk) (on_disk new.disk)

-- Whatever legal history all these pieces are of, and the standby's is a front of: the standby follows it. Where it has
-- stopped, each file that a crash now leaves stands for a front of that history too; where it goes on, that is so anyway.
abbrev pub Follows : {D : Type 0} → Bool → (D → OnDisk) → ChainOnDisk D → ChainOnDisk D → List Piece → Type 0
Follows tells on_disk old new pieces = (entries : List Entry) → Legal old.history.version old.history.issuer entries →
    IsPrefix old.history.entries entries →
    (IsSome old.stopped → IsTrue tells → LeavesNow (on_disk old.disk) (StandsForFront old.history.version old.history.issuer entries)) →
    ArePiecesOf old.history.version old.history.issuer entries pieces → IsFollowing tells on_disk old new entries
