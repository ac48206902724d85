-- What is loaded of what is read.
use Rattle.std.proofs.Common.{ℕ, List}
use Rattle.shop_core.specs.History.{History}
use Rattle.shop_core.specs.File.Reading.{IsRead}
use Rattle.shop_core.specs.File.Reading.IsRead.{not_begun, stands}
use Rattle.shop_core.specs.declared.file.reading.FileRead.TheVariants as read
use Rattle.chain_store.specs.Loading.{IsLoaded}
use Rattle.chain_store.specs.declared.loading.Loaded.TheVariants.{NotBegun, Begun}

pub loaded_none : (file : List ℕ) → IsRead file read.NotBegun → IsLoaded file NotBegun
loaded_none file (not_begun none) = none

pub loaded_sound : (file : List ℕ) (history : History) (end : ℕ) → IsRead file (read.Sound history end) →
    IsLoaded file (Begun history end)
loaded_sound file history end (stands _ _ is place) = (is, place)
