-- What a till sees between its asks.
use Rattle.std.specs.Prelude.{◌≡◌, ◌≤◌, ℕ, List, length, Result, Some, IfOk}
use Rattle.chain_lock.specs.Known.{Known}
use Rattle.chain_lock.specs.Lists.{StartsWith}
use Rattle.ports.specs.declared.faults.NoMemory.{NoMemory as NoRoom}
use Rattle.record_codec.specs.declared.entry.Entry.{Entry}
use Rattle.record_fields.specs.declared.versions.Version.{Version}
use Rattle.shop_core.specs.Items.{entries_of}
use Rattle.shop_core.specs.declared.items.Item.{Item}
use Rattle.till_calls.specs.Root.{Root}
use Rattle.till_calls.specs.Turns.{IsShopList}

-- the till has seen and knows of as many items or more; all else is as it was, its own items too
pub record SeesOn {R : Type 0} (old new : Known Item R) : Type 0 where
  pub begins : StartsWith new.seen old.seen
  pub at_least : old.least ≤ new.least
  pub same : new ≡ record old { seen = new.seen; least = new.least }

-- One question of a till. The till sees on, to a list of as many items as it knew of or more, and knows of no item after it. The
-- answer is that at the history of this list.
pub record Looks {C L : Type 0} (learns : Version → List ℕ → List Entry → L → Type 0) (learnt : Result L NoRoom)
    (old new : Known Item (Root C)) : Type 0 where
  pub sees : SeesOn old new
  pub all : new.least ≡ length new.seen
  pub home : Root C
  pub root : old.root ≡ Some home
  pub list : IsShopList home new.seen
  pub answer : IfOk learnt (learns home.version home.issuer (entries_of new.seen))
