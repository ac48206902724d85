-- What a run of asks leaves of the store that replies to them.
use Rattle.std.specs.Prelude.{◌⊎◌, ℕ, List, Bool, IsTrue, Option}
use Rattle.chain_disk.specs.Disks.{Disks, this_disk}
use Rattle.chain_disk.specs.OnDisk.{OnDisk}
use Rattle.chain_disk.specs.declared.disk.Disk.{Ghosts}
use Rattle.huella.specs.Linked.{Linked}
use Rattle.journal.specs.Journal.{disk_of}
use Rattle.record_codec.specs.declared.entry.Entry.{Entry}
use Rattle.record_fields.specs.declared.versions.Version.{Version}
use Rattle.shop_core.specs.Answer.Requests.{Asked}
use Rattle.shop_core.specs.History.{recs}
use Rattle.shop_core.specs.Legal.{Legal}
use Rattle.shop_core.specs.Rising.{SerialsRise}
use Rattle.shop_core.specs.Answer.Replies.{ChainRun}
use Rattle.chain_store.specs.Store.{state_of, journal_of, clock_of}
use Rattle.chain_store.specs.declared.store.Store.{Store}
use Rattle.shop_core.specs.Prefix.{IsPrefix}
use Rattle.chain_store.specs.Crashes.{FailsIn, IsCutOff, KeptByRun, StandsUpTo}
use Rattle.chain_store.specs.Clocks.{Clocks, this_clock}
use Rattle.chain_store.specs.Losing.{NeverLoses}
use Rattle.chain_store.specs.Readings.{IsComing, IsAsked, readings}
use Rattle.chain_store.specs.Replies.{AllGoOn, Replies, StopsOnce}

-- a store's history and disk before the run and after it, and its clock
pub record Stores (D C : Type 0) : Type 0 where
  pub issuer : List ℕ
  pub version : Version
  pub start : List Entry
  pub end : List Entry
  pub tells : Bool
  pub since : OnDisk
  pub now : OnDisk
  pub faults : ℕ
  pub faults_after : ℕ
  pub disk : Disks D
  pub clock : Clocks C

-- this store in this call: of its kind, before and after
abbrev pub this_store : {D C : Type 0} {g : Ghosts D} → Bool → (D → OnDisk) → (D → ℕ) → (C → ℕ → Option ℕ) →
    Store D C g → Store D C g → Stores D C
this_store tells on_disk faults coming old new = record {
  issuer = (state_of old).issuer;
  version = (state_of old).version;
  start = (state_of old).entries;
  end = (state_of new).entries;
  tells = tells;
  since = on_disk (disk_of (journal_of old));
  now = on_disk (disk_of (journal_of new));
  faults = faults (disk_of (journal_of old));
  faults_after = faults (disk_of (journal_of new));
  disk = this_disk tells on_disk faults (disk_of (journal_of old)) (disk_of (journal_of new));
  clock = this_clock coming (clock_of old) (clock_of new);
}

-- these asks got these replies from it
pub record Answers {D C : Type 0} (asks : List Asked) (replies : Replies) (s : Stores D C) : Type 0 where
  pub run : ChainRun s.version s.issuer (IsComing (s.clock.coming s.clock.clock)) s.start asks replies s.end
  pub begins : IsPrefix s.start s.end
  pub legal : Legal s.version s.issuer s.end
  pub linked : Linked s.issuer (recs s.end)
  pub rising : (till : ℕ) → SerialsRise s.end till
  pub stops : StopsOnce s.faults s.faults_after replies
  -- the first fault of the disk was told by a call in which its count of faults rose
  pub fails : AllGoOn replies ⊎ FailsIn s.disk s.version s.issuer s.end
  pub kept : IsTrue s.tells →
      KeptByRun (StandsUpTo s.version s.issuer s.start s.end)
      (IsCutOff s.version s.issuer (IsComing (s.clock.coming s.clock.clock)) asks s.end replies) s.version s.issuer s.end
      replies s.since s.now
  -- what was made sure of at any moment of the run stays
  pub never_loses : IsTrue s.tells → NeverLoses s.since s.now
  pub asked : IsAsked s.clock (readings replies)
