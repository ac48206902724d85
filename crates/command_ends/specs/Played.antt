-- A file's commands, from the opening of the file to the last of them.
use Rattle.std.specs.Prelude.{◌⊎◌, ℕ, List, [], IsTrue, Option}
use Rattle.record_fields.specs.declared.versions.Version.{Version}
use Rattle.chain_disk.specs.OnDisk.{synced}
use Rattle.chain_disk.specs.Disks.{Disks}
use Rattle.huella.specs.Linked.{Linked}
use Rattle.record_codec.specs.declared.entry.Entry.{Entry}
use Rattle.shop_core.specs.Answer.Requests.{Asked}
use Rattle.shop_core.specs.History.{recs}
use Rattle.shop_core.specs.Legal.{Legal}
use Rattle.shop_core.specs.Rising.{SerialsRise}
use Rattle.shop_core.specs.Answer.Replies.{ChainRun}
use Rattle.recovery.specs.Opening.{IsFound}
use Rattle.shop_core.specs.Prefix.{IsPrefix}
use Rattle.chain_store.specs.Crashes.{FailsIn, IsCutOff, KeptByRun}
use Rattle.shop_drain.specs.Crashes.{StandsSince}
use Rattle.chain_store.specs.Readings.{IsComing}
use Rattle.chain_store.specs.Replies.{AllGoOn, Replies, StopsOnce}

-- The file was opened, and the commands were run from the history that it stood for to one that begins with it. The run is a
-- chain run, and its end a legal history. Each crash since opening began leaves a front of it, or of it and the one entry that
-- was cut off.
pub record Played {D : Type 0} (issuer : List ℕ) (asks : List Asked) (coming : ℕ → Option ℕ) (Leaves : Replies → Type 0)
    (k : Disks D) : Type 0 where
  pub version : Version
  pub start : List Entry
  pub replies : Replies
  pub end : List Entry
  pub found : IsTrue k.tells → IsFound version issuer start (k.on_disk k.disk).content
  --= The commands of a script are a chain run: each reply is the one that the definition of the answer gives at the
  --= history before it and at the clock's coming answer of its number.
  --= No body: it is of `Store::take`: `chain_store/Took.takes`
  pub run : ChainRun version issuer (IsComing coming) start asks replies end
  --= The history after a script's commands begins with the one that the file stood for.
  --= No body: it is of `Store::take`: `chain_store/Took.takes`
  pub begins : IsPrefix start end
  pub legal : Legal version issuer end
  --= After a script's commands the history is a linked chain of the issuer.
  --= No body: it is of `Store::take`: `chain_store/Took.takes`
  pub linked : Linked issuer (recs end)
  --= After a script's commands the serials of each till rise strictly.
  --= No body: it is of `shop_core/plan.answer`
  pub rising : (till : ℕ) → SerialsRise end till
  --= The first fault of the disk is told as such, by a call in which its count rose; each reply after it says that
  --= the journal stopped, with the count then, or is out of memory.
  --= No body: it is of `journal/append.stops`
  pub stops : StopsOnce (k.faults k.disk) (k.faults k.disk_after) replies
  --= Where the disk tells what it holds, it held the whole history right before the call that failed.
  --= No body: it is of `Store::take`
  pub fails : AllGoOn replies ⊎ FailsIn k version issuer end
  --= Each crash since the sync at the opening leaves a front of the history, no shorter than at the start, or of it
  --= and the one entry that was cut off; after the run the whole.
  --= No body: it is of `Store::take`, over `journal/append.any_moment`
  pub kept : IsTrue k.tells →
      KeptByRun (StandsSince (k.on_disk k.disk).content version issuer start end)
      (IsCutOff version issuer (IsComing coming) asks end replies) version issuer end replies
      (synced (k.on_disk k.disk)) (k.on_disk k.disk_after)
  --= The clock that is handed back has moved on by one answer for each reply but those of a stopped journal, or is
  --= the one that was handed in.
  --= No body: it is of `Store::take`: `chain_store/Took.takes`
  pub clock : Leaves replies
