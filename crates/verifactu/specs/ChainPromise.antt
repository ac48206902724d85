-- The promise's part on the chain: a file goes on as one legal history, whatever crashes come, and is append-only.
use Rattle.std.specs.Prelude.{◌≡◌, ◌⊎◌, ◌≤◌, ℕ, List, [], ◌++◌, length}
use Rattle.chain_disk.specs.Disks.{DiskRose, Disks}
use Rattle.chain_disk.specs.OnDisk.{IsLeft, IsSettled, IsSyncFailed, LeavesNow, LeavesOnly, OnDisk, moment, synced}
use Rattle.record_fields.specs.declared.versions.Version.{Version}
use Rattle.chain_store.specs.Losing.{NeverLoses}
use Rattle.huella.specs.Linked.{Linked}
use Rattle.record_codec.specs.declared.entry.Entry.{Entry}
use Rattle.journal.specs.File.{closing_gate}
use Rattle.journal.specs.Written.{KeepsFront}
use Rattle.shop_core.specs.File.Files.{StandsFor, bodies_of}
use Rattle.shop_core.specs.History.{recs}
use Rattle.shop_core.specs.Legal.{Legal}
use Rattle.shop_core.specs.Prefix.{IsPrefix}
use Rattle.recovery.specs.Opening.{IsFound}
use Rattle.shop_drain.specs.Crashes.{StandsSince}

-- the file stands for the history at the end, or for that with the torn entry; one that isn't begun stands for the empty one, in
-- version Two
abbrev pub IsEither : Version → List ℕ → List Entry → List Entry → List ℕ → Type 0
IsEither version issuer end torn file = IsFound version issuer end file ⊎ IsFound version issuer (end ++ torn) file

-- What a crash may leave. Nothing was written, and what was pending at the start still is; or the disk was synced at the start,
-- and since then each crash leaves a file with Since, and now one with Now.
pub data Crashes (Since Now : List ℕ → Type 0) (old new : OnDisk) : Type 0 where
  unwritten : IsSyncFailed old new → Crashes Since Now old new
  since_sync : LeavesOnly (synced old) new Since → LeavesNow new Now → Crashes Since Now old new

-- Where the file at the start stands for this history, another one begins with all its bytes before its closing gate: byte 0, the
-- header and the frames. The gate itself, which an append makes 1, and what stands after it are not among them.
abbrev pub IsAppendedTo : Version → List ℕ → List Entry → List ℕ → List ℕ → Type 0
IsAppendedTo version issuer start held file = StandsFor version issuer start held →
    KeepsFront (closing_gate (bodies_of version start)) held file

-- The file is append-only: so is the file at the end, and each that a crash leaves, at every moment, where nothing was pending at the
-- start, and otherwise since the first sync.
pub record AppendsOnly (version : Version) (issuer : List ℕ) (start : List Entry) (old new : OnDisk) : Type 0 where
  pub file : IsAppendedTo version issuer start old.content new.content
  pub each_crash : IsSettled old → (m : ℕ) (c : List ℕ) → moment old ≤ m → IsLeft new m c →
      IsAppendedTo version issuer start old.content c
  pub crashes : Crashes (IsAppendedTo version issuer start old.content) (IsAppendedTo version issuer start old.content) old new

-- The chain. The history at the end is legal, so that each record names the Huella of the one before it, and begins with the
-- one at the start. The file stands for it, or for it with the one entry whose writing was under way when the disk failed. Each
-- crash in the run leaves a front of that, no shorter than the history at the start: at every moment, where nothing was pending
-- at the start, and otherwise since the first sync. Once the disk was synced each crash from now on leaves the whole history. The
-- file is append-only, and what was made sure of at any moment of the run stays.
pub record ChainGoesOn {D : Type 0} (version : Version) (issuer : List ℕ) (start end torn : List Entry) (k : Disks D) : Type 0 where
  --= The chain that the file stood for is the beginning of the chain that it stands for afterwards.
  --= No body: an entry is added by `Journal::append` alone: `journal/append.appended`
  pub begins : IsPrefix start end
  --= The chain is legal: each entry continues those before it, by the rules of its version.
  --= No body: a record is made by `shop_core/plan.answer` alone
  pub legal : Legal version issuer end
  --= Each record names the record before it by number, date and Huella.
  --= No body: the link is made by `shop_core/plan.answer` and sealed by `huella/seal`
  pub linked : Linked issuer (recs end)
  pub at_most_one : length torn ≤ 1
  --= Only where the disk failed during a write may one entry more stand at the end.
  --= No body: it is of `journal/append.stops`
  pub by_a_fault : (torn ≡ []) ⊎ DiskRose k
  --= The file stands for the chain at the end, or for that with the one entry whose writing was under way.
  --= No body: it is of `journal/append.any_moment` and of `chain_store/open_journal.any_moment`
  pub file : IsEither version issuer end torn (k.on_disk k.disk_after).content
  --= Where nothing was pending at the start, a crash at any moment of the run leaves a front of that chain, no shorter
  --= than what the run found.
  pub each_crash : IsSettled (k.on_disk k.disk) → (m : ℕ) (c : List ℕ) → moment (k.on_disk k.disk) ≤ m →
      IsLeft (k.on_disk k.disk_after) m c → StandsSince (k.on_disk k.disk).content version issuer start end torn c
  --= From the first sync on a crash leaves such a front, and once the run is over the whole chain.
  --= No body: it is of `journal/append.any_moment` and of `chain_store/open_journal.any_moment`
  pub crashes : Crashes (StandsSince (k.on_disk k.disk).content version issuer start end torn) (IsEither version issuer end torn)
      (k.on_disk k.disk) (k.on_disk k.disk_after)
  --= The file is append-only: the bytes before the closing gate that it had at the start are the first bytes of the
  --= file at the end, and of each that a crash leaves.
  pub append_only : AppendsOnly version issuer start (k.on_disk k.disk) (k.on_disk k.disk_after)
  --= What was made sure of at any moment of the run stays: where all files that a crash may leave at one moment stand for histories
  --= that begin with one, and hold the same bytes before its closing gate, all that a crash may leave at a later moment do too.
  pub never_loses : NeverLoses (k.on_disk k.disk) (k.on_disk k.disk_after)

-- What a run left is found again: the history that the next run finds begins with the one at the end, whether the torn entry
-- lasted or not, and is of its version. Both the file and each file that a crash leaves from now on are such.
--= The next run finds a chain that begins with the one that this run left, with a crash between them or not.
--= No body: a law over definitions, which has no body
abbrev pub IsFoundAgain : Type 0
IsFoundAgain = (version another : Version) (issuer : List ℕ) (end torn next : List Entry) (file : List ℕ) →
    IsEither version issuer end torn file → IsFound another issuer next file → (another ≡ version) × IsPrefix end next
