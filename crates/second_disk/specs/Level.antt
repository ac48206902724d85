-- What two files hold, and what bringing them level leaves of them.
use Rattle.std.specs.Prelude.{◌≡◌, ◌⊎◌, ◌<◌, ◌≤◌, ◌+◌, ◌++◌, ◌∷◌, [], ℕ, List, length, false}
use Rattle.chain_disk.specs.Disks.{Disks, DiskRose}
use Rattle.chain_disk.specs.OnDisk.{OnDisk, IsSettled, LeavesOnly, synced}
use Rattle.chain_store.specs.Crashes.{StandsBetween}
use Rattle.chain_store.specs.Opening.{IsDiskLost, IsOthers}
use Rattle.journal.specs.File.{IsNotBegun, closing_gate}
use Rattle.journal.specs.Tails.{HaveOneByte}
use Rattle.record_codec.specs.declared.entry.Entry.{Entry}
use Rattle.record_fields.specs.declared.versions.Version.{Version}
use Rattle.shop_core.specs.File.Files.{IsDamagedFile, StandsFor, bodies_of}
use Rattle.shop_core.specs.Prefix.{IsPrefix}
use Rattle.standby.specs.Catching.{IsFirstApart}
use Rattle.standby.specs.Starting.{IsOtherVersion}
use Rattle.second_disk.specs.declared.causes.Half.TheVariants.{First, Second}
use Rattle.second_disk.specs.declared.causes.LevelCause.{LevelCause}
use Rattle.second_disk.specs.declared.causes.LevelCause.TheVariants.{DiskFault, Damaged, OtherIssuer, OtherVersion, NotBegun, Differs, Ahead, OtherGate, NoMemory}

-- the file isn't begun, and then the history is empty; or it stands for this history
abbrev pub IsHeld : Version → List ℕ → List Entry → List ℕ → Type 0
IsHeld version issuer entries file = (IsNotBegun file × (entries ≡ [])) ⊎ StandsFor version issuer entries file

-- the file isn't begun, and then the first history is empty; or it stands for a history between these two
abbrev pub IsHeldBetween : Version → List ℕ → List Entry → List Entry → List ℕ → Type 0
IsHeldBetween version issuer start end file = (IsNotBegun file × (start ≡ [])) ⊎ StandsBetween version issuer start end file

-- A file that was found to hold the one history: from its first sync on each crash leaves it holding a history between that one
-- and the other.
pub record GoesUp (version : Version) (issuer : List ℕ) (start end : List Entry) (old new : OnDisk) : Type 0 where
  pub found : IsHeld version issuer start old.content
  pub any_moment : LeavesOnly (synced old) new (IsHeldBetween version issuer start end)

-- how far the first file goes: it stays, or takes over the one entry that only the other one has
abbrev pub FirstEnd : List Entry → List Entry → List Entry → Type 0
FirstEnd start other end = (end ≡ start) ⊎ ((entry : Entry) × (other ≡ start ++ entry ∷ []) × (end ≡ other))

-- how far the second file goes: it stays, or is a front of the other one and comes up to it
abbrev pub SecondEnd : List Entry → List Entry → List Entry → Type 0
SecondEnd start other end = (end ≡ start) ⊎ (IsPrefix start other × (end ≡ other))

-- Both hold one history now, with the same bytes and nothing pending. What isn't begun is begun in the other one's version, or in this
-- one where neither is begun; and the second one has no entry where the first isn't begun.
pub record IsLevel (created : Version) (issuer : List ℕ) (first second first_new second_new : OnDisk) : Type 0 where
  pub version : Version
  pub held : List Entry
  pub others : List Entry
  pub entries : List Entry
  pub first_end : FirstEnd held others entries
  pub second_end : SecondEnd others held entries
  pub first_goes : GoesUp version issuer held entries first first_new
  pub second_goes : GoesUp version issuer others entries second second_new
  pub not_begun : IsNotBegun first.content → others ≡ []
  pub both_not_begun : IsNotBegun first.content → IsNotBegun second.content → version ≡ created
  --= Two files of one chain that were brought level stand for it, the longer of the two.
  pub stands : StandsFor version issuer entries first_new.content
  --= Two files that were brought level hold the same bytes.
  --= No body: it is of `journal/make_tails_equal.equal`
  pub same : second_new.content ≡ first_new.content
  pub first_settled : IsSettled first_new
  pub second_settled : IsSettled second_new

-- What is left of one of two files that were not brought level, by how far it may go and by what the other one held.
pub data HalfLeft (issuer : List ℕ) (IsEnd : List Entry → List Entry → List Entry → Type 0) (other : List ℕ) (old new : OnDisk) :
    Type 0 where
  not_called : new ≡ old → HalfLeft issuer IsEnd other old new
  only_synced : new ≡ synced old → HalfLeft issuer IsEnd other old new
  lost : (created : Version) → IsDiskLost created issuer old new → HalfLeft issuer IsEnd other old new
  stayed : (version : Version) (entries : List Entry) → GoesUp version issuer entries entries old new →
      HalfLeft issuer IsEnd other old new
  went_up : (version : Version) (start others end : List Entry) → IsHeld version issuer others other → IsEnd start others end →
      GoesUp version issuer start end old new → HalfLeft issuer IsEnd other old new

-- the two files hold two histories of which this is so
pub record HoldBoth (issuer first second : List ℕ) (P : List Entry → List Entry → Type 0) : Type 0 where
  pub version : Version
  pub held : List Entry
  pub others : List Entry
  pub first_is : IsHeld version issuer held first
  pub second_is : IsHeld version issuer others second
  pub so : P held others

-- the first file stands for a chain of this issuer, and the second one for one of the issuer in this version, which is another
pub record AreOfTwoVersions (issuer : List ℕ) (held : Version) (first second : List ℕ) : Type 0 where
  pub version : Version
  pub entries : List Entry
  pub first_is : StandsFor version issuer entries first
  pub second_is : IsOtherVersion version held issuer second

-- both files stand for one history, with different bytes at its closing gate
pub record HaveOtherGates (issuer first second : List ℕ) : Type 0 where
  pub version : Version
  pub entries : List Entry
  pub first_is : StandsFor version issuer entries first
  pub second_is : StandsFor version issuer entries second
  pub gates : HaveOneByte first second (closing_gate (bodies_of version entries)) false

-- What the two files are, by the cause; of gates that differ, what they are by then.
abbrev pub IsReason : List ℕ → LevelCause → OnDisk → OnDisk → OnDisk → OnDisk → Type 0
IsReason issuer (DiskFault half) first second first_new second_new = Unit {0}
IsReason issuer (Damaged First at) first second first_new second_new = IsDamagedFile first.content at
IsReason issuer (Damaged Second at) first second first_new second_new = IsDamagedFile second.content at
IsReason issuer (OtherIssuer First held) first second first_new second_new = IsOthers issuer held first.content
IsReason issuer (OtherIssuer Second held) first second first_new second_new = IsOthers issuer held second.content
IsReason issuer (OtherVersion held) first second first_new second_new = AreOfTwoVersions issuer held first.content second.content
IsReason issuer NotBegun first second first_new second_new =
    HoldBoth issuer first.content second.content (λ held others. IsNotBegun first.content × (0 < length others))
IsReason issuer (Differs entry) first second first_new second_new =
    HoldBoth issuer first.content second.content (λ held others. IsFirstApart held others entry × (entry < length held))
IsReason issuer (Ahead entry) first second first_new second_new =
    HoldBoth issuer first.content second.content
    (λ held others. IsPrefix held others × (entry ≡ length held) × (entry + 2 ≤ length others))
IsReason issuer OtherGate first second first_new second_new = HaveOtherGates issuer first_new.content second_new.content
IsReason issuer NoMemory first second first_new second_new = Unit {0}

-- a refusal by what the files hold before anything is written
abbrev pub IsRefusal : LevelCause → Type 0
IsRefusal (DiskFault half) = ⊥
IsRefusal NoMemory = ⊥
IsRefusal OtherGate = ⊥
IsRefusal _ = Unit {0}

-- no call was made that is told, or a sync alone
abbrev pub IsUnwritten : OnDisk → OnDisk → Type 0
IsUnwritten old new = (new ≡ old) ⊎ (new ≡ synced old)

-- the two were not brought level, by this cause
pub record IsNotLevel (issuer : List ℕ) (cause : LevelCause) (first second first_new second_new : OnDisk) : Type 0 where
  pub first_left : HalfLeft issuer FirstEnd second.content first first_new
  pub second_left : HalfLeft issuer SecondEnd first.content second second_new
  pub reason : IsReason issuer cause first second first_new second_new
  --= Where the two hold anything else nothing is written to either.
  pub refused : IsRefusal cause → IsUnwritten first first_new × IsUnwritten second second_new

-- the disk that is named failed
abbrev pub BlamesHalf : {D M : Type 0} → Disks D → Disks M → LevelCause → Type 0
BlamesHalf first second (DiskFault First) = DiskRose first
BlamesHalf first second (DiskFault Second) = DiskRose second
BlamesHalf first second _ = Unit {0}
