-- Two files, opened.
use Rattle.std.specs.Prelude.{◌≡◌, ◌<◌, ◌+◌, ◌≤◌, ℕ, List, [], length, Bool, false, None}
use Rattle.chain_disk.specs.OnDisk.{OnDisk, IsSettled, LeavesOnly, synced}
use Rattle.journal.specs.File.{IsNotBegun, closing_gate}
use Rattle.journal.specs.Tails.{HaveOneByte}
use Rattle.record_codec.specs.declared.entry.Entry.{Entry}
use Rattle.record_fields.specs.declared.versions.Version.{Version}
use Rattle.shop_core.specs.File.Files.{StandsFor, bodies_of}
use Rattle.shop_core.specs.History.{History}
use Rattle.shop_core.specs.Prefix.{IsPrefix}
use Rattle.standby.specs.Catching.{IsFirstApart}
use Rattle.standby.specs.Chains.{ChainOnDisk}
use Rattle.standby.specs.Following.{IsFollowing}
use Rattle.second_disk.specs.Level.{FirstEnd, GoesUp, SecondEnd}
use Rattle.second_disk.specs.declared.causes.LevelCause.{LevelCause}
use Rattle.second_disk.specs.declared.causes.LevelCause.TheVariants.{DiskFault, Differs, Ahead, OtherGate, NoMemory}

-- What their disks tell of it. Where the second one has an entry, nothing was written.
pub record AreFound (created : Version) (issuer : List ℕ) (first second first_new second_new : OnDisk) {D M : Type 0}
    (a : ChainOnDisk D) (b : ChainOnDisk M) : Type 0 where
  pub first_goes : GoesUp a.history.version issuer a.history.entries a.history.entries first first_new
  pub second_goes : GoesUp a.history.version issuer b.history.entries b.history.entries second second_new
  pub unwritten : 0 < length b.history.entries → (first_new ≡ synced first) × (second_new ≡ synced second)
  pub not_begun : IsNotBegun first.content → b.history.entries ≡ []
  pub both_not_begun : IsNotBegun first.content → IsNotBegun second.content → a.history.version ≡ created

-- both go on, with chains of one issuer and version
pub record GoTogether {D M : Type 0} (issuer : List ℕ) (a : ChainOnDisk D) (b : ChainOnDisk M) : Type 0 where
  pub first_going : a.stopped ≡ None
  pub second_going : b.stopped ≡ None
  pub first_issuer : a.history.issuer ≡ issuer
  pub second_issuer : b.history.issuer ≡ issuer
  pub version : b.history.version ≡ a.history.version

-- What bringing one up by the other makes of them. Each went up as far as it may, or stayed.
pub record ComeUp {D M : Type 0} (tells : Bool) (on_disk : D → OnDisk) (others_tell : Bool) (others_on_disk : M → OnDisk)
    (a a_new : ChainOnDisk D) (b b_new : ChainOnDisk M) (first_end second_end : List Entry) : Type 0 where
  pub first : FirstEnd a.history.entries b.history.entries first_end
  pub second : SecondEnd b.history.entries a.history.entries second_end
  pub first_follows : IsFollowing tells on_disk a a_new first_end
  pub second_follows : IsFollowing others_tell others_on_disk b b_new second_end

-- both have this history now, and go on
pub record HaveOne {D M : Type 0} (a : ChainOnDisk D) (b : ChainOnDisk M) (entries : List Entry) : Type 0 where
  pub first : a.history.entries ≡ entries
  pub second : b.history.entries ≡ entries
  pub first_going : a.stopped ≡ None
  pub second_going : b.stopped ≡ None

-- What is left where the one could not be brought up by the other. A refusal leaves both as they were.
abbrev pub IsStopped : {D M : Type 0} → Bool → (D → OnDisk) → Bool → (M → OnDisk) → ChainOnDisk D → ChainOnDisk D →
    ChainOnDisk M → ChainOnDisk M → LevelCause → Type 0
IsStopped tells on_disk others_tell others_on_disk a a_new b b_new (Differs entry) =
    IsFirstApart a.history.entries b.history.entries entry × (entry < length a.history.entries) × (a_new ≡ a) × (b_new ≡ b)
IsStopped tells on_disk others_tell others_on_disk a a_new b b_new (Ahead entry) =
    IsPrefix a.history.entries b.history.entries × (entry ≡ length a.history.entries)
    × (entry + 2 ≤ length b.history.entries) × (a_new ≡ a) × (b_new ≡ b)
IsStopped tells on_disk others_tell others_on_disk a a_new b b_new (DiskFault half) =
    (first_end : List Entry) × (second_end : List Entry)
    × ComeUp tells on_disk others_tell others_on_disk a a_new b b_new first_end second_end
IsStopped tells on_disk others_tell others_on_disk a a_new b b_new NoMemory =
    (first_end : List Entry) × (second_end : List Entry)
    × ComeUp tells on_disk others_tell others_on_disk a a_new b b_new first_end second_end
IsStopped tells on_disk others_tell others_on_disk a a_new b b_new _ = ⊥

-- each crash since leaves this history
abbrev pub StaysWhole : History → OnDisk → OnDisk → Type 0
StaysWhole history old new = LeavesOnly old new (StandsFor history.version history.issuer history.entries)

-- both files hold this history with the same bytes and nothing pending, and held it at each moment
pub record IsMirrored (history : History) (first second first_new second_new : OnDisk) : Type 0 where
  pub first_whole : StaysWhole history first first_new
  pub second_whole : StaysWhole history second second_new
  pub stands : StandsFor history.version history.issuer history.entries first_new.content
  pub same : second_new.content ≡ first_new.content
  pub first_settled : IsSettled first_new
  pub second_settled : IsSettled second_new

-- why they were not made a mirror
abbrev pub IsTailReason : History → LevelCause → OnDisk → OnDisk → Type 0
IsTailReason history (DiskFault half) first second = Unit {0}
IsTailReason history OtherGate first second =
    StandsFor history.version history.issuer history.entries first.content
    × StandsFor history.version history.issuer history.entries second.content
    × HaveOneByte first.content second.content (closing_gate (bodies_of history.version history.entries)) false
IsTailReason history _ first second = ⊥

-- both files held this history at each moment; the cause is a fault of a disk, or gates that differ
pub record IsUnmirrored (history : History) (cause : LevelCause) (first second first_new second_new : OnDisk) : Type 0 where
  pub first_whole : StaysWhole history first first_new
  pub second_whole : StaysWhole history second second_new
  pub reason : IsTailReason history cause first_new second_new
