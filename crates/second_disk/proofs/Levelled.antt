-- Two files, opened, brought up and made a mirror.
use Rattle.std.proofs.Common.{◌≡◌, ◌∙◌, ◌<◌, inr, ℕ, List, length, Bool, IsTrue, refl, ap, subst, arith}
use Rattle.chain_disk.specs.OnDisk.{OnDisk, LeavesOnly, synced}
use Rattle.chain_store.specs.Crashes.{StandsBetween}
use Rattle.record_codec.specs.declared.entry.Entry.{Entry}
use Rattle.record_fields.specs.declared.versions.Version.{Version}
use Rattle.shop_core.specs.File.Files.{StandsFor}
use Rattle.shop_core.specs.History.{History}
use Rattle.shop_core.specs.Prefix.{IsPrefix}
use Rattle.standby.specs.Chains.{ChainOnDisk}
use Rattle.second_disk.specs.Level.{GoesUp, IsLevel, IsNotLevel, IsReason, IsRefusal}
use Rattle.second_disk.specs.Level.HalfLeft.{only_synced, went_up}
use Rattle.second_disk.specs.declared.causes.LevelCause.{LevelCause}
use Rattle.second_disk.specs.declared.causes.LevelCause.TheVariants.{DiskFault, Damaged, OtherIssuer, OtherVersion, NotBegun, Differs, Ahead, OtherGate, NoMemory}
use Rattle.second_disk.specs.Opened.{AreFound, ComeUp, GoTogether, HaveOne, IsMirrored, IsStopped, IsTailReason, IsUnmirrored, StaysWhole}
use Rattle.second_disk.proofs.Ups.{first_front, goes_on, goes_whole, second_front}

-- one of the two, brought up
part_way : (version : Version) (issuer : List ℕ) (start end : List Entry) (old mid late : OnDisk) (before : History) →
    IsPrefix start end → GoesUp version issuer start start old mid → before.version ≡ version → before.issuer ≡ issuer →
    LeavesOnly mid late (StandsBetween before.version before.issuer start end) → GoesUp version issuer start end old late
part_way version issuer start end old mid late before front goes v i up =
    goes_on version issuer start end old mid late front goes
    (subst (λ (x : Version). LeavesOnly mid late (StandsBetween x issuer start end)) v
    (subst (λ (n : List ℕ). LeavesOnly mid late (StandsBetween before.version n start end)) i up))

-- and then all the way
whole_way : (version : Version) (issuer : List ℕ) (start end : List Entry) (old mid late new : OnDisk) (before after : History) →
    IsPrefix start end → GoesUp version issuer start start old mid → before.version ≡ version → before.issuer ≡ issuer →
    LeavesOnly mid late (StandsBetween before.version before.issuer start end) → after.version ≡ version → after.issuer ≡ issuer →
    after.entries ≡ end → StaysWhole after late new → GoesUp version issuer start end old new
whole_way version issuer start end old mid late new before after front goes v i up w j e whole =
    let last = subst (λ (x : Version). LeavesOnly late new (StandsFor x issuer end)) w
    (subst (λ (n : List ℕ). LeavesOnly late new (StandsFor after.version n end)) j
    (subst (λ (es : List Entry). LeavesOnly late new (StandsFor after.version after.issuer es)) e whole)) in
    goes_whole version issuer start end old late new front
    (part_way version issuer start end old mid late before front goes v i up) last

pub levelled : {D M : Type 0} (tells : Bool) (on_disk : D → OnDisk) (others_tell : Bool) (others : M → OnDisk) → IsTrue tells →
    IsTrue others_tell → (created : Version) (issuer : List ℕ) (first second f s : OnDisk) (a a2 : ChainOnDisk D) (b b2 : ChainOnDisk M)
    (entries : List Entry) → GoTogether issuer a b → AreFound created issuer first second (on_disk a.disk) (others b.disk) a b →
    ComeUp tells on_disk others_tell others a a2 b b2 entries entries → HaveOne a2 b2 entries →
    IsMirrored a2.history (on_disk a2.disk) (others b2.disk) f s → IsLevel created issuer first second f s
levelled tells on_disk others_tell others t o created issuer first second f s a a2 b b2 entries go found up one mirrored =
    let version = a.history.version in
    let w : a2.history.version ≡ version = up.first_follows.version in
    let j : a2.history.issuer ≡ issuer = up.first_follows.issuer ∙ go.first_issuer in
    record {
      version = version;
      held = a.history.entries;
      others = b.history.entries;
      entries = entries;
      first_end = up.first;
      second_end = up.second;
      first_goes = whole_way version issuer a.history.entries entries first (on_disk a.disk) (on_disk a2.disk) f a.history a2.history
          (first_front a.history.entries b.history.entries entries up.first) found.first_goes refl go.first_issuer
          (up.first_follows.images t) w j one.first mirrored.first_whole;
      second_goes = whole_way version issuer b.history.entries entries second (others b.disk) (others b2.disk) s b.history a2.history
          (second_front b.history.entries a.history.entries entries up.second) found.second_goes go.version go.second_issuer
          (up.second_follows.images o) w j one.first mirrored.second_whole;
      not_begun = found.not_begun;
      both_not_begun = found.both_not_begun;
      stands = subst (λ (x : Version). StandsFor x issuer entries f.content) w
          (subst (λ (n : List ℕ). StandsFor a2.history.version n entries f.content) j
          (subst (λ (es : List Entry). StandsFor a2.history.version a2.history.issuer es f.content) one.first mirrored.stands));
      same = mirrored.same;
      first_settled = mirrored.first_settled;
      second_settled = mirrored.second_settled;
    }

by_tail : (history : History) (issuer : List ℕ) (cause : LevelCause) (first second f s : OnDisk) → history.issuer ≡ issuer →
    IsTailReason history cause f s → IsReason issuer cause first second f s × (IsRefusal cause → ⊥)
by_tail history issuer (DiskFault half) first second f s own reason = (tt, λ none. none)
by_tail history issuer (Damaged half at) first second f s own reason = absurd reason
by_tail history issuer (OtherIssuer half held) first second f s own reason = absurd reason
by_tail history issuer (OtherVersion held) first second f s own reason = absurd reason
by_tail history issuer NotBegun first second f s own reason = absurd reason
by_tail history issuer (Differs entry) first second f s own reason = absurd reason
by_tail history issuer (Ahead entry) first second f s own reason = absurd reason
by_tail history issuer OtherGate first second f s own reason = (
  record {
    version = history.version;
    entries = history.entries;
    first_is = subst (λ (n : List ℕ). StandsFor history.version n history.entries f.content) own reason.0;
    second_is = subst (λ (n : List ℕ). StandsFor history.version n history.entries s.content) own reason.1;
    gates = reason.2;
  },
  λ none. none,
)
by_tail history issuer NoMemory first second f s own reason = absurd reason

-- the bytes behind the gates could not be made equal
pub unmirrored : {D M : Type 0} (tells : Bool) (on_disk : D → OnDisk) (others_tell : Bool) (others : M → OnDisk) → IsTrue tells →
    IsTrue others_tell → (created : Version) (issuer : List ℕ) (cause : LevelCause) (first second f s : OnDisk) (a a2 : ChainOnDisk D)
    (b b2 : ChainOnDisk M) (entries : List Entry) → GoTogether issuer a b →
    AreFound created issuer first second (on_disk a.disk) (others b.disk) a b →
    ComeUp tells on_disk others_tell others a a2 b b2 entries entries → HaveOne a2 b2 entries →
    IsUnmirrored a2.history cause (on_disk a2.disk) (others b2.disk) f s → IsNotLevel issuer cause first second f s
unmirrored tells on_disk others_tell others t o created issuer cause first second f s a a2 b b2 entries go found up one left =
    let version = a.history.version in
    let w : a2.history.version ≡ version = up.first_follows.version in
    let j : a2.history.issuer ≡ issuer = up.first_follows.issuer ∙ go.first_issuer in
    let reason = by_tail a2.history issuer cause first second f s j left.reason in
    record {
      first_left = went_up version a.history.entries b.history.entries entries found.second_goes.found up.first
          (whole_way version issuer a.history.entries entries first (on_disk a.disk) (on_disk a2.disk) f a.history a2.history
          (first_front a.history.entries b.history.entries entries up.first) found.first_goes refl go.first_issuer
          (up.first_follows.images t) w j one.first left.first_whole);
      second_left = went_up version b.history.entries a.history.entries entries found.first_goes.found up.second
          (whole_way version issuer b.history.entries entries second (others b.disk) (others b2.disk) s b.history a2.history
          (second_front b.history.entries a.history.entries entries up.second) found.second_goes go.version go.second_issuer
          (up.second_follows.images o) w j one.first left.second_whole);
      reason = reason.0;
      refused = λ is. absurd (reason.1 is);
    }

-- the one could not be brought up by the other, for want of memory or by a fault of a disk
halfway : {D M : Type 0} (tells : Bool) (on_disk : D → OnDisk) (others_tell : Bool) (others : M → OnDisk) → IsTrue tells →
    IsTrue others_tell → (created : Version) (issuer : List ℕ) (cause : LevelCause) (first second : OnDisk) (a a2 : ChainOnDisk D)
    (b b2 : ChainOnDisk M) (first_end second_end : List Entry) → GoTogether issuer a b →
    AreFound created issuer first second (on_disk a.disk) (others b.disk) a b →
    ComeUp tells on_disk others_tell others a a2 b b2 first_end second_end →
    IsReason issuer cause first second (on_disk a2.disk) (others b2.disk) → (IsRefusal cause → ⊥) →
    IsNotLevel issuer cause first second (on_disk a2.disk) (others b2.disk)
halfway tells on_disk others_tell others t o created issuer cause first second a a2 b b2 first_end second_end go found up reason none =
    let version = a.history.version in
    record {
      first_left = went_up version a.history.entries b.history.entries first_end found.second_goes.found up.first
          (part_way version issuer a.history.entries first_end first (on_disk a.disk) (on_disk a2.disk) a.history
          (first_front a.history.entries b.history.entries first_end up.first) found.first_goes refl go.first_issuer
          (up.first_follows.images t));
      second_left = went_up version b.history.entries a.history.entries second_end found.first_goes.found up.second
          (part_way version issuer b.history.entries second_end second (others b.disk) (others b2.disk) b.history
          (second_front b.history.entries a.history.entries second_end up.second) found.second_goes go.version go.second_issuer
          (up.second_follows.images o));
      reason = reason;
      refused = λ is. absurd (none is);
    }

-- the second one has another history than the first, and nothing was written
refuse : {D M : Type 0} (on_disk : D → OnDisk) (others : M → OnDisk) (created : Version) (issuer : List ℕ) (cause : LevelCause) (first second : OnDisk)
    (a a2 : ChainOnDisk D) (b b2 : ChainOnDisk M) → AreFound created issuer first second (on_disk a.disk) (others b.disk) a b →
    0 < length b.history.entries → a2 ≡ a → b2 ≡ b →
    IsReason issuer cause first second (on_disk a2.disk) (others b2.disk) →
    IsNotLevel issuer cause first second (on_disk a2.disk) (others b2.disk)
refuse on_disk others created issuer cause first second a a2 b b2 found some same other reason =
    let unwritten = found.unwritten some in
    let one : on_disk a2.disk ≡ synced first = ap (λ c. on_disk c.disk) same ∙ unwritten.0 in
    let two : others b2.disk ≡ synced second = ap (λ c. others c.disk) other ∙ unwritten.1 in
    record {
      first_left = only_synced one;
      second_left = only_synced two;
      reason = reason;
      refused = λ is. (inr one, inr two);
    }

-- the two could not be brought up to one history
pub stopped : {D M : Type 0} (tells : Bool) (on_disk : D → OnDisk) (others_tell : Bool) (others : M → OnDisk) → IsTrue tells →
    IsTrue others_tell → (created : Version) (issuer : List ℕ) (cause : LevelCause) (first second : OnDisk) (a a2 : ChainOnDisk D)
    (b b2 : ChainOnDisk M) → GoTogether issuer a b → AreFound created issuer first second (on_disk a.disk) (others b.disk) a b →
    IsStopped tells on_disk others_tell others a a2 b b2 cause →
    IsNotLevel issuer cause first second (on_disk a2.disk) (others b2.disk)
stopped tells on_disk others_tell others t o created issuer (DiskFault half) first second a a2 b b2 go found by =
    halfway tells on_disk others_tell others t o created issuer (DiskFault half) first second a a2 b b2 by.0 by.1 go found by.2 tt
    (λ none. none)
stopped tells on_disk others_tell others t o created issuer (Damaged half at) first second a a2 b b2 go found by = absurd by
stopped tells on_disk others_tell others t o created issuer (OtherIssuer half held) first second a a2 b b2 go found by = absurd by
stopped tells on_disk others_tell others t o created issuer (OtherVersion held) first second a a2 b b2 go found by = absurd by
stopped tells on_disk others_tell others t o created issuer NotBegun first second a a2 b b2 go found by = absurd by
stopped tells on_disk others_tell others t o created issuer (Differs entry) first second a a2 b b2 go found by =
    let some : 0 < length b.history.entries = omega (arith, by.0.within) in
    refuse on_disk others created issuer (Differs entry) first second a a2 b b2 found some by.2 by.3 (record {
      version = a.history.version;
      held = a.history.entries;
      others = b.history.entries;
      first_is = found.first_goes.found;
      second_is = found.second_goes.found;
      so = (by.0, by.1);
    })
stopped tells on_disk others_tell others t o created issuer (Ahead entry) first second a a2 b b2 go found by =
    let some : 0 < length b.history.entries = omega (arith, by.2) in
    refuse on_disk others created issuer (Ahead entry) first second a a2 b b2 found some by.3 by.4 (record {
      version = a.history.version;
      held = a.history.entries;
      others = b.history.entries;
      first_is = found.first_goes.found;
      second_is = found.second_goes.found;
      so = (by.0, by.1, by.2);
    })
stopped tells on_disk others_tell others t o created issuer OtherGate first second a a2 b b2 go found by = absurd by
stopped tells on_disk others_tell others t o created issuer NoMemory first second a a2 b b2 go found by =
    halfway tells on_disk others_tell others t o created issuer NoMemory first second a a2 b b2 by.0 by.1 go found by.2 tt (λ none. none)
