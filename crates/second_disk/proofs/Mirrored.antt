-- The mirror of two files that stand for one history.
use Rattle.std.proofs.Common.{◌≡◌, ℕ, List, [], refl, sym, ◌∙◌, subst, subst₂, false}
use Rattle.std.proofs.lemmas.List.{append-nil}
use Rattle.chain_disk.specs.OnDisk.{OnDisk}
use Rattle.chain_disk.specs.Runs.{weaker}
use Rattle.chain_store.specs.Ready.{Holds}
use Rattle.journal.specs.File.{IsAt, IsAtSome, IsFile}
use Rattle.journal.specs.Tails.{HaveOneByte, KeepsGate}
use Rattle.journal.specs.declared.tails.TailFault.{TailFault}
use Rattle.journal.specs.declared.tails.TailFault.TheVariants as tail
use Rattle.record_codec.specs.declared.entry.Entry.{Entry}
use Rattle.record_fields.specs.declared.versions.Version.{Version}
use Rattle.journal.specs.Written.{KeepsFront}
use Rattle.journal.proofs.Fronts.{front_of_more}
use Rattle.shop_core.specs.File.Files.{AreEncoded, StandsFor, bodies_of}
use Rattle.shop_core.specs.History.{History}
use Rattle.shop_core.specs.Legal.{Legal}
use Rattle.standby.specs.Chains.{ChainOnDisk}
use Rattle.second_disk.specs.Causes.{tail_cause}
use Rattle.second_disk.specs.Opened.{IsTailReason, StaysWhole}
use Rattle.second_disk.specs.declared.causes.LevelCause.TheVariants.{OtherGate}

pub at_some : (history : History) (gate : ℕ) (t : OnDisk) → Holds history gate t → IsAtSome gate t
at_some history gate t holds = ∣ (history.version, history.issuer, bodies_of history.version history.entries, holds.file) ∣₁

-- two files of one history have one front
pub one_front : (history : History) (gate place : ℕ) (t u : OnDisk) → Holds history gate t → Holds history place u →
    KeepsFront gate t.content u.content
one_front history gate place t u first second =
    let bodies = bodies_of history.version history.entries in
    subst (λ (n : ℕ). KeepsFront n t.content u.content) (sym first.file.place)
    (front_of_more history.version history.issuer bodies [] t.content u.content first.file.file
    (subst (λ (l : List (List ℕ)). IsFile history.version history.issuer l u.content) (sym (append-nil bodies)) second.file.file))

pub one_place : (history : History) (gate place : ℕ) (t u : OnDisk) → Holds history gate t → Holds history place u → place ≡ gate
one_place history gate place t u first second = second.file.place ∙ sym first.file.place

pub stays_whole : (history : History) (gate : ℕ) (t u : OnDisk) → Holds history gate t →
    Legal history.version history.issuer history.entries → KeepsGate gate t u → StaysWhole history t u
stays_whole history gate t u holds legal keeps =
    weaker t u (IsFile history.version history.issuer (bodies_of history.version history.entries))
    (StandsFor history.version history.issuer history.entries)
    (keeps.any_moment history.version history.issuer (bodies_of history.version history.entries) holds.file)
    (λ c is. record { frames = is; encoded = holds.encoded; legal = legal })

pub stands_by : (history : History) (gate : ℕ) (t u : OnDisk) → Holds history gate t →
    Legal history.version history.issuer history.entries →
    IsAt history.version history.issuer (bodies_of history.version history.entries) gate u →
    StandsFor history.version history.issuer history.entries u.content
stands_by history gate t u holds legal at = record { frames = at.file; encoded = holds.encoded; legal = legal }

-- the same file, whatever room there is for a next entry
pub holds_same : (history other : History) (gate : ℕ) (t : OnDisk) → other.version ≡ history.version → other.issuer ≡ history.issuer →
    other.entries ≡ history.entries → Holds other gate t → Holds history gate t
holds_same history other gate t version issuer entries holds = record {
  file = subst₂ (λ (v : Version) (i : List ℕ). IsAt v i (bodies_of v history.entries) gate t) version issuer
      (subst (λ (es : List Entry). IsAt other.version other.issuer (bodies_of other.version es) gate t) entries holds.file);
  encoded = subst₂ (λ (v : Version) (i : List ℕ). AreEncoded v i history.entries) version issuer
      (subst (λ (es : List Entry). AreEncoded other.version other.issuer es) entries holds.encoded);
}

-- both disks, handed on
pub both_held : {D M : Type 0} (on_disk : D → OnDisk) (others : M → OnDisk) (a : ChainOnDisk D) (b : ChainOnDisk M) (first : D)
    (second : M) (gate : ℕ) → first ≡ a.disk → second ≡ b.disk → gate ≡ a.gate → b.history.version ≡ a.history.version →
    b.history.issuer ≡ a.history.issuer → b.history.entries ≡ a.history.entries → Holds a.history a.gate (on_disk a.disk) →
    Holds b.history b.gate (others b.disk) →
    Holds a.history gate (on_disk first) × Holds a.history gate (others second)
both_held {D = D} {M = M} on_disk others a b first second gate f s n version issuer entries holds other =
    let same = holds_same a.history b.history b.gate (others b.disk) version issuer entries other in
    let place : b.gate ≡ a.gate = one_place a.history a.gate b.gate (on_disk a.disk) (others b.disk) holds same in (
      subst₂ (λ (d : D) (m : ℕ). Holds a.history m (on_disk d)) (sym f) (sym n) holds,
      subst₂ (λ (d : M) (m : ℕ). Holds a.history m (others d)) (sym s) (place ∙ sym n) same,
    )

pub tail_reason : (history : History) (fault : TailFault) (first second : OnDisk) →
    (fault ≡ tail.OtherGate → IsTailReason history OtherGate first second) → IsTailReason history (tail_cause fault) first second
tail_reason history tail.First first second other = tt
tail_reason history tail.Second first second other = tt
tail_reason history tail.OtherGate first second other = other refl

-- both files as they were, with different bytes at their gates
pub other_gates : (history : History) (gate : ℕ) (t u : OnDisk) → Holds history gate t → Holds history gate u →
    Legal history.version history.issuer history.entries → HaveOneByte t.content u.content gate false →
    IsTailReason history OtherGate t u
other_gates history gate t u first second legal gates = (
  stands_by history gate t t first legal first.file,
  stands_by history gate u u second legal second.file,
  subst (λ (n : ℕ). HaveOneByte t.content u.content n false) first.file.place gates,
)
