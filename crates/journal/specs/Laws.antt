-- Laws of the journal's file.
use Rattle.std.specs.Prelude.{◌≡◌, ◌+◌, ◌⊎◌, ◌↔◌, ℕ, List, [], ◌∷◌, ◌++◌, length, drop}
use Rattle.frames.specs.Frames.{IsCounted, IsClosed}
use Rattle.record_fields.specs.declared.versions.Version.{Version}
use Rattle.journal.specs.declared.TheConstants.{HEADER}
use Rattle.journal.specs.File.{IsFile, IsNotBegun, closing_gate}
use Rattle.journal.specs.Header.{HasVersion, IsBegun, IsHeader}
use Rattle.journal.specs.Walk.{AreFrames, GoOn}
use Rattle.journal.specs.declared.reading.Header.{Header}

-- a file stands for at most one chain
abbrev pub OneChain : Type 0
OneChain =
    (version another : Version) (issuer other : List ℕ) (bodies others : List (List ℕ)) (file : List ℕ) →
    IsFile version issuer bodies file → IsFile another other others file →
    (version ≡ another) × (issuer ≡ other) × (bodies ≡ others)

-- a file that isn't begun stands for no chain
abbrev pub NoChain : Type 0
NoChain =
    (version : Version) (issuer : List ℕ) (bodies : List (List ℕ)) (file : List ℕ) →
    IsNotBegun file → IsFile version issuer bodies file → ⊥

-- a file has one header
abbrev pub OneHeader : Type 0
OneHeader = (file : List ℕ) (a b : Header) → IsHeader file a → IsHeader file b → a ≡ b

-- and one version
abbrev pub OneVersion : Type 0
OneVersion = (file : List ℕ) (version another : Version) → HasVersion version file → HasVersion another file → version ≡ another

-- a walk over the frames begins after the header with none
abbrev pub WalkBegins : Type 0
WalkBegins = (file : List ℕ) → AreFrames file [] HEADER

-- and goes on by each counted frame, past its body
abbrev pub WalkGoesOn : Type 0
WalkGoesOn =
    (file : List ℕ) (bodies : List (List ℕ)) (at : ℕ) (body : List ℕ) →
    AreFrames file bodies at → IsCounted (drop at file) body → AreFrames file (bodies ++ body ∷ []) (at + 5 + length body)

-- a file is a sound header, and a walk over its frames to a gate that is closed
abbrev pub WalkEnds : Type 0
WalkEnds =
    (version : Version) (issuer : List ℕ) (bodies : List (List ℕ)) (file : List ℕ) →
    IsFile version issuer bodies file
    ↔ (IsBegun version issuer file × AreFrames file bodies (closing_gate bodies) × IsClosed (drop (closing_gate bodies) file))

-- two walks that can't go on have come to the same place, by the same bodies
abbrev pub OneWalk : Type 0
OneWalk =
    (file : List ℕ) (bodies others : List (List ℕ)) (at place : ℕ) →
    AreFrames file bodies at → AreFrames file others place →
    ((body : List ℕ) → IsCounted (drop at file) body → ⊥) → ((body : List ℕ) → IsCounted (drop place file) body → ⊥) →
    (bodies ≡ others) × (at ≡ place)

-- of two walks over a file one is a front of the other: they are the same, or one goes on where the other has come to
abbrev pub WalksAgree : Type 0
WalksAgree =
    (file : List ℕ) (bodies others : List (List ℕ)) (at place : ℕ) →
    AreFrames file bodies at → AreFrames file others place →
    ((bodies ≡ others) × (at ≡ place)) ⊎ (GoOn (drop at file) bodies others ⊎ GoOn (drop place file) others bodies)
