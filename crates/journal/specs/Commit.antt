-- Bytes written after a gate byte, and then the gate opened.
use Rattle.std.specs.Prelude.{◌≡◌, ◌⊎◌, ◌+◌, ◌≤◌, max, ℕ, List, ◌∷◌, ◌++◌, length, take, drop}
use Rattle.chain_disk.specs.OnDisk.{OnDisk, IsSettled}
use Rattle.journal.specs.declared.TheConstants.{HEADER}

-- the content with this gate byte and these bytes after it
abbrev pub gated : List ℕ → ℕ → ℕ → List ℕ → List ℕ
gated content gate x bytes = take gate content ++ (x ∷ (bytes ++ drop (gate + 1 + length bytes) content))

-- all is as it was up to the gate, and no longer than it will be
pub record IsUpToGate (content : List ℕ) (gate : ℕ) (bytes c : List ℕ) : Type 0 where
  pub same : take (gate + 1) c ≡ take (gate + 1) content
  pub no_longer : length c ≤ max (length content) (gate + 1 + length bytes)

-- all is as it was up to the gate, or all is written and the gate may be any byte
abbrev pub IsCommitImage : List ℕ → ℕ → List ℕ → List ℕ → Type 0
IsCommitImage content gate bytes c = IsUpToGate content gate bytes c ⊎ ((x : ℕ) × (c ≡ gated content gate x bytes))

-- nothing is pending, and the gate is open
pub record IsCommitted (old : OnDisk) (gate : ℕ) (bytes : List ℕ) (new : OnDisk) : Type 0 where
  pub content : new.content ≡ gated old.content gate 1 bytes
  pub nothing_pending : IsSettled new

-- a content whose first byte is there and isn't 1, of at most 20 bytes, with nothing pending
pub record IsShut (t : OnDisk) : Type 0 where
  pub gate : ℕ
  pub rest : List ℕ
  pub content : t.content ≡ gate ∷ rest
  pub shut : gate ≡ 1 → ⊥
  pub short : length rest ≤ HEADER
  pub nothing_pending : IsSettled t
