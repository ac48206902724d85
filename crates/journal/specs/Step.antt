-- What a scan finds at a gate.
use Rattle.std.specs.Prelude.{◌≡◌, ◌+◌, ℕ, List, length}
use Rattle.frames.specs.Frames.{IsBody, IsCounted, IsClosed, IsDamaged}
use Rattle.journal.specs.declared.reading.Step.{Step}
use Rattle.journal.specs.declared.reading.Step.TheVariants.{Counted, Closed, Damaged}

-- at these bytes from a gate on
abbrev pub IsStep : List ℕ → Step → List ℕ → Type 0
IsStep bytes (Counted next) body = IsCounted bytes body
IsStep bytes Closed body = IsClosed bytes
IsStep bytes Damaged body = IsDamaged bytes

-- the next gate is just after the body
abbrev pub IsNext : ℕ → Step → List ℕ → Type 0
IsNext at (Counted next) body = IsBody body × (next ≡ at + 5 + length body)
IsNext at Closed body = Unit {0}
IsNext at Damaged body = Unit {0}

-- the buffer stays as it was but for a counted frame
abbrev pub KeepsBuffer : Step → List ℕ → List ℕ → Type 0
KeepsBuffer (Counted next) old new = Unit {0}
KeepsBuffer Closed old new = new ≡ old
KeepsBuffer Damaged old new = new ≡ old
