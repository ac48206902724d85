-- What a call moves between a device and its caller, where the device tells its bytes.
use Rattle.std.specs.Prelude.{◌≡◌, ℕ, ◌<◌, ◌≤◌, List, length, take, Option, Result, MatchResult, IfOk}
use Rattle.std.specs.Io.KnownBytes.{Consumes, Appends, Keeps, IsAtEnd}

-- at Ok(n) the first n bytes of the buffer come from the source, none of them only at its end
abbrev pub Reads : {E : Type 0} → Option (List ℕ) → Option (List ℕ) → Result ℕ E → List ℕ → Type 0
Reads old new r buf =
    MatchResult r (λ n. Consumes old new (take n buf) × (n ≡ 0 → 0 < length buf → IsAtEnd new)) (λ _. Keeps old new)

-- at Ok(n) the first n bytes went to the sink, at least one of them where there is one
abbrev pub Writes : {E : Type 0} → Option (List ℕ) → Option (List ℕ) → Result ℕ E → List ℕ → Type 0
Writes old new r bytes =
    MatchResult r (λ n. Appends old new (take n bytes) × (0 < length bytes → 0 < n)) (λ _. Keeps old new)

-- the count of a call is within its bytes
abbrev pub IsWithin : {E : Type 0} → Result ℕ E → List ℕ → Type 0
IsWithin r bytes = IfOk r (λ n. n ≤ length bytes)
