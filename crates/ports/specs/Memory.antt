-- What a device in memory holds, and what one call of it leaves.
use Rattle.std.specs.Prelude.{◌≡◌, ℕ, ◌+◌, min, List, Contains, Result, MatchResult}
use Rattle.ports.specs.Causes.{greatest_u64}

-- the bytes (a source's are those still to come, a sink's those it took), the numbers of the calls that fail, and the calls and
-- failures so far
pub record Held : Type 0 where
  pub bytes : List ℕ
  pub failing : List ℕ
  pub calls : ℕ
  pub faults : ℕ

-- one more, up to the greatest u64
abbrev pub counted_up : ℕ → ℕ
counted_up n = min (n + 1) greatest_u64

-- the count of failures, which a u64 holds
abbrev pub counted : Held → ℕ
counted held = min held.faults greatest_u64

-- the coming call is one of those that fail
abbrev pub IsListed : Held → Type 0
IsListed held = Contains held.failing (counted_up held.calls)

-- one call was made, which is a fault exactly where it failed
pub record IsOneCall {T E : Type 0} (old new : Held) (result : Result T E) : Type 0 where
  pub failing : new.failing ≡ old.failing
  pub calls : new.calls ≡ counted_up old.calls
  pub faults : MatchResult result (λ _. new.faults ≡ old.faults) (λ _. new.faults ≡ counted_up old.faults)
