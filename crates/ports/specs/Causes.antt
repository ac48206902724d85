-- Faults of a device are counted; a count stands still at the greatest u64.
use Rattle.std.specs.Prelude.{◌≡◌, ℕ, ◌+◌, ◌-◌, ◌^◌, ◌<◌, ◌≤◌, min, Result, MatchResult, OnErr}

-- the greatest u64: a count that has come to it stays there
abbrev pub greatest_u64 : ℕ
greatest_u64 = 2 ^ 64 - 1

-- the count rose; at its greatest value it stays there, and a failure then counts as a rise
abbrev pub Rose : ℕ → ℕ → Type 0
Rose before now = now < greatest_u64 → before < now

-- the count is one more, up to the greatest u64
abbrev pub RoseByOne : ℕ → ℕ → Type 0
RoseByOne before now = now ≡ min (before + 1) greatest_u64

-- a call that failed is counted, once, and no other is
abbrev pub IsCounted : {T E : Type 0} → ℕ → ℕ → Result T E → Type 0
IsCounted before now result = MatchResult result (λ _. now ≡ before) (λ _. RoseByOne before now)

-- a count never falls, and a failure of the call shows in it
pub record HasCause {T E : Type 0} (before now : ℕ) (result : Result T E) : Type 0 where
  pub later : before ≤ now
  pub failed : OnErr result (Rose before now)
