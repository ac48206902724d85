-- What an adapter keeps of its faults.
use Rattle.std.specs.Prelude.{ℕ}
use Rattle.ports.specs.declared.reasons.Faults.{Faults}

-- how many there were
abbrev pub count_of : Faults → ℕ
count_of faults = faults.count
