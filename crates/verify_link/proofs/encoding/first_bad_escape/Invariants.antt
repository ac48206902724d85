-- No escape before this byte is bad.
use Rattle.std.proofs.Common.{◌≡◌, ℕ, ◌<◌, false}
use Rattle.verify_link.specs.Writing.{is_bad_escape}
use Rattle.verify_link.proofs.encoding.first_bad_escape.Given as goal

abbrev pub invariant-loop-k : goal.invariant-loop-k
invariant-loop-k l = (j : ℕ) → j < l.k → is_bad_escape l.value j ≡ false
