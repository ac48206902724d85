-- The bytes before this one agree.
use Rattle.std.proofs.Common.{◌≡◌, ℕ, ◌<◌, true}
use Rattle.verify_link.specs.Writing.{agrees_at}
use Rattle.verify_link.proofs.encoding.agree_but_in_case.Given as goal

abbrev pub invariant-loop-k : goal.invariant-loop-k
invariant-loop-k l = (j : ℕ) → j < l.k → agrees_at l.text l.written j ≡ true
