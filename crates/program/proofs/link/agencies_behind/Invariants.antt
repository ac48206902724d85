use Rattle.std.proofs.Common.{◌≡◌}
use Rattle.std.specs.Prelude.{vec_len}
use Rattle.program.proofs.link.agencies_behind.Given as goal

abbrev pub invariant-loop-made : goal.invariant-loop-made
invariant-loop-made l = vec_len l.spares ≡ l.made
