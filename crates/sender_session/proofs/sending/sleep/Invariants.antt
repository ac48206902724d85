use Rattle.std.specs.Prelude.{◌≡◌}
use Rattle.sender_session.proofs.sending.sleep.Given as goal

-- rests leave the moment as it was
abbrev pub invariant-loop : goal.invariant-loop
invariant-loop g l = g.Z.Sleeper.moment l.sleeper ≡ g.Z.Sleeper.moment l.fn.sleeper
