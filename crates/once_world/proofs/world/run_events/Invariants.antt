use Rattle.std.proofs.Common.{◌≡◌, take}
use Rattle.record_fields.specs.declared.versions.Version.TheVariants.{Two}
use Rattle.once_world.specs.World.{world}
use Rattle.once_world.proofs.Worlds.{HoldsOf}
use Rattle.once_world.proofs.world.run_events.Given as goal

-- the world so far is that of the events so far, and agreement holds
abbrev pub invariant-loop-event : goal.invariant-loop-event
invariant-loop-event l = record {
  same : l.world ≡ world l.issuer l.plan (take l.event-index l.events);
  issuer : l.world.state.issuer ≡ l.issuer;
  version : l.world.state.version ≡ Two;
  holds : HoldsOf l.world;
}
