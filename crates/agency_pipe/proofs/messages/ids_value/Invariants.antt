use Rattle.std.proofs.Common.{◌≡◌, map, take}
use Rattle.serde_json.specs.View.{view}
use Rattle.agency_pipe.specs.Messages.{id_object}
use Rattle.agency_pipe.proofs.messages.ids_value.Given as goal

abbrev pub invariant-loop-id : goal.invariant-loop-id
invariant-loop-id l = map view l.items.items ≡ map id_object (take l.id-index l.ids)
