-- What a list of messages says.
use Rattle.std.specs.Prelude.{List, filter_map, Option, Some, None}
use Rattle.record_fields.specs.declared.records.Sealed.{Sealed}
use Rattle.agency_port.specs.declared.messages.Message.{Message}
use Rattle.agency_port.specs.declared.messages.Message.TheVariants.{Submitted}

-- the batch that was handed over
abbrev pub batch_in : Message → Option (List Sealed)
batch_in (Submitted batch answer) = Some batch
batch_in other = None

-- all batches that were, in order
abbrev pub batches_in : List Message → List (List Sealed)
batches_in messages = filter_map batch_in messages
