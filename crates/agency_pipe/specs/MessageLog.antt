-- What was said to the other side, and what it was taken to answer.
use Rattle.std.specs.Prelude.{List, [], map}
use Rattle.agency_port.specs.Ledger.{Ledger}
use Rattle.agency_port.specs.Messages.{batches_in}
use Rattle.agency_port.specs.declared.messages.Message.{Message}
use Rattle.agency_port.specs.declared.messages.Message.TheVariants as message
use Rattle.agency_pipe.specs.declared.message_log.Asked.{Asked}
use Rattle.agency_pipe.specs.declared.message_log.Asked.TheVariants.{Begun, Submitted, Consulted}
use Rattle.agency_pipe.specs.declared.message_log.MessageLog.{MessageLog}

abbrev pub message_of : Asked → Message
message_of (Begun plan pairs) = message.Begun plan.value pairs
message_of (Submitted batch answer) = message.Submitted batch.value answer.value
message_of (Consulted asked answer) = message.Consulted asked.value answer.value

-- all messages, in order
abbrev pub said_in : MessageLog → List Message
said_in said = map message_of said.log.items

-- all that is told of the other side: it tells nothing of what it holds
abbrev pub ledger_of : List Message → Ledger
ledger_of messages = record { processed = []; sent = batches_in messages; verdicts = []; messages = messages }
