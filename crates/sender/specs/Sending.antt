-- What contracts see of a sender.
use Rattle.std.specs.Prelude.{Bool, true, None, Option}
use Rattle.pacing.specs.declared.pace.Pace.{Pace}
use Rattle.pacing.specs.declared.pace.TheConstants.{FIRST_WAIT}
use Rattle.agency_port.specs.Reply.{Replied}

-- whether it is in doubt what came of its last batch; its pace; and the last reply that named its batch, until a consultation
-- has been answered
pub record Sending : Type 0 where
  pub doubt : Bool
  pub pace : Pace
  pub said : Option Replied

abbrev pub fresh : Sending
fresh = record { doubt = true; pace = record { last = 0; wait = FIRST_WAIT }; said = None }
