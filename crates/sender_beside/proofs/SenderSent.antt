-- A day's sender goes to another thread and comes back, and the flag that stops it is shared.
use denote.RattleType.{RattleType}
use denote.Param.Send.{IsSend, IsSync, sendable, struct_send}
use denote.Struct.Struct.{Struct}
use denote.Struct.Declared.{shape}
use Rattle.std.proofs.Crossing.{crosses}
use Rattle.chain_disk.specs.declared.disk.Disk as disk
use Rattle.ports.specs.declared.Clock as clock
use Rattle.std.specs.contracts.sync.atomic.AtomicBool as Flag
use Rattle.till_calls.proofs.Sent.{seat_field_send}
use Rattle.sender_beside.specs.contracts.sending.Sent as sent

pub flag_sync : IsSync Flag.the_row
flag_sync = search (sendable, crosses) depth 100 fits 20000

-- The sender goes to another thread with its seat, its agency and its sleeper, and comes back with all of them.
pub sent_send : (D C G Z : RattleType) (g : disk.Ghosts D.Denot) (h : clock.Ghosts C.Denot) → IsSend D → IsSend C →
    IsSend G → IsSend Z → IsSend (sent.the_row D C G Z g h)
sent_send D C G Z g h d c a z =
    let t = seat_field_send D C g h d c in
    let fields : IsSend (Struct (shape (sent.the_type D C G Z g h))) =
    struct_send (shape (sent.the_type D C G Z g h)) (
      t,
      (search (sendable, crosses) depth 100 fits 20000, (a, (z, (search (sendable, crosses) depth 100 fits 20000, tt)))),
    ) in
    search (sendable, crosses, fields)
