-- What goes to a till's thread and comes back.
use denote.RattleType.{RattleType}
use denote.Param.Send.{IsSend, IsSync, sendable, struct_send}
use denote.Struct.Struct.{Struct}
use denote.Struct.Declared.{shape}
use Rattle.std.proofs.Crossing.{crosses}
use Rattle.std.specs.contracts.result.Result as told
use Rattle.std.specs.contracts.vec.Vec as Vec
use Rattle.std.specs.contracts.alloc.Global as Heap
use Rattle.std.specs.contracts.impls.GlobalAllocator.TheImpl.{ghosts}
use Rattle.chain_disk.specs.declared.disk.Disk as disk
use Rattle.journal.specs.contracts.faults.StoreFault as fault
use Rattle.ports.specs.declared.Clock as clock
use Rattle.shop_core.specs.contracts.answer.Reply as reply
use Rattle.shop_core.specs.contracts.answer.requests.Request as request
use Rattle.till_calls.proofs.Sent.{till_field_send}
use Rattle.library_examples.specs.contracts.threads.Served as served

pub replies_send : IsSend (Vec.the_row (told.the_row reply.the_row fault.the_row) Heap.the_row ghosts)
replies_send = search (sendable, crosses) depth 100 fits 20000

pub served_send : (D C : RattleType) (g : disk.Ghosts D.Denot) (h : clock.Ghosts C.Denot) → IsSend D → IsSend C →
    IsSend (served.the_row D C g h)
served_send D C g h d c =
    let t = till_field_send D C g h d c in
    let r = replies_send in
    let fields : IsSend (Struct (shape (served.the_type D C g h))) =
    struct_send (shape (served.the_type D C g h)) (t, (search (sendable, crosses) depth 100 fits 20000, tt)) in
    search (sendable, crosses, fields)

pub request_sync : IsSync request.the_row
request_sync = search (sendable, crosses) depth 100 fits 20000
