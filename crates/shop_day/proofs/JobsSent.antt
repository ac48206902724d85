-- Jobs go to other threads and come back, and asks are shared.
use denote.RattleType.{RattleType}
use denote.Param.Send.{IsSend, IsSync, sendable, struct_send}
use denote.Struct.Struct.{Struct}
use denote.Struct.Declared.{shape}
use Rattle.std.proofs.Crossing.{crosses}
use Rattle.chain_disk.specs.declared.disk.Disk as disk
use Rattle.ports.specs.declared.Clock as clock
use Rattle.std.specs.contracts.vec.Vec as Vec
use Rattle.std.specs.contracts.alloc.Global as Heap
use Rattle.std.specs.contracts.impls.GlobalAllocator.TheImpl.{ghosts}
use Rattle.till_calls.proofs.Sent.{till_field_send}
use Rattle.shop_core.specs.contracts.answer.requests.Ask as ask
use Rattle.shop_day.specs.contracts.tills.TillJob as job

pub job_send : (D C : RattleType) (g : disk.Ghosts D.Denot) (h : clock.Ghosts C.Denot) → IsSend D → IsSend C →
    IsSend (job.the_row D C g h)
job_send D C g h d c =
    let t = till_field_send D C g h d c in
    let fields : IsSend (Struct (shape (job.the_type D C g h))) =
    struct_send (shape (job.the_type D C g h)) (
      t,
      (
        search (sendable, crosses) depth 100 fits 20000,
        (search (sendable, crosses) depth 100 fits 20000, tt),
      ),
    ) in
    search (sendable, crosses, fields)

pub jobs_send : (D C : RattleType) (g : disk.Ghosts D.Denot) (h : clock.Ghosts C.Denot) → IsSend D → IsSend C →
    IsSend (Vec.the_row (job.the_row D C g h) Heap.the_row ghosts)
jobs_send D C g h d c = let j = job_send D C g h d c in search (sendable, crosses, j) depth 100 fits 20000

pub ask_sync : IsSync ask.the_row
ask_sync = search (sendable, crosses) depth 100 fits 20000
