-- What goes to other threads.
use denote.RattleType.{RattleType}
use denote.Param.Send.{IsSend, IsSync, sendable, struct_send, struct_sync}
use mir.Syntax.{Dict}
use denote.Struct.Struct.{Struct}
use denote.Struct.Declared.{shape}
use Rattle.std.proofs.Crossing.{crosses}
use Rattle.chain_disk.specs.declared.disk.Disk as disk
use Rattle.ports.specs.declared.Clock as clock
use Rattle.chain_lock.proofs.pass.Pass.TheSendSync as pass
use Rattle.chain_lock.proofs.lock.ChainLock.TheSendSync as lock
use Rattle.till_calls.specs.contracts.kept.Kept as kept
use Rattle.shop_core.specs.contracts.items.Item as item
use Rattle.till_calls.specs.contracts.root.ShopRoot as root
use Rattle.till_calls.specs.contracts.kept.KeptRecorded.TheImpl as recorded
use Rattle.till_calls.specs.contracts.shop.Shop as shop
use Rattle.till_calls.specs.contracts.tills.Till as till
use Rattle.till_calls.specs.contracts.tills.SenderSeat as seat
use Rattle.till_calls.specs.contracts.tills.TillNumber as number

pub kept_send : (D C : RattleType) (g : disk.Ghosts D.Denot) (h : clock.Ghosts C.Denot) → IsSend D → IsSend C →
    IsSend (kept.the_row D C g h)
kept_send D C g h d c = search (sendable, crosses) depth 100 fits 20000

till_fields : (D C : RattleType) (g : disk.Ghosts D.Denot) (h : clock.Ghosts C.Denot) → IsSend D → IsSend C →
    IsSend (Struct (shape (till.the_type D C g h)))
till_fields D C g h d c =
    let k = kept_send D C g h d c in
    let p = pass.the_field_send (kept.the_row D C g h) item.the_row (root.the_row C) k in
    let n : IsSend number.the_row = search (sendable, crosses) depth 100 fits 20000 in
    struct_send (shape (till.the_type D C g h)) (p, (n, tt))

pub till_send : (D C : RattleType) (g : disk.Ghosts D.Denot) (h : clock.Ghosts C.Denot) → IsSend D → IsSend C →
    IsSend (till.the_row D C g h)
till_send D C g h d c = let fields = till_fields D C g h d c in search (sendable, crosses, fields)

pub shop_sync : (D C : RattleType) (g : disk.Ghosts D.Denot) (e : Dict) (h : clock.Ghosts C.Denot) (f : Dict) → IsSend D →
    IsSend C → IsSync (shop.the_row D C g h)
shop_sync D C g e h f d c =
    let k = kept_send D C g h d c in
    let l = lock.the_field_sync (kept.the_row D C g h) item.the_row (root.the_row C) (recorded.ghosts D C g e h f) k in
    let fields : IsSync (Struct (shape (shop.the_type D C g h))) = struct_sync (shape (shop.the_type D C g h)) (l, tt) in
    search (sendable, crosses, fields)

pub till_field_send : (D C : RattleType) (g : disk.Ghosts D.Denot) (h : clock.Ghosts C.Denot) → IsSend D → IsSend C →
    IsSend (till.the_field D C g h).row
till_field_send D C g h d c = till_fields D C g h d c

seat_fields : (D C : RattleType) (g : disk.Ghosts D.Denot) (h : clock.Ghosts C.Denot) → IsSend D → IsSend C →
    IsSend (Struct (shape (seat.the_type D C g h)))
seat_fields D C g h d c =
    let k = kept_send D C g h d c in
    let p = pass.the_field_send (kept.the_row D C g h) item.the_row (root.the_row C) k in
    struct_send (shape (seat.the_type D C g h)) (p, tt)

pub seat_send : (D C : RattleType) (g : disk.Ghosts D.Denot) (h : clock.Ghosts C.Denot) → IsSend D → IsSend C →
    IsSend (seat.the_row D C g h)
seat_send D C g h d c = let fields = seat_fields D C g h d c in search (sendable, crosses, fields)

pub seat_field_send : (D C : RattleType) (g : disk.Ghosts D.Denot) (h : clock.Ghosts C.Denot) → IsSend D → IsSend C →
    IsSend (seat.the_field D C g h).row
seat_field_send D C g h d c = seat_fields D C g h d c
