-- What a command works by may go to another thread.
use denote.RattleType.{RattleType}
use denote.Ref.{NamedLft}
use denote.Param.Send.{IsSend, IsSync, sendable, shr_sync, struct_sync}
use denote.Struct.Struct.{Struct}
use denote.Struct.Declared.{shape}
use Rattle.std.proofs.Crossing.{crosses}
use Rattle.sender_session.specs.contracts.means.Means as means

pub means_send : (a : NamedLft) (R T : RattleType) → IsSync R → IsSync T → IsSend (means.the_row a R T)
means_send a R T r t = search (sendable, crosses, r, t) depth 100 fits 20000

pub means_sync : (a : NamedLft) (R T : RattleType) → IsSync R → IsSync T → IsSync (means.the_row a R T)
means_sync a R T r t =
    let fields : IsSync (Struct (shape (means.the_type a R T))) =
    struct_sync (shape (means.the_type a R T)) (shr_sync _ _ _ r, (search (sendable, crosses), (shr_sync _ _ _ t, tt))) in
    search (sendable, crosses, fields)
