use denote.Param.Send.{sendable}
use Rattle.std.proofs.Crossing.{crosses}
use Rattle.agency_pipe.proofs.Sent.{files_send, patient_send}
use Rattle.agency_pipe.proofs.laws.patient_may_cross_threads.Goals as goal

pub crosses-requires-send-G : goal.crosses-requires-send-G
crosses-requires-send-G g c κs within = let y = c.type_bounds.sync-R in search (sendable, crosses, files_send, patient_send) depth 100
