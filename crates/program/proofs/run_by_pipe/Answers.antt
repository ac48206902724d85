use denote.Param.Send.{sendable}
use Rattle.std.proofs.Crossing.{crosses}
use Rattle.agency_pipe.proofs.Sent.{files_send, patient_send}
use Rattle.program.proofs.run_by_pipe.Goals as goal

pub run_with-requires-send-G : goal.run_with-requires-send-G
run_with-requires-send-G g c κs within = search (sendable, crosses, files_send, patient_send) depth 100
