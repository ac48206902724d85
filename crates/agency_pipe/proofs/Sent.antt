-- What goes to another thread.
use denote.RattleType.{RattleType}
use denote.Param.Send.{IsSend, IsSync, sendable, struct_send}
use denote.Ref.{NamedLft}
use denote.Struct.Struct.{Struct}
use denote.Struct.Declared.{shape}
use Rattle.std.proofs.Crossing.{crosses}
use Rattle.std.specs.declared.fs.File.{File}
use Rattle.std.specs.declared.io.traits.Read as Read
use Rattle.std.specs.declared.io.traits.Write as Write
use Rattle.std.specs.declared.io.traits.Seek as Seek
use Rattle.agency_pipe.proofs.log.Log.TheSendSync.{the_send as log_send}
use Rattle.agency_pipe.specs.contracts.message_log.MessageLog as said
use Rattle.agency_pipe.specs.contracts.message_log.Asked as asked
use Rattle.agency_pipe.specs.contracts.ends.PipeSource as pipe_source
use Rattle.agency_pipe.specs.contracts.ends.PipeSink as pipe_sink
use Rattle.agency_pipe.specs.contracts.pipe.PipeAgency as agency
use Rattle.agency_pipe.specs.contracts.patient.Patient as patient

asked_send : IsSend asked.the_row
asked_send = search (sendable, crosses) depth 100 fits 20000

said_fields : IsSend (Struct (shape said.the_type))
said_fields = let l = log_send asked.the_row asked_send in struct_send (shape said.the_type) (l, tt)

agency_fields : (S K : RattleType) → IsSend S → IsSend K → IsSend (Struct (shape (agency.the_type S K)))
agency_fields S K s k =
    struct_send (shape (agency.the_type S K)) (
      s,
      (
        k,
        (
          search (sendable, crosses) depth 100 fits 20000,
          (
            search (sendable, crosses) depth 100 fits 20000,
            (
              search (sendable, crosses) depth 100 fits 20000,
              (
                search (sendable, crosses) depth 100 fits 20000,
                (
                  search (sendable, crosses) depth 100 fits 20000,
                  (
                    search (sendable, crosses) depth 100 fits 20000,
                    (
                      search (sendable, crosses) depth 100 fits 20000,
                      (search (sendable, crosses) depth 100 fits 20000, (search (sendable, crosses) depth 100 fits 20000, (said_fields, tt))),
                    ),
                  ),
                ),
              ),
            ),
          ),
        ),
      ),
    )

agency_send : (S K : RattleType) → IsSend S → IsSend K → IsSend (agency.the_row S K)
agency_send S K s k = let fields = agency_fields S K s k in search (sendable, crosses, fields)

source_fields : (a : NamedLft) (R T : RattleType) (r : Read.Ghosts File) (w : Write.Ghosts File) (s : Seek.Ghosts File)
    (d : Read.Ghosts T.Denot) → IsSync R → IsSend (Struct (shape (pipe_source.the_type a R T r w s d)))
source_fields a R T r w s d y = struct_send (shape (pipe_source.the_type a R T r w s d)) (
  search (sendable, crosses, y),
  (
    search (sendable, crosses),
    (
      search (sendable, crosses) depth 100 fits 20000,
      (
        search (sendable, crosses),
        (search (sendable, crosses), (search (sendable, crosses), (search (sendable, crosses) depth 100 fits 20000, tt))),
      ),
    ),
  ),
)

sink_fields : (a : NamedLft) (R T : RattleType) → IsSync R → IsSend (Struct (shape (pipe_sink.the_type a R T)))
sink_fields a R T y = struct_send (shape (pipe_sink.the_type a R T)) (
  search (sendable, crosses, y),
  (search (sendable, crosses), (search (sendable, crosses) depth 100 fits 20000, (search (sendable, crosses) depth 100 fits 20000, tt))),
)

source_send : (a : NamedLft) (R T : RattleType) (r : Read.Ghosts File) (w : Write.Ghosts File) (s : Seek.Ghosts File)
    (d : Read.Ghosts T.Denot) → IsSync R → IsSend (pipe_source.the_row a R T r w s d)
source_send a R T r w s d y = let fields = source_fields a R T r w s d y in search (sendable, crosses, fields)

sink_send : (a : NamedLft) (R T : RattleType) → IsSync R → IsSend (pipe_sink.the_row a R T)
sink_send a R T y = let fields = sink_fields a R T y in search (sendable, crosses, fields)

-- The agency at the other end of two files.
pub files_send : (a b : NamedLft) (R T : RattleType) (r : Read.Ghosts File) (w : Write.Ghosts File) (s : Seek.Ghosts File)
    (d : Read.Ghosts T.Denot) → IsSync R → IsSend (agency.the_row (pipe_source.the_row a R T r w s d) (pipe_sink.the_row b R T))
files_send a b R T r w s d y = agency_send _ _ (source_send a R T r w s d y) (sink_send b R T y)

patient_fields : (a : NamedLft) (R G : RattleType) → IsSync R → IsSend G → IsSend (Struct (shape (patient.the_type a R G)))
patient_fields a R G y s = struct_send (shape (patient.the_type a R G)) (search (sendable, crosses, y), (s, (search (sendable, crosses), tt)))

-- An agency with pauses, around one that may go.
pub patient_send : (a : NamedLft) (R G : RattleType) → IsSync R → IsSend G → IsSend (patient.the_row a R G)
patient_send a R G y s = let fields = patient_fields a R G y s in search (sendable, crosses, fields)
