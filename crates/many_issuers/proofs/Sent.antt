-- What goes to other threads of an installation: its jobs.
use denote.RattleType.{RattleType}
use denote.Param.Send.{IsSend, enum_send, sendable, struct_send}
use denote.Enum.Declared.{shape as enum_shape}
use denote.Struct.Struct.{Struct}
use denote.Struct.Declared.{shape}
use Rattle.std.proofs.Crossing.{crosses}
use Rattle.chain_disk.specs.declared.disk.Disk as disk
use Rattle.agency_rules.specs.contracts.plans.Plan as plan
use Rattle.issuers.specs.contracts.parts.Part as part
use Rattle.script.specs.contracts.scripts.Script as script
use Rattle.shop_drain.specs.contracts.opening.Opened as opened
use Rattle.shop_drain.specs.contracts.opening.Unopened as unopened
use Rattle.shop_drain.specs.contracts.posts.Post as post
use Rattle.many_issuers.specs.contracts.working.Done as done
use Rattle.many_issuers.specs.contracts.working.IssuerJob as job
use Rattle.many_issuers.specs.contracts.working.IssuerTask as task

post_fields : (D C Z G : RattleType) → IsSend D → IsSend C → IsSend Z → IsSend G → IsSend (Struct (shape (post.the_type D C Z G)))
post_fields D C Z G d c z a = struct_send (shape (post.the_type D C Z G)) (d, (c, (z, (a, tt))))

opened_fields : (D C Z G : RattleType) (g : disk.Ghosts D.Denot) → IsSend D → IsSend C → IsSend Z → IsSend G →
    IsSend (Struct (shape (opened.the_type D C Z G g)))
opened_fields D C Z G g d c z a =
    struct_send (shape (opened.the_type D C Z G g)) (search (sendable, crosses) depth 100 fits 20000, (z, (a, tt)))

unopened_fields : (D C Z G : RattleType) → IsSend D → IsSend C → IsSend Z → IsSend G →
    IsSend (Struct (shape (unopened.the_type D C Z G)))
unopened_fields D C Z G d c z a = struct_send (shape (unopened.the_type D C Z G)) (
  search (sendable, crosses) depth 100 fits 20000,
  (post_fields D C Z G d c z a, tt),
)

done_fields : (D C Z G : RattleType) → IsSend D → IsSend C → IsSend Z → IsSend G → IsSend (Struct (shape (done.the_type D C Z G)))
done_fields D C Z G d c z a = struct_send (shape (done.the_type D C Z G)) (
  post_fields D C Z G d c z a,
  (search (sendable, crosses) depth 100 fits 20000, (search (sendable, crosses) depth 100 fits 20000, tt)),
)

plan_fields : IsSend (Struct (shape plan.the_type))
plan_fields = struct_send (shape plan.the_type) (
  search (sendable, crosses) depth 100 fits 20000,
  (search (sendable, crosses) depth 100 fits 20000, (search (sendable, crosses) depth 100 fits 20000, tt)),
)

script_fields : IsSend (Struct (shape script.the_type))
script_fields = struct_send (shape script.the_type) (
  search (sendable, crosses) depth 100 fits 20000,
  (search (sendable, crosses) depth 100 fits 20000, (plan_fields, tt)),
)

part_fields : IsSend (Struct (shape part.the_type))
part_fields = struct_send (shape part.the_type) (script_fields, (search (sendable, crosses) depth 100 fits 20000, tt))

task_field_send : (D C Z G : RattleType) (g : disk.Ghosts D.Denot) → IsSend D → IsSend C → IsSend Z → IsSend G →
    IsSend (task.the_field D C Z G g).row
task_field_send D C Z G g d c z a = enum_send (enum_shape (task.the_type D C Z G g)) (
  (search (sendable, crosses) depth 100 fits 20000, (unopened_fields D C Z G d c z a, tt)),
  (
    (
      search (sendable, crosses) depth 100 fits 20000,
      (
        part_fields,
        (search (sendable, crosses) depth 100 fits 20000, (opened_fields D C Z G g d c z a, tt)),
      ),
    ),
    tt,
  ),
)

pub job_send : (D C Z G : RattleType) (g : disk.Ghosts D.Denot) → IsSend D → IsSend C → IsSend Z → IsSend G →
    IsSend (job.the_row D C Z G g)
job_send D C Z G g d c z a =
    let t = task_field_send D C Z G g d c z a in
    let f = done_fields D C Z G d c z a in
    let fields : IsSend (Struct (shape (job.the_type D C Z G g))) =
    struct_send (shape (job.the_type D C Z G g)) (
      search (sendable, crosses, t) depth 100 fits 20000,
      (search (sendable, crosses, f) depth 100 fits 20000, tt),
    ) in
    search (sendable, crosses, fields)
