-- How `many` ends where its source is no script for its issuers.
use Rattle.std.proofs.Common.{ℕ, List, Err}
use Rattle.ports.specs.Sinks.{Sinks}
use Rattle.ports.specs.Sources.{Sources}
use Rattle.ports.specs.declared.Clock as clock
use Rattle.ports.specs.declared.sleeper.Sleeper as sleeper
use Rattle.chain_disk.specs.declared.disk.Disk as disk
use Rattle.agency_port.specs.declared.agency.Agency as agency
use Rattle.many_issuers.specs.Ends.{LeftPosts, ManyEnds}
use Rattle.many_issuers.specs.Ends.ManyEnds.{bad_line, no_memory, read_fault, too_big}
use Rattle.many_issuers.specs.Scripts.{PartsRead}
use Rattle.command_ends.specs.Scripts.{no_script_end}
use Rattle.shop_drain.specs.declared.posts.Post.{Post}
use Rattle.command_ends.specs.declared.scripts.NoScript.{NoScript}
use Rattle.command_ends.specs.declared.scripts.NoScript.TheVariants as no_script

pub many_unread : {D C Z G : Type 0} (d : disk.Ghosts D) (c : clock.Ghosts C) (z : sleeper.Ghosts Z) (g : agency.Ghosts G)
    (issuers : List (List ℕ)) (source : Sources) (s : Sinks) (posts after : List (Post D C Z G)) (fault : NoScript) →
    PartsRead issuers source (Err fault) → LeftPosts posts after s →
    ManyEnds d c z g issuers source s posts after (no_script_end fault)
many_unread d c z g issuers source s posts after no_script.ReadFault is left = read_fault is left
many_unread d c z g issuers source s posts after no_script.TooBig is left = too_big is left
many_unread d c z g issuers source s posts after (no_script.BadLine line fault) is left = bad_line line fault is left
many_unread d c z g issuers source s posts after no_script.NoMemory is left = no_memory left
