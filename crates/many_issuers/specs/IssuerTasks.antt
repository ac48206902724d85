-- The issuers of an installation, from their posts to their jobs.
use Rattle.std.specs.Prelude.{◌≡◌, ◌≤◌, ℕ, List, [], map, length, All, Some, Result, Ok, Err, IfOk, vec_capacity}
use Rattle.ports.specs.declared.Clock as clock
use Rattle.ports.specs.declared.faults.NoMemory.{NoMemory}
use Rattle.chain_disk.specs.declared.disk.Disk as disk
use Rattle.chain_store.specs.Replies.{Replies}
use Rattle.chain_store.specs.declared.store.Store.{Store}
use Rattle.issuers.specs.Office.{AreOwn}
use Rattle.issuers.specs.Parts.{HasLines}
use Rattle.parties.specs.declared.limits.TheConstants.{MAX_ISSUERS}
use Rattle.issuers.specs.declared.parts.Part.{Part}
use Rattle.till_calls.specs.Root.{parts_of}
use Rattle.sender_session.specs.Kinds.{store_kind}
use Rattle.many_issuers.specs.IssuerFiles.{AreOpened, HasRoom, IsClosed, Start}
use Rattle.many_issuers.specs.Served.{ServedAt}
use Rattle.many_issuers.specs.Work.{Told}
use Rattle.shop_drain.specs.Opening.{IsOpened}
use Rattle.many_issuers.specs.declared.opening.Installation.{Installation}
use Rattle.many_issuers.specs.declared.running.RunRoom.{RunRoom}
use Rattle.many_issuers.specs.declared.working.IssuerJob.{IssuerJob}
use Rattle.many_issuers.specs.declared.working.IssuerTask.{IssuerTask}
use Rattle.many_issuers.specs.declared.working.IssuerTask.TheVariants.{Closed, Open}
use Rattle.shop_drain.specs.declared.opening.Opened.{Opened}

-- room for this many issuers, of whom none stands there yet
pub record HasRoomFor {D C Z G : Type 0} {g : disk.Ghosts D} (count : ℕ) (room : RunRoom D C Z G g) : Type 0 where
  pub no_issuer_files : (room.installation.issuer_files.items ≡ []) × (room.installation.stores.items ≡ []) × (room.installation.parts.items ≡ [])
  pub installation : HasRoom count room.installation
  pub no_jobs : room.jobs.items ≡ []
  pub jobs : count ≤ vec_capacity room.jobs
  pub no_dones : room.dones.items ≡ []
  pub dones : count ≤ vec_capacity room.dones

-- the replies, where there was memory for all answers and for these
abbrev pub TellsReplies : Replies → Result (Unit {0}) NoMemory → Told → Type 0
TellsReplies replies (Ok done) replied = IfOk replied (λ list. list.items ≡ replies)
TellsReplies replies (Err fault) replied = replied ≡ Err fault

module _ {D C Z G : Type 0} (d : disk.Ghosts D) (c : clock.Ghosts C) where
  -- a few distinct issuers, whose files were tried
  pub record Installed (installation : Installation D C Z G d) : Type 0 where
    pub starts : List (Start D C Z G)
    pub opened : AreOpened d c starts installation.issuer_files.items installation.stores.items installation.parts.items
    pub few : length starts ≤ MAX_ISSUERS
    pub distinct : AreOwn (map (λ (s : Start D C Z G). s.issuer) starts)
    pub lines : All (λ (s : Start D C Z G). HasLines s.part) starts

  -- its file was opened, and its commands were answered: the store at first and now, and the replies
  pub record IsAnswered (s : Start D C Z G) (issuer : List ℕ) (part : Part) (told : Told) (now : Opened D C Z G d) : Type 0 where
    pub issuer_is : issuer ≡ s.issuer
    pub part_is : part ≡ s.part
    pub sleeper_is : now.sleeper ≡ s.post.sleeper
    pub agency_is : now.agency ≡ s.post.agency
    pub first : Store D C d
    pub opened : IsOpened s.issuer (store_kind d c) s.post.disk s.post.clock (parts_of first)
    pub all : Result (Unit {0}) NoMemory
    pub replies : Replies
    pub served : ServedAt d c part first now.store replies all
    pub tells : TellsReplies replies all told

  abbrev pub IsTaskOf : Start D C Z G → IssuerTask D C Z G d → Type 0
  IsTaskOf s (Closed issuer unopened) = IsClosed d c s issuer unopened
  IsTaskOf s (Open issuer part told opened) = IsAnswered s issuer part told opened

  -- the job of an issuer
  pub record IsTasked (s : Start D C Z G) (job : IssuerJob D C Z G d) : Type 0 where
    pub task : IssuerTask D C Z G d
    pub is : job.task ≡ Some task
    pub own : IsTaskOf s task
