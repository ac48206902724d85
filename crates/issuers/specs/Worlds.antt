-- Two installations that agree on one issuer.
use Rattle.std.specs.Prelude.{◌≡◌, ◌≢◌, ℕ, List, Option, Some, None, Ok, Err, Result, slice_get}
use Rattle.std.specs.List.{AllByRecursion}
use Rattle.ports.specs.Causes.{Rose}
use Rattle.ports.specs.declared.Clock as clock
use Rattle.chain_disk.specs.declared.disk.Disk as disk
use Rattle.journal.specs.Journal.{disk_of, stopped_of}
use Rattle.journal.specs.declared.faults.StoreFault.{StoreFault}
use Rattle.journal.specs.declared.faults.StoreFault.TheVariants.{NoMemory}
use Rattle.record_codec.specs.declared.entry.Entry.{Entry}
use Rattle.shop_core.specs.History.{History}
use Rattle.shop_core.specs.Answer.Requests.{Asked}
use Rattle.shop_core.specs.declared.answer.Reply.{Reply}
use Rattle.chain_store.specs.Store.{clock_of, journal_of, state_of}
use Rattle.chain_store.specs.declared.store.Store.{Store}
use Rattle.chain_store.specs.Replies.{Replies}
use Rattle.issuers.specs.Serving.{Served, replies_to}
use Rattle.issuers.specs.declared.answers.OfficeAnswer.{OfficeAnswer}
use Rattle.issuers.specs.declared.parts.Part.{Part}

-- the issuer of this index in one call of `serve`: its store before and after, and its part
pub record Seat {D C : Type 0} (d : disk.Ghosts D) (c : clock.Ghosts C) (parts : List Part) (before after : List (Store D C d))
    (index : ℕ) : Type 0 where
  pub old : Store D C d
  pub new : Store D C d
  pub part : Part
  pub was : slice_get before index ≡ Some old
  pub is : slice_get after index ≡ Some new
  pub own : slice_get parts index ≡ Some part

-- its journal wasn't stopped at the start, its disk had no fault, and no answer to it was lack of memory
pub record IsUndisturbed {D C : Type 0} (d : disk.Ghosts D) (old new : Store D C d) (replies : Replies) : Type 0 where
  pub going_on : stopped_of (journal_of old) ≡ None
  pub no_fault : Rose (d.faults (disk_of (journal_of old))) (d.faults (disk_of (journal_of new))) → ⊥
  pub memory : AllByRecursion (λ (r : Result Reply StoreFault). r ≢ Err NoMemory) replies

-- two installations agree on an issuer: its tax number, history and file version, its asks, and the answers that its clock tells to
-- come
pub record AgreeOn (one other : History) (asks asks' : List Asked) (coming coming' : ℕ → Option ℕ) : Type 0 where
  pub issuer : one.issuer ≡ other.issuer
  pub version : one.version ≡ other.version
  pub entries : one.entries ≡ other.entries
  pub asks_are : asks ≡ asks'
  pub readings : (k : ℕ) → (second : ℕ) × (coming k ≡ Some second) × (coming' k ≡ Some second)

-- it gets equal answers, and its history is then equal
pub record SameWorld (replies replies' : Replies) (history history' : List Entry) : Type 0 where
  pub replies_are : replies ≡ replies'
  pub history_is : history ≡ history'

-- what holds of two issuers with these seats, one in each of two installations that served to their ends
abbrev pub IsOneWorld : {D C E F : Type 0} (d : disk.Ghosts D) (c : clock.Ghosts C) (e : disk.Ghosts E) (f : clock.Ghosts F)
    (parts parts' : List Part) (before after : List (Store D C d)) (before' after' : List (Store E F e))
    (answers answers' : List OfficeAnswer) (index index' : ℕ) → Type 0
IsOneWorld d c e f parts parts' before after before' after' answers answers' index index' =
    (a : Seat d c parts before after index) → (b : Seat e f parts' before' after' index') →
    AgreeOn (state_of a.old) (state_of b.old) a.part.script.asks b.part.script.asks (c.coming (clock_of a.old))
    (f.coming (clock_of b.old)) →
    IsUndisturbed d a.old a.new (replies_to index answers) → IsUndisturbed e b.old b.new (replies_to index' answers') →
    SameWorld (replies_to index answers) (replies_to index' answers') (state_of a.new).entries (state_of b.new).entries

-- Whatever the other issuers of two installations do, an issuer that both agree on, and that is disturbed in neither, has the same
-- world in both.
abbrev pub OwnWorlds : {D C E F : Type 0} → disk.Ghosts D → clock.Ghosts C → disk.Ghosts E → clock.Ghosts F → Type 0
OwnWorlds {D} {C} {E} {F} d c e f =
    (parts parts' : List Part) (before after : List (Store D C d)) (before' after' : List (Store E F e))
    (answers answers' : List OfficeAnswer) (index index' : ℕ) →
    Served d c parts before after answers (Ok tt) → Served e f parts' before' after' answers' (Ok tt) →
    IsOneWorld d c e f parts parts' before after before' after' answers answers' index index'

-- the same of one installation and every other one of its kind
abbrev pub HasOwnWorlds : {D C : Type 0} (d : disk.Ghosts D) (c : clock.Ghosts C) (parts : List Part)
    (before after : List (Store D C d)) (answers : List OfficeAnswer) → Type 0
HasOwnWorlds {D} {C} d c parts before after answers =
    (parts' : List Part) (before' after' : List (Store D C d)) (answers' : List OfficeAnswer) (index index' : ℕ) →
    Served d c parts' before' after' answers' (Ok tt) →
    IsOneWorld d c d c parts parts' before after before' after' answers answers' index index'
