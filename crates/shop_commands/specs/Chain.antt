-- How `chain` ends.
use Rattle.std.specs.Prelude.{◌≡◌, ◌⊎◌, ℕ, List, [], Option}
use Rattle.ports.specs.Sinks.{Sinks}
use Rattle.chain_disk.specs.Disks.{Disks, DiskRose}
use Rattle.shop_core.specs.Answer.Requests.{Asked}
use Rattle.script.specs.declared.forms.Form.TheVariants.{Full}
use Rattle.script.specs.declared.scripts.Script.{Script}
use Rattle.report.specs.declared.status.Detail.{Detail}
use Rattle.report.specs.declared.status.Detail.TheVariants as detail
use Rattle.chain_store.specs.Runs.{Answers, Stores}
use Rattle.shop_drain.specs.Devices.{Devices, Untouched}
use Rattle.command_ends.specs.Ending.{RunEnds}
use Rattle.shop_drain.specs.Opening.{NoRoom, NotOpened}
use Rattle.command_ends.specs.Printed.{printed}
use Rattle.chain_store.specs.Readings.{readings_of, LeavesClock}
use Rattle.chain_store.specs.Replies.{Replies}
use Rattle.command_ends.specs.Scripts.{ScriptedEnds}
use Rattle.command_ends.specs.Played.{Played}

-- nothing was done for lack of memory; the file couldn't be opened; or the commands were run, and this is how the run ended
abbrev pub ScriptEnds : {D : Type 0} → List ℕ → List Asked → (ℕ → Option ℕ) → (Replies → Type 0) → Sinks → Disks D →
    Detail → Type 0
ScriptEnds issuer asks coming Leaves s k end =
    NoRoom (Leaves []) s k end
    ⊎ NotOpened issuer (Leaves []) s k end
    ⊎ ((p : Played issuer asks coming Leaves k) × RunEnds p.replies (printed asks p.replies p.end) s end)

-- the commands were run on an opened store, and this is how the run ended
abbrev pub StoreEnds : {D C : Type 0} → List Asked → Stores D C → Sinks → Detail → Type 0
StoreEnds asks s sink end =
    (replies : Replies) × Answers asks replies s × RunEnds replies (printed asks replies s.end) sink end

-- what `chain` did with a script
pub record ChainRan {D C : Type 0} (issuer : List ℕ) (d : Devices D C) (script : Script) (end : Detail) : Type 0 where
  pub ends : ScriptEnds issuer script.asks (readings_of script.clock (d.clock.coming d.clock.clock))
      (LeavesClock d.clock script.clock) d.sink d.disk end
  --= `chain` ends with 6 only where the disk's count of faults rose: in opening, or at a command.
  --= No body: it is of `open` and of `Store::take`
  pub risen : end ≡ detail.DiskFault → DiskRose d.disk

-- what `chain` did, and how it ended
abbrev pub ChainEnds : {D C : Type 0} → List ℕ → Devices D C → Detail → Type 0
ChainEnds issuer d end = ScriptedEnds Full d.source (Untouched d) (ChainRan issuer d) end
