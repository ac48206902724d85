-- The readings of the clock that a run's commands are answered by.
use Rattle.std.specs.Prelude.{◌≡◌, ℕ, count_by, Bool, true, false, Option, Some, None, Result, Err}
use Rattle.ports.specs.Counting.{counting}
use Rattle.ports.specs.Readings.{IsTold, MovedBy}
use Rattle.journal.specs.declared.faults.StoreFault.{StoreFault}
use Rattle.journal.specs.declared.faults.StoreFault.TheVariants.{Stopped}
use Rattle.shop_core.specs.declared.answer.Reply.{Reply}
use Rattle.chain_store.specs.Clocks.{Clocks, LeftClock}
use Rattle.chain_store.specs.Replies.{Replies}

-- whether the clock was read for a reply: for each but those of a journal that had stopped
abbrev pub has_read : Result Reply StoreFault → Bool
has_read (Err (Stopped faults)) = false
has_read _ = true

-- how often the clock was read for these replies
abbrev pub readings : Replies → ℕ
readings replies = count_by has_read replies

-- the reading after these replies: the clock's coming answer of their number of readings
abbrev pub IsComing : (ℕ → Option ℕ) → Replies → ℕ → Type 0
IsComing coming replies seconds = IsTold (coming (readings replies)) seconds

-- the coming answers that a script's run reads: those of its clock line START, START + STEP, .., where it has one
abbrev pub readings_of : Option (ℕ × ℕ) → (ℕ → Option ℕ) → ℕ → Option ℕ
readings_of None coming = coming
readings_of (Some line) coming = λ k. Some (counting line.0 line.1 k)

-- a coming answer was given for each of these readings; a clock that wasn't read is as it was
pub record IsAsked {C : Type 0} (t : Clocks C) (count : ℕ) : Type 0 where
  pub moved : MovedBy count (t.coming t.clock) (t.coming t.clock_after)
  pub untouched : count ≡ 0 → LeftClock t

-- what these replies leave of the clock that was handed in, which a clock line replaces
abbrev pub LeavesClock : {C : Type 0} → Clocks C → Option (ℕ × ℕ) → Replies → Type 0
LeavesClock t None replies = IsAsked t (readings replies)
LeavesClock t (Some line) replies = LeftClock t
