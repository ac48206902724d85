-- What a drain's end says.
use Rattle.chain_disk.specs.declared.disk.Disk.{Ghosts}
use Rattle.standby.specs.Pairs.{both_of}
use Rattle.till_calls.specs.Root.{parts_of}
use Rattle.shop_drain.specs.Draining.{Outcome, torn_in}
use Rattle.shop_drain.specs.Guarding.{outcome_by}
use Rattle.shop_drain.specs.declared.draining.DrainEnd.{DrainEnd}
use Rattle.shop_drain.specs.declared.guarding.GuardEnd.{GuardEnd}

abbrev pub outcome_of : {D C Z G : Type 0} {g : Ghosts D} → DrainEnd D C Z G g → Outcome
outcome_of e = record {
  end = (parts_of e.opened.store).state.entries;
  torn = torn_in (parts_of e.opened.store).stopped (parts_of e.opened.store).torn;
  turns = e.turns;
  answer = e.answer;
}

-- what the end of a drain of both says
abbrev pub guard_outcome : {D C M Z G : Type 0} {g : Ghosts D} → GuardEnd D C M Z G g → Outcome
guard_outcome e = outcome_by (both_of e.opened.store e.standby) e.turns e.answer
