use Rattle.std.proofs.Common.{◌≡◌, take}
use Rattle.batches.specs.Batches.{ids_of}
use Rattle.batches.proofs.asked.ids_in.Given as goal

abbrev pub invariant-loop-i : goal.invariant-loop-i
invariant-loop-i l = l.ids.items ≡ ids_of (take l.i l.records)
