use Rattle.std.proofs.Common.{◌≡◌, take}
use Rattle.batches.specs.Batches.{huellas_of}
use Rattle.batches.proofs.huellas.HuellaList.of.Given as goal

abbrev pub invariant-loop-i : goal.invariant-loop-i
invariant-loop-i l = l.list.items ≡ huellas_of (take l.i l.waiting)
