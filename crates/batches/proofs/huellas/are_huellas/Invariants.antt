use Rattle.std.proofs.Common.{◌≡◌, take}
use Rattle.batches.specs.Batches.{huellas_of}
use Rattle.batches.proofs.huellas.are_huellas.Given as goal

abbrev pub invariant-loop-i : goal.invariant-loop-i
invariant-loop-i l = take l.i l.list ≡ huellas_of (take l.i l.records)
