use Rattle.std.proofs.Common.{sym, arith}
use Rattle.std.proofs.lemmas.List.{take_all, length-take-le}
use Rattle.batches.proofs.batch.first_of.Goals as goal

pub returns-then-records : goal.returns-then-records
returns-then-records c = sym (take_all 1000 c.args.records.now c.if-records.true)

pub slice_bounds-result-end : goal.slice_bounds-result-end
slice_bounds-result-end c = sym (length-take-le 1000 c.args.records.now (omega arith))
