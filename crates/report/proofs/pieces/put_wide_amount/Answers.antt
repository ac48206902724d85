use Rattle.std.specs.Int.{w128}
use Rattle.std.proofs.lemmas.Int.{to_z-of_z}
use Rattle.report.proofs.Cents.{on_ok, negative, positive}
use Rattle.report.proofs.pieces.put_wide_amount.Goals as goal

pub returns-in_ok-put : goal.returns-in_ok-put
returns-in_ok-put c =
    let same = to_z-of_z w128 c.args.cents c.ranges.cents in
    let told = rw c.in_ok-put.ensures at c.put_cents.ensures in
    let size = rw (c.unsigned_abs.ensures.value, same) at told in
    let sign = rw same at c.if-cents-lt0.true in
    on_ok c.put_cents.result (negative c.args.cents c.args.text.now.items c.put_cents.new.text.items sign) size

pub returns-else-cents-lt0 : goal.returns-else-cents-lt0
returns-else-cents-lt0 c =
    let same = to_z-of_z w128 c.args.cents c.ranges.cents in
    let size = rw (c.unsigned_abs-else-cents-lt0.ensures.value, same) at c.put_cents-else-cents-lt0.ensures in
    let sign = rw same at c.if-cents-lt0.false in
    on_ok c.put_cents-else-cents-lt0.result (positive c.args.cents c.args.text.now.items c.put_cents-else-cents-lt0.new.text.items
    sign) size
