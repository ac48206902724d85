use Rattle.std.proofs.Common.{arith}
use Rattle.report.proofs.Cents.{on_ok, cents_joined}
use Rattle.report.proofs.pieces.put_cents.Goals as goal

pub returns : goal.returns
returns c =
    let told = rw c.in_ok-put.ensures at c.put_pair.ensures in
    let whole = rw c.in_ok-put_wide.ensures at told in
    on_ok c.put_pair.result (cents_joined c.args.text.now.items c.put_pair.new.text.items c.args.cents (omega arith)) whole
