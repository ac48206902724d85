use Rattle.std.proofs.Common.{arith}
use Rattle.verifactu.proofs.Counts.{one_count}
use Rattle.verifactu.proofs.command_line.workers_of.Goals as goal

pub returns-then-n-from : goal.returns-then-n-from
returns-then-n-from c = λ n h.
    let same = one_count c.args.word.now n c.in_ok-n.n h.count c.in_ok-n.ensures in
    let few = h.few in
    omega (arith, same, few)
