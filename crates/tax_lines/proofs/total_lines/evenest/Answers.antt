use Rattle.std.proofs.Common.{arith}
use Rattle.tax_lines.proofs.Splitting.{no_pair, at_least}
use Rattle.tax_lines.proofs.total_lines.evenest.Goals as goal
use Rattle.tax_lines.proofs.total_lines.evenest.Goals.{then-half-second-via-then-half-second, then-half-second-via-else-half-second+then-first-gt-MAX_BASE}

pub returns-then-half-second-clause-none : goal.returns-then-half-second-clause-none
returns-then-half-second-clause-none c = λ none a b is e.
    let least = at_least c.args.key c.args.total c.args.sum c.loop-half.half c.loop-half.invariant a b is e in
    let limit = is.limit in
    elim c.then-half-second.branch [
      | then-half-second-via-then-half-second w ↦ omega (arith, least, e, w.if-half-second.true)
      | then-half-second-via-else-half-second+then-first-gt-MAX_BASE w ↦ omega (arith, least, limit, w.if-first-gt-MAX_BASE.true)
    ]

pub returns-then-gross-total-clause-even : goal.returns-then-gross-total-clause-even
returns-then-gross-total-clause-even c = λ a b is e.
    at_least c.args.key c.args.total c.args.sum c.loop-half.half c.loop-half.invariant a b is e

pub returns-clause-none : goal.returns-clause-none
returns-clause-none c = λ none a b is e.
    no_pair c.args.key c.args.total c.args.sum
    (λ h low inside. c.loop-half.invariant h (omega (arith, low, c.loop-half-test.false)) inside) a b is e
