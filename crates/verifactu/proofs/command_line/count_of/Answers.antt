use Rattle.std.proofs.Common.{ℕ, Option, arith, subst, sym}
use Rattle.verifactu.specs.CommandLine.{IsCount}
use Rattle.verifactu.proofs.Counts.{count_is, counted, no_count}
use Rattle.verifactu.proofs.command_line.count_of.Goals as goal

pub returns-in_err-n : goal.returns-in_err-n
returns-in_err-n c =
    subst (λ (n : Option ℕ). IsCount c.args.word.now n) (sym c.from_residual.ensures)
    (no_count c.args.word.now (rw c.as_bytes.ensures.value at c.in_err-n.ensures.none))

pub returns-then-n-lt1 : goal.returns-then-n-lt1
returns-then-n-lt1 c = λ n h.
    let is = count_is c.args.word.now c.in_ok-n.n n (rw c.as_bytes.ensures.value at c.in_ok-n.ensures.value) h in
    omega (arith, h.range)

pub returns-then-n-from : goal.returns-then-n-from
returns-then-n-from c = λ n h.
    let is = count_is c.args.word.now c.in_ok-n.n n (rw c.as_bytes.ensures.value at c.in_ok-n.ensures.value) h in
    omega (arith, h.range)

pub returns : goal.returns
returns c =
    counted c.args.word.now c.in_ok-n.n (rw c.as_bytes.ensures.value at c.in_ok-n.ensures.text)
    (rw c.as_bytes.ensures.value at c.in_ok-n.ensures.value) (omega arith, omega arith)
