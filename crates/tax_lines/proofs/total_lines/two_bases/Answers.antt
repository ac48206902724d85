use Rattle.std.proofs.Common.{IfSome, Option, Some, None}
use Rattle.std.specs.Prelude.{List, ℕ}
use Rattle.tax_lines.specs.Keys.{Key}
use Rattle.tax_lines.specs.TotalLines.{IsFirst, IsNearest}
use Rattle.tax_lines.proofs.Nearness.{IsQuotient}
use Rattle.tax_lines.proofs.Ordering.{IsSorted, rising, falling, rising_sorted, falling_sorted, two_at_least, first_is_nearest, none_at_all}
use Rattle.tax_lines.proofs.total_lines.two_bases.Goals as goal

nearest : (key : Key) (total near : ℕ) (sums : List ℕ) → IsQuotient key total near → IsSorted key total near sums →
    (found : Option (ℕ × ℕ)) → IfSome found (λ two. IsFirst key total sums two.0 two.1) →
    IfSome found (λ two. IsNearest key total two.0 two.1)
nearest key total near sums q is None none = none
nearest key total near sums q is (Some two) here = first_is_nearest key total near sums q is two.0 two.1 here

pub returns-then-near-factor-clause-some : goal.returns-then-near-factor-clause-some
returns-then-near-factor-clause-some c =
    let near = c.quotient-near.result in
    let q : IsQuotient c.args.key c.args.total near = record { low = c.quotient-near.ensures.low; high = c.quotient-near.ensures.high } in
    let two = two_at_least c.args.key c.factor-factor.ensures.key c.args.total near q c.requires.least in
    nearest c.args.key c.args.total near (rising near) q (rising_sorted c.args.key c.args.total near q two (rw c.factor-factor.ensures.value at c.if-near-factor.true))
    c.first_sum.result c.first_sum.ensures.some

pub returns-then-near-factor-clause-none : goal.returns-then-near-factor-clause-none
returns-then-near-factor-clause-none c = λ e a b.
    let near = c.quotient-near.result in
    let q : IsQuotient c.args.key c.args.total near = record { low = c.quotient-near.ensures.low; high = c.quotient-near.ensures.high } in
    let two = two_at_least c.args.key c.factor-factor.ensures.key c.args.total near q c.requires.least in
    none_at_all c.args.key c.args.total near (rising near) q (rising_sorted c.args.key c.args.total near q two (rw c.factor-factor.ensures.value at c.if-near-factor.true))
    (c.first_sum.ensures.none e) a b

pub returns-else-near-factor-clause-some : goal.returns-else-near-factor-clause-some
returns-else-near-factor-clause-some c =
    let near = c.quotient-near.result in
    let q : IsQuotient c.args.key c.args.total near = record { low = c.quotient-near.ensures.low; high = c.quotient-near.ensures.high } in
    let two = two_at_least c.args.key c.factor-factor.ensures.key c.args.total near q c.requires.least in
    nearest c.args.key c.args.total near (falling near) q (falling_sorted c.args.key c.args.total near q two (rw c.factor-factor.ensures.value at c.if-near-factor.false))
    c.first_sum-else-near-factor.result c.first_sum-else-near-factor.ensures.some

pub returns-else-near-factor-clause-none : goal.returns-else-near-factor-clause-none
returns-else-near-factor-clause-none c = λ e a b.
    let near = c.quotient-near.result in
    let q : IsQuotient c.args.key c.args.total near = record { low = c.quotient-near.ensures.low; high = c.quotient-near.ensures.high } in
    let two = two_at_least c.args.key c.factor-factor.ensures.key c.args.total near q c.requires.least in
    none_at_all c.args.key c.args.total near (falling near) q (falling_sorted c.args.key c.args.total near q two (rw c.factor-factor.ensures.value at c.if-near-factor.false))
    (c.first_sum-else-near-factor.ensures.none e) a b
