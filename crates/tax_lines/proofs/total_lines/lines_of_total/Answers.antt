use Rattle.std.proofs.Common.{◌≡◌, ◌≤◌, ℕ, zero, suc, arith, ap, ◌∙◌, ℤ, ◌∷◌, [], unsigned_abs}
use Rattle.std.proofs.lemmas.Int.{ints}
use Rattle.tax_lines.specs.Keys.{Key, IsKey}
use Rattle.tax_lines.specs.declared.lines.TaxLine.{TaxLine}
use Rattle.tax_lines.specs.Totals.{total}
use Rattle.tax_lines.specs.TotalLines.{line_of, IsOne, IsNearest}
use Rattle.tax_lines.proofs.Grossing.{gross_one}
use Rattle.tax_lines.proofs.Signing.{one_comes, two_come, sign_size}
use Rattle.tax_lines.proofs.total_lines.lines_of_total.Goals as goal

-- nothing and one cent are totals of one base
two_else : (key : Key) → IsKey key → (size : ℕ) → ((base : ℕ) → ¬ (IsOne key size base)) → 2 ≤ size
two_else key is zero none = absurd (none 0 (record { limit = omega arith; total_is = omega arith }))
two_else key is (suc zero) none = absurd (none 1 (record { limit = omega arith; total_is = gross_one key is }))
two_else key is (suc (suc n)) none = omega arith

-- the same of the lines that were made
record AreMade (key : Key) (t : ℤ) (first second : ℕ) (a b : TaxLine) : Type 0 where
  lines : IsNearest key (unsigned_abs t) (unsigned_abs a.base) (unsigned_abs b.base)
      × (a ≡ line_of key t (unsigned_abs a.base)) × (b ≡ line_of key t (unsigned_abs b.base))
  total_is : total (a ∷ b ∷ []) ≡ t

made : (key : Key) (t : ℤ) (first second : ℕ) (a b : TaxLine) → IsNearest key (unsigned_abs t) first second →
    a ≡ line_of key t first → b ≡ line_of key t second → AreMade key t first second a b
made key t first second a b is one other =
    let m : unsigned_abs a.base ≡ first = ap (λ (l : TaxLine). unsigned_abs l.base) one ∙ sign_size t first in
    let n : unsigned_abs b.base ≡ second = ap (λ (l : TaxLine). unsigned_abs l.base) other ∙ sign_size t second in
    record {
      lines = (rw (m, n) is, rw m one, rw n other);
      total_is = rw (one, other) (two_come key t first second is.two.total_is);
    }

one_total : (key : Key) (t : ℤ) (base : ℕ) (line : TaxLine) → IsOne key (unsigned_abs t) base → line ≡ line_of key t base →
    total (line ∷ []) ≡ t
one_total key t base line is e = ap (λ l. total (l ∷ [])) e ∙ one_comes key t base is.total_is

pub two_bases-requires-clause-least : goal.two_bases-requires-clause-least
two_bases-requires-clause-least c = two_else c.args.key c.factor-factor.ensures.key c.unsigned_abs-size.result (c.one_base.ensures.none c.in_default.is)

pub returns-in-Some-clause-total : goal.returns-in-Some-clause-total
returns-in-Some-clause-total c =
    let size : c.unsigned_abs-size.result ≡ unsigned_abs c.args.total = omega (arith, ints, c.get.ensures.value, c.unsigned_abs-size.ensures.value) in
    one_total c.args.key c.args.total c.in-Some.base c.line_of.result (rw size at c.in-Some.ensures.some) c.line_of.ensures

pub returns-in-Some-two_bases-clause-lines : goal.returns-in-Some-two_bases-clause-lines
returns-in-Some-two_bases-clause-lines c =
    let size : c.unsigned_abs-size.result ≡ unsigned_abs c.args.total = omega (arith, ints, c.get.ensures.value, c.unsigned_abs-size.ensures.value) in
    let are = made c.args.key c.args.total c.in-Some-two_bases.first c.in-Some-two_bases.second c.line_of-in-Some-two_bases.result
    c.line_of-in-Some-two_bases-2.result (rw size at c.in-Some-two_bases.ensures.some) c.line_of-in-Some-two_bases.ensures
    c.line_of-in-Some-two_bases-2.ensures in
    (rw size at c.one_base.ensures.none c.in_default.is, are.lines.0, are.lines.1, are.lines.2)

pub returns-in-Some-two_bases-clause-total : goal.returns-in-Some-two_bases-clause-total
returns-in-Some-two_bases-clause-total c =
    let size : c.unsigned_abs-size.result ≡ unsigned_abs c.args.total = omega (arith, ints, c.get.ensures.value, c.unsigned_abs-size.ensures.value) in
    let are = made c.args.key c.args.total c.in-Some-two_bases.first c.in-Some-two_bases.second c.line_of-in-Some-two_bases.result
    c.line_of-in-Some-two_bases-2.result (rw size at c.in-Some-two_bases.ensures.some) c.line_of-in-Some-two_bases.ensures
    c.line_of-in-Some-two_bases-2.ensures in
    are.total_is
