-- Lines with the sign of a total: what they come to.
use Rattle.std.proofs.Common.{◌≡◌, ℕ, zero, suc, [], ◌∷◌, ◌+◌, ◌*◌, ◌/◌, refl, arith, ℤ, pos, negsuc, ◌+ℤ◌, unsigned_abs}
use Rattle.std.proofs.lemmas.Int.{ints}
use Rattle.amounts.specs.Cents.{tax, with_sign_of}
use Rattle.tax_lines.specs.Classes.{class_surcharge}
use Rattle.tax_lines.specs.Keys.{Key}
use Rattle.tax_lines.specs.Totals.{line_tax, cuota, bases, total}
use Rattle.tax_lines.specs.TotalLines.{gross, line_of, rounded}

pub sign_size : (t : ℤ) (n : ℕ) → unsigned_abs (with_sign_of t n) ≡ n
sign_size (pos m) n = refl
sign_size (negsuc m) zero = refl
sign_size (negsuc m) (suc n) = refl

pub sign_of_size : (t : ℤ) → with_sign_of t (unsigned_abs t) ≡ t
sign_of_size (pos m) = refl
sign_of_size (negsuc m) = refl

sign_sum : (t : ℤ) (m n : ℕ) → with_sign_of t m +ℤ with_sign_of t n ≡ with_sign_of t (m + n)
sign_sum (pos k) m n = omega (arith, ints)
sign_sum (negsuc k) m n = omega (arith, ints)

-- the tax has the sign too
sign_tax : (t : ℤ) (base rate : ℕ) → tax (with_sign_of t base) rate ≡ with_sign_of t (rounded base rate)
sign_tax (pos k) base rate = refl
sign_tax (negsuc k) zero rate = let none : (2 * (0 * rate) + 10_000) / 20_000 ≡ 0 = omega arith in rw none refl
sign_tax (negsuc k) (suc base) rate = refl

line_comes : (key : Key) (t : ℤ) (base : ℕ) → with_sign_of t base +ℤ line_tax (line_of key t base) ≡ with_sign_of t (gross key base)
line_comes key t base =
    let r = sign_tax t base key.rate in
    let s = sign_tax t base (class_surcharge key.class) in
    let taxes : line_tax (line_of key t base) ≡ with_sign_of t (rounded base key.rate + rounded base (class_surcharge key.class)) =
    rw (r, s) (sign_sum t (rounded base key.rate) (rounded base (class_surcharge key.class))) in
    rw taxes (sign_sum t base (rounded base key.rate + rounded base (class_surcharge key.class)))

pub one_comes : (key : Key) (t : ℤ) (base : ℕ) → gross key base ≡ unsigned_abs t → total (line_of key t base ∷ []) ≡ t
unfolding bases cuota
one_comes key t base e =
    let comes = line_comes key t base in
    let is : with_sign_of t (gross key base) ≡ t = rw e (sign_of_size t) in
    omega (arith, ints, comes, is)

pub two_come : (key : Key) (t : ℤ) (a b : ℕ) → gross key a + gross key b ≡ unsigned_abs t →
    total (line_of key t a ∷ line_of key t b ∷ []) ≡ t
unfolding bases cuota
two_come key t a b e =
    let first = line_comes key t a in
    let second = line_comes key t b in
    let both = sign_sum t (gross key a) (gross key b) in
    let is : with_sign_of t (gross key a + gross key b) ≡ t = rw e (sign_of_size t) in
    omega (arith, ints, first, second, both, is)
