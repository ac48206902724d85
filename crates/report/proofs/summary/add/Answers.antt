use Rattle.std.specs.Int.{w64}
use Rattle.std.proofs.Common.{◌≡◌, ◌≤◌, ◌+◌, ℕ, ℤ, ◌+ℤ◌, unsigned_abs, arith}
use Rattle.std.proofs.lemmas.Int.{ints}
use mir.Val.{to_z, of_z}
use Rattle.report.proofs.summary.add.Goals as goal

-- a sum that fits, from its parts' bits
summed : (a b : ℤ) → unsigned_abs a ≤ 120_000_000_000_000_000 → unsigned_abs b ≤ 120_000_000_000 →
    to_z w64 (of_z w64 (to_z w64 (of_z w64 a) +ℤ to_z w64 (of_z w64 b))) ≡ a +ℤ b
summed a b small less = omega (arith, ints)

passed : (a : ℤ) → unsigned_abs a ≤ 120_000_000_000_000_000 → to_z w64 (of_z w64 a) ≡ a
passed a small = omega (arith, ints)

abs_sum : (a b : ℤ) (n : ℕ) → unsigned_abs b ≤ n → unsigned_abs (a +ℤ b) ≤ unsigned_abs a + n
abs_sum a b n less = omega (arith, ints)

pub returns-in-Alta : goal.returns-in-Alta
returns-in-Alta c =
    let bases = summed c.args.sums.bases c.bases_of.result c.requires.bases c.bases_of.ensures.bound in
    let cuotas = summed c.args.sums.cuotas c.cuota_of.result c.requires.cuotas c.cuota_of.ensures.bound in
    record {
      sums = rw (c.in-Alta.is, bases, cuotas, c.bases_of.ensures.value, c.cuota_of.ensures.value);
      counts = omega arith;
      bases = rw bases (abs_sum c.args.sums.bases c.bases_of.result _ c.bases_of.ensures.bound);
      cuotas = rw cuotas (abs_sum c.args.sums.cuotas c.cuota_of.result _ c.cuota_of.ensures.bound);
    }

pub returns-in-Anulacion : goal.returns-in-Anulacion
returns-in-Anulacion c =
    let bases = passed c.args.sums.bases c.requires.bases in
    let cuotas = passed c.args.sums.cuotas c.requires.cuotas in
    record {
      sums = rw (c.in-Anulacion.is, bases, cuotas);
      counts = omega arith;
      bases = rw bases (omega arith);
      cuotas = rw cuotas (omega arith);
    }
