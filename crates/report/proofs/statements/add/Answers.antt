use Rattle.std.specs.Int.{w64, w128}
use Rattle.std.proofs.Common.{arith, rules, ◌<◌, ◌≤◌, ◌^◌, ◌+◌, ◌*◌, ◌≡◌, ◌+ℤ◌, ℤ, ℕ, unsigned_abs}
use Rattle.std.proofs.lemmas.Int.{ints}
use mir.Val.{to_z, of_z, SFits}
use Rattle.report.proofs.statements.add.Goals as goal

-- a sum of many and one more, as their bits have it
added : (t r s : ℤ) (n : ℕ) → unsigned_abs t ≤ 9_223_372_036_854_775_808 * n → n + 1 < 2 ^ 64 → SFits w64 r →
    s ≡ to_z w128 (of_z w128 t) +ℤ to_z w64 (of_z w64 r) → to_z w128 (of_z w128 s) ≡ t +ℤ r
added t r s n most few small is = omega (arith, ints)

within : (t r : ℤ) (n : ℕ) → unsigned_abs t ≤ 9_223_372_036_854_775_808 * n → SFits w64 r →
    unsigned_abs (t +ℤ r) ≤ 9_223_372_036_854_775_808 * (n + 1)
within t r n most small = omega (arith, ints)

pub returns : goal.returns
returns c =
    let t = c.args.totals in
    let row = c.args.row.now in
    let some = c.requires.totals in
    let few = c.requires.count in
    let base_fits : SFits w64 c.args.row.now.base = search rules in
    let tax_fits : SFits w64 c.args.row.now.tax = search rules in
    let surcharge_fits : SFits w64 c.args.row.now.surcharge = search rules in
    let base = added t.base row.base c.plus.result c.args.count some.base few base_fits c.plus.ensures in
    let tax = added t.tax row.tax c.plus-2.result c.args.count some.tax few tax_fits c.plus-2.ensures in
    let surcharge = added t.surcharge row.surcharge c.plus-3.result c.args.count some.surcharge few surcharge_fits c.plus-3.ensures in
    record {
      value = rw (c.from.ensures, base, tax, surcharge);
      bound = record {
        lines = omega arith;
        base = rw base (within t.base row.base c.args.count some.base base_fits);
        tax = rw tax (within t.tax row.tax c.args.count some.tax tax_fits);
        surcharge = rw surcharge (within t.surcharge row.surcharge c.args.count some.surcharge surcharge_fits);
      };
    }
