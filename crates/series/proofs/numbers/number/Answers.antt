use Rattle.std.proofs.Common.{◌≡◌, ℕ, List, [], ◌∷◌, arith, append_assoc, subst, sym}
use Rattle.std.specs.Prelude.{IsTrue, decimal}
use Rattle.series.specs.Numbers.{number_text, is_series, is_num_serie}
use Rattle.series.proofs.NumberLemmas.{is_number}
use Rattle.series.proofs.numbers.number.Goals as goal

pub invariant_of-result : goal.invariant_of-result
invariant_of-result c =
    let e : c.append-3.new.self ≡ number_text c.args.series.now c.args.n =
    rw (
      c.append-3.ensures,
      c.as_bytes.ensures.value,
      c.format.ensures.text,
      c.append-2.ensures,
      c.append.ensures,
      c.new-text.ensures,
      c.as_slice.ensures.value,
    )
    (append_assoc c.args.series.now (45 ∷ []) (decimal c.args.n)) in
    let name : IsTrue (is_series c.args.series.now) = rw c.as_slice.ensures.value at c.as_slice.ensures.name in
    subst (λ (t : List ℕ). IsTrue (is_num_serie t)) (sym e) (is_number c.args.series.now c.args.n name (omega arith))
