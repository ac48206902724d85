use Rattle.std.proofs.Common.{ℕ, List, ◌∙◌, refl, sym, subst, IsTrue}
use Rattle.series.specs.Numbers.{is_num_serie}
use Rattle.verify_link.proofs.FieldLemmas.{wrong_value, right_value}
use Rattle.verify_link.proofs.reading.read_num.Goals as goal

pub returns-clause-err : goal.returns-clause-err
returns-clause-err c = (
  refl,
  wrong_value 1 c.args.at c.in_ok-bytes.end c.args.text.now c.in_ok-bytes.bytes.items c.in_ok-bytes.ensures.ok
      (λ other valid same. c.in-None.ensures.none (subst (λ (x : List ℕ). IsTrue (is_num_serie x))
      (sym (c.deref.ensures.value ∙ same)) valid)),
)

pub returns-in-Some-clause-ok : goal.returns-in-Some-clause-ok
returns-in-Some-clause-ok c =
    right_value 1 c.args.at c.in_ok-bytes.end c.args.text.now c.in_ok-bytes.bytes.items c.in-Some.num c.in_ok-bytes.ensures.ok
    c.in-Some.ensures.value.0 (sym c.deref.ensures.value ∙ c.in-Some.ensures.value.1)
