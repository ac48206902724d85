use Rattle.std.proofs.Common.{ℕ, ◌∙◌, refl, sym, subst}
use Rattle.amounts.specs.Text.{amount_text}
use Rattle.verify_link.specs.Reading.{IsFieldAt}
use Rattle.verify_link.proofs.FieldLemmas.{wrong_value, right_value, last_ends}
use Rattle.verify_link.proofs.reading.read_total.Goals as goal

pub returns-clause-err : goal.returns-clause-err
returns-clause-err c = (
  refl,
  wrong_value 3 c.args.at c.in_ok-bytes._end c.args.text.now c.in_ok-bytes.bytes.items c.in_ok-bytes.ensures.ok
      (λ other valid same. c.in-None.ensures.none valid.0 valid.1 (c.deref.ensures.value ∙ same ∙ valid.2)),
)

pub returns-in-Some-clause-ok : goal.returns-in-Some-clause-ok
returns-in-Some-clause-ok c =
    let text = c.args.text.now in
    let said = amount_text c.in-Some.total in
    subst (λ (e : ℕ). IsFieldAt 3 text c.args.at said e) (last_ends c.args.at c.in_ok-bytes._end text c.in_ok-bytes.bytes.items
    c.in_ok-bytes.ensures.ok c.requires)
    (right_value 3 c.args.at c.in_ok-bytes._end text c.in_ok-bytes.bytes.items said c.in_ok-bytes.ensures.ok
    (c.in-Some.total, c.in-Some.ensures.value.0, refl) (sym c.deref.ensures.value ∙ c.in-Some.ensures.value.1))
