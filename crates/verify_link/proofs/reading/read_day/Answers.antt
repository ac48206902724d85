use Rattle.std.proofs.Common.{◌∙◌, refl, sym}
use Rattle.stamps.specs.Text.{date_text_of}
use Rattle.verify_link.proofs.FieldLemmas.{wrong_value, right_value}
use Rattle.verify_link.proofs.reading.read_day.Goals as goal

pub returns-clause-err : goal.returns-clause-err
returns-clause-err c = (
  refl,
  wrong_value 2 c.args.at c.in_ok-bytes.end c.args.text.now c.in_ok-bytes.bytes.items c.in_ok-bytes.ensures.ok
      (λ other valid same. c.in-None.ensures.none valid.0 valid.1 (c.deref.ensures.value ∙ same ∙ valid.2)),
)

pub returns-in-Some-clause-ok : goal.returns-in-Some-clause-ok
returns-in-Some-clause-ok c =
    right_value 2 c.args.at c.in_ok-bytes.end c.args.text.now c.in_ok-bytes.bytes.items (date_text_of c.in-Some.day)
    c.in_ok-bytes.ensures.ok
    (c.in-Some.day, c.in-Some.ensures.value.0, refl) (sym c.deref.ensures.value ∙ c.in-Some.ensures.value.1)
