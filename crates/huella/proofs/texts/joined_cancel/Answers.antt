use Rattle.std.specs.Prelude.{option_copied}
use Rattle.huella.specs.Texts.{previous_digits}
use Rattle.huella.proofs.Fed.{fed_cancel}
use Rattle.huella.proofs.texts.joined_cancel.Goals as goal

pub returns : goal.returns
returns c =
    let a = c.args in
    rw (
      c.of.ensures,
      c.in_ok-add-4.ensures,
      c.in_ok-add_previous.ensures,
      c.in_ok-add-3.ensures,
      c.in_ok-add-2.ensures,
      c.in_ok-add.ensures,
      c.new-text.ensures.items,
    )
    (fed_cancel a.issuer.now a.num.now a.date.now (previous_digits (option_copied a.previous)) a.moment.now)
