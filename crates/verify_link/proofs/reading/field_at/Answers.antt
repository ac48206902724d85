use Rattle.std.proofs.Common.{refl}
use Rattle.verify_link.proofs.FieldLemmas.{is_named, is_unnamed, value_is, bad_field, other_value, whole_field}
use Rattle.verify_link.proofs.reading.field_at.Goals as goal

pub returns-then-not-starts_with-clause-err : goal.returns-then-not-starts_with-clause-err
returns-then-not-starts_with-clause-err c = (
  refl,
  is_unnamed c.args.i c.args.at c.args.text.now c.name_of-name.result.now c.starts_with.result c.name_of-name.ensures
      c.starts_with.ensures.value c.if-not-starts_with.true,
)

pub returns-in-Some-clause-err : goal.returns-in-Some-clause-err
returns-in-Some-clause-err c =
    let text = c.args.text.now in
    let name = c.name_of-name.result.now in
    let named = is_named c.args.i c.args.at text name c.starts_with.result c.name_of-name.ensures c.starts_with.ensures.value
    c.if-not-starts_with.false in
    bad_field c.args.i c.args.at c.in-Some.k text name c.value_in-value.result.now c.name_of-name.ensures named
    (value_is c.args.i c.args.at text name c.value_in-value.result.now c.name_of-name.ensures c.value_in-value.ensures)
    c.in-Some.ensures.first

pub returns-in-None-clause-err : goal.returns-in-None-clause-err
returns-in-None-clause-err c =
    let text = c.args.text.now in
    let name = c.name_of-name.result.now in
    let named = is_named c.args.i c.args.at text name c.starts_with.result c.name_of-name.ensures c.starts_with.ensures.value
    c.if-not-starts_with.false in (
      refl,
      other_value c.args.i c.args.at text c.value_in-value.result.now named
          (value_is c.args.i c.args.at text name c.value_in-value.result.now c.name_of-name.ensures c.value_in-value.ensures)
          c.in_default.ensures.none (rw c.in-None.is at c.in_ok-bytes.ensures),
    )

pub returns-in-Some-2-clause-ok : goal.returns-in-Some-2-clause-ok
returns-in-Some-2-clause-ok c =
    let text = c.args.text.now in
    let name = c.name_of-name.result.now in
    let named = is_named c.args.i c.args.at text name c.starts_with.result c.name_of-name.ensures c.starts_with.ensures.value
    c.if-not-starts_with.false in
    whole_field c.args.i c.args.at text name c.value_in-value.result.now c.in-Some-2.bytes.items c.name_of-name.ensures named
    (value_is c.args.i c.args.at text name c.value_in-value.result.now c.name_of-name.ensures c.value_in-value.ensures)
    c.in_default.ensures.none (rw c.in-Some-2.is at c.in_ok-bytes.ensures) c.requires.within
