use Rattle.std.proofs.Common.{subst, sym, ◌∙◌}
use Rattle.std.specs.Str.{IsUtf8}
use Rattle.export.proofs.Texts.{key_is_text}
use Rattle.export.proofs.values.key_value.Goals as goal

pub text_value-requires : goal.text_value-requires
text_value-requires c = subst IsUtf8 (sym (c.as_slice.ensures ∙ c.text.ensures)) (key_is_text c.args.key)
