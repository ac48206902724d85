use Rattle.std.proofs.Common.{◌∙◌, ap, map, subst, sym, List, ℕ, arith}
use Rattle.std.specs.Char.{to_ascii_uppercase}
use Rattle.hex.specs.Hex.{IsBytes, encode_upper}
use Rattle.huella.proofs.Capitals.{capitals}
use Rattle.huella.proofs.texts.huella_text.Goals as goal

pub returns : goal.returns
returns c =
    let bytes : IsBytes c.args.huella.now = λ i. let f = c.fits-huella i in omega arith in
    c.make_ascii_uppercase.ensures.after ∙ ap (map to_ascii_uppercase) c.in-Ok.ensures.written
    ∙ capitals c.as_slice.result.now (subst (λ (xs : List ℕ). IsBytes xs) (sym c.as_slice.ensures) bytes) ∙
    ap encode_upper c.as_slice.ensures
