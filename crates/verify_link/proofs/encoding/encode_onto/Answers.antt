-- The crate's encoding with the set of escaped bytes is the one of the definitions.
use Rattle.std.proofs.Common.{◌++◌, ap, ◌∙◌}
use Rattle.std.proofs.Common.{arith}
use Rattle.std.proofs.lemmas.List.Elements.{All-from_get_or}
use Rattle.std.specs.String.{string_bytes}
use Rattle.percent_encoding.proofs.PercentLemmas.{IsByte}
use Rattle.verify_link.proofs.EncodingLemmas.{percent_encode-encoded}
use Rattle.verify_link.proofs.encoding.encode_onto.Goals as goal

pub returns : goal.returns
returns c =
    let small = All-from_get_or IsByte c.args.value.now 0 (λ i within. omega (arith, c.type_inv.value i)) in
    c.in_ok-append_to.ensures.ok ∙ ap (λ x. string_bytes c.args.text.now ++ x) (c.percent_encode.ensures.text ∙
    percent_encode-encoded c.args.value.now small)
