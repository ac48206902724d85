use Rattle.std.proofs.Common.{◌≡◌, ap, ◌∙◌, subst, sym, List, ℕ}
use Rattle.std.proofs.lemmas.Bool.{MatchBool-at_false}
use Rattle.std.specs.String.{string_bytes}
use Rattle.percent_encoding.specs.Percent.{percent_decode}
use Rattle.verify_link.specs.Writing.{encoded, AgreeButInCase}
use Rattle.verify_link.proofs.CapitalLemmas.{capitals_from}
use Rattle.verify_link.proofs.DecodingLemmas.{decoded}
use Rattle.verify_link.proofs.encoding.decode.Goals as goal

pub returns-else-agree_but_in_case : goal.returns-else-agree_but_in_case
returns-else-agree_but_in_case c = λ said ascii agree.
    let value = c.args.value.now in
    let bytes : c.append_to.new.out.items ≡ percent_decode value = rw (c.in_ok-append_to.ensures.ok, c.new-bytes.ensures.items)
    c.percent_decode.ensures.bytes in
    let again : string_bytes c.encode_onto.new.text ≡ encoded said =
    rw (c.in_ok-encode_onto.ensures, c.new-again.ensures.bytes, c.deref.ensures.value, bytes)
    (ap encoded (decoded said value ascii (capitals_from value (encoded said) agree))) in
    MatchBool-at_false _ _ c.if-agree_but_in_case.false c.agree_but_in_case.ensures
    (subst (λ (written : List ℕ). AgreeButInCase value written) (sym (c.as_bytes.ensures.value ∙ again)) agree)
