use Rattle.std.proofs.Common.{◌∙◌, Global, codes, string_bytes, sym}
use Rattle.verifactu.proofs.CommandLine.{bytes_eq_is, is_many, not_many, other_name}
use Rattle.verifactu.proofs.command_line.many_of.Goals as goal

pub returns-then-not-is_word : goal.returns-then-not-is_word
returns-then-not-is_word c =
    not_many (string_bytes {Z = Global}) c.args.words.now c.in-Some.pairs.now c.in-Some.name.now c.in-Some.ensures.cases.0 c.requires
    (λ issuers named are. other_name c.as_str.result.now (string_bytes c.in-Some.name.now) c.as_str.ensures.value
    (sym c.is_word.ensures ∙ c.if-not-is_word.true) named)

pub returns-in-None : goal.returns-in-None
returns-in-None c =
    not_many (string_bytes {Z = Global}) c.args.words.now c.in-Some.pairs.now c.in-Some.name.now c.in-Some.ensures.cases.0 c.requires
    (λ issuers named are. c.in-None.ensures issuers are)

pub returns-in-Some-read_pairs : goal.returns-in-Some-read_pairs
returns-in-Some-read_pairs c =
    is_many (string_bytes {Z = Global}) c.args.words.now c.in-Some.pairs.now c.in-Some.name.now c.in-Some-read_pairs.issuers
    c.in-Some.ensures.cases.0 (sym c.as_str.ensures.value ∙ bytes_eq_is c.as_str.result.now (codes "many")
    (sym c.is_word.ensures ∙ c.if-not-is_word.false)) c.in-Some-read_pairs.ensures
