use Rattle.std.proofs.Common.{sym, ◌∙◌, string_bytes, Global}
use Rattle.verifactu.proofs.Apart.{files_less, files_more, files_twice}
use Rattle.verifactu.proofs.pairs.+files_apart.Goals as goal

pub returns-then-names : goal.returns-then-names
returns-then-names t c = (
  λ wrong. absurd cc,
  λ own. absurd (files_twice (string_bytes {Z = Global}) c.args.words.now c.in-Some.others.now c.in-Some-split_first.rest.now
      c.in-Some.file.now c.in-Some-split_first._nif.now c.in-Some.ensures.cases.0 c.in-Some-split_first.ensures.cases.0
      c.as_str.result.now c.as_str.ensures.value (sym c.names.ensures ∙ c.if-names.true) own),
)

pub returns : goal.returns
returns t c = (
  λ yes. files_more (string_bytes {Z = Global}) c.args.words.now c.in-Some.others.now c.in-Some-split_first.rest.now
      c.in-Some.file.now c.in-Some-split_first._nif.now c.in-Some.ensures.cases.0 c.in-Some-split_first.ensures.cases.0
      c.as_str.result.now c.as_str.ensures.value (sym c.names.ensures ∙ c.if-names.false) (c.files_apart.ensures.0 yes),
  λ own. c.files_apart.ensures.1 (files_less (string_bytes {Z = Global}) c.args.words.now c.in-Some.others.now
      c.in-Some-split_first.rest.now c.in-Some.file.now c.in-Some-split_first._nif.now c.in-Some.ensures.cases.0
      c.in-Some-split_first.ensures.cases.0 own),
)
