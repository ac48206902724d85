use Rattle.std.proofs.Common.{◌∙◌, Global, arith, string_bytes, sym}
use Rattle.verifactu.proofs.CommandLine.{counts_none, counts_pairs, counts_past}
use Rattle.verifactu.proofs.command_line.further_pairs.Goals as goal

pub returns-then-not-is_word-clause-count : goal.returns-then-not-is_word-clause-count
returns-then-not-is_word-clause-count c =
    counts_none (string_bytes {Z = Global}) c.args.words.now c.in-Some.pairs.now c.in-Some.name.now c.as_str.result.now
    c.in-Some.ensures.cases.0 c.requires c.as_str.ensures.value (sym c.is_word.ensures ∙ c.if-not-is_word.true)

pub returns-then-pairs-clause-count : goal.returns-then-pairs-clause-count
returns-then-pairs-clause-count c =
    counts_past (string_bytes {Z = Global}) c.args.words.now c.in-Some.pairs.now c.in-Some.name.now c.as_str.result.now
    c.in-Some.ensures.cases.0 c.requires c.as_str.ensures.value (sym c.is_word.ensures ∙ c.if-not-is_word.false) (omega arith)

pub returns-clause-count : goal.returns-clause-count
returns-clause-count c =
    counts_pairs (string_bytes {Z = Global}) c.args.words.now c.in-Some.pairs.now c.in-Some.name.now c.as_str.result.now
    c.in-Some.ensures.cases.0 c.requires c.as_str.ensures.value (sym c.is_word.ensures ∙ c.if-not-is_word.false) (omega arith)
