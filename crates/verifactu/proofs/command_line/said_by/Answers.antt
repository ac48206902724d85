use Rattle.std.proofs.Common.{arith, string_bytes, Global, String, List, map, sym, subst}
use Rattle.verifactu.specs.CommandLine.{IsSaid}
use Rattle.verifactu.proofs.CommandLine.{none_said, three_words, four_words}
use Rattle.verifactu.proofs.command_line.said_by.Goals as goal
use Rattle.verifactu.proofs.command_line.said_by.Goals.{in_default-via-then-words-lt1}
use Rattle.verifactu.proofs.command_line.said_by.Goals.{in_default-via-else-words-lt1+else-words-lt2+else-words-lt3+else-words-lt4+else-words-lt5}

pub returns-in_default : goal.returns-in_default
returns-in_default c =
    let none = none_said (string_bytes {Z = Global}) c.args.words.now in
    elim c.in_default.branch [
      | in_default-via-then-words-lt1 w ↦ none (λ e. absurd (grind arith)) (λ e. absurd (grind arith)) (λ e. absurd (grind arith))
          (λ e. absurd (grind arith)) (grind arith)
      | in_default-via-else-words-lt1+else-words-lt2+else-words-lt3+else-words-lt4+else-words-lt5 w ↦
          none (λ e. absurd (grind arith)) (λ e. absurd (grind arith)) (λ e. absurd (grind arith)) (λ e. absurd (grind arith))
          (grind arith)
    ]

pub returns-in-len3 : goal.returns-in-len3
returns-in-len3 c =
    let is = three_words c.args.words.now c.name-item-then-words-lt4.result c.file-item.result c.word-item-then-words-lt4.result
    c.in-len3.len_at_least c.in-len3.len_below
    c.name-item-then-words-lt4.is c.file-item.is c.word-item-then-words-lt4.is in
    let asked = rw (c.as_str-in-len3.ensures.value, c.as_str-in-len3-2.ensures.value, c.as_str-in-len3-3.ensures.value) at
    c.three_of.ensures in
    subst (λ (ws : List (String Global)). IsSaid (map (string_bytes {Z = Global}) ws) c.three_of.result) (sym is) asked

pub returns-in-len4 : goal.returns-in-len4
returns-in-len4 c =
    let is = four_words c.args.words.now c.name-item-then-words-lt5.result c.file-item-then-words-lt5.result c.num-item.result
    c.host-item.result c.in-len4.len_at_least c.in-len4.len_below
    c.name-item-then-words-lt5.is c.file-item-then-words-lt5.is c.num-item.is c.host-item.is in
    let asked = rw (
      c.as_str-in-len4.ensures.value,
      c.as_str-in-len4-2.ensures.value,
      c.as_str-in-len4-3.ensures.value,
      c.as_str-in-len4-4.ensures.value,
    ) at c.four_of.ensures in
    subst (λ (ws : List (String Global)). IsSaid (map (string_bytes {Z = Global}) ws) c.four_of.result) (sym is) asked
