use Rattle.std.proofs.Common.{◌≡◌, ◌∙◌, ◌++◌, ◌∷◌, ◌&&◌, [], ℕ, List, Bool, true, cond, length, not, is_some, ap, refl, sym, arith}
use Rattle.std.specs.Option.{option_map_or}
use Rattle.issuers.specs.Reading.{names, own_line, own_lines, part_of, section_of}
use Rattle.issuers.proofs.Sections.{at_end, ending, glue, glue_more, own_next, part_is_no_longer}
use Rattle.issuers.proofs.reading.part_bytes.Goals as goal

pub loop-line-init : goal.loop-line-init
loop-line-init c = record {
  before = [];
  own = refl;
  part = rw (c.new-part.ensures.items, c.of-lines.ensures) refl;
}

pub loop-line-preserved : goal.loop-line-preserved
loop-line-preserved c =
    let inv = c.loop-line.invariant in
    let nif = c.args.nif.now in
    let line = c.in-Some.line.now in
    let old = c.loop-line.part.items in
    let begun = c.loop-line.begun in
    let rest = own_lines nif (inv.before ++ line ∷ []) c.next.new.self in
    let kept = own_line nif inv.before line in
    record {
      before = inv.before ++ line ∷ [];
      own = c.in_ok-own.ensures.next ∙ ap (λ (b : Bool). option_map_or (names nif) (section_of line) b) inv.own ∙ sym (own_next nif inv.before line);
      part =
          ap (λ (p : List ℕ). p ++ glue true rest) (c.in_ok-own.ensures.added ∙
          ap (λ (p : List ℕ). p ++ cond (not (is_some (section_of line)) && c.loop-line.own) line []) c.in_ok-end_line.ensures ∙
          ap (λ (b : Bool). (old ++ ending begun) ++ cond (not (is_some (section_of line)) && b) line []) inv.own) ∙
          sym (glue_more begun old kept rest) ∙
          ap (λ (ls : List (List ℕ)). old ++ glue begun (own_lines nif inv.before ls)) (sym c.in-Some.ensures) ∙ inv.part;
    }

pub returns-clause-part : goal.returns-clause-part
returns-clause-part c = at_end c.loop-line.part.items c.loop-line.begun c.args.nif.now c.loop-line.invariant.before c.loop-line.lines
    (part_of c.args.nif.now c.args.bytes.now) c.in_default.ensures c.loop-line.invariant.part

pub returns-clause-few : goal.returns-clause-few
returns-clause-few c =
    let low = part_is_no_longer c.args.nif.now c.args.bytes.now in
    let is : c.loop-line.part.items ≡ part_of c.args.nif.now c.args.bytes.now = returns-clause-part c in
    omega (arith, low, ap length is)
