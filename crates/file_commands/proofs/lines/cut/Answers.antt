use Rattle.std.proofs.Common.{◌≡◌, ◌<◌, ◌≤◌, ◌+◌, ◌*◌, ◌++◌, ◌∷◌, [], ◌∙◌, inl, inr, suc, List, ℕ, Bor, flat_map, length, append-nil, ap, subst, sym, arith}
use Rattle.std.proofs.lemmas.Bool.{cases_lt}
use Rattle.std.proofs.lemmas.Grind.{flat_map-append, div_ceil_times}
use Rattle.std.proofs.lemmas.List.{append_assoc, length-append}
use Rattle.std.proofs.lemmas.Nat.{mul-le}
use Rattle.file_commands.specs.Lines.{lines_of}
use Rattle.file_commands.proofs.lines.cut.Invariants.{SoFar}
use Rattle.file_commands.proofs.lines.cut.Goals as goal

abbrev all_lines : List (Bor (List ℕ)) → List (List ℕ)
all_lines pieces = flat_map (λ (p : Bor (List ℕ)). lines_of p.now) pieces

one_more : (n size left after all : ℕ) → n * suc size + left ≤ all → size + after < left → (n + 1) * suc size + after ≤ all
one_more n size left after all h lt = omega (arith, h, lt)

next : (pieces : List (Bor (List ℕ))) (piece : Bor (List ℕ)) (left after all : List ℕ) (size : ℕ) → SoFar pieces left all size →
    lines_of left ≡ lines_of piece.now ++ lines_of after → size + length after < length left →
    SoFar (pieces ++ piece ∷ []) after all size
next pieces piece left after all size so e lt = record {
  lines = ap (λ (ls : List (List ℕ)). ls ++ lines_of after) (flat_map-append (λ (p : Bor (List ℕ)). lines_of p.now) pieces (piece ∷ []))
      ∙ append_assoc (all_lines pieces) (all_lines (piece ∷ [])) (lines_of after)
      ∙ ap (λ (ls : List (List ℕ)). all_lines pieces ++ (ls ++ lines_of after)) (append-nil (lines_of piece.now))
      ∙ ap (λ (ls : List (List ℕ)). all_lines pieces ++ ls) (sym e)
      ∙ so.lines;
  few = rw (length-append pieces (piece ∷ [])) (one_more (length pieces) size (length left) (length after) (length all) so.few lt);
}

-- this many pieces of more than `size` bytes are fewer than `most`, and one more is left
fewer : (n size most all : ℕ) → 0 < most → n * suc size ≤ all → all ≤ size * most → n + 1 ≤ most
fewer n size most all some h e = elim (cases_lt n most) [
  | inl lt ↦ omega (arith, lt)
  | inr le ↦ absurd (let more = mul-le most (suc size) n (suc size) le (omega arith) in omega (arith, more, h, e, some))
]

pub loop-rest-preserved : goal.loop-rest-preserved
loop-rest-preserved c = rw c.in_ok-push.ensures.items
    (next c.loop-rest.pieces.items c.split_behind_line.result.0 c.loop-rest.rest.now c.split_behind_line.result.1.now
    c.args.bytes.now c.div_ceil-size.result c.loop-rest.invariant c.split_behind_line.ensures.lines
    (c.split_behind_line.ensures.shorter c.loop-rest-test.true))

pub returns-clause-few : goal.returns-clause-few
returns-clause-few c = rw c.in_ok-push-2.ensures.items (rw (length-append c.loop-rest.pieces.items (c.loop-rest.rest ∷ []))
    (fewer (length c.loop-rest.pieces.items) c.div_ceil-size.result c.args.most (length c.args.bytes.now) c.requires
    (let few = c.loop-rest.invariant.few in omega (arith, few)) (subst (λ (s : ℕ). length c.args.bytes.now ≤ s * c.args.most) (sym c.div_ceil-size.ensures)
    (div_ceil_times (length c.args.bytes.now) c.args.most c.requires).0)))
