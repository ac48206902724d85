use Rattle.std.proofs.Common.{◌≡◌, ◌≤◌, ◌+◌, ◌*◌, ◌++◌, suc, List, ℕ, Bor, flat_map, length}
use Rattle.file_commands.specs.Lines.{lines_of}
use Rattle.file_commands.proofs.lines.cut.Given as goal

pub record SoFar (pieces : List (Bor (List ℕ))) (rest bytes : List ℕ) (size : ℕ) : Type 0 where
  pub lines : flat_map (λ (p : Bor (List ℕ)). lines_of p.now) pieces ++ lines_of rest ≡ lines_of bytes
  -- each piece has more than `size` bytes
  pub few : length pieces * suc size + length rest ≤ length bytes

abbrev pub invariant-loop-rest : goal.invariant-loop-rest
invariant-loop-rest l = SoFar l.pieces.items l.rest l.bytes l.size

abbrev pub decreases-loop-rest : goal.decreases-loop-rest
decreases-loop-rest l = length l.rest
