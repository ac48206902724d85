use Rattle.std.proofs.Common.{◌≡◌, IsOk, All, take, flat_map}
use Rattle.link_check.specs.Pieces.{answers_in}
use Rattle.link_check.proofs.all.joined.Given as goal

abbrev pub invariant-loop-piece : goal.invariant-loop-piece
invariant-loop-piece l = record {
  each : All (λ p. IsOk p) (take l.piece-index l.pieces);
  all : l.answers.items ≡ flat_map answers_in (take l.piece-index l.pieces);
}
