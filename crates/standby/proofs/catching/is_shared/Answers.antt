use Rattle.std.proofs.Common.{◌≡◌, ℕ, List, subst, subst₂}
use Rattle.std.specs.Prelude.{MatchBool, slice_get}
use Rattle.record_fields.specs.declared.versions.Version.{Version}
use Rattle.standby.specs.Pieces.{IsPieceOf}
use Rattle.standby.proofs.CaughtUp.{shared}
use Rattle.standby.proofs.Starting.{if_ok}
use Rattle.standby.proofs.catching.is_shared.Goals as goal

pub returns : goal.returns
returns c = if_ok _ _ c.is_of.result c.is_of.ensures (λ is h.
    let s = c.args.state.now in
    let copy = c.args.copy.now in
    let piece = c.in-Some.piece in
    let found = rw c.in-Some.is at c.in_ok-piece.ensures.some in
    let own : IsPieceOf s.version s.issuer copy.entries piece =
    subst₂ (λ (v : Version) (n : List ℕ). IsPieceOf v n copy.entries piece) c.requires.same.1 c.requires.same.0 found.1 in
    subst (λ (i : ℕ). MatchBool is (slice_get copy.entries i ≡ slice_get s.entries i)
    (slice_get copy.entries i ≡ slice_get s.entries i → ⊥)) found.0
    (shared c.encodings_are_apart.ensures s.version s.issuer s.entries copy.entries piece is own h))
