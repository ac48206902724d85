use Rattle.std.proofs.Common.{◌≡◌, ◌∙◌, ap, sym, subst}
use Rattle.chain_lock.proofs.Keeps.{Ends, finishes}
use Rattle.chain_lock.proofs.close.take_out.Goals as goal

pub unreachable-requires : goal.unreachable-requires
unreachable-requires g c = let got = finishes _ _ _ _ _ _ _ _ _ _ c.close_with-closed.ensures.values.2 c.requires.rest.1
    c.requires.whole.0 c.requires.whole.1 c.take-slot.ensures.value in
    c.in_default.not-Some got.0 got.1

pub returns : goal.returns
returns g c = let got = finishes _ _ _ _ _ _ _ _ _ _ c.close_with-closed.ensures.values.2 c.requires.rest.1 c.requires.whole.0
    c.requires.whole.1 c.take-slot.ensures.value in
    let same : got.0 ≡ c.in-Some.value = cc (got.1, c.in-Some.is) in
    let ends = subst (λ y. Ends (g.V.Recorded.items c.args.board.shared.key.value.value) (g.V.Recorded.items y) c.args.place.me.0)
    same got.3 in record {
      root = ap g.V.Recorded.root (sym same) ∙ got.2;
      begins = ends.begins;
      fits = ends.fits;
      before = ends.before;
      since = ends.since;
    }
