use Rattle.std.proofs.Common.{inl, inr, refl, ◌∙◌}
use Rattle.std.proofs.lemmas.Result.{err_from_is_err_and}
use Rattle.sender.proofs.Covering.{covers_on}
use Rattle.sender.proofs.Drains.{start_going, goes_on, is_over, stops}
use Rattle.sender.proofs.sending.Sender.drain_on.Goals as goal

pub loop-init : goal.loop-init
loop-init g c = record {
  next = tt;
  finite = tt;
  fixed = refl;
  covers = inl refl;
  going = start_going _ _ _ _;
  no_rest = g.met.Z.Sleeper.unrested c.args.sleeper.now;
}

pub loop-preserved : goal.loop-preserved
loop-preserved g c = record {
  next = tt;
  finite = tt;
  fixed = c.drain_turn.ensures.fixed ∙ c.loop.invariant.fixed;
  covers = inr (covers_on _ _ _ _ _ _ _ c.loop.invariant.covers c.drain_turn.ensures.covers c.drain_turn.ensures.made.turn);
  going = goes_on _ _ _ _ _ _ _ _ _ _ c.drain_turn.result c.in_ok-drain_turn.field-0 c.loop.invariant.going
      c.drain_turn.ensures.made c.in_ok-drain_turn.was c.if-branch.false;
  no_rest = g.met.Z.Sleeper.no_rest_goes_on _ _ _ c.loop.invariant.no_rest c.drain_turn.ensures.no_rest;
}

pub returns-then-branch-clause-drained : goal.returns-then-branch-clause-drained
returns-then-branch-clause-drained g c = is_over _ _ _ _ _ _ _ _ _ _ c.drain_turn.result c.in_ok-drain_turn.field-0
    c.loop.invariant.going c.drain_turn.ensures.made c.in_ok-drain_turn.was c.if-branch.true

pub returns-in_err-drain_turn-clause-drained : goal.returns-in_err-drain_turn-clause-drained
returns-in_err-drain_turn-clause-drained g c =
    let p = err_from_is_err_and c.from_residual.result c.from_residual.ensures.1 in
    rw (p.1, p.2) (stops _ _ _ _ _ _ _ _ _ _ c.drain_turn.result c.in_err-drain_turn.field-0.0 c.loop.invariant.going
    c.drain_turn.ensures.made c.in_err-drain_turn.was)

pub returns-then-branch-clause-covers : goal.returns-then-branch-clause-covers
returns-then-branch-clause-covers g c = covers_on _ _ _ _ _ _ _ c.loop.invariant.covers c.drain_turn.ensures.covers
    c.drain_turn.ensures.made.turn

pub returns-then-branch-clause-no_rest : goal.returns-then-branch-clause-no_rest
returns-then-branch-clause-no_rest g c =
    g.met.Z.Sleeper.no_rest_goes_on _ _ _ c.loop.invariant.no_rest c.drain_turn.ensures.no_rest

pub returns-in_err-drain_turn-clause-no_rest : goal.returns-in_err-drain_turn-clause-no_rest
returns-in_err-drain_turn-clause-no_rest g c =
    g.met.Z.Sleeper.no_rest_goes_on _ _ _ c.loop.invariant.no_rest c.drain_turn.ensures.no_rest
