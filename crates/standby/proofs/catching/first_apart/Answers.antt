use Rattle.std.proofs.Common.{◌≡◌, ℕ, add-one, take, sym, subst, arith}
use Rattle.std.specs.Prelude.{slice_get}
use Rattle.standby.proofs.CaughtUp.{front_of_length, take_next}
use Rattle.standby.proofs.catching.first_apart.Goals as goal

pub loop-index-preserved : goal.loop-index-preserved
loop-index-preserved c =
    let i = c.loop-index.index in
    let copy = c.args.copy.now.entries in
    let entries = c.args.state.now.entries in
    let here : slice_get copy i ≡ slice_get entries i = rw c.if-not-same.false at c.in_ok-same.ensures in
    record {
      end = c.loop-index.invariant.end;
      few = c.loop-index.invariant.few;
      same = subst (λ (n : ℕ). take n copy ≡ take n entries) (sym (add-one i))
          (take_next copy entries i c.loop-index.invariant.same here);
    }

pub returns-then-not-same-clause-some : goal.returns-then-not-same-clause-some
returns-then-not-same-clause-some c =
    let lt = c.loop-index-test.true in
    let end = c.loop-index.invariant.end in
    record {
      within = omega (arith, lt, end);
      same = c.loop-index.invariant.same;
      apart = rw c.if-not-same.true at c.in_ok-same.ensures;
    }

pub returns-clause-none : goal.returns-clause-none
returns-clause-none c =
    let end = c.loop-index.invariant.end in
    front_of_length c.args.copy.now.entries c.args.state.now.entries c.loop-index.index (omega (arith, end))
    c.loop-index.invariant.same
