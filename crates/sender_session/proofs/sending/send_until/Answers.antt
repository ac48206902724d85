use Rattle.std.proofs.Common.{◌∙◌, Result, refl, subst, sym}
use Rattle.sender.specs.declared.answers.DrainFault.{DrainFault}
use Rattle.sender_session.specs.Session.{IsUndelivered}
use Rattle.sender.specs.Agreeing.{AreNotesOrTorn}
use Rattle.sender_session.proofs.Closings.{steps_after, steps_none}
use Rattle.sender_session.proofs.Turns.{growth_of, sends_after, sends_none}
use Rattle.sender_session.proofs.sending.send_until.Goals as goal

pub loop-init : goal.loop-init
loop-init g c = record {
  next = tt;
  finite = tt;
  fixed = refl;
  sends = sends_none _ _ _ _;
  steps = steps_none _ _ _;
}

pub loop-preserved : goal.loop-preserved
loop-preserved g c = record {
  next = tt;
  finite = tt;
  fixed = c.one_turn.ensures.fixed ∙ c.loop.invariant.fixed;
  sends = sends_after c.in_default.is c.loop.invariant.sends c.one_turn.ensures.sends;
  steps = steps_after _ _ _ _ _ _ _ c.in_default.is (growth_of AreNotesOrTorn _ _ c.loop.invariant.sends.shop.adds)
      (growth_of AreNotesOrTorn _ _ c.one_turn.ensures.sends.shop.adds) c.loop.invariant.steps c.one_turn.ensures.steps;
}

pub returns-in-Err-clause-sends : goal.returns-in-Err-clause-sends
returns-in-Err-clause-sends g c = sends_after c.in-Err.is c.loop.invariant.sends c.one_turn.ensures.sends

pub returns-in-Err-clause-steps : goal.returns-in-Err-clause-steps
returns-in-Err-clause-steps g c = steps_after _ _ _ _ _ _ _ c.in-Err.is (growth_of AreNotesOrTorn _ _ c.loop.invariant.sends.shop.adds)
    (growth_of AreNotesOrTorn _ _ c.one_turn.ensures.sends.shop.adds) c.loop.invariant.steps c.one_turn.ensures.steps

pub returns-in-Err-clause-never : goal.returns-in-Err-clause-never
returns-in-Err-clause-never g c = λ is.
    c.one_turn.ensures.never (subst (λ (r : Result (Unit {0}) DrainFault). IsUndelivered r) (sym c.in-Err.is) is)
