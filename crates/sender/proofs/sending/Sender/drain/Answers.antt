use Rattle.sender.proofs.Bound.{drained_delivered, drained_bounded}
use Rattle.sender.proofs.Replying.{drained_keeps_reply}
use Rattle.sender.proofs.DrainTelling.{drained_tells}
use Rattle.sender.proofs.Rises.{undelivered_rises}
use Rattle.sender.proofs.Drained.{drained_keeps, drained_without, drained_torn, drained_careful}
use Rattle.sender.proofs.Adding.{drained_adds, drained_if_torn}
use Rattle.sender.proofs.Saying.{drain_says}
use Rattle.sender.proofs.sending.Sender.drain.Goals as goal

pub returns-clause-agreement : goal.returns-clause-agreement
returns-clause-agreement g c =
    let d = c.drain_on.ensures.drained in
    let known = c.what_is_known.ensures in
    let tells = g.met.G.Agency.keeps_and_tells in
    let answer = c.drain_on.result in
    record {
      keeps = drained_keeps known _ _ _ _ _ _ answer d tells;
      no_contradiction = drained_without known _ _ _ _ _ _ answer d tells;
      torn = drained_torn known _ _ _ _ _ _ answer d tells;
      if_torn = drained_if_torn known _ _ _ _ _ _ answer d tells;
    }

pub returns-clause-no_blind_repeat : goal.returns-clause-no_blind_repeat
returns-clause-no_blind_repeat g c = record {
  careful = drained_careful c.legal_is_chained.ensures.linked _ _ _ _ _ _ c.drain_on.result c.drain_on.ensures.drained;
  kept = drained_keeps_reply c.the_last_named_reply_is_kept.ensures.more _ _ _ _ _ _ c.drain_on.result c.drain_on.ensures.drained;
}

pub returns-clause-messages : goal.returns-clause-messages
returns-clause-messages g c =
    let told = drained_tells _ _ _ _ _ _ c.drain_on.result c.drain_on.ensures.drained in
    record { told = told; says = λ tells. drain_says _ _ _ _ _ (told tells) }

pub returns-clause-ends : goal.returns-clause-ends
returns-clause-ends g c =
    let d = c.drain_on.ensures.drained in
    let answer = c.drain_on.result in
    record {
      delivered = drained_delivered _ _ _ _ _ _ answer d;
      undelivered = undelivered_rises _ _ _ _ _ _ answer d;
      bound = drained_bounded c.what_is_known.ensures _ _ _ _ _ _ answer d g.met.G.Agency.keeps_and_tells;
    }

pub returns-clause-adds : goal.returns-clause-adds
returns-clause-adds g c = drained_adds _ _ _ _ _ _ c.drain_on.result c.drain_on.ensures.drained
