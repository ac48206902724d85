use Rattle.sender.proofs.Keeping.{turn_keeps}
use Rattle.sender.proofs.Careful.{turn_careful}
use Rattle.sender.proofs.Replying.{turn_keeps_reply}
use Rattle.sender.proofs.Telling.{turn_tells}
use Rattle.sender.proofs.Causes.{turn_later, turn_link}
use Rattle.sender.proofs.Adding.{turn_adds, turn_notes, turn_if_torn}
use Rattle.sender.proofs.Saying.{turn_says as says_of}
use Rattle.sender.proofs.sending.Sender.turn.Goals as goal

pub returns-clause-agreement : goal.returns-clause-agreement
returns-clause-agreement g c = record {
  keeps = turn_keeps c.what_is_known.ensures _ _ _ _ _ _ _ _ _ c.counted_turn.ensures.turned g.met.G.Agency.keeps_and_tells;
  torn = λ keeps session gains.
      turn_if_torn _ _ _ _ _ _ _ _ _ c.counted_turn.ensures.turned
      (turn_keeps c.what_is_known.ensures _ _ _ _ _ _ _ _ _ c.counted_turn.ensures.turned g.met.G.Agency.keeps_and_tells keeps
      session gains);
}

pub returns-clause-no_blind_repeat : goal.returns-clause-no_blind_repeat
returns-clause-no_blind_repeat g c = record {
  careful = λ tells past.
      turn_careful c.legal_is_chained.ensures.linked past _ _ _ _ _ _ _ _ _ c.counted_turn.ensures.turned tells;
  kept = λ tells past.
      turn_keeps_reply c.the_last_named_reply_is_kept.ensures.more past _ _ _ _ _ _ _ _ _ c.counted_turn.ensures.turned tells;
}

pub returns-clause-link_fault : goal.returns-clause-link_fault
returns-clause-link_fault g c = record {
  later = turn_later _ _ _ _ _ _ _ _ _ c.counted_turn.ensures.turned;
  rose = turn_link _ _ _ _ _ _ _ _ _ c.counted_turn.ensures.turned;
}

pub returns-clause-above : goal.returns-clause-above
returns-clause-above g c = record {
  told = turn_tells _ _ _ _ _ _ _ _ _ c.counted_turn.ensures.turned;
  says = λ tells. says_of _ _ _ (turn_tells _ _ _ _ _ _ _ _ _ c.counted_turn.ensures.turned tells);
  adds = turn_adds _ _ _ _ _ _ _ _ _ c.counted_turn.ensures.turned;
  notes = turn_notes _ _ _ _ _ _ _ _ _ c.counted_turn.ensures.turned;
  fixed = c.counted_turn.ensures.fixed;
}
