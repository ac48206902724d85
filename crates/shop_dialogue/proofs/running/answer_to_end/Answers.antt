use Rattle.shop_dialogue.proofs.running.answer_to_end.Goals as goal

pub returns-clause-spoken : goal.returns-clause-spoken
returns-clause-spoken g c = record {
  spoken = λ left faults first later cause. c.answer_lines-talk.ensures.spoken left faults first later cause;
  once = λ counts faults first. c.answer_lines-talk.ensures.once counts faults first;
}
