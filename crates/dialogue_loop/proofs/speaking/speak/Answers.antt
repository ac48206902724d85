use Rattle.std.proofs.Common.{◌∙◌, refl, ap, List, ℕ}
use Rattle.std.specs.Prelude.{reverse}
use Rattle.dialogue_loop.proofs.Readings.{later_both, later_unread}
use Rattle.dialogue_loop.proofs.speaking.speak.Goals as goal

pub loop-init : goal.loop-init
loop-init g c = record {
  next = tt;
  finite = tt;
  numbers = refl;
  once = λ counts. refl;
  own = c.requires.own;
  said = λ coming clock from olds size later said. (said, later);
  time = later_unread g.C.Clock.coming c.args.speech.now.clock c.args.speech.now.clock refl;
}

pub one_line-requires-clause-numbers : goal.one_line-requires-clause-numbers
one_line-requires-clause-numbers g c = ap (λ (l : List ℕ). reverse l) c.loop.invariant.numbers ∙ c.requires.numbers

pub returns-in-Some-one_line-clause-numbers : goal.returns-in-Some-one_line-clause-numbers
returns-in-Some-one_line-clause-numbers g c = c.one_line.ensures.numbers ∙ c.loop.invariant.numbers

pub returns-in-Some-one_line-clause-spoken : goal.returns-in-Some-one_line-clause-spoken
returns-in-Some-one_line-clause-spoken g c = λ coming clock from olds size later said.
    let before = c.loop.invariant.said coming clock from olds size later said in
    c.in-Some-one_line.ensures.goes coming clock from olds size before.1 before.0

pub loop-preserved : goal.loop-preserved
loop-preserved g c = record {
  next = tt;
  finite = tt;
  numbers = c.one_line.ensures.numbers ∙ c.loop.invariant.numbers;
  once = λ counts. c.in-None-one_line.ensures.once counts ∙ c.loop.invariant.once counts;
  own = c.one_line.ensures.own;
  time = later_both g.C.Clock.coming c.args.speech.now.clock c.loop.speech.clock c.one_line.new.speech.clock c.loop.invariant.time
      c.one_line.ensures.time;
  said = λ coming clock from olds size later said.
      let before = c.loop.invariant.said coming clock from olds size later said in
      c.in-None-one_line.ensures.goes coming clock from olds size
      before.1 before.0;
}

pub returns-in-Some-one_line-clause-time : goal.returns-in-Some-one_line-clause-time
returns-in-Some-one_line-clause-time g c =
    later_both g.C.Clock.coming c.args.speech.now.clock c.loop.speech.clock c.one_line.new.speech.clock c.loop.invariant.time
    c.one_line.ensures.time
