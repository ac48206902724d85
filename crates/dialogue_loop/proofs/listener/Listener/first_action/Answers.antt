use Rattle.std.proofs.Common.{[], ◌∙◌, arith, refl, rules}
use Rattle.dialogue_loop.proofs.Dialogues.{came_first, came_none, passed_over}
use Rattle.dialogue_loop.specs.Speech.{passed}
use Rattle.dialogue_loop.proofs.listener.Listener.first_action.Goals as goal

pub loop-init : goal.loop-init
loop-init g c = record {
  next = tt;
  finite = tt;
  passes = λ left heard first. record { lines = []; before = []; answers = []; heard = heard; first = first };
  later = search rules;
  once = λ counts. refl;
}

pub returns-in-Err-clause-first : goal.returns-in-Err-clause-first
returns-in-Err-clause-first g c = λ left heard first.
    let p = c.loop.invariant.passes left heard first in
    came_none left (g.S.Source.left c.loop.source) (g.S.Source.left c.next_action.new.source) c.loop.self c.in-Err.end p
    (c.in-Err.ensures.line_read left (passed p.lines p.before p.answers) p.heard)

pub returns-then-not-is_first-clause-first : goal.returns-then-not-is_first-clause-first
returns-then-not-is_first-clause-first g c = λ left heard first.
    let p = c.loop.invariant.passes left heard first in
    came_first left (g.S.Source.left c.loop.source) (g.S.Source.left c.next_action.new.source) c.loop.self c.next_action.new.self c.in-Ok.action p
    (c.in-Ok.ensures.line_read left (passed p.lines p.before p.answers) p.heard) (λ e. search rules)

pub loop-preserved : goal.loop-preserved
loop-preserved g c = record {
  next = tt;
  finite = tt;
  passes = λ left heard first.
      let p = c.loop.invariant.passes left heard first in
      passed_over left (g.S.Source.left c.next_action.new.source) c.loop.self c.next_action.new.self p.lines p.before p.answers c.in-Ok.action
      (c.in-Ok.ensures.line_read left (passed p.lines p.before p.answers) p.heard) (search rules);
  later = (let a = c.loop.invariant.later in let b = c.next_action.ensures.later in omega (arith, a, b));
  once = λ counts. c.in-Ok.ensures.once counts ∙ c.loop.invariant.once counts;
}
