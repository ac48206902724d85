use Rattle.std.proofs.Common.{◌≡◌, ◌≤◌, ℕ, List, IsTrue, Option}
use Rattle.dialogue.specs.Protocol.{nothing_said}
use Rattle.dialogue_loop.specs.Speech.{HasHeard, IsFirst}
use Rattle.dialogue_loop.proofs.Dialogues.{Passes}
use Rattle.dialogue_loop.proofs.listener.Listener.first_action.Given as goal

abbrev pub invariant-loop : goal.invariant-loop
invariant-loop g l = record {
  next : (goal.iterator-loop g).can_next l.iterator';
  finite : (goal.iterator-loop g).is_finite l.iterator';
  passes : (left : Option (List ℕ)) → HasHeard left (g.S.Source.left l.fn.source) l.fn.self nothing_said → IsFirst l.fn.self →
      Passes left (g.S.Source.left l.source) l.self;
  later : g.S.Source.faults l.fn.source ≤ g.S.Source.faults l.source;
  once : IsTrue g.S.Source.counts → g.S.Source.faults l.source ≡ g.S.Source.faults l.fn.source;
}
