use Rattle.std.proofs.Common.{◌≡◌, ℕ, List, IsTrue, Option, length, map, All}
use Rattle.chain_lock.specs.Known.{Known}
use Rattle.shop_core.specs.declared.items.Item.{Item}
use Rattle.till_calls.specs.Root.{Root}
use Rattle.till_calls.specs.Sound.{IsLater}
use Rattle.till_calls.specs.declared.clockless.Clockless.{Clockless as NoClock}
use Rattle.till_calls.specs.Shop.{shop_id, till_knows, till_number, till_shop}
use Rattle.dialogue_loop.specs.Speech.{HasAnswered, Moment, DialogueSoFar, moment_of}
use Rattle.dialogue_loop.proofs.speaking.speak.Given as goal

abbrev pub invariant-loop : goal.invariant-loop
invariant-loop g l = record {
  next : (goal.iterator-loop g).can_next l.iterator';
  finite : (goal.iterator-loop g).is_finite l.iterator';
  numbers : map till_number l.speech.held.items ≡ map till_number l.fn.speech.held.items;
  once : IsTrue g.S.Source.counts → g.S.Source.faults l.source ≡ g.S.Source.faults l.fn.source;
  own : All (λ t. till_shop t ≡ shop_id l.fn.shop) l.speech.held.items;
  time : IsLater g.C.Clock.coming l.fn.speech.clock l.speech.clock;
  said : (coming : ℕ → Option ℕ) (clock : Option (ℕ × ℕ)) (from : Moment) (olds : List (Known Item (Root NoClock))) → length olds ≡ 64 →
      HasAnswered l.fn.speech.listener →
      DialogueSoFar coming (g.C.Clock.coming l.fn.speech.clock) clock from (moment_of g.S.Source.left g.S.Source.faults g.K.Sink.taken
      g.K.Sink.faults l.fn.source l.fn.sink)
      l.fn.speech.listener l.fn.speech.lacked olds (map till_knows l.fn.speech.held.items) →
      DialogueSoFar coming (g.C.Clock.coming l.speech.clock) clock from (moment_of g.S.Source.left g.S.Source.faults g.K.Sink.taken
      g.K.Sink.faults l.source l.sink)
      l.speech.listener l.speech.lacked olds (map till_knows l.speech.held.items) × HasAnswered l.speech.listener;
}
